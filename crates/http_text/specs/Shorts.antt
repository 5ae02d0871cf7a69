-- Answers by the length of their text.
use Rattle.std.specs.Prelude.{◌≤◌, length, Result, Ok, Err}
use Rattle.office_types.specs.declared.reply.Reply.{Reply}
use Rattle.office_types.specs.declared.reply.Reply.TheVariants.{RulesShown, StackShown, UploadShown, MetersShown}
use Rattle.office_types.specs.declared.reply.Reply.TheVariants.{TariffShown, Report}
use Rattle.office_types.specs.declared.refusal.Refusal.{Refusal}

-- replies to commands and bounded replies to queries: a bucket, the due action, and meters of at most six classes (all
-- there are)
abbrev pub IsShortReply : Reply → Type 0
IsShortReply (RulesShown rules) = ⊥
IsShortReply (StackShown key stack) = ⊥
IsShortReply (UploadShown number upload) = ⊥
IsShortReply (MetersShown bucket month classes) = length classes ≤ 6
IsShortReply (TariffShown tariffs) = ⊥
IsShortReply (Report lines) = ⊥
IsShortReply other = Unit {0}

-- its text fits in a room of fixed size (own)
abbrev pub IsShort : Result Reply Refusal → Type 0
IsShort (Ok reply) = IsShortReply reply
IsShort (Err refusal) = Unit {0}

-- its body is written from its parts, without memory; a configuration and a report are first printed as texts
abbrev pub IsInPartsReply : Reply → Type 0
IsInPartsReply (RulesShown rules) = ⊥
IsInPartsReply (Report lines) = ⊥
IsInPartsReply other = Unit {0}

-- the same of an answer; every refusal is written from its parts
abbrev pub IsInParts : Result Reply Refusal → Type 0
IsInParts (Ok reply) = IsInPartsReply reply
IsInParts (Err refusal) = Unit {0}
