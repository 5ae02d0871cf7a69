-- The office in memory with the replies that it keeps.
use Rattle.std.specs.Prelude.{◌≡◌, ◌⊎◌, ◌+◌, ◌≤◌, length, None, Result, Err}
use Rattle.kept_replies.specs.Queue.{ReplyQueue, plain_replies}
use Rattle.plain_office.specs.Office.{Office}
use Rattle.plain_office.specs.Once.{most_kept}
use Rattle.office_types.specs.declared.reply.Reply.{Reply}
use Rattle.office_types.specs.declared.refusal.Refusal.{Refusal}
use Rattle.office_types.specs.declared.refusal.Refusal.TheVariants.{NoMemory}
use Rattle.office_machine.specs.Standing.{Records, StandsForOffice}

-- what contracts see of it: the records, and the kept replies
pub record OfficeView : Type 0 where
  pub records : Records
  pub kept : ReplyQueue

-- it stands for the plain office: its records do, and it keeps the same replies
pub record StandsFor (view : OfficeView) (office : Office) : Type 0 where
  pub records : StandsForOffice view.records office
  pub kept : plain_replies view.kept.queue ≡ office.kept

-- there is a plain office that it stands for. Between two calls no token waits for its reply. Apart from those of a
-- snapshot, no more replies were kept than commands accepted.
pub record IsAnOffice (view : OfficeView) : Type 0 where
  pub office : Office
  pub stands : StandsFor view office
  pub free : view.kept.held ≡ None
  pub few : view.kept.dropped + length view.kept.queue ≤ view.records.accepted + most_kept

-- the answer is the expected one, and the office in memory stands for the office expected; or memory ran out, and it
-- stands for the one before
abbrev pub DoesOnce : Office × Result Reply Refusal → Office → OfficeView → Result Reply Refusal → Type 0
DoesOnce expected before after result =
    ((result ≡ expected.1) × StandsFor after expected.0) ⊎ ((result ≡ Err NoMemory) × StandsFor after before)
