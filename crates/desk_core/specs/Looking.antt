-- What is read of an office as of a number that its clock told before.
use Rattle.std.specs.Prelude.{◌≡◌, ◌⊎◌, ℕ, Bool, List, Some, Result, Err}
use Rattle.plain_office.specs.Answers.{answer}
use Rattle.plain_office.specs.Office.{Office}
use Rattle.plain_office.specs.Run.{run}
use Rattle.office_types.specs.declared.command.Entry.{Entry}
use Rattle.office_types.specs.declared.command.Query.{Query}
use Rattle.office_types.specs.declared.reply.Reply.{Reply}
use Rattle.office_types.specs.declared.refusal.Refusal.{Refusal}
use Rattle.office_types.specs.declared.refusal.Refusal.TheVariants.{NoMemory}
use Rattle.desk_core.specs.Answers.{Call}
use Rattle.desk_core.specs.Calls.{moment_after}
use Rattle.desk_core.specs.Serving.{Opened, LegalOn}

-- this office's reply to a query, as of the later of the number and its last moment; or memory is wanting
abbrev pub IsReplyOf : ℕ → Query → Office → Result Reply Refusal → Type 0
IsReplyOf told query plain reply =
    (reply ≡ answer (moment_after told plain.last) query plain) ⊎ (reply ≡ Err NoMemory)

-- the reply is that of the plain office after this history
pub record IsRead (told : ℕ) (query : Query) (history : List Entry) (reply : Result Reply Refusal) : Type 0 where
  pub plain : Office
  pub is_run : run history ≡ Some plain
  pub answered : IsReplyOf told query plain reply

-- it is of a history to which these calls lead
abbrev pub IsReadAfter : Bool → Opened → List Call → ℕ → Query → Result Reply Refusal → Type 0
IsReadAfter honest opened calls told query reply =
    (history : List Entry) × LegalOn honest opened calls history
    × IsRead told query history reply
