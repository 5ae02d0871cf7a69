-- What a configuration would do to a bucket, and charge, by the plain office.
use Rattle.std.specs.Prelude.{◌≡◌, ℕ, true, List, [], ◌∷◌, Some, None, Result}
use Rattle.office_base.specs.Maps.{at_name}
use Rattle.rules_core.specs.Configurations.{Configuration}
use Rattle.due_core.specs.declared.action.Action.{Action}
use Rattle.office_types.specs.declared.command.Command.TheVariants.{SetRules}
use Rattle.office_types.specs.declared.reply.Reply.{Reply}
use Rattle.office_types.specs.declared.refusal.Refusal.{Refusal}
use Rattle.plain_office.specs.Office.{Office, Account, book_of}
use Rattle.plain_office.specs.Changes.{effect}
use Rattle.plain_office.specs.Charges.{tariff_for}
use Rattle.plain_office.specs.Once.{step_with}
use Rattle.plain_office.specs.Step.{is_accepted, shown_action, marker_made}
use Rattle.plain_office.specs.Sweep.{IsSwept}
use Rattle.forecast.specs.Lines.{book_lines}
use Rattle.forecast.specs.declared.lines.ForecastLine.{ForecastLine}

-- what is proposed: the bucket gets the configuration at the first moment, and is swept at the second
pub record Proposal : Type 0 where
  pub bucket : List ℕ
  pub rules : Configuration
  pub from : ℕ
  pub until : ℕ

-- the office in which the configuration is set, and the answer (S3 User Guide, "Setting an S3 Lifecycle
-- configuration on a bucket")
abbrev pub proposed : Proposal → Office → Office × Result Reply Refusal
proposed asked office = step_with asked.from None (SetRules asked.bucket asked.rules) office

-- the replies to the acts of a sweep that begins with this account, in order
abbrev pub replies_of : List Action → Account → List Reply
replies_of [] account = []
replies_of (action ∷ actions) account =
    shown_action action (marker_made action.kind account.bucket) account.bucket
    ∷ replies_of actions (effect action account)

-- what is forecast: the replies to the acts, the bucket's records and books after them, and the lines of each month
pub record Outlook : Type 0 where
  pub replies : List Reply
  pub end : Account
  pub lines : ℕ → List ForecastLine

-- the forecast: the configuration is set, and each action that has come by the second moment is done at the moment at
-- which it stands. Each month is seen at the second moment and charged by its tariff (S3 User Guide, "Managing the
-- lifecycle of objects"; own: a closed month keeps the tariff of its closing, any other has the tariff in force in it)
pub record IsForecast (asked : Proposal) (office : Office) (outlook : Outlook) : Type 0 where
  pub accepted : is_accepted (proposed asked office).1 ≡ true
  pub account : Account
  pub there : at_name asked.bucket (proposed asked office).0.accounts ≡ Some account
  pub actions : List Action
  pub swept : IsSwept asked.until actions account outlook.end
  pub replies : outlook.replies ≡ replies_of actions account
  pub lines : (month : ℕ)
      → outlook.lines month ≡ book_lines (tariff_for month office) month asked.until (book_of outlook.end.books)
