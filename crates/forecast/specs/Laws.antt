-- What holds of forecasts.
use Rattle.std.specs.Prelude.{◌≡◌, ℕ, List, ◌∷◌, Option, Some}
use Rattle.std.specs.List.{AllByRecursion}
use Rattle.office_types.specs.declared.command.Command.TheVariants.{SetRules}
use Rattle.office_types.specs.declared.command.Entry.{Entry}
use Rattle.plain_office.specs.Office.{Office, Account}
use Rattle.plain_office.specs.Run.{run_from}
use Rattle.office_laws.specs.Commands.{OnlyActs}
use Rattle.office_machine.specs.Lateness.{SweepEndsIn}
use Rattle.forecast.specs.Forecasts.{Proposal, Outlook, IsForecast}

-- the same replies, the same records and books, and the same lines of each month
pub record IsSameOutlook (one other : Outlook) : Type 0 where
  pub replies : one.replies ≡ other.replies
  pub end : one.end ≡ other.end
  pub lines : (month : ℕ) → one.lines month ≡ other.lines month

-- the entry that sets what was proposed, with a token or without
abbrev pub setting : Proposal → Option (List ℕ) → Entry
setting asked token = record { moment = asked.from; token = token; command = SetRules asked.bucket asked.rules }

-- what was proposed was set in the office before, and from then on only acts were done to the bucket, by the second
-- moment
pub record IsLeftToActs (asked : Proposal) (before after : Office) : Type 0 where
  pub token : Option (List ℕ)
  pub later : List Entry
  pub runs : run_from (Some before) (setting asked token ∷ later) ≡ Some after
  pub acts : AllByRecursion (OnlyActs asked.bucket asked.until) later

-- if the bucket is then swept at the second moment, it has the records and the books of the forecast
abbrev pub ActsChangeNoForecast : Type 0
ActsChangeNoForecast = (asked : Proposal) (before after : Office) (outlook : Outlook) (end : Account)
    → IsForecast asked before outlook → IsLeftToActs asked before after
    → SweepEndsIn asked.bucket asked.until after end → end ≡ outlook.end
