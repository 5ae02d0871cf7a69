-- What contracts see of a forecast in memory, and what it still has to return.
use Rattle.std.specs.Prelude.{◌≡◌, ℕ, ◌+◌, ◌≤◌, ◌<◌, true, List, [], ◌∷◌, length, Option, Some, None, Result, Ok, Err}
use Rattle.office_base.specs.Maps.{at_name, at_number}
use Rattle.office_base.specs.declared.failed.NoMemory.{NoMemory}
use Rattle.due_core.specs.declared.action.Action.{Action}
use Rattle.office_types.specs.declared.reply.Reply.{Reply}
use Rattle.office_types.specs.declared.refusal.Refusal.{Refusal}
use Rattle.plain_office.specs.Office.{Office, Account, book_of}
use Rattle.plain_office.specs.Charges.{tariff_for}
use Rattle.plain_office.specs.Run.{is_not_before}
use Rattle.plain_office.specs.Step.{is_accepted}
use Rattle.plain_office.specs.Sweep.{IsSwept}
use Rattle.bucket_account.specs.Standing.{most_commands}
use Rattle.office_machine.specs.Once.{OfficeView, StandsFor}
use Rattle.forecast.specs.Lines.{book_lines}
use Rattle.forecast.specs.Forecasts.{Proposal, Outlook, IsForecast, replies_of}

-- the office as it would be, the bucket, the month in which the configuration is set, and the moment of the sweep
pub record ForecastView : Type 0 where
  pub office : OfficeView
  pub bucket : List ℕ
  pub first : ℕ
  pub until : ℕ

-- what is still to be returned: the replies of the rest of the sweep, and then the lines; from the first month on no
-- month is closed
pub record Foretells (view : ForecastView) (outlook : Outlook) : Type 0 where
  pub office : Office
  pub stands : StandsFor view.office office
  pub later : is_not_before office.last view.until ≡ true
  pub open_months : (month : ℕ) → view.first ≤ month → at_number month office.closed ≡ None
  pub account : Account
  pub there : at_name view.bucket office.accounts ≡ Some account
  pub actions : List Action
  pub swept : IsSwept view.until actions account outlook.end
  pub replies : outlook.replies ≡ replies_of actions account
  pub lines : (month : ℕ)
      → outlook.lines month ≡ book_lines (tariff_for month office) month view.until (book_of outlook.end.books)

-- the forecast is not finished, and the office may accept all acts that are left
pub record IsUnderWay (view : ForecastView) : Type 0 where
  pub outlook : Outlook
  pub foretells : Foretells view outlook
  pub room : view.office.records.accepted + length outlook.replies < most_commands

-- what is proposed has a forecast, and all of it is still to be returned
abbrev pub Begins : Proposal → Office → ForecastView → Type 0
Begins asked office view = (outlook : Outlook) × IsForecast asked office outlook × Foretells view outlook

-- the answer is the next of the replies, or None if none is left; or memory ran out, and all is still to be returned
abbrev pub TellsNext : Outlook → ForecastView → Result (Option Reply) NoMemory → Type 0
TellsNext outlook after (Ok None) = (outlook.replies ≡ []) × Foretells after outlook
TellsNext outlook after (Ok (Some reply)) =
    (rest : List Reply) × (outlook.replies ≡ reply ∷ rest) × Foretells after (record outlook { replies = rest })
TellsNext outlook after (Err wanting) = Foretells after outlook

-- no reply is left to be returned
abbrev pub IsDone : ForecastView → Type 0
IsDone view = (outlook : Outlook) → Foretells view outlook → outlook.replies ≡ []

-- a command was accepted, and the office in memory stands for the office after it
abbrev pub IsSet : Office × Result Reply Refusal → OfficeView → Type 0
IsSet done after = (is_accepted done.1 ≡ true) × StandsFor after done.0
