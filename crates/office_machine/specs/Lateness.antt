-- What a command leaves of the office before it: the later sweeps of its bucket, the other buckets, the closed months.
use Rattle.std.specs.Prelude.{◌≡◌, ◌↔◌, ℕ, ◌≤◌, List, [], Some, IsSome}
use Rattle.office_base.specs.Maps.{at_name, at_number}
use Rattle.tariff.specs.Prices.{Prices}
use Rattle.due_core.specs.declared.action.Action.{Action}
use Rattle.plain_office.specs.Office.{Office, Account}
use Rattle.plain_office.specs.Answers.{answer}
use Rattle.plain_office.specs.Sweep.{IsSwept}
use Rattle.office_types.specs.declared.command.Command.{Command}
use Rattle.office_types.specs.declared.command.Command.TheVariants.{Act}
use Rattle.plain_office.specs.Orderly.{IsOrderly}
use Rattle.office_types.specs.declared.command.Query.{Query}
use Rattle.office_types.specs.declared.command.Query.TheVariants as query
use Rattle.office_laws.specs.Commands.{IsElsewhere}
use Rattle.office_laws.specs.ClosedMonths.{IsClosedMonth}

-- ---- lateness

-- the bucket is there, and its sweep at the moment ends in these records and books (S3 User Guide, "Managing the
-- lifecycle of objects")
pub record SweepEndsIn (name : List ℕ) (u : ℕ) (office : Office) (end : Account) : Type 0 where
  pub account : Account
  pub there : at_name name office.accounts ≡ Some account
  pub actions : List Action
  pub swept : IsSwept u actions account end

-- each sweep of the bucket from the moment on ends as it would have ended before (own: when rules are run does not
-- matter)
abbrev pub LeavesLaterSweeps : List ℕ → ℕ → Office → Office → Type 0
LeavesLaterSweeps name t before after =
    (u : ℕ) (end : Account) → t ≤ u → (SweepEndsIn name u after end) ↔ (SweepEndsIn name u before end)

-- the bucket is there, and its sweep at the moment does nothing (S3 User Guide, "Managing the lifecycle of objects")
pub record HasEmptySweep (name : List ℕ) (t : ℕ) (office : Office) : Type 0 where
  pub account : Account
  pub there : at_name name office.accounts ≡ Some account
  pub swept : IsSwept t [] account account

-- ---- what else stays

-- each bucket that the command does not name has the records and books that it had before, or is still not there (own)
abbrev pub LeavesOthers : Command → Office → Office → Type 0
LeavesOthers asked before after =
    (name : List ℕ) → IsElsewhere name asked → at_name name after.accounts ≡ at_name name before.accounts

-- the query asks for the use or the charges of a month that a Close closed, and its bucket, if it names one, is there;
-- u and v are both from the month's end on
abbrev pub AsksClosedMonth : ℕ → ℕ → Query → Office → Type 0
AsksClosedMonth u v (query.Meters name month) office =
    IsClosedMonth month u v office × IsSome (at_name name office.accounts)
AsksClosedMonth u v (query.Report month) office = IsClosedMonth month u v office
AsksClosedMonth u v other office = ⊥

-- a closed month keeps its prices, and each query on it has the same answer at u before and at v after the command
-- (own)
pub record KeepsClosedMonths (before after : Office) : Type 0 where
  pub closed : (month : ℕ) (tariff : Prices)
      → at_number month before.closed ≡ Some tariff → at_number month after.closed ≡ Some tariff
  pub answers : (asked : Query) (u v : ℕ) → AsksClosedMonth u v asked before
      → answer v asked after ≡ answer u asked before

-- ---- together

-- what a command at t leaves of the office before it: the office is orderly again; if the command is an Act, later
-- sweeps of its bucket end as before; the other buckets and the closed months stay
pub record Leaves (t : ℕ) (asked : Command) (before after : Office) : Type 0 where
  pub orderly : IsOrderly after
  pub late : (name : List ℕ) → asked ≡ Act name → LeavesLaterSweeps name t before after
  pub elsewhere : LeavesOthers asked before after
  pub closed : KeepsClosedMonths before after
