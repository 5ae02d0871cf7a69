-- The office in memory after a history, and the stays of each of its buckets.
use Rattle.std.specs.Prelude.{◌≡◌, ℕ, List, [], map, Option, Some, None, IfSome}
use Rattle.std.specs.Map.{set_value}
use Rattle.std.specs.BTreeMap.{is_at}
use Rattle.office_base.specs.Maps.{bytes_cmp, at_name, with_name}
use Rattle.office_types.specs.declared.command.Command.{Command}
use Rattle.office_types.specs.declared.command.Command.TheVariants as command
use Rattle.office_types.specs.declared.command.Entry.{Entry}
use Rattle.office_laws.specs.Commands.{bucket_of}
use Rattle.plain_office.specs.Office.{Booked}
use Rattle.bucket_account.specs.Counting.{AccountRecord}
use Rattle.office_machine.specs.Once.{OfficeView}
use Rattle.desk_core.specs.Offices.{StandsAfter}
use Rattle.stay_explain.specs.Plans.{Plan, plan_of, stays_by, BeginsFree}
use Rattle.stay_explain.specs.Table.{stays_of}

-- the stays of each bucket, under its name
abbrev pub Tables : Type 0
Tables = List (List ℕ × List Booked)

-- what contracts see of a ledger
pub record LedgerRecord : Type 0 where
  pub office : OfficeView
  pub tables : Tables

-- the office stands for the one after the history, and the tables are the stays of its buckets
pub record IsLedgerOf (history : List Entry) (ledger : LedgerRecord) : Type 0 where
  pub office : StandsAfter history ledger.office
  pub tables : ledger.tables ≡ map stays_of office.plain.accounts

-- ---- what an entry books

-- what a command plans in a bucket; nothing if the bucket is not there
abbrev pub plan_at : ℕ → Command → Option AccountRecord → Option Plan
plan_at t asked None = None
plan_at t asked (Some account) = plan_of t asked account.bucket

-- what a command plans in the bucket of this name; nothing if there is no name
abbrev pub plan_in : ℕ → Command → Option (List ℕ) → List (List ℕ × AccountRecord) → Option Plan
plan_in t asked None accounts = None
plan_in t asked (Some name) accounts = plan_at t asked (at_name name accounts)

-- what a command plans in the bucket that it names
abbrev pub planned : ℕ → Command → List (List ℕ × AccountRecord) → Option Plan
planned t asked accounts = plan_in t asked (bucket_of asked) accounts

-- the tables after the plan was booked on the stays of the bucket of this name, if it has a table
abbrev pub table_by : Plan → Option (List Booked) → List ℕ → Tables → Tables
table_by plan None name tables = tables
table_by plan (Some stays) name tables = set_value (is_at (bytes_cmp name)) tables (stays_by plan stays)

-- the plan is booked in the bucket of this name; if there is no plan or no name, nothing is booked
abbrev pub tables_by : Option (List ℕ) → Option Plan → Tables → Tables
tables_by None plan tables = tables
tables_by (Some name) None tables = tables
tables_by (Some name) (Some plan) tables = table_by plan (at_name name tables) name tables

-- a bucket that is made has no stays yet; any other command books its plan in its bucket
abbrev pub tables_after : Command → Option Plan → Tables → Tables
tables_after (command.CreateBucket name) plan tables = with_name name [] tables
tables_after other plan tables = tables_by (bucket_of other) plan tables

-- what the plan begins in the bucket of this name has no open stay there once its ends are booked
abbrev pub IsFreeIn : Option (List ℕ) → Option Plan → Tables → Type 0
IsFreeIn None plan tables = Unit {0}
IsFreeIn (Some name) None tables = Unit {0}
IsFreeIn (Some name) (Some plan) tables = IfSome (at_name name tables) (λ stays. BeginsFree plan stays)

-- what the plan begins has no open stay
abbrev pub IsBookable : Command → Option Plan → Tables → Type 0
IsBookable (command.CreateBucket name) plan tables = Unit {0}
IsBookable other plan tables = IsFreeIn (bucket_of other) plan tables
