-- What a keeper of bills needs: a connection that shows the table, and the book that its rows mean.
use Rattle.std.specs.Prelude.{◌≡◌, ℕ, Bool, true, false, ◌&&◌, List, [], Option, Some, None, IsSome, IsTrue}
use Rattle.std.specs.Prelude.{Result, Ok, Err, option_map, if◌then◌else◌}
use Rattle.std.specs.Coded.{Coded-set, Π_prop, ×_prop}
use Rattle.sqlite_schema.specs.declared.schema.Schema.{Schema}
use Rattle.sqlite_schema.specs.contracts.schema.Schema.{the_row}
use Rattle.sqlite.specs.Order.{Row}
use Rattle.sqlite.specs.State.{State}
use Rattle.sqlite.specs.declared.error.Error.{Error}
use Rattle.bill_book.specs.declared.bill.Bill.{Bill}
use Rattle.bill_book.specs.Books.{Book, IsSameBook, AddsMonth}
use Rattle.bill_rows.specs.Rows.{bills_schema}
use Rattle.bill_rows.specs.Books.{book_of}
use Rattle.bill_rows.specs.WellMade.{IsWellMade, IsWellMade-prop}
use Rattle.bill_keeper.specs.Steps.{IsOurs}

-- a database that has no table yet
abbrev pub no_schema : Schema
no_schema = record { tables = []; indexes = []; views = [] }

-- as long as the disk returned what was written and the connection is open, its schema is only the table of bills, and
-- its rows are well made
abbrev pub HasTable : State → Type 0
HasTable s = IsTrue s.is_clean → IsTrue s.is_open → IsOurs s × IsWellMade (s.now.trees 0)

pub HasTable-prop : (s : State) → IsProp (HasTable s)
HasTable-prop s =
    Π_prop (λ _. Π_prop (λ _.
    ×_prop (Coded-set the_row.coded s.now.schema bills_schema) (IsWellMade-prop (s.now.trees 0))))

-- as long as the disk returned what was written and the connection is open, the table of bills has no rows
abbrev pub HasNoRows : State → Type 0
HasNoRows s = IsTrue s.is_clean → IsTrue s.is_open → s.now.trees 0 ≡ []

-- the rows, as long as the disk returned what was written and the connection is open; else none
abbrev pub told_rows : State → Option (List Row)
told_rows s = if s.is_clean && s.is_open then Some (s.now.trees 0) else None

-- the book that these rows mean
abbrev pub told_book : State → Option Book
told_book s = option_map book_of (told_rows s)

-- what posting a month does to the book, by whether it was posted; nothing if it was refused
abbrev pub Leaves : ℕ → List Bill → Book → Book → Result Bool Error → Type 0
Leaves month bills old new (Ok true) = AddsMonth month bills old new
Leaves month bills old new (Ok false) = IsSome (old month) × IsSameBook old new
Leaves month bills old new (Err _) = IsSameBook old new
