-- What the statements do to a connection that holds the table of bills.
use Rattle.std.specs.Prelude.{◌≡◌, ℕ, Bool, List, [], filter, Result, Ok, Err, IfOk, OnOk, IsTrue}
use Rattle.std.specs.Global.{Vec}
use Rattle.sqlite.specs.Order.{Row}
use Rattle.sqlite.specs.declared.error.Error.{Error}
use Rattle.sqlite.specs.State.{State, HasCleanDisk, KeepsCommit}
use Rattle.bill_book.specs.declared.bill.Bill.{Bill}
use Rattle.bill_rows.specs.Rows.{bills_schema, in_month, IsMonth}
use Rattle.bill_rows.specs.Puts.{PutsMonth}

-- The schema of the connection is only the table of bills.
abbrev pub IsOurs : State → Type 0
IsOurs s = s.now.schema ≡ bills_schema

-- a step within a transaction commits nothing; if it is done, it makes this of the rows of the table
pub record Works {T : Type 0} (old new : State) (r : Result T Error) (rows : T → List Row → List Row → Type 0) : Type 0
  where
    pub kept : KeepsCommit old new
    pub stays : OnOk r (IsTrue new.in_transaction)
    pub done : IsOurs old → IfOk r (λ x. IsOurs new × rows x (old.now.trees 0) (new.now.trees 0))

-- it does so as long as the disk returned what was written
abbrev pub WorksBy : {T : Type 0} → State → State → Result T Error → (T → List Row → List Row → Type 0) → Type 0
WorksBy old new r rows = HasCleanDisk new → IsTrue old.in_transaction → Works old new r rows

-- the month is put in if it has no row; a month that has its header stays
abbrev pub PostsMonth : List ℕ → List ℕ → ℕ → List Bill → Bool → List Row → List Row → Type 0
PostsMonth month total count bills now before after =
    PutsMonth month total count bills now before after × (IsTrue now → filter (in_month month) before ≡ [])

-- what posting a month makes of the rows, by its answer; nothing if it failed
abbrev pub LeavesRows : List ℕ → List ℕ → ℕ → List Bill → List Row → List Row → Result Bool Error → Type 0
LeavesRows month total count bills before after (Ok now) = PostsMonth month total count bills now before after
LeavesRows month total count bills before after (Err _) = after ≡ before

-- The month is posted whole or not at all. A fault may shut the connection, and then nothing is said.
pub record PostsRows (month total : List ℕ) (count : ℕ) (bills : List Bill) (old new : State)
    (r : Result Bool Error) : Type 0 where
  pub was_open : IsTrue new.is_open → IsTrue old.is_open
  pub schema : IsOurs old → IsTrue new.is_open → IsOurs new
  pub rows : IsOurs old → IsTrue new.is_open → LeavesRows month total count bills (old.now.trees 0) (new.now.trees 0) r

-- what is read of a month, by the answer: its rows, or nothing
abbrev pub AreRowsOf : List ℕ → List Row → Result (Vec Row) Error → Type 0
AreRowsOf month rows (Ok answer) = IsMonth month rows answer.items
AreRowsOf month rows (Err _) = Unit {0}

-- The rows of a month are read, and none is changed. A fault may shut the connection, and then nothing is said.
pub record ReadsRows (month : List ℕ) (old new : State) (r : Result (Vec Row) Error) : Type 0 where
  pub was_open : IsTrue new.is_open → IsTrue old.is_open
  pub schema : IsOurs old → IsTrue new.is_open → IsOurs new
  pub same : IsOurs old → IsTrue new.is_open → new.now.trees 0 ≡ old.now.trees 0
  pub rows : IsOurs old → AreRowsOf month (old.now.trees 0) r
