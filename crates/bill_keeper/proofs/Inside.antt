-- A statement inside a transaction commits nothing.
use Rattle.std.proofs.Common.{◌≡◌, ◌⊎◌, inl, inr, ℕ, ℤ, List, [], ◌∷◌, ◌++◌, true, IsTrue, Ok, Err, Result, IfOk, OnOk, refl, sym, ap, subst, ◌∙◌}
use Rattle.sqlite.specs.declared.types.Value.TheVariants.{Int, Text}
use Rattle.sqlite.specs.Order.{Row}
use Rattle.bill_book.specs.declared.bill.Bill.{Bill}
use Rattle.sqlite.specs.Tree.{put_row}
use Rattle.sqlite.specs.Edit.{next_rowid}
use Rattle.sqlite.specs.declared.error.Error.{Error}
use Rattle.sqlite.specs.State.{State, KeepsCommit, IsUnchanged, IsRolledBack, ExecutesInside}
use Rattle.bill_rows.specs.Rows.{bills_schema, header_text, bill_text, stored}
use Rattle.bill_rows.specs.Puts.{IsHeaderPut, PutsRow, PutsBill, PutsBills}
use Rattle.bill_keeper.specs.Steps.{Works}
use Rattle.bill_keeper.proofs.Header.{header_writes}
use Rattle.bill_keeper.proofs.Insert.{bill_writes}

pub same_keeps : (old new : State) → IsUnchanged old new → KeepsCommit old new
same_keeps old new h = record { was_open = λ _. h.0.was_open; committed = λ _. h.0.committed_is }

pub back_keeps : (old new : State) → IsRolledBack old new → KeepsCommit old new
back_keeps old new h = record { was_open = h.was_open; committed = λ still. (h.undone still).1 }

pub inside_keeps : (sql : List ℕ) (params : Row) (old new : State) (r : Result ℕ Error) → ExecutesInside 0 sql params old new r → KeepsCommit old new
inside_keeps sql params old new (Ok count) h = record { was_open = λ _. h.1.was_open; committed = λ _. h.1.committed_is }
inside_keeps sql params old new (Err e) (inl (ran, inl same)) = same_keeps old new same
inside_keeps sql params old new (Err e) (inl (ran, inr back)) = back_keeps old new back
inside_keeps sql params old new (Err e) (inr (ends, is, same)) = same_keeps old new same

pub inside_stays : (sql : List ℕ) (params : Row) (old new : State) (r : Result ℕ Error) → ExecutesInside 0 sql params old new r → OnOk r (IsTrue new.in_transaction)
inside_stays sql params old new (Ok count) h = rw h.1.mode
inside_stays sql params old new (Err e) h = tt

pub header_works : (old new : State) (month total : List ℕ) (lines : ℤ) (r : Result ℕ Error) → ExecutesInside 0 header_text (Text month ∷ Text total ∷ Int lines ∷ []) old new r
    → Works old new r (IsHeaderPut month total lines)
header_works old new month total lines (Err e) h = record { kept = inside_keeps header_text _ old new (Err e) h; stays = tt; done = λ has. tt }
header_works old new month total lines (Ok count) h = record {
  kept = inside_keeps header_text _ old new (Ok count) h;
  stays = inside_stays header_text _ old new (Ok count) h;
  done = λ has. header_writes old new month total lines count has h.0;
}

pub bill_works : (old new : State) (month bucket total : List ℕ) (lines : ℤ) (r : Result ℕ Error)
    → ExecutesInside 0 bill_text (Text month ∷ Text bucket ∷ Text total ∷ Int lines ∷ []) old new r → Works old new r (λ _. PutsRow month bucket total lines)
bill_works old new month bucket total lines (Err e) h = record { kept = inside_keeps bill_text _ old new (Err e) h; stays = tt; done = λ has. tt }
bill_works old new month bucket total lines (Ok count) h = record {
  kept = inside_keeps bill_text _ old new (Ok count) h;
  stays = inside_stays bill_text _ old new (Ok count) h;
  done = λ has. bill_writes old new month bucket total lines count has h.0;
}

pub keeps_itself : (s : State) → KeepsCommit s s
keeps_itself s = record { was_open = λ h. h; committed = λ _. refl }

pub keeps_then : (a b c : State) → KeepsCommit a b → KeepsCommit b c → KeepsCommit a c
keeps_then a b c p q = record { was_open = λ h. p.was_open (q.was_open h); committed = λ h. q.committed h ∙ p.committed (q.was_open h) }

-- a bill after the others
pub bills_more : (month : List ℕ) (bills : List Bill) (bill : Bill) (a b c : List Row) → PutsBills month bills a b → PutsBill month bill b c → PutsBills month (bills ++ bill ∷ []) a c
bills_more month [] bill a b c puts then = (c, subst (λ (rows : List Row). PutsBill month bill rows c) puts then, refl)
bills_more month (x ∷ xs) bill a b c puts then = (puts.0, puts.1, bills_more month xs bill puts.0 b c puts.2 then)
