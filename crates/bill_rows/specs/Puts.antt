-- What the statements put into the rows of the table.
use Rattle.std.specs.Prelude.{◌≡◌, ℕ, ℤ, pos, decimal, Bool, true, false, List, [], ◌∷◌, MatchBool}
use Rattle.office_base.specs.Names.{IsBucketName}
use Rattle.sqlite.specs.Order.{Row}
use Rattle.sqlite.specs.Edit.{next_rowid}
use Rattle.sqlite.specs.Tree.{put_row}
use Rattle.sqlite_rules.specs.Edit.{is_taken}
use Rattle.bill_book.specs.declared.bill.Bill.{Bill}
use Rattle.bill_rows.specs.Rows.{stored}
use Rattle.bill_rows.specs.Books.{has_header}

-- a row is put in, under a rowid that none has
pub record Puts (row : Row) (before after : List Row) : Type 0 where
  pub fresh : is_taken before row ≡ false
  pub put : after ≡ put_row row before

-- a row with these columns is put in, at the next rowid
abbrev pub PutsRow : List ℕ → List ℕ → List ℕ → ℤ → List Row → List Row → Type 0
PutsRow month bucket total lines before after = Puts (stored (next_rowid before) month bucket total lines) before after

-- the bill of a bucket is put in
abbrev pub PutsBill : List ℕ → Bill → List Row → List Row → Type 0
PutsBill month bill before after =
    IsBucketName bill.bucket × PutsRow month bill.bucket (decimal bill.total) (pos bill.lines) before after

-- bills are put in, one after another
abbrev pub PutsBills : List ℕ → List Bill → List Row → List Row → Type 0
PutsBills month [] before after = after ≡ before
PutsBills month (bill ∷ bills) before after =
    (between : List Row) × PutsBill month bill before between × PutsBills month bills between after

-- the month is put in if it has no header, with its bills after the header; else nothing is put in
abbrev pub PutsMonth : List ℕ → List ℕ → ℕ → List Bill → Bool → List Row → List Row → Type 0
PutsMonth month total count bills true before after =
    (has_header month before ≡ false)
    × ((between : List Row) × PutsRow month [] total (pos count) before between × PutsBills month bills between after)
PutsMonth month total count bills false before after = (has_header month before ≡ true) × (after ≡ before)

-- what the first statement does to the rows: it puts the header in if the month has none, and then counts one row
abbrev pub IsHeaderPut : List ℕ → List ℕ → ℤ → ℕ → List Row → List Row → Type 0
IsHeaderPut month total lines written before after =
    MatchBool (has_header month before) ((written ≡ 0) × (after ≡ before))
    ((written ≡ 1) × PutsRow month [] total lines before after)
