-- Rows of the table as a keeper of bills writes them.
use Rattle.std.specs.Prelude.{◌≡◌, ◌<◌, ◌^◌, ℕ, pos, zero, suc, Bool, true, false, ◌||◌, List, [], ◌∷◌, length, decimal}
use Rattle.std.specs.Prelude.{IsTrue}
use Rattle.std.specs.Coded.{Coded-set, coded_ℕ, Π_prop, ×_prop, le_prop}
use Rattle.std.specs.List.{AllByRecursion, AllByRecursion-prop}
use Rattle.std.specs.Str.{bytes_eq}
use mathlib.Core.Bool.{Bool-set}
use Rattle.office_base.specs.Names.{is_bucket_name}
use Rattle.moments.specs.Months.{months}
use Rattle.sqlite_value.specs.declared.value.Value.TheVariants.{Int, Text}
use Rattle.sqlite_value.specs.contracts.row.Row.{the_row}
use Rattle.sqlite_value.specs.Order.{Row, column}
use Rattle.bill_book.specs.Bills.{total_of}
use Rattle.bill_rows.specs.Months.{month_text}
use Rattle.bill_rows.specs.Rows.{is_at}
use Rattle.bill_rows.specs.Books.{text_in, bill_in, bills_in, AreHeaded}

-- the text is that of a month whose number is below this one
unfoldable pub is_month_below : ℕ → List ℕ → Bool
is_month_below zero text = false
is_month_below (suc k) text = bytes_eq text (month_text k) || is_month_below k text

-- the row as it is written, by what is read of it
abbrev pub written : Row → Row
written row =
    let bill = bill_in row in
    column row 0 ∷ Text (text_in (column row 1)) ∷ Text bill.bucket ∷ Text (decimal bill.total) ∷ Int (pos bill.lines)
    ∷ []

-- A row has a month, and a bucket or none. Its total is written in digits without a leading zero, and is below 2^128.
pub record IsBillRow (row : Row) : Type 0 where
  pub form : row ≡ written row
  pub month : IsTrue (is_month_below months (text_in (column row 1)))
  pub bucket : IsTrue (bytes_eq (bill_in row).bucket [] || is_bucket_name (bill_in row).bucket)
  pub small : (bill_in row).total < 2 ^ 128

-- a header has what the bills of its month come to, and how many they are
abbrev pub Agrees : List Row → Row → Type 0
Agrees rows row =
    let bills = bills_in (text_in (column row 1)) rows in
    is_at (text_in (column row 1)) [] row ≡ true
    → ((bill_in row).total ≡ total_of bills) × ((bill_in row).lines ≡ length bills)

-- Each row has its form, each month with a row has its header, and the headers agree with the other rows.
pub record IsWellMade (rows : List Row) : Type 0 where
  pub forms : AllByRecursion IsBillRow rows
  pub headed : AreHeaded rows
  pub agree : AllByRecursion (Agrees rows) rows

-- ---- each of these is a proposition

IsBillRow-prop : (row : Row) → IsProp (IsBillRow row)
IsBillRow-prop row = λ a b i. record {
  form = Coded-set the_row.coded row (written row) a.form b.form i;
  month = Bool-set _ _ a.month b.month i;
  bucket = Bool-set _ _ a.bucket b.bucket i;
  small = le_prop a.small b.small i;
}

Agrees-prop : (rows : List Row) (row : Row) → IsProp (Agrees rows row)
Agrees-prop rows row = Π_prop (λ _. ×_prop (Coded-set coded_ℕ _ _) (Coded-set coded_ℕ _ _))

pub IsWellMade-prop : (rows : List Row) → IsProp (IsWellMade rows)
IsWellMade-prop rows = λ a b i. record {
  forms = AllByRecursion-prop _ IsBillRow-prop rows a.forms b.forms i;
  headed = AllByRecursion-prop _ (λ row. Bool-set _ _) rows a.headed b.headed i;
  agree = AllByRecursion-prop _ (Agrees-prop rows) rows a.agree b.agree i;
}
