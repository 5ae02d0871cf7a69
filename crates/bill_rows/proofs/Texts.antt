-- Texts of months and of columns.
use Rattle.std.proofs.Common.{◌≡◌, ℕ, ◌/◌, ◌%◌, ◌<◌, List, [], get_or, refl, ap, Bool, true, false, ◌&&◌, ℤ, arith, unwrap_or, Some}
use Rattle.std.specs.Str.{bytes_eq}
use Rattle.std.proofs.lemmas.Map.Text.{is_eq-slice_cmp}
use Rattle.moments.specs.Months.{months, year_of, month_of_year}
use Rattle.sqlite_value.specs.declared.value.Value.TheVariants.{Text}
use Rattle.sqlite_value.specs.Keys.{first_key}
use Rattle.sqlite_value.specs.declared.keys.Collation.TheVariants.{Binary}
use Rattle.sqlite_value.proofs.OrderLemmas.{value_cmp-Text}
use Rattle.sqlite_sql.specs.Ops.{binary, truth, from_truth}
use Rattle.sqlite_schema.specs.Rules.{equal}
use Rattle.bill_rows.specs.Months.{last_digit, month_text}
use Rattle.bill_rows.specs.Rows.{in_month, is_at, stored}

pub equal-Text : (a b : List ℕ) → equal Binary (Text a) (Text b) ≡ bytes_eq a b
unfolding binary
equal-Text a b = rw (value_cmp-Text a b, is_eq-slice_cmp a b) (tells (bytes_eq a b)) where
  tells : (t : Bool) → unwrap_or (truth (from_truth (Some t))) false ≡ t
  tells true = refl
  tells false = refl

same_digit : (a b : ℕ) → last_digit a ≡ last_digit b → a % 10 ≡ b % 10
same_digit a b h = omega (arith, h)

same_year : (a b : ℕ) → a < 10_000 → b < 10_000 → a / 1_000 % 10 ≡ b / 1_000 % 10 → a / 100 % 10 ≡ b / 100 % 10 → a / 10 % 10 ≡ b / 10 % 10 → a % 10 ≡ b % 10 → a ≡ b
same_year a b fa fb k h t o = omega arith

same_number : (a b : ℕ) → a < 100 → b < 100 → a / 10 % 10 ≡ b / 10 % 10 → a % 10 ≡ b % 10 → a ≡ b
same_number a b fa fb t o = omega arith

joined : (a b : ℕ) → year_of a ≡ year_of b → month_of_year a ≡ month_of_year b → a ≡ b
joined a b y m = omega arith

-- different months are written differently
pub one_month : (a b : ℕ) → a < months → b < months → month_text a ≡ month_text b → a ≡ b
unfolding month_text
one_month a b fa fb h =
    let at : (i : ℕ) → get_or (month_text a) i 0 ≡ get_or (month_text b) i 0 = λ i. ap (λ (l : List ℕ). get_or l i 0) h in
    let y = same_year (year_of a) (year_of b) (omega arith) (omega arith)
    (same_digit (year_of a / 1_000) (year_of b / 1_000) (at 0)) (same_digit (year_of a / 100) (year_of b / 100) (at 1)) (same_digit (year_of a / 10) (year_of b / 10) (at 2)) (same_digit (year_of a) (year_of b) (at 3)) in
    let m = same_number (month_of_year a) (month_of_year b) (omega arith) (omega arith) (same_digit (month_of_year a / 10) (month_of_year b / 10) (at 5)) (same_digit (month_of_year a) (month_of_year b) (at 6)) in
    joined a b y m

-- ---- the rows that are written

pub in_month_stored : (month : List ℕ) (id : ℤ) (own bucket total : List ℕ) (lines : ℤ) → in_month month (stored id own bucket total lines) ≡ bytes_eq own month
in_month_stored month id own bucket total lines = equal-Text own month

pub is_at_stored : (month : List ℕ) (id : ℤ) (own bucket total : List ℕ) (lines : ℤ) → is_at month [] (stored id own bucket total lines) ≡ (bytes_eq own month && (bytes_eq bucket [] && true))
unfolding first_key binary
is_at_stored month id own bucket total lines = λ i. equal-Text own month i && (equal-Text bucket [] i && true)
