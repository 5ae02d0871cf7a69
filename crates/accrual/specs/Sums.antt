-- The sums of a bucket's months, without stays that have not ended.
use Rattle.std.specs.Prelude.{◌≡◌, ℕ, ◌^◌, ◌<◌, Bool, ◌&&◌, ◌==◌, List, get_or, sum_by, if◌then◌else◌, IsFalse, All, AllPairs}
use Rattle.std.specs.List.{list_all}
use Rattle.class_rules.specs.Classes.{rank_of}
use Rattle.class_rules.specs.declared.class.Class.{Class}
use Rattle.accrual.specs.Books.{Stay, Book}
use Rattle.accrual.specs.Meters.{early_quantity, move_count}
use Rattle.accrual.specs.Totals.{has_no_end, ended_sum}
use Rattle.accrual.specs.Rows.{kept_in, ended_in}
use Rattle.accrual.specs.declared.rows.Numbers.{Numbers}
use Rattle.accrual.specs.declared.rows.Rows.{Rows}
use Rattle.accrual.specs.declared.monthly.MonthSums.{MonthSums}

-- the number of a month and a class in a list of months; 0 if the list has no entry for the month
abbrev pub listed : (MonthSums → List ℕ) → List MonthSums → ℕ → Class → ℕ
listed numbers sums month class =
    sum_by (λ (s : MonthSums). if s.month == month then get_or (numbers s) (rank_of class) 0 else 0) sums

-- the list has the sums of the book
pub record AreSumsOf (book : Book) (sums : List MonthSums) : Type 0 where
  pub ended : (month : ℕ) (class : Class) → listed (λ s. s.ended) sums month class ≡ ended_sum month class book
  pub early : (month : ℕ) (class : Class) → listed (λ s. s.early) sums month class ≡ early_quantity month class book
  pub moves : (month : ℕ) (class : Class) → listed (λ s. s.moves) sums month class ≡ move_count month class book

-- every stay has an end
abbrev pub HasAllEnded : Book → Type 0
HasAllEnded book = All (λ (stay : Stay). IsFalse (has_no_end stay.to)) book.stays

-- the months are in strictly ascending order
abbrev pub HaveRisingMonths : List MonthSums → Type 0
HaveRisingMonths sums = AllPairs (λ (a b : MonthSums). a.month < b.month) sums

-- the number is 0
abbrev pub is_zero : ℕ → Bool
is_zero n = n == 0

-- each number of the month is 0
abbrev pub is_nothing : MonthSums → Bool
is_nothing sums = list_all is_zero sums.ended && list_all is_zero sums.early && list_all is_zero sums.moves

-- sums with which meters can start (own: they leave room for all bookings)
pub record IsSmallMonth (sums : MonthSums) : Type 0 where
  pub ended : All (λ n. n < 2 ^ 120) sums.ended
  pub early : All (λ n. n < 2 ^ 120) sums.early
  pub moves : All (λ n. n < 2 ^ 62) sums.moves

-- ---- the same for rows

-- the list has the sums of the rows
pub record AreSumsIn (rows : Rows) (sums : List MonthSums) : Type 0 where
  pub ended : (month : ℕ) (class : Class)
      → listed (λ s. s.ended) sums month class ≡ ended_in rows month (rank_of class)
  pub early : (month : ℕ) (class : Class)
      → listed (λ s. s.early) sums month class ≡ (kept_in rows month (rank_of class)).early
  pub moves : (month : ℕ) (class : Class)
      → listed (λ s. s.moves) sums month class ≡ (kept_in rows month (rank_of class)).moves

-- the entry has the sums of the rows for this month
pub record IsMonthOf (rows : Rows) (number : ℕ) (sums : MonthSums) : Type 0 where
  pub month : sums.month ≡ number
  pub ended : (class : Class) → get_or sums.ended (rank_of class) 0 ≡ ended_in rows number (rank_of class)
  pub early : (class : Class) → get_or sums.early (rank_of class) 0 ≡ (kept_in rows number (rank_of class)).early
  pub moves : (class : Class) → get_or sums.moves (rank_of class) 0 ≡ (kept_in rows number (rank_of class)).moves

-- the rows have nothing for a class in a month, except stays that have not ended
pub record HasNoSum (rows : Rows) (month rank : ℕ) : Type 0 where
  pub ended : ended_in rows month rank ≡ 0
  pub early : (kept_in rows month rank).early ≡ 0
  pub moves : (kept_in rows month rank).moves ≡ 0

-- what is kept for a class in a month that starts with these sums
abbrev pub summed_numbers : MonthSums → ℕ → Numbers
summed_numbers sums rank = record {
  edges = get_or sums.ended rank 0;
  arrived = 0;
  departed = 0;
  running = 0;
  lead = 0;
  early = get_or sums.early rank 0;
  moves = get_or sums.moves rank 0;
}

-- no stay is kept, and the sums leave room for all bookings
pub record IsSmall (kept : Numbers) : Type 0 where
  pub edges : kept.edges < 2 ^ 120
  pub arrived : kept.arrived ≡ 0
  pub departed : kept.departed ≡ 0
  pub running : kept.running ≡ 0
  pub lead : kept.lead ≡ 0
  pub early : kept.early < 2 ^ 120
  pub moves : kept.moves < 2 ^ 62
