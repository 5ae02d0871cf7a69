-- The sums of a bucket's months.
use Rattle.std.proofs.Common.{◌≡◌, ◌⊎◌, inl, inr, ℕ, ◌^◌, ◌<◌, Bool, true, false, ◌||◌, ltb, List}
use Rattle.std.specs.Bool.{Decides, IsFalse}
use Rattle.std.specs.List.{All, AllByRecursion, list_all}
use Rattle.std.proofs.lemmas.Bool.{or_cases, or_left, or_right, ltb-true, lt-ltb, cases_Bool, both_ways}
use Rattle.moments.specs.Months.{month_start}
use Rattle.accrual.specs.Sums.{HaveRisingMonths, IsSmallMonth, is_nothing, is_zero}
use Rattle.accrual.specs.declared.monthly.MonthSums.{MonthSums}
use Rattle.office_snapshot.specs.Restorable.{HaveForm, HasBegun}
use Rattle.restorable.specs.Tests.{is_small_month, has_begun, is_month, are_months}
use Rattle.restorable.proofs.Lists.{change, both, le, lt, turned, each, at_each, to_all, from_all, every, zipped, in_pairs}

small_decides : (s : MonthSums) → Decides (is_small_month s) (IsSmallMonth s)
small_decides s =
    change (is_small_month s) (λ p. record { ended = p.0.0; early = p.0.1; moves = p.1 }) (λ h. ((h.ended, h.early), h.moves))
    (both _ _ (both _ _ (at_each (λ n. ltb n (2 ^ 120)) (λ n. n < 2 ^ 120) (λ n. lt n (2 ^ 120)) s.ended)
    (at_each (λ n. ltb n (2 ^ 120)) (λ n. n < 2 ^ 120) (λ n. lt n (2 ^ 120)) s.early))
    (at_each (λ n. ltb n (2 ^ 62)) (λ n. n < 2 ^ 62) (λ n. lt n (2 ^ 62)) s.moves))

-- if the first does not hold the second does
either : (a : Bool) (m n : ℕ) → Decides (a || ltb m n) (a ≡ false → m < n)
either a m n = (to, back)
  where
    to : (a || ltb m n) ≡ true → a ≡ false → m < n
    to e off = by (or_cases a (ltb m n) e) where
      by : (a ≡ true) ⊎ (ltb m n ≡ true) → m < n
      by (inl on) = absurd (both_ways a off on)
      by (inr on) = ltb-true m n on

    back : (a ≡ false → m < n) → (a || ltb m n) ≡ true
    back h = by (cases_Bool a) where
      by : (a ≡ true) ⊎ (a ≡ false) → (a || ltb m n) ≡ true
      by (inl on) = or_left a (ltb m n) on
      by (inr off) = or_right a (ltb m n) (lt-ltb m n (h off))

begun_decides : (last : ℕ) (s : MonthSums) → Decides (has_begun last s) (HasBegun last s)
begun_decides last s =
    change (has_begun last s) (λ p. record { month = p.0; ended = p.1 }) (λ h. (h.month, h.ended))
    (both _ _ (le (month_start s.month) last) (either (list_all is_zero s.ended) (month_start s.month) last))

-- what is said of a month
abbrev IsMonth : ℕ → MonthSums → Type 0
IsMonth last s = (IsFalse (is_nothing s) × IsSmallMonth s) × HasBegun last s

month_decides : (last : ℕ) (s : MonthSums) → Decides (is_month last s) (IsMonth last s)
month_decides last s = both _ _ (both _ _ (turned (is_nothing s)) (small_decides s)) (begun_decides last s)

-- what is said of the months of a bucket
pub record AreMonths (last : ℕ) (sums : List MonthSums) : Type 0 where
  pub form : HaveForm sums
  pub small : All IsSmallMonth sums
  pub begun : AllByRecursion (HasBegun last) sums

pub months_decide : (last : ℕ) (sums : List MonthSums) → Decides (are_months last sums) (AreMonths last sums)
months_decide last sums = change (are_months last sums) to back (both _ _ (in_pairs (λ s. s.month) sums) (each (is_month last) (IsMonth last) (month_decides last) sums))
  where
    to : HaveRisingMonths sums × AllByRecursion (IsMonth last) sums → AreMonths last sums
    to p = record {
      form = record { rising = p.0; some = to_all _ sums (every (IsMonth last) (λ s. IsFalse (is_nothing s)) (λ s m. m.0.0) sums p.1) };
      small = to_all _ sums (every (IsMonth last) IsSmallMonth (λ s m. m.0.1) sums p.1);
      begun = every (IsMonth last) (HasBegun last) (λ s m. m.1) sums p.1;
    }

    back : AreMonths last sums → HaveRisingMonths sums × AllByRecursion (IsMonth last) sums
    back h = (
      h.form.rising,
      zipped (λ s. IsFalse (is_nothing s) × IsSmallMonth s) (HasBegun last) sums
          (zipped (λ s. IsFalse (is_nothing s)) IsSmallMonth sums (from_all _ sums h.form.some) (from_all _ sums h.small)) h.begun,
    )
