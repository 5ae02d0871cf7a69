-- The part of a stay inside the window of a month.
use Rattle.std.proofs.Common.{◌≡◌, ◌≢◌, ◌≤◌, ◌<◌, ◌+◌, ◌-◌, ◌==◌, ℕ, zero, suc, Bool, true, false, refl, arith}
use Rattle.std.specs.Prelude.{◌^◌, nat_le, if◌then◌else◌}
use Rattle.std.proofs.lemmas.Bool.Decides.{nat_tests}
use Rattle.moments.specs.Months.{months, month_start, month_end, months_over, month_at, IsInMonth}
use Rattle.moments.proofs.Calendar.{month_has_days, first_day_order}
use Rattle.accrual.specs.Meters.{is_in_month}
use Rattle.accrual.specs.Totals.{ms_within}
use Rattle.accrual.proofs.Cases.{by_less}

-- a month is no longer than 31 days
pub month_short : (m : ℕ) → month_end m ≤ month_start m + 2_678_400_000
month_short m =
    let b = month_has_days m in
    omega (arith, b)

pub month_order : (m : ℕ) → month_start m ≤ month_end m
month_order m = let o = first_day_order m (m + 1) (omega arith) in omega (arith, o)

within_window : (start end from to : ℕ) → ms_within start end from to ≤ end - start
within_window start end from to = omega arith

pub within_short : (m from to : ℕ) → ms_within (month_start m) (month_end m) from to < 2 ^ 32
within_short m from to =
    let w = within_window (month_start m) (month_end m) from to in
    let s = month_short m in
    omega (arith, w, s)

-- the parts of a month before a moment in it and after it
pub short_before : (m x : ℕ) → IsInMonth m x → x - month_start m < 2 ^ 32
short_before m x is = let s = month_short m in omega (arith, s, is.not_over)

pub short_after : (m x : ℕ) → IsInMonth m x → month_end m - x < 2 ^ 32
short_after m x is = let s = month_short m in omega (arith, s, is.begun)

none_before : (start end from to : ℕ) → end ≤ from → ms_within start end from to ≡ 0
none_before start end from to le = omega arith

none_after : (start end from to : ℕ) → to ≤ start → ms_within start end from to ≡ 0
none_after start end from to le = omega arith

-- nothing of a stay lies in the months before it and after it
pub within_before : (m k from to : ℕ) → IsInMonth k from → m < k → ms_within (month_start m) (month_end m) from to ≡ 0
within_before m k from to is less =
    let o = first_day_order (m + 1) k (omega (arith, less)) in
    none_before (month_start m) (month_end m) from to (omega (arith, o, is.begun))

pub within_after : (m k from to : ℕ) → IsInMonth k to → k < m → ms_within (month_start m) (month_end m) from to ≡ 0
within_after m k from to is less =
    let o = first_day_order (k + 1) m (omega (arith, less)) in
    none_after (month_start m) (month_end m) from to (omega (arith, o, is.not_over))

-- a moment lies in its month, and in no other
in_no_other : (m k x : ℕ) → IsInMonth k x → m ≢ k → is_in_month m x ≡ false
in_no_other m k x is other =
    by_less m k
    (λ less. let o = first_day_order (m + 1) k (omega (arith, less)) in let over : month_end m ≤ x = omega (arith, o, is.begun) in grind (arith, nat_tests))
    (λ more. let o = first_day_order (k + 1) m (omega (arith, more, other)) in let early : x < month_start m = omega (arith, o, is.not_over) in grind (arith, nat_tests))

in_month_case : (m k x : ℕ) (t : Bool) → (m == k) ≡ t → IsInMonth k x → is_in_month m x ≡ t
in_month_case m k x true e is =
    let same : m ≡ k = grind (arith, nat_tests) in
    rw same (let b = is.begun in let n = is.not_over in grind (arith, nat_tests))
in_month_case m k x false e is = in_no_other m k x is (grind (arith, nat_tests))

pub in_month_is : (m k x : ℕ) → IsInMonth k x → is_in_month m x ≡ (m == k)
in_month_is m k x is = in_month_case m k x _ refl is

-- the months are in the order of the moments
over_order : (a b n : ℕ) → a ≤ b → months_over a n ≤ months_over b n
unfolding months_over
over_order a b zero le = omega arith
over_order a b (suc n) le =
    let o = over_order a b n le in
    let p = over_one (month_end n) a b le in
    omega (arith, o, p)
  where
    over_one : (end a b : ℕ) → a ≤ b → (if nat_le end a then 1 else 0) ≤ (if nat_le end b then 1 else 0)
    over_one end a b le = by_less a end (λ less. grind (arith, nat_tests)) (λ more. grind (arith, nat_tests))

pub month_at_order : (a b : ℕ) → a ≤ b → month_at a ≤ month_at b
month_at_order a b le = over_order a b months le
