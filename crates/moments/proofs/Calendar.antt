-- The months are those of jiff's calendar.
use Rattle.std.proofs.Common.{sym, ◌≡◌, ◌≢◌, ℕ, suc, zero, ◌+◌, ◌-◌, ◌*◌, ◌/◌, ◌%◌, ◌<◌, ◌≤◌, ◌==◌, ℤ, pos, negsuc, ◌*ℤ◌, ◌≤ℤ◌, Bool, true, false, refl, ap, arith, subst}
use Rattle.std.specs.Prelude.{nat_le, unsigned_abs, int_div}
use Rattle.std.proofs.lemmas.Bool.Decides.{nat_tests}
use Rattle.std.proofs.lemmas.Int.{ints, by_lt_z}
use Rattle.jiff_core.specs.Calendar.{day_count, days_from_civil, days_in_year, days_in_month as jiff_days_in_month, days_of_months as jiff_days_of_months, IsCivilDate}
use Rattle.jiff_core.proofs.CalendarLemmas.{day_count-epoch, days_from_civil-day_count, day_count-lt_year, day_count-next_month, day_count-next_year, day_count-last_of_year, day_count-day}
use Rattle.jiff_core.proofs.CalendarLemmas.{days_in_month_bounds as jiff_month_bounds, day_count-day_of_year}
use Rattle.jiff_core.proofs.DateLemmas.{civil}
use Rattle.jiff_core.proofs.SignedLemmas.{signed_arith}
use Rattle.jiff.specs.Words.{epoch_day}
use Rattle.jiff.specs.Types.{Date}
use Rattle.moments.specs.Time.{day, end_of_time}
use Rattle.moments.specs.Months.{months, first_day, year_of, month_of_year, month_number, days_in_month, days_of_months, days_before_year, month_start, month_end, IsInMonth, months_over, IsDayOf}
use Rattle.moments.specs.JiffCalendar.{IsFirstOfMonth}

pub days_in_month_bounds : (y m : ℕ) → (days_in_month y m ≤ 31) × (28 ≤ days_in_month y m)
days_in_month_bounds y m = jiff_month_bounds (pos y) m

same_days : (y n : ℕ) → jiff_days_of_months (pos y) n ≡ days_of_months y n
unfolding days_of_months jiff_days_of_months
same_days y zero = refl
same_days y (suc n) = ap (λ d. d + days_in_month y (suc n)) (same_days y n)

-- a year has 366 days where it is a leap year
year_days : (y : ℕ) → 1 ≤ y → days_before_year (y + 1) ≡ days_before_year y + days_in_year (pos y)
year_days y from = grind (arith, nat_tests)

year_begins : (n : ℕ) → day_count (pos (1970 + n)) 1 1 + days_before_year 1970 ≡ 4_371_953 + days_before_year (1970 + n)
year_begins zero = omega (arith, day_count-epoch)
year_begins (suc n) =
    let a : day_count (pos (1970 + n + 1)) 1 1 ≡ day_count (pos (1970 + n)) 1 1 + days_in_year (pos (1970 + n)) =
    day_count-next_year (pos (1970 + n)) (pos (1970 + n + 1)) (omega (arith, signed_arith)) refl in
    let b = year_days (1970 + n) (omega arith) in
    let e : 1970 + suc n ≡ 1970 + n + 1 = omega arith in
    rw e (omega (arith, a, b, year_begins n))

later_year : (n : ℕ) → days_before_year 1970 ≤ days_before_year (1970 + n)
later_year n = omega arith

-- the first of a month in jiff's count of days
pub month_starts : (k : ℕ) → day_count (pos (year_of k)) (month_of_year k) 1 ≡ 4_371_953 + first_day k
unfolding first_day
month_starts k =
    let y = year_begins (k / 12) in
    let l = later_year (k / 12) in
    let first : ℕ = day_count (pos (year_of k)) (month_of_year k) 1 in
    let new_year : ℕ = day_count (pos (year_of k)) 1 1 in
    let d : first + 1 ≡ new_year + (jiff_days_of_months (pos (year_of k)) (month_of_year k - 1) + 1) = day_count-day_of_year (pos (year_of k)) (month_of_year k) 1 (omega arith) in
    let e : month_of_year k - 1 ≡ k % 12 = omega arith in
    let d2 : first + 1 ≡ new_year + (jiff_days_of_months (pos (year_of k)) (k % 12) + 1) = subst (λ n. first + 1 ≡ new_year + (jiff_days_of_months (pos (year_of k)) n + 1)) e d in
    omega (arith, y, l, d2, same_days (year_of k) (k % 12))

pub first_of_month : (k : ℕ) → IsFirstOfMonth k
unfolding days_from_civil
first_of_month k = rw (month_starts k, day_count-epoch) (omega (arith, ints))

-- the first of a month among jiff's dates
pub first_is : (d : Date) (k : ℕ) → d.year ≡ pos (year_of k) → d.month ≡ month_of_year k → d.day ≡ 1 → epoch_day d ≡ pos (first_day k)
first_is d k year month first = rw (year, month, first) (first_of_month k)

december : (y : ℕ) → day_count (pos (y + 1)) 1 1 ≡ day_count (pos y) 12 1 + 31
december y =
    let a = day_count-next_year (pos y) (pos (y + 1)) (omega (arith, signed_arith)) refl in
    let b = day_count-last_of_year (pos y) in
    let c = day_count-day (pos y) 12 1 31 (omega arith) (omega arith) in
    omega (arith, a, b, c)

month_days : ℕ → ℕ
month_days k = days_in_month (year_of k) (month_of_year k)

next_month : (k : ℕ) (b : Bool) → (k % 12 == 11) ≡ b
    → day_count (pos (year_of (k + 1))) (month_of_year (k + 1)) 1 ≡ day_count (pos (year_of k)) (month_of_year k) 1 + month_days k
unfolding month_days
next_month k true e =
    let eleven : k % 12 ≡ 11 = grind (arith, nat_tests) in
    let m : month_of_year k ≡ 12 = omega (arith, eleven) in
    let m2 : month_of_year (k + 1) ≡ 1 = omega (arith, eleven) in
    let y2 : year_of (k + 1) ≡ year_of k + 1 = omega (arith, eleven) in
    rw (m, m2, y2) (december (year_of k))
next_month k false e =
    let other : k % 12 ≢ 11 = grind (arith, nat_tests) in
    let m2 : month_of_year (k + 1) ≡ month_of_year k + 1 = omega (arith, other) in
    let y2 : year_of (k + 1) ≡ year_of k = omega (arith, other) in
    rw (m2, y2) (day_count-next_month (pos (year_of k)) (month_of_year k) (omega arith))

-- each month begins where the one before it ends
pub first_day_next : (k : ℕ) → first_day (k + 1) ≡ first_day k + days_in_month (year_of k) (month_of_year k)
unfolding month_days
first_day_next k = omega (arith, month_starts k, month_starts (k + 1), next_month k _ refl)

-- a month has 28 to 31 days
pub month_has_days : (k : ℕ) → (first_day k + 28 ≤ first_day (k + 1)) × (first_day (k + 1) ≤ first_day k + 31)
month_has_days k =
    let b = days_in_month_bounds (year_of k) (month_of_year k) in
    let n = first_day_next k in
    (omega (arith, b, n), omega (arith, b, n))

-- months begin in their order
first_day-later : (k n : ℕ) → first_day k ≤ first_day (k + n)
first_day-later k zero =
    let e : k + zero ≡ k = omega arith in
    rw e (omega arith)
first_day-later k (suc n) =
    let a = first_day-later k n in
    let b = month_has_days (k + n) in
    let e : k + suc n ≡ k + n + 1 = omega arith in
    rw e (omega (arith, a, b))

pub first_day_order : (k later : ℕ) → k ≤ later → first_day k ≤ first_day later
first_day_order k later le =
    let e : k + (later - k) ≡ later = omega (arith, le) in
    subst (λ x. first_day k ≤ first_day x) e (first_day-later k (later - k))

pub first_day_end : first_day months ≡ 47_482
unfolding first_day days_of_months
first_day_end = refl

pub first_day_bound : (k : ℕ) → k ≤ months → first_day k ≤ 47_482
first_day_bound k le = omega (arith, first_day_order k months le, first_day_end)

-- a month that has begun before 2100 is one of the office's
small_case : (k m : ℕ) (b : Bool) → nat_le months k ≡ b → month_start k ≤ m → m < end_of_time → k < months
small_case k m true e begun small =
    let le : months ≤ k = grind (arith, nat_tests) in
    let o = first_day_order months k le in
    absurd (omega (arith, o, first_day_end, begun, small))
small_case k m false e begun small = grind (arith, nat_tests)

pub month_small : (k m : ℕ) → month_start k ≤ m → m < end_of_time → k < months
month_small k m begun small = small_case k m _ refl begun small

-- of the first n months exactly those have ended that are before the month of the moment
over_before : (m k n : ℕ) → month_start k ≤ m → n ≤ k → months_over m n ≡ n
unfolding months_over
over_before m k zero begun le = refl
over_before m k (suc n) begun le =
    let a = over_before m k n begun (omega (arith, le)) in
    let o = first_day_order (n + 1) k (omega (arith, le)) in
    let over : month_end n ≤ m = omega (arith, o, begun) in
    grind (arith, nat_tests, a, over)

over_after : (m k n : ℕ) → IsInMonth k m → months_over m (k + n) ≡ k
unfolding months_over
over_after m k zero is =
    let e : k + zero ≡ k = omega arith in
    rw e (over_before m k k is.begun (omega arith))
over_after m k (suc n) is =
    let a = over_after m k n is in
    let o = first_day_order (k + 1) (k + n + 1) (omega arith) in
    let not_over : m < month_end (k + n) = omega (arith, o, is.not_over) in
    let e : k + suc n ≡ suc (k + n) = omega arith in
    rw e (grind (arith, nat_tests, a, not_over))

pub month_at_is : (m k : ℕ) → IsInMonth k m → k ≤ months → months_over m months ≡ k
month_at_is m k is le =
    let e : k + (months - k) ≡ months = omega (arith, le) in
    subst (λ x. months_over m x ≡ k) e (over_after m k (months - k) is)

pub first_day_begin : first_day 0 ≡ 0
unfolding first_day days_of_months
first_day_begin = refl

-- the months from the first to the last
pub ruleset calendar = (first_of_month, first_day_end, first_day_begin)

-- a date has a month and a day that are small
pub day_small : (d : Date) → d.day ≤ 31
day_small d = omega (arith, d.day_in, jiff_month_bounds d.year d.month)

-- the place of one of jiff's dates in the months
counted_days : (d : Date) (n : ℕ) → epoch_day d ≡ pos n → day_count d.year d.month d.day ≡ 4_371_953 + n
counted_days d n e =
    let a = days_from_civil-day_count d.year d.month d.day in
    omega (arith, ints, signed_arith, a, e)

not_before_1970 : (d : Date) (n : ℕ) → epoch_day d ≡ pos n → pos 1970 ≤ℤ d.year
not_before_1970 d n e =
    by_lt_z d.year (pos 1970)
    (λ before. let l = day_count-lt_year d.year d.month d.day (pos 1970) 1 1 (civil d) (omega arith) before in absurd (omega (arith, counted_days d n e, l, day_count-epoch)))
    (λ from. from)

first_of_2100 : IsCivilDate (pos 2100) 1 1
first_of_2100 = ((omega (arith, signed_arith), omega (arith, signed_arith)), (omega arith, omega arith), (omega arith, omega (arith, days_in_month_bounds 2100 1)))

not_after_2100 : (d : Date) (n : ℕ) → epoch_day d ≡ pos n → n ≤ 47_482 → d.year ≤ℤ pos 2100
not_after_2100 d n e le =
    by_lt_z (pos 2100) d.year
    (λ after. let l = day_count-lt_year (pos 2100) 1 1 d.year d.month d.day first_of_2100 d.day_in.0 after in absurd (omega (arith, counted_days d n e, l, month_starts months, first_day_end, le)))
    (λ until. until)

pub year_between : (d : Date) (n : ℕ) → epoch_day d ≡ pos n → n ≤ 47_482 → (pos 1970 ≤ℤ d.year) × (d.year ≤ℤ pos 2100)
year_between d n e le = (not_before_1970 d n e, not_after_2100 d n e le)

-- the days of this many milliseconds, in jiff's nanoseconds
pub days_of_ms : (ms : ℕ) → int_div (pos ms *ℤ pos 1_000_000) (pos 86_400_000_000_000) ≡ pos (ms / day)
days_of_ms ms =
    let e : ms * 1_000_000 / 86_400_000_000_000 ≡ ms / day = omega arith in
    ap pos e

-- a number that is not negative is its size
pub is_size : (z : ℤ) → pos 0 ≤ℤ z → z ≡ pos (unsigned_abs z)
is_size (pos n) from = refl
is_size (negsuc n) from = absurd (omega (arith, signed_arith, from))

day_is : (d : Date) (n y : ℕ) → epoch_day d ≡ pos n → d.year ≡ pos y → 1970 ≤ y → y ≤ 2100 → IsDayOf n y d.month d.day
day_is d n y e year from until = record {
  year_in = (from, until);
  month_in = d.month_in;
  day_in = subst (λ z. (1 ≤ d.day) × (d.day ≤ jiff_days_in_month z d.month)) year d.day_in;
  counted =
      let k = month_number y d.month in
      let yk : year_of k ≡ y = omega (arith, from, d.month_in) in
      let mk : month_of_year k ≡ d.month = omega (arith, from, d.month_in) in
      let s : day_count (pos y) d.month 1 ≡ 4_371_953 + first_day k = subst
      (λ a. day_count (pos a) d.month 1 ≡ 4_371_953 + first_day k) yk
      (subst (λ b. day_count (pos (year_of k)) b 1 ≡ 4_371_953 + first_day k) mk (month_starts k)) in
      let c : day_count (pos y) d.month d.day ≡ 4_371_953 + n = subst (λ z. day_count z d.month d.day ≡ 4_371_953 + n) year (counted_days d n e) in
      let m = day_count-day (pos y) d.month 1 d.day (omega arith) d.day_in.0 in
      omega (arith, s, c, m);
}

pub date_is : (d : Date) (n : ℕ) → epoch_day d ≡ pos n → n ≤ 47_482 → IsDayOf n (unsigned_abs d.year) d.month d.day
date_is d n e le =
    let b = year_between d n e le in
    let size = is_size d.year (omega (arith, signed_arith, b)) in
    day_is d n (unsigned_abs d.year) e size (omega (arith, signed_arith, b, size)) (omega (arith, signed_arith, b, size))

-- a day lies in the month of its date
pub day_in_month : (n y m d : ℕ) → IsDayOf n y m d → (first_day (month_number y m) ≤ n) × (n < first_day (month_number y m + 1))
day_in_month n y m d is =
    let k = month_number y m in
    let yk : year_of k ≡ y = omega (arith, is.year_in, is.month_in) in
    let mk : month_of_year k ≡ m = omega (arith, is.year_in, is.month_in) in
    let s : first_day (k + 1) ≡ first_day k + days_in_month y m = subst
    (λ a. first_day (k + 1) ≡ first_day k + days_in_month a m) yk
    (subst (λ b. first_day (k + 1) ≡ first_day k + days_in_month (year_of k) b) mk (first_day_next k)) in
    (omega (arith, is.counted, is.day_in), omega (arith, is.counted, is.day_in, s))

pub moment_in_month : (n ms y m d : ℕ) → n ≡ ms → IsDayOf (n / day) y m d → IsInMonth (month_number y m) ms
moment_in_month n ms y m d same is =
    let b = day_in_month (n / day) y m d is in
    record { begun = omega (arith, b, same); not_over = omega (arith, b, same) }

-- a month that has begun by 2100 is one of the office's, or the first one after them
until_end : (k m : ℕ) (b : Bool) → nat_le k months ≡ b → month_start k ≤ m → m ≤ end_of_time → k ≤ months
until_end k m true e begun small = grind (arith, nat_tests)
until_end k m false e begun small =
    let gt : months + 1 ≤ k = grind (arith, nat_tests) in
    let o = first_day_order (months + 1) k gt in
    let h = month_has_days months in
    absurd (omega (arith, o, h, first_day_end, begun, small))

pub month_until_end : (k m : ℕ) → month_start k ≤ m → m ≤ end_of_time → k ≤ months
month_until_end k m begun small = until_end k m _ refl begun small

-- a month of the office ends by 2100
pub first_day_small : (k : ℕ) → k < months → first_day (k + 1) ≤ 47_482
first_day_small k small = first_day_bound (k + 1) (omega (arith, small))

-- each moment lies in a month
some_case : (m n : ℕ) (b : Bool) → nat_le (month_start n) m ≡ b → m < month_end n → (m < month_start n → (k : ℕ) × IsInMonth k m) → (k : ℕ) × IsInMonth k m
some_case m n true e small before = (n, record { begun = grind (arith, nat_tests); not_over = small })
some_case m n false e small before = before (grind (arith, nat_tests))

some_month : (m n : ℕ) → m < month_start n → (k : ℕ) × IsInMonth k m
some_month m zero small = absurd (omega (arith, first_day_begin, small))
some_month m (suc n) small =
    let e : suc n ≡ n + 1 = omega arith in
    some_case m n _ refl (subst (λ k. m < month_start k) e small) (some_month m n)

pub in_month_at : (m : ℕ) → m < end_of_time → IsInMonth (months_over m months) m
in_month_at m small =
    let some = some_month m months (omega (arith, first_day_end, small)) in
    let at : months_over m months ≡ some.0 = month_at_is m some.0 some.1 (month_until_end some.0 m some.1.begun (omega (arith, small))) in
    subst (λ k. IsInMonth k m) (sym at) some.1
