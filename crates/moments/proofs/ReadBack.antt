-- A date that is written is read back.
use Rattle.std.proofs.Common.{◌≡◌, sym, ℕ, ◌+◌, ◌-◌, ◌/◌, ◌%◌, ◌<◌, ◌≤◌, true, List, ◌++◌, length, refl, ap, subst, arith}
use Rattle.std.specs.Prelude.{nat_le, codes}
use Rattle.std.proofs.lemmas.Bool.Decides.{nat_tests}
use Rattle.moments.specs.Time.{day, end_of_time}
use Rattle.moments.specs.Months.{months, months_over, month_number, month_start, year_of, month_of_year, days_in_month, has_month, has_day}
use Rattle.moments.specs.Texts.{date_text, clock_text, moment_text}
use Rattle.moments.specs.Dates.{is_digit, begins_with_month, begins_with_date, year_in, month_in, day_in, is_day, begins_with_clock, is_time, is_date, is_at_midnight, midnight_of, IsReadAs}
use Rattle.moments.proofs.Calendar.{in_month_at, month_small, first_day_next, month_has_days}

digit : (n : ℕ) → n < 10 → is_digit (48 + n) ≡ true
digit n small = grind (arith, nat_tests)

first_digit : (n : ℕ) → is_digit (48 + n / 10 % 10) ≡ true
first_digit n = digit (n / 10 % 10) (omega arith)

second_digit : (n : ℕ) → is_digit (48 + n % 10) ≡ true
second_digit n = digit (n % 10) (omega arith)

pub month_form : (y m d : ℕ) (rest : List ℕ) → begins_with_month (date_text y m d ++ rest) ≡ true
unfolding begins_with_month
month_form y m d rest =
    let long : nat_le 7 (length (date_text y m d ++ rest)) ≡ true = grind (arith, nat_tests) in
    rw (long, first_digit (y / 100), second_digit (y / 100), first_digit y, second_digit y, first_digit m, second_digit m) refl

pub date_form : (y m d : ℕ) (rest : List ℕ) → begins_with_date (date_text y m d ++ rest) ≡ true
unfolding begins_with_date
date_form y m d rest =
    let long : nat_le 10 (length (date_text y m d ++ rest)) ≡ true = grind (arith, nat_tests) in
    rw (month_form y m d rest, long, first_digit d, second_digit d) refl

year_back : (y m d : ℕ) (rest : List ℕ) → y ≤ 2099 → year_in (date_text y m d ++ rest) ≡ y
year_back y m d rest small = omega (arith, small)

month_back : (y m d : ℕ) (rest : List ℕ) → m ≤ 12 → month_in (date_text y m d ++ rest) ≡ m
month_back y m d rest small = omega (arith, small)

day_back : (y m d : ℕ) (rest : List ℕ) → d ≤ 31 → day_in (date_text y m d ++ rest) ≡ d
day_back y m d rest small = omega (arith, small)

midnight_time : is_time (codes "T00:00:00.000Z") ≡ true
unfolding is_time begins_with_clock
midnight_time = refl

-- a date with midnight as its time
pub date_back : (y m d : ℕ) → is_day y m d ≡ true → y ≤ 2099 → m ≤ 12 → d ≤ 31 → is_date (date_text y m d ++ codes "T00:00:00.000Z") ≡ true
unfolding is_date
date_back y m d is ys ms ds =
    let rest = codes "T00:00:00.000Z" in
    rw (date_form y m d rest, year_back y m d rest ys, month_back y m d rest ms, day_back y m d rest ds, is, midnight_time) refl

pub midnight_back : (y m d : ℕ) → is_at_midnight (date_text y m d ++ codes "T00:00:00.000Z") ≡ true
unfolding is_at_midnight
midnight_back y m d = refl

-- the days of the months of moments
day_is : (k d : ℕ) → k < months → 1 ≤ d → d ≤ days_in_month (year_of k) (month_of_year k) → is_day (year_of k) (month_of_year k) d ≡ true
day_is k d ks from until =
    let number : month_number (year_of k) (month_of_year k) ≡ k = omega arith in
    let month : has_month (year_of k) (month_of_year k) ≡ true = grind (arith, nat_tests) in
    let in_month : has_day k d ≡ true = grind (arith, nat_tests) in
    rw (month, number, in_month) refl

-- what a printed midnight is read as
pub read_back : (at : ℕ) → at < end_of_time → at % day ≡ 0 → IsReadAs (moment_text at) at
unfolding moment_text
read_back at small midnight =
    let within = in_month_at at small in
    let k : ℕ = months_over at months in
    let y : ℕ = year_of k in
    let m : ℕ = month_of_year k in
    let d : ℕ = (at - month_start k) / day + 1 in
    let ks : k < months = month_small k at within.begun small in
    let next = first_day_next k in
    let days = month_has_days k in
    let from : 1 ≤ d = omega arith in
    let until : d ≤ days_in_month (year_of k) (month_of_year k) = omega (arith, within, next) in
    let is : is_day y m d ≡ true = day_is k d ks from until in
    let text : moment_text at ≡ date_text y m d ++ codes "T00:00:00.000Z" = ap (λ time. date_text y m d ++ codes "T" ++ clock_text time ++ codes "Z") midnight in
    let ys : y ≤ 2099 = omega (arith, ks) in
    let ms : m ≤ 12 = omega arith in
    let ds : d ≤ 31 = omega (arith, within, days) in
    let number : month_number y m ≡ k = omega arith in
    let rest = codes "T00:00:00.000Z" in
    let begins : midnight_of (date_text y m d ++ codes "T00:00:00.000Z") ≡ at =
    rw (year_back y m d rest ys, month_back y m d rest ms, day_back y m d rest ds, number) (omega (arith, within.begun, midnight)) in
    subst (λ t. IsReadAs t at) (sym text) (record { date = date_back y m d is ys ms ds; at_midnight = midnight_back y m d; midnight = sym begins })
