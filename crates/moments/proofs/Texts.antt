-- The text of a moment is that of its day and its time.
use Rattle.std.proofs.Common.{◌≡◌, ℕ, ◌+◌, ◌-◌, ◌/◌, ◌%◌, ◌≤◌, ◌++◌, refl, arith}
use Rattle.std.specs.Prelude.{codes}
use Rattle.moments.specs.Time.{day, end_of_time}
use Rattle.moments.specs.Months.{months, months_over, month_number, month_start, year_of, month_of_year, IsDayOf}
use Rattle.moments.specs.Texts.{date_text, clock_text, moment_text}
use Rattle.moments.proofs.Calendar.{moment_in_month, month_at_is, month_until_end}

pub moment_text_is : (ms y m d : ℕ) → ms ≤ end_of_time → IsDayOf (ms / day) y m d
    → moment_text ms ≡ date_text y m d ++ codes "T" ++ clock_text (ms % day) ++ codes "Z"
unfolding moment_text
moment_text_is ms y m d le is =
    let k = month_number y m in
    let within = moment_in_month ms ms y m d refl is in
    let at : months_over ms months ≡ k = month_at_is ms k within (month_until_end k ms within.begun le) in
    let year : year_of k ≡ y = omega (arith, is.year_in, is.month_in) in
    let month : month_of_year k ≡ m = omega (arith, is.year_in, is.month_in) in
    let day_of_month : (ms - month_start k) / day + 1 ≡ d = omega (arith, is.counted, is.day_in) in
    rw (at, year, month, day_of_month) refl
