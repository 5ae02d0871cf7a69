-- The months are those of jiff's calendar.
use Rattle.std.specs.Prelude.{◌≡◌, ℕ, pos}
use Rattle.jiff_core.specs.Calendar.{days_from_civil, days_in_month as jiff_days_in_month}
use Rattle.moments.specs.Months.{year_of, month_of_year, days_in_month, first_day}

-- the first day of the month has the same number in jiff's calendar
abbrev pub IsFirstOfMonth : ℕ → Type 0
IsFirstOfMonth month = days_from_civil (pos (year_of month)) (month_of_year month) 1 ≡ pos (first_day month)

-- the month has as many days as in jiff's calendar
abbrev pub IsAsLong : ℕ → Type 0
IsAsLong month =
    days_in_month (year_of month) (month_of_year month) ≡ jiff_days_in_month (pos (year_of month)) (month_of_year month)
