-- Calendar months. A month is counted from 0 for January 1970.
use Rattle.std.specs.Prelude.{◌≡◌, ℕ, zero, suc, ◌+◌, ◌-◌, ◌*◌, ◌/◌, ◌%◌, ◌<◌, ◌≤◌, ◌==◌, nat_le, Bool, not, ◌&&◌, ◌||◌, if◌then◌else◌}
use Rattle.moments.specs.Time.{day}

-- the number of months from 1970-01 to 2099-12
abbrev pub months : ℕ
months = 1560

-- the year of the month
abbrev pub year_of : ℕ → ℕ
year_of month = 1970 + month / 12

-- the place of the month in its year, from 1 for January
abbrev pub month_of_year : ℕ → ℕ
month_of_year month = month % 12 + 1

-- the number of a month, given its year and its place in the year (from 1 for January)
abbrev pub month_number : ℕ → ℕ → ℕ
month_number year month = (year - 1970) * 12 + (month - 1)

-- a year and a month from 1970-01 to 2099-12
abbrev pub has_month : ℕ → ℕ → Bool
has_month year month = nat_le 1970 year && nat_le year 2099 && nat_le 1 month && nat_le month 12

-- every fourth year, except centuries that are not divisible by 400
abbrev pub is_leap_year : ℕ → Bool
is_leap_year year = (year % 4 == 0) && (not (year % 100 == 0) || (year % 400 == 0))

-- how many days the month has; 1 is January
abbrev pub days_in_month : ℕ → ℕ → ℕ
days_in_month year month =
    if month == 2 then (if is_leap_year year then 29 else 28)
    else (if (month == 4) || (month == 6) || (month == 9) || (month == 11) then 30 else 31)

-- the days of the first n months of the year
unfoldable pub days_of_months : ℕ → ℕ → ℕ
days_of_months year zero = 0
days_of_months year (suc n) = days_of_months year n + days_in_month year (suc n)

-- the days of the years before this one, by the Gregorian calendar
abbrev pub days_before_year : ℕ → ℕ
days_before_year year = let y = year - 1 in 365 * y + y / 4 - y / 100 + y / 400

-- the days from 1970-01-01 to the first day of the month
unfoldable pub first_day : ℕ → ℕ
first_day month = days_before_year (year_of month) - days_before_year 1970 + days_of_months (year_of month) (month % 12)

-- the first moment of a month (S3 User Guide, "Understanding your AWS billing and usage reports for Amazon S3": usage
-- is reported by calendar months in UTC)
abbrev pub month_start : ℕ → ℕ
month_start month = first_day month * day

-- the first moment after the month
abbrev pub month_end : ℕ → ℕ
month_end month = month_start (month + 1)

-- the milliseconds of the month
abbrev pub month_length : ℕ → ℕ
month_length month = month_end month - month_start month

-- the month has a day of this number, from 1
abbrev pub has_day : ℕ → ℕ → Bool
has_day month day_of_month =
    nat_le 1 day_of_month && nat_le day_of_month (days_in_month (year_of month) (month_of_year month))

-- the midnight at which that day begins
abbrev pub midnight_in : ℕ → ℕ → ℕ
midnight_in month day_of_month = (first_day month + (day_of_month - 1)) * day

-- the moment is in the month
pub record IsInMonth (month m : ℕ) : Type 0 where
  pub begun : month_start month ≤ m
  pub not_over : m < month_end month

-- how many of the first n months have ended by the moment
unfoldable pub months_over : ℕ → ℕ → ℕ
months_over m zero = 0
months_over m (suc n) = months_over m n + (if nat_le (month_end n) m then 1 else 0)

-- the month that contains the moment: its number is how many months have ended
abbrev pub month_at : ℕ → ℕ
month_at m = months_over m months

-- the day with this number, from 0 for 1970-01-01, has this date
pub record IsDayOf (number year month day_of_month : ℕ) : Type 0 where
  pub year_in : (1970 ≤ year) × (year ≤ 2100)
  pub month_in : (1 ≤ month) × (month ≤ 12)
  pub day_in : (1 ≤ day_of_month) × (day_of_month ≤ days_in_month year month)
  pub counted : number + 1 ≡ first_day (month_number year month) + day_of_month
