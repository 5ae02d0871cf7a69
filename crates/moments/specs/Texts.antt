-- How moments are written.
use Rattle.std.specs.Prelude.{ℕ, ◌+◌, ◌-◌, ◌/◌, ◌%◌, List, [], ◌∷◌, ◌++◌, codes}
use Rattle.moments.specs.Time.{day}
use Rattle.moments.specs.Months.{month_at, month_start, year_of, month_of_year}

-- the last two digits of a number
abbrev pub two_digits : ℕ → List ℕ
two_digits n = (48 + n / 10 % 10) ∷ (48 + n % 10) ∷ []

-- a date, as 2014-01-19
abbrev pub date_text : ℕ → ℕ → ℕ → List ℕ
date_text year month day_of_month =
    two_digits (year / 100) ++ two_digits year ++ codes "-" ++ two_digits month ++ codes "-" ++ two_digits day_of_month

-- the text of the milliseconds since midnight, as 10:30:00.000
abbrev pub clock_text : ℕ → List ℕ
clock_text time =
    two_digits (time / 3_600_000) ++ codes ":" ++ two_digits (time / 60_000 % 60) ++ codes ":"
    ++ two_digits (time / 1_000 % 60)
    ++ codes "." ++ (48 + time / 100 % 10) ∷ two_digits time

-- a moment, as 2014-01-19T00:00:00.000Z
unfoldable pub moment_text : ℕ → List ℕ
moment_text m =
    let month = month_at m in
    date_text (year_of month) (month_of_year month) ((m - month_start month) / day + 1) ++ codes "T"
    ++ clock_text (m % day) ++ codes "Z"
