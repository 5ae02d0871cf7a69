-- How dates and months are read: YYYY-MM-DD, or the same followed by T, a time and an offset of zero; and YYYY-MM.
use Rattle.std.specs.Prelude.{◌≡◌, ℕ, ◌+◌, ◌-◌, ◌*◌, Bool, true, false, ◌&&◌, ◌||◌, ◌==◌, nat_le, nat_lt, List, [], ◌∷◌, length, drop}
use Rattle.std.specs.Prelude.{slice_index, take_while, bytes_eq, codes, if◌then◌else◌}
use Rattle.std.specs.List.{list_all}
use Rattle.moments.specs.Months.{month_number, has_month, has_day, midnight_in}

-- an ASCII digit
abbrev pub is_digit : ℕ → Bool
is_digit c = nat_le 48 c && nat_le c 57

-- two digits are at this place
abbrev pub has_two_at : List ℕ → ℕ → Bool
has_two_at text at = is_digit (slice_index text at) && is_digit (slice_index text (at + 1))

-- the number of two digits at this place, from 0 to 99
abbrev pub two_at : List ℕ → ℕ → ℕ
two_at text at = (slice_index text at - 48) * 10 + (slice_index text (at + 1) - 48)

-- the text begins with four digits, a hyphen and two digits, as 2014-01
unfoldable pub begins_with_month : List ℕ → Bool
begins_with_month text =
    nat_le 7 (length text) && has_two_at text 0 && has_two_at text 2 && (slice_index text 4 == 45) && has_two_at text 5

-- the year of the month with which a text begins
abbrev pub year_in : List ℕ → ℕ
year_in text = two_at text 0 * 100 + two_at text 2

-- the month of the year, from 1 for January
abbrev pub month_in : List ℕ → ℕ
month_in text = two_at text 5

-- a month from 1970-01 to 2099-12, as 2014-01
unfoldable pub is_month : List ℕ → Bool
is_month text = begins_with_month text && (length text == 7) && has_month (year_in text) (month_in text)

-- the text begins with a month, a hyphen and two digits, as 2014-01-19
unfoldable pub begins_with_date : List ℕ → Bool
begins_with_date text =
    begins_with_month text && nat_le 10 (length text) && (slice_index text 7 == 45) && has_two_at text 8

-- the day of the month, from 1
abbrev pub day_in : List ℕ → ℕ
day_in text = two_at text 8

-- the calendar has the date, from 1970-01-01 to 2099-12-31
abbrev pub is_day : ℕ → ℕ → ℕ → Bool
is_day year month day_of_month = has_month year month && has_day (month_number year month) day_of_month

-- the text is an offset of zero: Z, +00:00 or -00:00
abbrev pub is_utc : List ℕ → Bool
is_utc text = bytes_eq text (codes "Z") || bytes_eq text (codes "+00:00") || bytes_eq text (codes "-00:00")

-- how many digits the text begins with
abbrev pub digit_count : List ℕ → ℕ
digit_count text = length (take_while is_digit text)

-- the text is an offset of zero, with an optional point and 1 to 9 digits before it
abbrev pub is_clock_end : List ℕ → Bool
is_clock_end [] = false
is_clock_end (c ∷ text) =
    if c == 46 then nat_le 1 (digit_count text) && nat_le (digit_count text) 9 && is_utc (drop (digit_count text) text)
    else is_utc (c ∷ text)

-- two digits are at this place, and their number is not above the limit
abbrev pub has_part_at : List ℕ → ℕ → ℕ → Bool
has_part_at text at limit = has_two_at text at && nat_le (two_at text at) limit

-- the text begins with hours, minutes and seconds, as T10:30:00
unfoldable pub begins_with_clock : List ℕ → Bool
begins_with_clock text =
    nat_le 9 (length text) && (slice_index text 0 == 84)
    && has_part_at text 1 23 && (slice_index text 3 == 58) && has_part_at text 4 59 && (slice_index text 6 == 58)
    && has_part_at text 7 59

-- a time in UTC
unfoldable pub is_time : List ℕ → Bool
is_time text = begins_with_clock text && is_clock_end (drop 9 text)

-- a date of the calendar, with or without a time
unfoldable pub is_date : List ℕ → Bool
is_date text =
    begins_with_date text && ((length text == 10) || is_time (drop 10 text))
    && is_day (year_in text) (month_in text) (day_in text)

-- any character but a digit from 1 to 9
abbrev pub is_zero_digit : ℕ → Bool
is_zero_digit c = nat_lt c 49 || nat_lt 57 c

-- the time of a date, if it has one, is midnight: after the date the only digit is 0
unfoldable pub is_at_midnight : List ℕ → Bool
is_at_midnight text = list_all is_zero_digit (drop 10 text)

-- the midnight at which the date in the text begins
abbrev pub midnight_of : List ℕ → ℕ
midnight_of text = midnight_in (month_number (year_in text) (month_in text)) (day_in text)

-- the text is a date at midnight, and is read as the moment m
pub record IsReadAs (text : List ℕ) (m : ℕ) : Type 0 where
  pub date : is_date text ≡ true
  pub at_midnight : is_at_midnight text ≡ true
  pub midnight : m ≡ midnight_of text
