-- Running totals by month and class in place of a book, and when they agree with one.
use Rattle.std.specs.Prelude.{◌≡◌, ℕ, ◌+◌, ◌-◌, ◌*◌, ◌^◌, ◌≤◌, min, max, Bool, true, false, ◌&&◌, List, ◌∷◌, ◌++◌, Option, Some, None}
use Rattle.std.specs.Prelude.{sum_by, nat_lt, if◌then◌else◌}
use Rattle.office_base.specs.Sizes.{largest_size}
use Rattle.moments.specs.Months.{month_start, month_end}
use Rattle.class_rules.specs.Classes.{rank_of, least_stay}
use Rattle.class_rules.specs.declared.class.Class.{Class}
use Rattle.class_rules.specs.declared.billing.Lines.{Lines}
use Rattle.accrual.specs.declared.rows.Numbers.{Numbers}
use Rattle.accrual.specs.declared.rows.Rows.{Rows}
use Rattle.accrual.specs.Books.{Stay, Book, open_stay, book_with_early}
use Rattle.accrual.specs.Meters.{bytes_in_class, is_in_month, early_quantity, move_count}
use Rattle.accrual.specs.Rows.{kept_in, ended_in, HasRowIn}

-- meters as contracts see them: rows by month, and the number of calls of open, early and moved
pub record Totals : Type 0 where
  pub rows : Rows
  pub booked : ℕ

-- what is kept for a class in a month; nothing if the month has no row
abbrev pub kept : Totals → ℕ → Class → Numbers
kept totals month class = kept_in totals.rows month (rank_of class)

-- the month has a row
abbrev pub HasRow : Totals → ℕ → Type 0
HasRow totals month = HasRowIn totals.rows month

-- the most calls of open, early and moved; an end counts with its opening (own). With this bound no sum leaves its
-- range. It allows three such calls in each of 2 ^ 42 commands, and 2 ^ 20 calls before them.
abbrev pub most_bookings : ℕ
most_bookings = 3 * 2 ^ 42 + 2 ^ 20

-- ---- what is kept for one stay

-- a stay with this end has not ended
abbrev pub has_no_end : Option ℕ → Bool
has_no_end None = true
has_no_end (Some to) = false

-- the milliseconds from one moment to another that are inside a window
abbrev pub ms_within : ℕ → ℕ → ℕ → ℕ → ℕ
ms_within start end from to = min to end - max from start

-- the milliseconds of a stay that are inside a window; 0 if it has not ended
abbrev pub ended_ms : ℕ → ℕ → ℕ → Option ℕ → ℕ
ended_ms start end from None = 0
ended_ms start end from (Some to) = ms_within start end from to

-- the bytes of a stay in the class, if it has not ended and began in the month; else 0
abbrev pub running_bytes : ℕ → Class → Stay → ℕ
running_bytes month class stay =
    if has_no_end stay.to && is_in_month month stay.from then bytes_in_class class stay.lines else 0

-- ---- what is kept for all stays, by month and class

-- the byte-milliseconds inside the month of the stays that have ended
unfoldable pub ended_sum : ℕ → Class → Book → ℕ
ended_sum month class book =
    sum_by (λ (stay : Stay). bytes_in_class class stay.lines
    * ended_ms (month_start month) (month_end month) stay.from stay.to) book.stays

-- the bytes of the stays without an end that began in the month
unfoldable pub running_sum : ℕ → Class → Book → ℕ
running_sum month class book = sum_by (λ (stay : Stay). running_bytes month class stay) book.stays

-- the byte-milliseconds of these stays from the month's start to their beginnings
unfoldable pub lead_sum : ℕ → Class → Book → ℕ
lead_sum month class book =
    sum_by (λ (stay : Stay). running_bytes month class stay * (stay.from - month_start month)) book.stays

-- the totals agree with the book: each kept number is its sum over the book; a month without a row counts as 0
pub record AreTotalsOf (totals : Totals) (book : Book) : Type 0 where
  pub ended : (month : ℕ) (class : Class) → ended_in totals.rows month (rank_of class) ≡ ended_sum month class book
  pub running : (month : ℕ) (class : Class) → (kept totals month class).running ≡ running_sum month class book
  pub lead : (month : ℕ) (class : Class) → (kept totals month class).lead ≡ lead_sum month class book
  pub early : (month : ℕ) (class : Class) → (kept totals month class).early ≡ early_quantity month class book
  pub moves : (month : ℕ) (class : Class) → (kept totals month class).moves ≡ move_count month class book

-- ---- what is booked

-- the book has a stay with these lines that began at this moment and has not ended
abbrev pub HasOpenStay : List (Class × ℕ) → ℕ → Book → Type 0
HasOpenStay lines from book = (before after : List Stay) × (book.stays ≡ before ++ open_stay lines from ∷ after)

-- lines whose bytes are within the largest billed object
abbrev pub IsBilled : Lines → Type 0
IsBilled lines = (lines.bytes ≤ largest_size + 32_768) × (lines.standard ≤ largest_size + 32_768)

-- the book, with an early quantity if an object with these bytes on its own line left before the minimum storage
-- duration was over (S3 User Guide, "Understanding and managing Amazon S3 storage classes": minimum storage durations)
abbrev pub with_early_of : Class → ℕ → ℕ → ℕ → Book → Book
with_early_of class bytes entered at book =
    if nat_lt at (entered + least_stay class)
    then book_with_early
    (record { class = class; amount = bytes * (entered + least_stay class - at); moment = at }) book
    else book
