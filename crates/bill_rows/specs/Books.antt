-- The book of bills that rows of the table mean.
use Rattle.std.specs.Prelude.{◌≡◌, ℕ, pos, Bool, true, not, ◌&&◌, nat_lt, List, [], ◌∷◌, Some, None, map}
use Rattle.std.specs.Prelude.{filter, if◌then◌else◌}
use Rattle.std.specs.List.{AllByRecursion, list_any}
use Rattle.std.specs.Ordering.{is_lt}
use Rattle.std.specs.Str.Parse.{digits_value}
use Rattle.office_base.specs.Maps.{bytes_cmp}
use Rattle.moments.specs.Months.{months}
use Rattle.sqlite_value.specs.declared.value.Value.{Value}
use Rattle.sqlite_value.specs.declared.value.Value.TheVariants.{Null, Int, Real, Text, Blob}
use Rattle.sqlite_value.specs.Order.{Row, column}
use Rattle.bill_book.specs.declared.bill.Bill.{Bill}
use Rattle.bill_book.specs.Books.{Book}
use Rattle.bill_rows.specs.Months.{month_text}
use Rattle.bill_rows.specs.Rows.{in_month, is_at}

-- the text in a column
abbrev pub text_in : Value → List ℕ
text_in (Text t) = t
text_in Null = []
text_in (Int n) = []
text_in (Real x) = []
text_in (Blob b) = []

-- the number in a column
abbrev pub count_in : Value → ℕ
count_in (Int (pos n)) = n
count_in _ = 0

-- a bill, from its bucket, its total in digits, and how many lines it is of
abbrev pub bill_of : Value → Value → Value → Bill
bill_of bucket total lines =
    record { bucket = text_in bucket; total = digits_value 10 (text_in total); lines = count_in lines }

-- the bill in a row of the table
abbrev pub bill_in : Row → Bill
bill_in row = bill_of (column row 2) (column row 3) (column row 4)

-- the bills with this one before the first whose bucket is not before its own in byte order
abbrev pub with_bill : Bill → List Bill → List Bill
with_bill bill [] = bill ∷ []
with_bill bill (other ∷ others) =
    if is_lt (bytes_cmp other.bucket bill.bucket) then other ∷ with_bill bill others else bill ∷ other ∷ others

-- bills in byte order of their buckets
abbrev pub in_order : List Bill → List Bill
in_order [] = []
in_order (bill ∷ bills) = with_bill bill (in_order bills)

-- the month has its header, the row without a bucket
abbrev pub has_header : List ℕ → List Row → Bool
has_header month rows = list_any (is_at month []) rows

-- the row is that of a bill of the month
abbrev pub is_bill_of : List ℕ → Row → Bool
is_bill_of month row = in_month month row && not (is_at month [] row)

-- the bills in the month's rows
abbrev pub bills_in : List ℕ → List Row → List Bill
bills_in month rows = in_order (map bill_in (filter (is_bill_of month) rows))

-- each month that has a header, with the bills of its other rows in byte order of the bucket
unfoldable pub book_of : List Row → Book
book_of rows month =
    if nat_lt month months && has_header (month_text month) rows then Some (bills_in (month_text month) rows) else None

-- each month with a row has its header
abbrev pub AreHeaded : List Row → Type 0
AreHeaded rows = AllByRecursion (λ row. has_header (text_in (column row 1)) rows ≡ true) rows
