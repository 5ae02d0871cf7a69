-- The rows that are read of a month.
use Rattle.std.specs.Prelude.{◌≡◌, Bool, true, ◌&&◌, List, [], ◌∷◌, map}
use Rattle.std.specs.List.{AllByRecursion}
use Rattle.std.specs.Ordering.{is_lt}
use Rattle.office_base.specs.Maps.{bytes_cmp}
use Rattle.office_base.specs.Names.{IsBucketName}
use Rattle.sqlite_value.specs.declared.value.Value.TheVariants.{Text}
use Rattle.sqlite_value.specs.Order.{Row, column}
use Rattle.bill_book.specs.declared.bill.Bill.{Bill}
use Rattle.bill_rows.specs.Books.{text_in, bill_of}

-- the bill in a row that was read: the bucket, the total, the lines
abbrev pub answer_bill : Row → Bill
answer_bill row = bill_of (column row 0) (column row 1) (column row 2)

-- the row has the name of a bucket
abbrev pub NamesBucket : Row → Type 0
NamesBucket row = (column row 0 ≡ Text (text_in (column row 0))) × IsBucketName (text_in (column row 0))

-- the bucket of each bill is below that of the next
abbrev pub rises : List Bill → Bool
rises [] = true
rises (bill ∷ []) = true
rises (bill ∷ next ∷ more) = is_lt (bytes_cmp bill.bucket next.bucket) && rises (next ∷ more)

-- The rows of a month are its header, which has no bucket, and its bills, in byte order of the bucket.
pub record AreRead (rows : List Row) (bills : List Bill) : Type 0 where
  pub header : Row
  pub rest : List Row
  pub are : rows ≡ header ∷ rest
  pub headed : column header 0 ≡ Text []
  pub named : AllByRecursion NamesBucket rest
  pub bills_are : bills ≡ map answer_bill rest
  pub rise : rises bills ≡ true
