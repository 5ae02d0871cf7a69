-- What a bucket in memory stands for. The plain office has lists; the bucket keeps records and totals.
use Rattle.std.specs.Prelude.{◌≡◌, ℕ, ◌^◌}
use Rattle.accrual.specs.Books.{Book}
use Rattle.accrual.specs.Totals.{AreTotalsOf}
use Rattle.plain_office.specs.Office.{Account, book_of}
use Rattle.bucket_account.specs.Counting.{AccountRecord}

-- fewer commands than this are accepted, which keeps every sum of the meters below 2^121
abbrev pub most_commands : ℕ
most_commands = 2 ^ 42

-- the bucket has these records, and its meters stand for its book
pub record StandsForAccount (records : AccountRecord) (account : Account) : Type 0 where
  pub bucket : records.bucket ≡ account.bucket
  pub meters : AreTotalsOf records.meters (book_of account.books)

-- the copy has the same records; its meters stand for each book that the others stand for, after as many bookings
pub record IsCopyOf (copy records : AccountRecord) : Type 0 where
  pub bucket : copy.bucket ≡ records.bucket
  pub meters : (book : Book) → AreTotalsOf records.meters book → AreTotalsOf copy.meters book
  pub booked : copy.meters.booked ≡ records.meters.booked
