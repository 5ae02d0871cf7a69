-- An account made of a bucket's records and of the sums of its months: it has no history, and only its open stays follow
-- from the records.
use Rattle.std.specs.Prelude.{◌≡◌, ℕ, ◌*◌, ◌^◌, ◌≤◌, List, ◌++◌, map, flat_map}
use Rattle.stacks.specs.Stacks.{StackRecord}
use Rattle.uploads.specs.Uploads.{UploadRecord}
use Rattle.accrual.specs.Books.{Book}
use Rattle.accrual.specs.Totals.{Totals, AreTotalsOf}
use Rattle.accrual.specs.Sums.{AreSumsOf}
use Rattle.accrual.specs.declared.monthly.MonthSums.{MonthSums}
use Rattle.due_core.specs.Buckets.{BucketRecord}
use Rattle.plain_office.specs.Office.{Account, Booked, stay_in, book_of}
use Rattle.plain_office.specs.Counts.{limit_of, version_count, part_count, name_bytes}
use Rattle.office_types.specs.declared.refusal.What.TheVariants.{Parts, Names}
use Rattle.plain_office.specs.Orderly.{stay_of_version, stay_of_part, HasOpenStays}

-- ---- the stays that records ask to be open

-- the stays that the versions of a key ask to be open
abbrev pub stack_stays : List ℕ × StackRecord → List Booked
stack_stays entry = map (stay_of_version entry.0) entry.1.versions

-- the stays that the parts of an upload ask to be open
abbrev pub upload_stays : ℕ × UploadRecord → List Booked
upload_stays entry = map (λ part. stay_of_part entry.0 entry.1 part.0 part.1) entry.1.parts

-- the stays that all versions and parts of a bucket ask to be open
abbrev pub open_stays : BucketRecord → List Booked
open_stays bucket = flat_map stack_stays bucket.stacks ++ flat_map upload_stays bucket.uploads

-- the new meters stand for each book of the old ones with these stays added after all others
abbrev pub AddsStays : List Booked → Totals → Totals → Type 0
AddsStays stays old new =
    (book : Book) → AreTotalsOf old book → AreTotalsOf new (record book { stays = book.stays ++ map stay_in stays })

-- ---- the account

-- few enough versions and parts that empty meters have room for the stay of each, and next numbers that later commands
-- can go on from (own)
pub record IsSmallBucket (bucket : BucketRecord) : Type 0 where
  pub versions : version_count bucket ≤ 400_000
  pub parts : part_count bucket ≤ 500_000
  pub next_version : bucket.next_version ≤ 2 ^ 62
  pub next_upload : bucket.next_upload ≤ 2 ^ 62

-- no more of each kind than can be counted
pub record AreFewIn (bucket : BucketRecord) : Type 0 where
  pub parts : part_count bucket ≤ 2 * limit_of Parts
  pub names : name_bytes bucket ≤ 2 * limit_of Names

-- the plain account has these records, the open stays that they ask for, and books with these sums
pub record IsAccountOf (records : BucketRecord) (months : List MonthSums) (account : Account) : Type 0 where
  pub bucket : account.bucket ≡ records
  pub stays : HasOpenStays account
  pub sums : AreSumsOf (book_of account.books) months
