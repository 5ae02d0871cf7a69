-- The buckets in memory and the parts of a snapshot.
use Rattle.std.specs.Prelude.{◌≡◌, ℕ, ◌*◌, ◌≤◌, List, [], ◌∷◌, map, sum_by, All}
use Rattle.std.specs.List.{AllByRecursion}
use Rattle.office_base.specs.Maps.{bytes_cmp, Rises}
use Rattle.accrual.specs.Sums.{AreSumsOf, HaveRisingMonths, IsSmallMonth}
use Rattle.plain_office.specs.Office.{Account, empty_books, book_of}
use Rattle.plain_office.specs.Counts.{limit_of}
use Rattle.plain_office.specs.Orderly.{IsOrderlyBucket}
use Rattle.office_types.specs.declared.refusal.What.{What}
use Rattle.bucket_account.specs.Counting.{AccountRecord, IsWithinBy, in_bucket}
use Rattle.bucket_account.specs.Restoring.{IsSmallBucket, IsAccountOf, AreFewIn}
use Rattle.bucket_account.specs.Standing.{StandsForAccount}
use Rattle.office_snapshot.specs.Restorable.{HaveForm}
use Rattle.office_snapshot.specs.Snapshots.{BucketPartRecord}

-- ---- a part is made of a bucket

-- the part has the bucket's name and records, and the sums of every account for which the bucket stands
pub record IsPartOf (part : BucketPartRecord) (entry : List ℕ × AccountRecord) : Type 0 where
  pub name : part.name ≡ entry.0
  pub bucket : part.bucket ≡ entry.1.bucket
  pub sums : (account : Account) → StandsForAccount entry.1 account → AreSumsOf (book_of account.books) part.sums
  pub form : HaveForm part.sums

-- the parts are made of the buckets one by one: as many, and in the same order
abbrev pub ArePartsOf : List BucketPartRecord → List (List ℕ × AccountRecord) → Type 0
ArePartsOf [] [] = Unit {0}
ArePartsOf [] (entry ∷ entries) = ⊥
ArePartsOf (part ∷ parts) [] = ⊥
ArePartsOf (part ∷ parts) (entry ∷ entries) = IsPartOf part entry × ArePartsOf parts entries

-- ---- a bucket is made of a part

-- the part has what a bucket in memory can be made of
pub record IsMakable (part : BucketPartRecord) : Type 0 where
  pub last : ℕ
  pub orderly : IsOrderlyBucket last part.bucket
  pub few : IsSmallBucket part.bucket
  pub rising : HaveRisingMonths part.sums
  pub small : All IsSmallMonth part.sums

-- the bucket has the part's name and records, stands for every account that the part shows, and has room for what later
-- commands book
pub record IsMadeOf (entry : List ℕ × AccountRecord) (part : BucketPartRecord) : Type 0 where
  pub name : entry.0 ≡ part.name
  pub bucket : entry.1.bucket ≡ part.bucket
  pub stands : (account : Account) → IsAccountOf part.bucket part.sums account → StandsForAccount entry.1 account
  pub room : IsWithinBy 0 entry.1

-- the buckets are made of the parts one by one: as many, and in the same order
abbrev pub AreMadeOf : List (List ℕ × AccountRecord) → List BucketPartRecord → Type 0
AreMadeOf [] [] = Unit {0}
AreMadeOf [] (part ∷ parts) = ⊥
AreMadeOf (entry ∷ entries) [] = ⊥
AreMadeOf (entry ∷ entries) (part ∷ parts) = IsMadeOf entry part × AreMadeOf entries parts

-- the names of the parts rise
abbrev pub NamesRise : List BucketPartRecord → Type 0
NamesRise parts =
    Rises {X = Account} bytes_cmp (map (λ part. (part.name, record { bucket = part.bucket; books = empty_books })) parts)

-- ---- what there is in all buckets

-- how much there is of a kind in these buckets
abbrev pub in_all : What → List (List ℕ × AccountRecord) → ℕ
in_all what entries = sum_by (λ entry. in_bucket what entry.1.bucket) entries

-- each bucket can be counted, and so can all of them together
pub record CanBeCounted (entries : List (List ℕ × AccountRecord)) : Type 0 where
  pub each : AllByRecursion (λ entry. AreFewIn entry.1.bucket) entries
  pub all : (what : What) → in_all what entries ≤ 2 * limit_of what
