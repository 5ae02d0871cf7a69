-- What a checkpoint keeps of an office: its records, the sums of its books by month and class, and the commands with a
-- token. Stays that have not ended follow from the records.
use Rattle.std.specs.Prelude.{◌≡◌, ℕ, ◌+◌, List, [], ◌∷◌, map, length, Option, option_map}
use Rattle.tariff.specs.Prices.{Prices}
use Rattle.due_core.specs.Buckets.{BucketRecord}
use Rattle.accrual.specs.declared.monthly.MonthSums.{MonthSums}
use Rattle.accrual.specs.Sums.{AreSumsOf}
use Rattle.office_types.specs.Kept.{reply_of}
use Rattle.office_types.specs.declared.kept.Kept.{Kept}
use Rattle.plain_office.specs.Office.{Office, Account, KeptReply, book_of}
use Rattle.plain_office.specs.Orderly.{IsOrderly}

-- a bucket in a checkpoint as contracts see it: its name, its records, and the sums of the months in which not all are
-- 0
pub record BucketPartRecord : Type 0 where
  pub name : List ℕ
  pub bucket : BucketRecord
  pub sums : List MonthSums

-- a checkpoint as contracts see it: the moment of the last accepted command; the first month that is not closed; the
-- tariffs by their first months; the closed months with the tariff of their closing; the buckets in the byte order of
-- their names; and the kept commands with a token, oldest first
pub record SnapshotRecord : Type 0 where
  pub last : Option ℕ
  pub first_open : Option ℕ
  pub tariffs : List Prices
  pub closed : List (ℕ × Prices)
  pub buckets : List BucketPartRecord
  pub kept : List Kept

-- ---- the office of a snapshot

-- the office's first month that is not closed; none before the first accepted command
abbrev pub first_open_of : Office → Option ℕ
first_open_of office = option_map (λ first. first + length office.closed) office.first_month

-- the kept replies, each made from its kept command
abbrev pub replies_of : List Kept → List KeptReply
replies_of = map (λ kept. record { token = kept.token; command = kept.command; reply = reply_of kept })

-- the part has the bucket's name and records, and the sums of its books
pub record ShowsBucket (part : BucketPartRecord) (entry : List ℕ × Account) : Type 0 where
  pub name : part.name ≡ entry.0
  pub bucket : part.bucket ≡ entry.1.bucket
  pub sums : AreSumsOf (book_of entry.1.books) part.sums

-- the parts show the buckets one by one: as many, and in the same order
abbrev pub ShowBuckets : List BucketPartRecord → List (List ℕ × Account) → Type 0
ShowBuckets [] [] = Unit {0}
ShowBuckets [] (entry ∷ entries) = ⊥
ShowBuckets (part ∷ parts) [] = ⊥
ShowBuckets (part ∷ parts) (entry ∷ entries) = ShowsBucket part entry × ShowBuckets parts entries

-- the snapshot shows the office, which is orderly: it has its records, the sums of its books, and its kept replies
pub record Shows (snapshot : SnapshotRecord) (office : Office) : Type 0 where
  pub orderly : IsOrderly office
  pub last : snapshot.last ≡ office.last
  pub first_open : snapshot.first_open ≡ first_open_of office
  pub tariffs : snapshot.tariffs ≡ office.tariffs
  pub closed : snapshot.closed ≡ office.closed
  pub buckets : ShowBuckets snapshot.buckets office.accounts
  pub kept : replies_of snapshot.kept ≡ office.kept
