-- The snapshots from which an office can be restored.
use Rattle.std.specs.Prelude.{◌≡◌, ℕ, ◌-◌, ◌^◌, ◌<◌, ◌≤◌, List, map, length, option_map, IfSome, IsFalse, All, true, false}
use Rattle.std.specs.List.{AllByRecursion, list_all}
use Rattle.moments.specs.Months.{month_start}
use Rattle.accrual.specs.declared.monthly.MonthSums.{MonthSums}
use Rattle.accrual.specs.Sums.{HaveRisingMonths, IsSmallMonth, is_nothing, is_zero}
use Rattle.office_types.specs.Kept.{reply_of, tells_marker, number_told}
use Rattle.office_types.specs.Tokens.{takes_token}
use Rattle.office_types.specs.declared.kept.Kept.{Kept}
use Rattle.plain_office.specs.Office.{Office, empty_books}
use Rattle.plain_office.specs.Orderly.{IsOrderlyRecords, AreKept}
use Rattle.office_snapshot.specs.Snapshots.{SnapshotRecord, BucketPartRecord, replies_of}

-- ---- the form of a snapshot

-- the months of the sums are in strictly ascending order, and each has a number that is not 0
pub record HaveForm (sums : List MonthSums) : Type 0 where
  pub rising : HaveRisingMonths sums
  pub some : All (λ sums. IsFalse (is_nothing sums)) sums

-- the command may carry a token, and the two kept parts are those of the reply that follows from them
pub record IsKept (kept : Kept) : Type 0 where
  pub takes : takes_token kept.command ≡ true
  pub marker : kept.marker ≡ tells_marker (reply_of kept)
  pub told : kept.told ≡ number_told (reply_of kept)

-- the sums of each bucket and each kept command have the right form
pub record HasForm (snapshot : SnapshotRecord) : Type 0 where
  pub sums : AllByRecursion (λ part. HaveForm part.sums) snapshot.buckets
  pub kept : AllByRecursion IsKept snapshot.kept

-- ---- the snapshots that can be restored

-- the records of a snapshot, as an office; its books are empty and have no meaning
abbrev pub office_in : SnapshotRecord → Office
office_in snapshot = record {
  last = snapshot.last;
  tariffs = snapshot.tariffs;
  first_month = option_map (λ month. month - length snapshot.closed) snapshot.first_open;
  closed = snapshot.closed;
  accounts = map (λ part. (part.name, record { bucket = part.bucket; books = empty_books })) snapshot.buckets;
  kept = replies_of snapshot.kept;
}

-- the month has begun by the last moment; if stays have ended in it, it began before that moment
pub record HasBegun (last : ℕ) (sums : MonthSums) : Type 0 where
  pub month : month_start sums.month ≤ last
  pub ended : list_all is_zero sums.ended ≡ false → month_start sums.month < last

-- the next numbers are below 2^62 (own), and the sums leave room for all bookings
pub record IsSmallPart (part : BucketPartRecord) : Type 0 where
  pub next_version : part.bucket.next_version < 2 ^ 62
  pub next_upload : part.bucket.next_upload < 2 ^ 62
  pub sums : All IsSmallMonth part.sums

-- the snapshot can be restored: its form is right, its records are orderly, and no two kept replies have the same
-- token. There are no more closed months than months before the first open one. No sum is for a month after the last
-- moment.
pub record IsRestorable (snapshot : SnapshotRecord) : Type 0 where
  pub form : HasForm snapshot
  pub records : IsOrderlyRecords (office_in snapshot)
  pub kept : AreKept (replies_of snapshot.kept)
  pub months : IfSome snapshot.first_open (λ month. length snapshot.closed ≤ month)
  pub small : AllByRecursion IsSmallPart snapshot.buckets
  pub begun : IfSome snapshot.last
      (λ last. AllByRecursion (λ part. AllByRecursion (HasBegun last) part.sums) snapshot.buckets)
