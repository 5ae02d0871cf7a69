-- The sums of a snapshot as the program stores them: a number for each class.
use Rattle.std.specs.Prelude.{◌≡◌, All, length}
use Rattle.std.specs.List.{AllByRecursion}
use Rattle.accrual.specs.declared.monthly.MonthSums.{MonthSums}
use Rattle.office_snapshot.specs.Snapshots.{SnapshotRecord}

-- the sums have a number for each of the six classes
pub record HasSixNumbers (sums : MonthSums) : Type 0 where
  pub ended : length sums.ended ≡ 6
  pub early : length sums.early ≡ 6
  pub moves : length sums.moves ≡ 6

-- the sums of each month of each bucket have six numbers
abbrev pub AreWhole : SnapshotRecord → Type 0
AreWhole snapshot = AllByRecursion (λ part. All HasSixNumbers part.sums) snapshot.buckets
