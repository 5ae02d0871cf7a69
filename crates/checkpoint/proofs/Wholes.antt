-- The sums of each month have six numbers of each kind.
use Rattle.std.proofs.Common.{◌≡◌, true, List, [], ◌∷◌, get_or}
use Rattle.std.specs.List.{All, AllByRecursion, list_all}
use Rattle.std.proofs.lemmas.Bool.{and_parts, eqb-true}
use Rattle.std.proofs.lemmas.List.Sums.{AllPass-from_list_all}
use Rattle.accrual.specs.declared.monthly.MonthSums.{MonthSums}
use Rattle.office_snapshot.specs.Snapshots.{SnapshotRecord, BucketPartRecord}
use Rattle.office_snapshot.specs.Classes.{HasSixNumbers, AreWhole}
use Rattle.checkpoint.specs.Parts.{are_six}

month_by : (s : MonthSums) → are_six s ≡ true → HasSixNumbers s
month_by s is =
    let a = and_parts _ _ is in
    let b = and_parts _ _ a.0 in
    record { ended = eqb-true _ _ b.0; early = eqb-true _ _ b.1; moves = eqb-true _ _ a.1 }

months_by : (all : List MonthSums) → list_all are_six all ≡ true → All HasSixNumbers all
months_by all are k d h = month_by (get_or all k d) (AllPass-from_list_all are_six all are k d h)

parts_by : (parts : List BucketPartRecord) → list_all (λ (part : BucketPartRecord). list_all are_six part.sums) parts ≡ true → AllByRecursion (λ (part : BucketPartRecord). All HasSixNumbers part.sums) parts
parts_by [] are = tt
parts_by (part ∷ parts) are = let h = and_parts _ _ are in (months_by part.sums h.0, parts_by parts h.1)

pub whole_by : (s : SnapshotRecord) → list_all (λ (part : BucketPartRecord). list_all are_six part.sums) s.buckets ≡ true → AreWhole s
whole_by s are = parts_by s.buckets are
