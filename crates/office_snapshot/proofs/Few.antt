-- How many open stays the records of a snapshot give.
use Rattle.std.proofs.Common.{◌≡◌, ℕ, ◌+◌, ◌≤◌, List, [], ◌∷◌, map, length, arith}
use Rattle.std.specs.Prelude.{sum_by}
use Rattle.std.specs.List.{AllByRecursion}
use Rattle.std.proofs.lemmas.List.Sums.{sum_by-cons}
use Rattle.plain_office.specs.Counts.{version_count, part_count}
use Rattle.plain_office.specs.Orderly.{current_objects}
use Rattle.office_laws.proofs.Offices.{NamedAccount, room_of}
use Rattle.office_snapshot.specs.Snapshots.{SnapshotRecord, BucketPartRecord}
use Rattle.office_snapshot.specs.Restorable.{office_in, IsRestorable}
use Rattle.office_snapshot.specs.RecordStays.{record_stays}
use Rattle.office_snapshot.proofs.RecordedStays.{stay_count}
use Rattle.office_snapshot.proofs.Shown.{part_in}

-- each number is at most the sum of all
pub each_most : {X : Type 0} (f : X → ℕ) (most : ℕ) (xs : List X) → sum_by f xs ≤ most → AllByRecursion (λ x. f x ≤ most) xs
each_most f most [] le = tt
each_most f most (x ∷ xs) le =
    let cons = sum_by-cons f x xs in
    (omega (arith, cons, le), each_most f most xs (omega (arith, cons, le)))

few_in : (parts : List BucketPartRecord) → AllByRecursion (λ (e : NamedAccount). version_count e.1.bucket + current_objects e.1.bucket ≤ 400_000) (map part_in parts)
    → AllByRecursion (λ (e : NamedAccount). part_count e.1.bucket ≤ 500_000) (map part_in parts)
    → AllByRecursion (λ part. length (record_stays part.bucket) ≤ 900_000) parts
few_in [] versions counts = tt
few_in (part ∷ parts) versions counts =
    let count = stay_count part.bucket in
    let a = versions.0 in
    let b = counts.0 in
    (omega (arith, count, a, b), few_in parts versions.1 counts.1)

pub few_stays : (s : SnapshotRecord) → IsRestorable s → AllByRecursion (λ part. length (record_stays part.bucket) ≤ 900_000) s.buckets
few_stays s h =
    let room = room_of (office_in s) h.records in
    few_in s.buckets
    (each_most (λ (e : NamedAccount). version_count e.1.bucket + current_objects e.1.bucket) 400_000 (map part_in s.buckets) room.versions)
    (each_most (λ (e : NamedAccount). part_count e.1.bucket) 500_000 (map part_in s.buckets) room.parts)
