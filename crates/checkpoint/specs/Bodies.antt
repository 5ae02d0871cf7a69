-- The body of a slot: how a snapshot is written in bytes (own). The lists of the buckets follow the heads of all
-- buckets.
use Rattle.std.specs.Prelude.{◌≡◌, ℕ, true, List, [], ◌∷◌, map, length, Option, Some, None, option_map}
use Rattle.std.specs.Int.{w8}
use Rattle.tariff.specs.Prices.{Prices}
use Rattle.stacks.specs.Stacks.{StackRecord}
use Rattle.uploads.specs.Uploads.{UploadRecord}
use Rattle.accrual.specs.declared.monthly.MonthSums.{MonthSums}
use Rattle.office_types.specs.declared.kept.Kept.{Kept}
use Rattle.entry_codec.specs.Formats.{Format, number, pair, list, Code, coded}
use Rattle.office_snapshot.specs.Snapshots.{SnapshotRecord, BucketPartRecord}
use Rattle.office_snapshot.specs.Restorable.{IsRestorable}
use Rattle.checkpoint.specs.Combining.{after, exactly}
use Rattle.checkpoint.specs.Parts.{four, last_format, open_format, month_format, tariff_format, stacks_format}
use Rattle.checkpoint.specs.Parts.{uploads_format, sums_format, Head, head_format, kept_format}

-- what the office has once: the last moment, the first open month, the tariffs and the closed months
abbrev pub Front : Type 0
Front = Option ℕ × (Option ℕ × (List Prices × List (ℕ × Prices)))

-- these parts, with the number of tariffs in one byte
unfoldable pub front_format : Format Front
front_format = pair last_format
    (pair open_format (pair (list (number w8) tariff_format) (list four (pair month_format tariff_format))))

-- the stacks, the uploads and the sums of each bucket
abbrev pub Lists : Type 0
Lists = List (List (List ℕ × StackRecord)) × (List (List (ℕ × UploadRecord)) × List (List MonthSums))

-- the lists of n buckets: the stacks of all, then the uploads of all, then the sums of all
unfoldable pub lists_format : ℕ → Format Lists
lists_format n =
    pair (exactly n stacks_format) (pair (exactly n uploads_format) (exactly n (list four sums_format)))

-- what is written of the buckets: their heads, and their lists
abbrev pub Buckets : Type 0
Buckets = List Head × Lists

-- the heads of all buckets, and as many lists
unfoldable pub buckets_format : Format Buckets
buckets_format = after (list four head_format) (λ heads. lists_format (length heads))

-- the body, part by part
abbrev pub BodyParts : Type 0
BodyParts = Front × (Buckets × List Kept)

-- what the office has once, the buckets, and the kept replies
unfoldable pub parts_format : Format BodyParts
parts_format = pair front_format (pair buckets_format (list four kept_format))

-- the head of a bucket
abbrev pub head_of : BucketPartRecord → Head
head_of part = (
  part.name,
  (
    part.bucket.versioning,
    (part.bucket.rules_since, (part.bucket.rules, (part.bucket.next_version, part.bucket.next_upload))),
  ),
)

-- the buckets, part by part
abbrev pub buckets_of : List BucketPartRecord → Buckets
buckets_of buckets = (
  map head_of buckets,
  (map (λ p. p.bucket.stacks) buckets, (map (λ p. p.bucket.uploads) buckets, map (λ p. p.sums) buckets)),
)

-- the parts of a snapshot
abbrev pub parts_of_snapshot : SnapshotRecord → BodyParts
parts_of_snapshot s = ((s.last, (s.first_open, (s.tariffs, s.closed))), (buckets_of s.buckets, s.kept))

-- the bucket with these parts
abbrev pub bucket_of : Head → List (List ℕ × StackRecord) → List (ℕ × UploadRecord) → List MonthSums → BucketPartRecord
bucket_of (name, (versioning, (since, (rules, (next_version, next_upload))))) stacks uploads sums = record {
  name = name;
  bucket = record {
    versioning = versioning;
    rules_since = since;
    rules = rules;
    next_version = next_version;
    next_upload = next_upload;
    stacks = stacks;
    uploads = uploads;
  };
  sums = sums;
}

-- the buckets with these parts; none if there are not as many of each
abbrev pub joined : List Head → List (List (List ℕ × StackRecord)) → List (List (ℕ × UploadRecord))
    → List (List MonthSums) → Option (List BucketPartRecord)
joined [] [] [] [] = Some []
joined (h ∷ hs) (s ∷ ss) (u ∷ us) (m ∷ ms) = option_map (λ others. bucket_of h s u m ∷ others) (joined hs ss us ms)
joined hs ss us ms = None

-- the snapshot with these buckets
abbrev pub snapshot_from : Front → List Kept → List BucketPartRecord → SnapshotRecord
snapshot_from (last, (first_open, (tariffs, closed))) kept buckets = record {
  last = last;
  first_open = first_open;
  tariffs = tariffs;
  closed = closed;
  buckets = buckets;
  kept = kept;
}

-- the snapshot with these parts; none if the heads and the lists are not as many
abbrev pub snapshot_value : BodyParts → Option SnapshotRecord
snapshot_value (front, ((heads, (stacks, (uploads, sums))), kept)) =
    option_map (snapshot_from front kept) (joined heads stacks uploads sums)

-- snapshots by their parts
abbrev pub snapshots : Code BodyParts SnapshotRecord
snapshots = record { code = parts_of_snapshot; has = λ s. true; value = snapshot_value }

-- a snapshot
unfoldable pub body_format : Format SnapshotRecord
body_format = coded parts_format snapshots

-- the bytes are the body of this snapshot, and an office can be restored from it
pub record Spells (bytes : List ℕ) (snapshot : SnapshotRecord) : Type 0 where
  pub bytes_are : bytes ≡ body_format.written snapshot
  pub in_range : body_format.has snapshot ≡ true
  pub restorable : IsRestorable snapshot
