-- What a snapshot needs so that an office can be restored from it, part by part, each as a test.
use Rattle.std.specs.Prelude.{ℕ, ◌+◌, ◌-◌, ◌^◌, min, Bool, true, false, not, ◌&&◌, ◌||◌, ◌==◌, nat_le, nat_lt, List, [], ◌∷◌, length, Option, Some, None, sum_by}
use Rattle.std.specs.Bool.{beq}
use Rattle.std.specs.List.{list_all, list_any}
use Rattle.std.specs.Ordering.{nat_cmp, is_lt}
use Rattle.std.specs.Str.{bytes_eq}
use Rattle.std.specs.declared.cmp.Ordering.{Ordering}
use Rattle.moments.specs.Months.{month_start}
use Rattle.office_base.specs.Maps.{bytes_cmp}
use Rattle.office_base.specs.Sizes.{largest_size}
use Rattle.office_base.specs.declared.version_id.VersionId.{VersionId}
use Rattle.office_base.specs.declared.version_id.VersionId.TheVariants.{Null, Number}
use Rattle.tariff.specs.Prices.{Prices}
use Rattle.stacks.specs.Stacks.{StackRecord, is_stack}
use Rattle.stacks.specs.declared.version.Versioning.{Versioning}
use Rattle.stacks.specs.declared.version.Versioning.TheVariants.{Unversioned, Enabled, Suspended}
use Rattle.stacks.specs.declared.version.Version.{Version}
use Rattle.uploads.specs.Uploads.{UploadRecord, are_parts}
use Rattle.due_core.specs.Buckets.{BucketRecord}
use Rattle.due_core.specs.Candidates.{eligible}
use Rattle.accrual.specs.Sums.{is_zero, is_nothing}
use Rattle.accrual.specs.declared.monthly.MonthSums.{MonthSums}
use Rattle.office_types.specs.Kept.{reply_of, tells_marker, number_told}
use Rattle.office_types.specs.Tokens.{takes_token}
use Rattle.office_types.specs.declared.kept.Kept.{Kept}
use Rattle.plain_office.specs.Counts.{version_count, part_count, name_bytes, rules_bytes}
use Rattle.plain_office.specs.Once.{most_kept}
use Rattle.plain_office.specs.Orderly.{is_object, size_of, current_objects, last_end}
use Rattle.office_snapshot.specs.Snapshots.{SnapshotRecord, BucketPartRecord}

-- ---- lists

-- the numbers strictly rise, and none is below this one
abbrev pub rise_from : {X : Type 0} → (X → ℕ) → ℕ → List X → Bool
rise_from number least [] = true
rise_from number least (x ∷ xs) = nat_le least (number x) && rise_from number (number x + 1) xs

-- the numbers are this one and those after it
abbrev pub follow : {X : Type 0} → (X → ℕ) → ℕ → List X → Bool
follow number next [] = true
follow number next (x ∷ xs) = (number x == next) && follow number (next + 1) xs

-- the keys strictly rise
abbrev pub keys_rise : {K X : Type 0} → (K → K → Ordering) → List (K × X) → Bool
keys_rise cmp [] = true
keys_rise cmp (e ∷ es) = list_all (λ other. is_lt (cmp e.0 other.0)) es && keys_rise cmp es

-- a count, which stops at the greatest u64
abbrev pub capped : ℕ → ℕ
capped n = min n (2 ^ 64 - 1)

-- ---- the sums of a bucket

-- the numbers are small enough for meters to go on from them
abbrev pub is_small_month : MonthSums → Bool
is_small_month sums =
    list_all (λ n. nat_lt n (2 ^ 120)) sums.ended && list_all (λ n. nat_lt n (2 ^ 120)) sums.early
    && list_all (λ n. nat_lt n (2 ^ 62)) sums.moves

-- the month has begun by the last moment, and before that moment if stays have ended in it
abbrev pub has_begun : ℕ → MonthSums → Bool
has_begun last sums =
    nat_le (month_start sums.month) last && (list_all is_zero sums.ended || nat_lt (month_start sums.month) last)

-- a month that a bucket may have
abbrev pub is_month : ℕ → MonthSums → Bool
is_month last sums = not (is_nothing sums) && is_small_month sums && has_begun last sums

-- the months of a bucket
abbrev pub are_months : ℕ → List MonthSums → Bool
are_months last sums = rise_from (λ s. s.month) 0 sums && list_all (is_month last) sums

-- ---- the records of a bucket

-- a version's number is at least 1 and below the next one
abbrev pub is_number_below : ℕ → VersionId → Bool
is_number_below next Null = true
is_number_below next (Number n) = nat_lt 0 n && nat_lt n next

-- the number and the size are in range
abbrev pub is_version : ℕ → Version → Bool
is_version next version = is_number_below next version.id && nat_le (size_of version.kind) largest_size

-- it is the null version
abbrev pub is_null : VersionId → Bool
is_null Null = true
is_null (Number n) = false

-- there is exactly one version: the null version, which is an object
abbrev pub is_one_null_object : List Version → Bool
is_one_null_object [] = false
is_one_null_object (version ∷ others) = (length others == 0) && is_null version.id && is_object version.kind

-- the versions of a key that a bucket with this versioning may have
abbrev pub fit_versioning : Versioning → List Version → Bool
fit_versioning Unversioned versions = is_one_null_object versions
fit_versioning Enabled versions = true
fit_versioning Suspended versions = true

-- a stack that a bucket may have at this moment, if its next version has this number
abbrev pub is_orderly_stack : Versioning → ℕ → ℕ → StackRecord → Bool
is_orderly_stack versioning next last stack =
    not (length stack.versions == 0) && is_stack stack.changed stack.versions
    && list_all (is_version next) stack.versions && fit_versioning versioning stack.versions
    && nat_le stack.changed last

-- an upload that a bucket may have at this moment, if its next upload has this number
abbrev pub is_orderly_upload : ℕ → ℕ → ℕ × UploadRecord → Bool
is_orderly_upload next last upload =
    nat_lt upload.0 next && are_parts upload.1.started upload.1.changed upload.1.parts
    && keys_rise nat_cmp upload.1.parts && nat_le upload.1.changed last

-- the next numbers are from 1 and below 2^62, and the rules were not set after this moment
abbrev pub has_numbers : ℕ → BucketRecord → Bool
has_numbers last bucket =
    nat_lt 0 bucket.next_version && nat_lt bucket.next_version (2 ^ 62)
    && nat_lt 0 bucket.next_upload && nat_lt bucket.next_upload (2 ^ 62) && nat_le bucket.rules_since last

-- the stacks of a bucket
abbrev pub are_orderly_stacks : ℕ → BucketRecord → Bool
are_orderly_stacks last bucket =
    keys_rise bytes_cmp bucket.stacks
    && list_all (λ stack. is_orderly_stack bucket.versioning bucket.next_version last stack.1) bucket.stacks

-- the uploads of a bucket
abbrev pub are_orderly_uploads : ℕ → BucketRecord → Bool
are_orderly_uploads last bucket =
    keys_rise nat_cmp bucket.uploads && list_all (is_orderly_upload bucket.next_upload last) bucket.uploads

-- a bucket that an office may have at this moment
abbrev pub is_orderly_bucket : ℕ → BucketRecord → Bool
is_orderly_bucket last bucket =
    has_numbers last bucket && are_orderly_stacks last bucket && are_orderly_uploads last bucket

-- the records and sums of a bucket that an office may have at this moment
abbrev pub is_orderly_part : ℕ → BucketPartRecord → Bool
is_orderly_part last part = is_orderly_bucket last part.bucket && are_months last part.sums

-- ---- all buckets

-- the name is above the one before it, if there is one
abbrev pub is_above : Option (List ℕ) → List ℕ → Bool
is_above None name = true
is_above (Some before) name = is_lt (bytes_cmp before name)

-- the names strictly rise, and are above the one before them
abbrev pub names_rise : Option (List ℕ) → List BucketPartRecord → Bool
names_rise before [] = true
names_rise before (part ∷ parts) = is_above before part.name && names_rise (Some part.name) parts

-- the sum of a count over all buckets
abbrev pub over_parts : (BucketRecord → ℕ) → List BucketPartRecord → ℕ
over_parts count parts = sum_by (λ part. count part.bucket) parts

-- no count is above what an office may have
abbrev pub are_within : SnapshotRecord → Bool
are_within snapshot =
    nat_le (length snapshot.buckets) 1_000 && nat_le (length snapshot.tariffs) 100
    && nat_le (over_parts (λ bucket. version_count bucket + current_objects bucket) snapshot.buckets) 400_000
    && nat_le (over_parts (λ bucket. length bucket.uploads) snapshot.buckets) 20_000
    && nat_le (over_parts part_count snapshot.buckets) 500_000
    && nat_le (over_parts name_bytes snapshot.buckets) 536_870_912
    && nat_le (over_parts (λ bucket. rules_bytes bucket.rules) snapshot.buckets) 67_108_864

-- no eligible action stands before this moment
abbrev pub is_quiet : ℕ → BucketRecord → Bool
is_quiet moment bucket = list_all (λ candidate. nat_le moment candidate.action.since) (eligible bucket)

-- ---- closed months

-- the closed months are those before the first open one, and the last of them has ended by the last moment
abbrev pub are_closed : ℕ → ℕ → List (ℕ × Prices) → Bool
are_closed last first_open closed =
    nat_le (length closed) first_open && follow (λ month. month.0) (first_open - length closed) closed
    && nat_le (last_end closed) last

-- ---- kept replies

-- the command may carry a token, and the marker flag and the number kept are those of the reply that follows from them
abbrev pub is_kept : Kept → Bool
is_kept kept =
    takes_token kept.command && beq kept.marker (tells_marker (reply_of kept))
    && (kept.told == number_told (reply_of kept))

-- no two kept replies have the same token
abbrev pub tokens_differ : List Kept → Bool
tokens_differ [] = true
tokens_differ (first ∷ kept) = not (list_any (λ other. bytes_eq first.token other.token) kept) && tokens_differ kept

-- the kept replies are not too many, each is one that may be kept, and no two have the same token
abbrev pub are_kept : List Kept → Bool
are_kept kept = nat_le (length kept) most_kept && list_all is_kept kept && tokens_differ kept

-- ---- the snapshot

-- there are no buckets, tariffs, closed months or kept replies
abbrev pub is_blank : SnapshotRecord → Bool
is_blank snapshot =
    (length snapshot.buckets == 0) && (length snapshot.tariffs == 0) && (length snapshot.closed == 0)
    && (length snapshot.kept == 0)

-- a snapshot that an office with this last moment and this first open month may have
abbrev pub is_orderly_at : ℕ → ℕ → SnapshotRecord → Bool
is_orderly_at last first_open snapshot =
    are_within snapshot && names_rise None snapshot.buckets && list_all (is_orderly_part last) snapshot.buckets
    && rise_from (λ tariff. tariff.from) 0 snapshot.tariffs && are_closed last first_open snapshot.closed
    && are_kept snapshot.kept
    && list_all (λ part. is_quiet (last_end snapshot.closed) part.bucket) snapshot.buckets

-- an office can be restored from it
abbrev pub is_restorable : Option ℕ → Option ℕ → SnapshotRecord → Bool
is_restorable None None snapshot = is_blank snapshot
is_restorable None (Some first_open) snapshot = false
is_restorable (Some last) None snapshot = false
is_restorable (Some last) (Some first_open) snapshot = is_orderly_at last first_open snapshot
