-- How much the office has of each kind that has a limit (own: the limits keep every sum of the meters below 2^128).
use Rattle.std.specs.Prelude.{ℕ, ◌+◌, List, length, sum_by, Option, Some, None, find, nat_lt}
use Rattle.office_base.specs.Tags.{Tag}
use Rattle.rules_core.specs.Configurations.{Configuration}
use Rattle.rules_json.specs.Printing.{printed}
use Rattle.stacks.specs.declared.version.Kind.{Kind}
use Rattle.stacks.specs.declared.version.Kind.TheVariants.{Object, Marker}
use Rattle.stacks.specs.declared.version.Version.{Version}
use Rattle.due_core.specs.Buckets.{BucketRecord}
use Rattle.office_types.specs.declared.refusal.What.{What}
use Rattle.office_types.specs.declared.refusal.What.TheVariants.{Buckets, Versions, Uploads, Parts, Names, Rules, Tariffs}
use Rattle.plain_office.specs.Office.{Account, Office}

-- the limit of each kind; for names and rules in bytes (own)
abbrev pub limit_of : What → ℕ
limit_of Buckets = 1_000
limit_of Versions = 200_000
limit_of Uploads = 20_000
limit_of Parts = 500_000
limit_of Names = 536_870_912
limit_of Rules = 67_108_864
limit_of Tariffs = 100

-- ---- in a bucket

-- the bytes of the keys and values of tags
abbrev pub tag_bytes : List Tag → ℕ
tag_bytes tags = sum_by (λ tag. length tag.0 + length tag.1) tags

-- the bytes of the tags of a version; a delete marker has none
abbrev pub tag_bytes_of : Version → ℕ
tag_bytes_of version = bytes version.kind where
  bytes : Kind → ℕ
  bytes Marker = 0
  bytes (Object size class tags entered) = tag_bytes tags

-- the number of versions, including delete markers
abbrev pub version_count : BucketRecord → ℕ
version_count bucket = sum_by (λ stack. length stack.1.versions) bucket.stacks

-- the number of parts of all unfinished uploads
abbrev pub part_count : BucketRecord → ℕ
part_count bucket = sum_by (λ upload. length upload.1.parts) bucket.uploads

-- the bytes of the keys of stacks and uploads, and of the tags of versions and uploads
abbrev pub name_bytes : BucketRecord → ℕ
name_bytes bucket =
    sum_by (λ stack. length stack.0 + sum_by tag_bytes_of stack.1.versions) bucket.stacks
    + sum_by (λ upload. length upload.1.key + tag_bytes upload.1.tags) bucket.uploads

-- the bytes of the configuration's text; 0 without one
abbrev pub rules_bytes : Option Configuration → ℕ
rules_bytes None = 0
rules_bytes (Some rules) = length (printed rules)

-- ---- in the office

-- the sum of a count over all buckets
abbrev pub over_buckets : (BucketRecord → ℕ) → Office → ℕ
over_buckets count office = sum_by (λ (entry : List ℕ × Account). count entry.1.bucket) office.accounts

-- how much there is of each kind that has a limit; for names and rules in bytes
unfoldable pub count_of : What → Office → ℕ
count_of Buckets office = length office.accounts
count_of Versions office = over_buckets version_count office
count_of Uploads office = over_buckets (λ bucket. length bucket.uploads) office
count_of Parts office = over_buckets part_count office
count_of Names office = over_buckets name_bytes office
count_of Rules office = over_buckets (λ bucket. rules_bytes bucket.rules) office
count_of Tariffs office = length office.tariffs

-- the first of these that is above its limit
abbrev pub first_full : List What → Office → Option What
first_full whats office = find (λ what. nat_lt (limit_of what) (count_of what office)) whats
