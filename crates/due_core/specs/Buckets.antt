-- A bucket as contracts see it.
use Rattle.std.specs.Prelude.{ℕ, List, Option}
use Rattle.rules_core.specs.Configurations.{Configuration}
use Rattle.stacks.specs.Stacks.{StackRecord}
use Rattle.stacks.specs.declared.version.Versioning.{Versioning}
use Rattle.uploads.specs.Uploads.{UploadRecord}

-- a bucket's records: the stack of each key that has versions, in the byte order of the keys, and the unfinished
-- uploads by their numbers. Moments are in milliseconds since 1970 (S3 User Guide, "General purpose buckets overview").
pub record BucketRecord : Type 0 where
  pub versioning : Versioning
  pub rules : Option Configuration
  pub rules_since : ℕ
  pub stacks : List (List ℕ × StackRecord)
  pub uploads : List (ℕ × UploadRecord)
  pub next_version : ℕ
  pub next_upload : ℕ
