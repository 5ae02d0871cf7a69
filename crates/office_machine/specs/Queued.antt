-- How many entries a bucket's queue of next actions has.
use Rattle.std.specs.Prelude.{◌≡◌, ℕ, Option, Some, None}
use Rattle.due_index.specs.Firsts.{entry_count}
use Rattle.bucket_account.specs.Counting.{AccountRecord}

-- the bucket is there, and this many of its keys and uploads have an eligible action (S3 User Guide, "Managing the
-- lifecycle of objects")
abbrev pub AreQueuedIn : ℕ → Option AccountRecord → Type 0
AreQueuedIn entries None = ⊥
AreQueuedIn entries (Some account) = entries ≡ entry_count account.bucket
