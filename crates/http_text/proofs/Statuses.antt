-- The statuses of answers are low, and their phrases short.
use Rattle.std.proofs.Common.{ℕ, ◌<◌, ◌≤◌, [], length, arith, unwrap_or, Result, Ok, Err}
use Rattle.http.specs.StatusCode.{reason_phrase}
use Rattle.office_types.specs.declared.reply.Reply.{Reply}
use Rattle.office_types.specs.declared.reply.Reply.TheVariants.{BucketMade, Stored, UploadStarted}
use Rattle.office_types.specs.declared.refusal.Refusal.{Refusal}
use Rattle.office_types.specs.declared.refusal.Refusal.TheVariants.{NoSuchBucket, NoRules, NoSuchKey, NoSuchVersion, NoSuchUpload, Full, NoMemory}
use Rattle.http_text.specs.Replies.{status_of, reply_status, refusal_status}

abbrev pub IsLow : ℕ → Type 0
IsLow status = (status < 1_000) × (length (unwrap_or (reason_phrase status) []) ≤ 100)

reply_low : (r : Reply) → IsLow (reply_status r)
reply_low (BucketMade bucket) = (omega arith, omega arith)
reply_low (Stored moment version) = (omega arith, omega arith)
reply_low (UploadStarted upload) = (omega arith, omega arith)
reply_low other = (omega arith, omega arith)

refusal_low : (r : Refusal) → IsLow (refusal_status r)
refusal_low NoSuchBucket = (omega arith, omega arith)
refusal_low NoRules = (omega arith, omega arith)
refusal_low NoSuchKey = (omega arith, omega arith)
refusal_low NoSuchVersion = (omega arith, omega arith)
refusal_low NoSuchUpload = (omega arith, omega arith)
refusal_low (Full what limit) = (omega arith, omega arith)
refusal_low NoMemory = (omega arith, omega arith)
refusal_low conflict = (omega arith, omega arith)

pub status_low : (a : Result Reply Refusal) → IsLow (status_of a)
status_low (Ok reply) = reply_low reply
status_low (Err refusal) = refusal_low refusal
