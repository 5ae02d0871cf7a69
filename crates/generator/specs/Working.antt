-- The desk of a load while its commands are made, and what its buckets hold.
use Rattle.std.specs.Prelude.{◌≡◌, ℕ, zero, suc, ◌+◌, ◌<◌, false, List, length, Option, Some, None, Result, Ok, Err}
use Rattle.disk_core.specs.contracts.memory.MemoryDiskDisk.TheImpl as memory
use Rattle.disk_core.specs.declared.memory.MemoryDisk.{MemoryDisk}
use Rattle.office_base.specs.Maps.{at_name}
use Rattle.office_types.specs.declared.command.Entry.{Entry}
use Rattle.office_types.specs.declared.reply.Reply.{Reply}
use Rattle.office_types.specs.declared.reply.Reply.TheVariants.{BucketShown, NothingDue}
use Rattle.office_types.specs.declared.refusal.Refusal.{Refusal}
use Rattle.due_core.specs.Buckets.{BucketRecord}
use Rattle.plain_office.specs.Office.{Office, Account}
use Rattle.plain_office.specs.Counts.{version_count}
use Rattle.meter_journal.specs.History.{header, end_gate}
use Rattle.disk_core.specs.declared.disk.Disk as disks
use Rattle.desk_core.specs.Desk.{DeskView, HoldsHistory}
use Rattle.desk_core.specs.Histories.{SlotsFit}
use Rattle.generator.specs.Drafts.{name_of}
use Rattle.generator.specs.Places.{place_after}
use Rattle.generator.specs.Generated.{Progress, progress}
use Rattle.generator.specs.declared.clock.PlaceClock.{PlaceClock}
use Rattle.generator.specs.declared.work.AnswerCounts.{AnswerCounts}
use Rattle.generator.specs.declared.work.Kept.{Kept}
use Rattle.generator.specs.declared.work.Work.{Work}

-- a desk of an honest disk holds this history, and the slots of its disk fit it
pub record HoldsSoundly {D C : Type 0} (d : disks.Ghosts D) (history : List Entry) (desk : DeskView D C) : Type 0 where
  pub journal : HoldsHistory d history desk
  pub slots : SlotsFit history (d.state desk.disk)

-- the desk holds the journal of these entries, and its clock has returned the number and then this many moments
pub record IsDeskAfter (number told : ℕ) (history : List Entry) (desk : DeskView MemoryDisk PlaceClock) : Type 0 where
  pub holds : HoldsSoundly memory.ghosts history desk
  pub fresh : desk.stale ≡ false
  pub number_is : desk.clock.number ≡ number
  pub told_is : desk.clock.place.made ≡ told

-- the answers are counted as the progress counts them
pub record AreAnswers (answers : AnswerCounts) (progress : Progress) : Type 0 where
  pub accepted : answers.accepted ≡ length progress.accepted
  pub refused : answers.refused ≡ progress.refused
  pub nothing : answers.nothing ≡ progress.nothing

-- one more answer is counted
abbrev pub IsCounted : AnswerCounts → Result Reply Refusal → AnswerCounts → Type 0
IsCounted old (Err refusal) new = new ≡ record old { refused = old.refused + 1 }
IsCounted old (Ok NothingDue) new = new ≡ record old { nothing = old.nothing + 1 }
IsCounted old (Ok reply) new = new ≡ record old { accepted = old.accepted + 1 }

-- the first commands of its number were made, as many as its place says
pub record IsWork (work : Work) : Type 0 where
  pub place : work.place ≡ place_after work.number work.place.made
  pub stands : IsDeskAfter work.number work.place.made (progress work.number work.place.made).accepted work.desk
  pub answers : AreAnswers work.answers (progress work.number work.place.made)

-- ---- what is kept

-- what a bucket has, by a count; 0 if the bucket is not there
abbrev pub counts_of : (BucketRecord → ℕ) → Option Account → ℕ
counts_of count None = 0
counts_of count (Some account) = count account.bucket

-- what one of the buckets has
abbrev pub counted_in : (BucketRecord → ℕ) → ℕ → Office → ℕ
counted_in count bucket office = counts_of count (at_name (name_of bucket) office.accounts)

-- what the first buckets have together, this many
abbrev pub counted_in_first : (BucketRecord → ℕ) → ℕ → Office → ℕ
counted_in_first count zero office = 0
counted_in_first count (suc n) office = counted_in_first count n office + counted_in count n office

-- how many unfinished uploads a bucket has
abbrev pub upload_count : BucketRecord → ℕ
upload_count bucket = length bucket.uploads

-- the versions and uploads that a reply shows of a bucket; any other shows none
abbrev pub shown_in : Result Reply Refusal → ℕ × ℕ
shown_in (Ok (BucketShown bucket rules uploads versioning versions)) = (versions, uploads)
shown_in (Ok reply) = (0, 0)
shown_in (Err refusal) = (0, 0)

-- after these commands the first buckets have these versions and uploads; if there is a bucket, the journal ends here
pub record AreKept (buckets : ℕ) (progress : Progress) (kept : Kept) : Type 0 where
  pub versions : kept.versions ≡ counted_in_first version_count buckets progress.office
  pub uploads : kept.uploads ≡ counted_in_first upload_count buckets progress.office
  pub position : 0 < buckets → kept.position ≡ end_gate header progress.accepted
