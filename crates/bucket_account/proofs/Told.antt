-- What is known of a change that was done as the plain office does it.
use Rattle.std.proofs.Common.{List, sym, subst}
use Rattle.std.specs.Prelude.{Ok, Err}
use Rattle.due_core.specs.Buckets.{BucketRecord}
use Rattle.plain_office.specs.Office.{Account}
use Rattle.plain_office.specs.Step.{Change}
use Rattle.office_types.specs.declared.refusal.What.{What}
use Rattle.bucket_account.specs.declared.change.Done.{Done}
use Rattle.bucket_account.specs.declared.counts.Counts.{Counts}
use Rattle.bucket_account.specs.Changing.{DoesTold}
use Rattle.bucket_account.specs.Counting.{AccountRecord, HaveMoved}

module _ (whats : List What) (before : Account) (counts : Counts) (after : AccountRecord) (done : Done) where
  -- the counts moved as the bucket in memory did
  pub moved_told : (told : Change) → DoesTold whats told before counts after (Ok done) → HaveMoved before.bucket after.bucket counts done.counts
  moved_told (Err refused) h = absurd h
  moved_told (Ok told) h = subst (λ (bucket : BucketRecord). HaveMoved before.bucket bucket counts done.counts) (sym h.1.bucket) h.2
