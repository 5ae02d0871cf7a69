-- What an effect on the versions or uploads of a bucket in memory does, compared with what the plain office does.
use Rattle.std.specs.Prelude.{◌≡◌, ◌⊎◌, ℕ, ◌≤◌, List, None, IfSome, Result, Ok, Err}
use Rattle.office_base.specs.Maps.{at_number}
use Rattle.plain_office.specs.Office.{Account}
use Rattle.plain_office.specs.Changes.{stack_at}
use Rattle.plain_office.specs.Orderly.{HasOpenStays, IsOrderlyBucket}
use Rattle.office_types.specs.declared.refusal.Refusal.{Refusal}
use Rattle.office_types.specs.declared.refusal.Refusal.TheVariants.{NoMemory}
use Rattle.office_types.specs.declared.refusal.What.{What}
use Rattle.bucket_account.specs.declared.counts.Counts.{Counts}
use Rattle.bucket_account.specs.Changing.{IsFullAfter}
use Rattle.bucket_account.specs.Counting.{AccountRecord, HaveMoved, first_over}
use Rattle.bucket_account.specs.Standing.{StandsForAccount}

-- what an effect on a key's versions at a moment needs: the records are orderly, the open stays are those that they ask
-- for, and the key's versions changed last at no later moment
pub record IsReadyAt (key : List ℕ) (at : ℕ) (account : Account) : Type 0 where
  pub last : ℕ
  pub bucket : IsOrderlyBucket last account.bucket
  pub stays : HasOpenStays account
  pub changed : (stack_at key account.bucket).changed ≤ at

-- what an effect on an upload needs
pub record IsUploadReadyAt (number at : ℕ) (account : Account) : Type 0 where
  pub last : ℕ
  pub bucket : IsOrderlyBucket last account.bucket
  pub stays : HasOpenStays account
  pub changed : IfSome (at_number number account.bucket.uploads) (λ upload. upload.changed ≤ at)

-- The effect is done: the bucket stands for the account after it, and the counts have moved with it, within their
-- limits. Or it is refused for a count or out of memory, and the bucket stands for the account before.
abbrev pub DoesEffect : List What → (Account → Account) → Account → Counts → AccountRecord → Result Counts Refusal
    → Type 0
DoesEffect whats effect before counts after (Ok moved) =
    StandsForAccount after (effect before) × HaveMoved before.bucket (effect before).bucket counts moved
    × (first_over whats moved ≡ None)
DoesEffect whats effect before counts after (Err refusal) =
    ((refusal ≡ NoMemory) ⊎ IsFullAfter whats before.bucket (effect before).bucket counts refusal)
    × StandsForAccount after before
