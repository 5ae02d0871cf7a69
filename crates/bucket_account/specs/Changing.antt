-- What a command does to its bucket in memory, compared with what the plain office does.
use Rattle.std.specs.Prelude.{◌≡◌, ◌⊎◌, ℕ, List, [], ◌∷◌, None, Result, Ok, Err, if◌then◌else◌}
use Rattle.due_core.specs.Buckets.{BucketRecord}
use Rattle.plain_office.specs.Office.{Account}
use Rattle.plain_office.specs.Orderly.{HasOpenStays, IsOrderlyBucket}
use Rattle.plain_office.specs.Step.{Change, is_unversioned, set_versioning, set_rules, drop_rules, put_object, delete, delete_version}
use Rattle.plain_office.specs.Step.{set_tags, start_upload, put_part, complete, abort, act}
use Rattle.office_types.specs.declared.command.Command.{Command}
use Rattle.office_types.specs.declared.command.Command.TheVariants as command
use Rattle.office_types.specs.declared.refusal.Refusal.{Refusal}
use Rattle.office_types.specs.declared.refusal.Refusal.TheVariants.{NoMemory}
use Rattle.office_types.specs.declared.refusal.What.{What}
use Rattle.office_types.specs.declared.refusal.What.TheVariants.{Versions, Uploads, Parts, Names, Rules}
use Rattle.bucket_account.specs.declared.change.Done.{Done}
use Rattle.bucket_account.specs.declared.counts.Counts.{Counts}
use Rattle.bucket_account.specs.Counting.{AccountRecord, HaveMoved, first_over, IsFullOf}
use Rattle.bucket_account.specs.Standing.{StandsForAccount}

-- what the plain office does for a command on the account of its bucket, one equation for each
abbrev pub change_of : ℕ → Command → Account → Change
change_of t (command.SetVersioning name enabled) account = set_versioning t enabled account
change_of t (command.SetRules name rules) account = set_rules t rules account
change_of t (command.DropRules name) account = drop_rules t account
change_of t (command.Put name key size class tags) account = put_object t key size class tags account
change_of t (command.Delete name key) account = delete t key account
change_of t (command.DeleteVersion name key id) account = delete_version t key id account
change_of t (command.SetTags name key id tags) account = set_tags t key id tags account
change_of t (command.StartUpload name key class tags) account = start_upload t key class tags account
change_of t (command.PutPart name upload part size) account = put_part t upload part size account
change_of t (command.Complete name upload) account = complete t upload account
change_of t (command.Abort name upload) account = abort t upload account
change_of t (command.Act name) account = act t account
change_of t other account = Err NoMemory

-- the counts to which a command on a bucket adds, in the order in which they are tested
abbrev pub limits_of : Command → BucketRecord → List What
limits_of (command.SetRules name rules) bucket = Rules ∷ []
limits_of (command.Put name key size class tags) bucket = Versions ∷ Names ∷ []
limits_of (command.Delete name key) bucket =
    if is_unversioned bucket.versioning then Names ∷ [] else Versions ∷ Names ∷ []
limits_of (command.SetTags name key id tags) bucket = Names ∷ []
limits_of (command.StartUpload name key class tags) bucket = Uploads ∷ Names ∷ []
limits_of (command.PutPart name upload part size) bucket = Parts ∷ []
limits_of (command.Complete name upload) bucket = Versions ∷ Names ∷ []
limits_of other bucket = []

-- a command that is done on this bucket
abbrev pub IsOnBucket : List ℕ → Command → Type 0
IsOnBucket bucket (command.SetVersioning name enabled) = bucket ≡ name
IsOnBucket bucket (command.SetRules name rules) = bucket ≡ name
IsOnBucket bucket (command.DropRules name) = bucket ≡ name
IsOnBucket bucket (command.Put name key size class tags) = bucket ≡ name
IsOnBucket bucket (command.Delete name key) = bucket ≡ name
IsOnBucket bucket (command.DeleteVersion name key id) = bucket ≡ name
IsOnBucket bucket (command.SetTags name key id tags) = bucket ≡ name
IsOnBucket bucket (command.StartUpload name key class tags) = bucket ≡ name
IsOnBucket bucket (command.PutPart name upload part size) = bucket ≡ name
IsOnBucket bucket (command.Complete name upload) = bucket ≡ name
IsOnBucket bucket (command.Abort name upload) = bucket ≡ name
IsOnBucket bucket (command.Act name) = bucket ≡ name
IsOnBucket bucket other = ⊥

-- what a change needs of its account: its records are orderly at the moment, and its open stays are those that they ask
-- for
pub record IsOrderlyAccount (t : ℕ) (account : Account) : Type 0 where
  pub bucket : IsOrderlyBucket t account.bucket
  pub stays : HasOpenStays account

-- refused for a count: one of these would be above its limit after the command
pub record IsFullAfter (whats : List What) (before after : BucketRecord) (counts : Counts) (refusal : Refusal)
    : Type 0 where
  pub moved : Counts
  pub follow : HaveMoved before after counts moved
  pub full : IsFullOf whats moved refusal

-- The plain office accepts: the reply is its reply, the bucket stands for its account, and the counts have moved with
-- it, within their limits. Or the command is refused as there, for a count, or out of memory, and the bucket stands for
-- the account before.
abbrev pub DoesTold : List What → Change → Account → Counts → AccountRecord → Result Done Refusal → Type 0
DoesTold whats (Ok told) before counts after (Ok done) =
    (done.reply ≡ told.1) × StandsForAccount after told.0 × HaveMoved before.bucket told.0.bucket counts done.counts
    × (first_over whats done.counts ≡ None)
DoesTold whats (Ok told) before counts after (Err refusal) =
    ((refusal ≡ NoMemory) ⊎ IsFullAfter whats before.bucket told.0.bucket counts refusal)
    × StandsForAccount after before
DoesTold whats (Err refused) before counts after (Ok done) = ⊥
DoesTold whats (Err refused) before counts after (Err refusal) =
    ((refusal ≡ NoMemory) ⊎ (refusal ≡ refused)) × StandsForAccount after before
