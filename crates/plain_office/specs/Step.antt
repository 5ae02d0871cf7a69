-- What each command does and what it answers, at a moment.
use Rattle.std.specs.Prelude.{ℕ, ◌+◌, ◌-◌, Bool, true, false, not, ◌&&◌, List, [], ◌∷◌, ◌++◌, length, filter, nat_lt, slice_get, Option, Some, None}
use Rattle.std.specs.Prelude.{is_some, unwrap_or, option_map, Result, Ok, Err, if◌then◌else◌}
use Rattle.std.specs.Option.{ok_or}
use Rattle.moments.specs.Months.{month_at, month_end}
use Rattle.class_rules.specs.declared.class.Class.{Class}
use Rattle.office_base.specs.Maps.{at_name, with_name, at_number}
use Rattle.office_base.specs.Results.{◌>>=◌}
use Rattle.office_base.specs.Tags.{Tag}
use Rattle.office_base.specs.declared.version_id.VersionId.{VersionId}
use Rattle.office_base.specs.declared.version_id.VersionId.TheVariants.{Null}
use Rattle.rules_core.specs.Configurations.{Configuration}
use Rattle.rules_core.specs.Matching.{is_empty}
use Rattle.rules_core.specs.declared.rule.Rule.{Rule}
use Rattle.stacks.specs.Stacks.{StackRecord, found, tags_at, after_tags}
use Rattle.stacks.specs.declared.refusal.StackRefusal.{StackRefusal}
use Rattle.stacks.specs.declared.refusal.StackRefusal.TheVariants as stack
use Rattle.stacks.specs.declared.version.Versioning.{Versioning}
use Rattle.stacks.specs.declared.version.Versioning.TheVariants.{Unversioned, Enabled, Suspended}
use Rattle.stacks.specs.declared.version.Kind.TheVariants as kind
use Rattle.uploads.specs.Uploads.{UploadRecord, new_upload, new_part, admits_part, total_size}
use Rattle.tariff.specs.Prices.{Prices}
use Rattle.due_core.specs.Buckets.{BucketRecord}
use Rattle.due_core.specs.Choice.{choice}
use Rattle.due_core.specs.declared.action.ActionKind.{ActionKind}
use Rattle.due_core.specs.declared.action.ActionKind.TheVariants as action
use Rattle.due_core.specs.declared.action.Action.{Action}
use Rattle.office_types.specs.declared.command.Command.{Command}
use Rattle.office_types.specs.declared.command.Command.TheVariants as command
use Rattle.office_types.specs.declared.reply.Reply.{Reply}
use Rattle.office_types.specs.declared.reply.Reply.TheVariants.{BucketMade, VersioningSet, RulesSet, Stored, Deleted, VersionDeleted}
use Rattle.office_types.specs.declared.reply.Reply.TheVariants.{TagsSet, UploadStarted, PartStored, Aborted, Chosen, NothingDue, TariffSet}
use Rattle.office_types.specs.declared.reply.Reply.TheVariants.{Closed}
use Rattle.office_types.specs.declared.refusal.Refusal.{Refusal}
use Rattle.office_types.specs.declared.refusal.Refusal.TheVariants.{BucketExists, NoSuchBucket, NoRules, NotEnabledBefore, NoSuchKey}
use Rattle.office_types.specs.declared.refusal.Refusal.TheVariants.{NoSuchVersion, IsMarker, NoSuchUpload, BadPart, NoParts, MonthNotOver}
use Rattle.office_types.specs.declared.refusal.Refusal.TheVariants.{AlreadyClosed, EarlierMonthOpen, NoTariff, DueActions, Full}
use Rattle.office_types.specs.declared.refusal.What.{What}
use Rattle.office_types.specs.declared.refusal.What.TheVariants.{Buckets, Versions, Uploads, Parts, Names, Rules, Tariffs}
use Rattle.plain_office.specs.Office.{Office, Account, empty_books}
use Rattle.plain_office.specs.Changes.{with_stack, next_id, add_version, remove_version, with_upload, add_part, remove_upload, effect}
use Rattle.plain_office.specs.Charges.{in_force}
use Rattle.plain_office.specs.Counts.{limit_of, first_full}

-- the refusal if the test holds, else the value
abbrev pub refuse_if : {A : Type 0} → Bool → Refusal → A → Result A Refusal
refuse_if test refusal x = if test then Err refusal else Ok x

-- ---- what a command names has to exist

-- the account of the bucket with this name; refused if there is none
abbrev pub account_at : List ℕ → Office → Result Account Refusal
account_at name office = ok_or (at_name name office.accounts) NoSuchBucket

-- the key has a stack: at least a version or a delete marker
abbrev pub has_stack : List ℕ → Account → Bool
has_stack key account = is_some (at_name key account.bucket.stacks)

-- the stack of a key; refused if it has none
abbrev pub stack_in : List ℕ → Account → Result StackRecord Refusal
stack_in key account = ok_or (at_name key account.bucket.stacks) NoSuchKey

-- the upload with this number; refused if there is none
abbrev pub upload_in : ℕ → Account → Result UploadRecord Refusal
upload_in number account = ok_or (at_number number account.bucket.uploads) NoSuchUpload

-- the result of a stack's call, with the office's refusals
abbrev pub of_stack : {X : Type 0} → Result X StackRefusal → Result X Refusal
of_stack (Ok x) = Ok x
of_stack (Err stack.NoSuchVersion) = Err NoSuchVersion
of_stack (Err stack.IsMarker) = Err IsMarker

-- ---- the commands on one bucket

-- the account after a command and the reply, or the refusal
abbrev pub Change : Type 0
Change = Result (Account × Reply) Refusal

-- versioning was never enabled
abbrev pub is_unversioned : Versioning → Bool
is_unversioned Unversioned = true
is_unversioned Enabled = false
is_unversioned Suspended = false

-- sets a bucket's versioning (S3 User Guide, "Using versioning in S3 buckets": once enabled, versioning can only be
-- suspended). Own: it can be suspended only if it was enabled before.
abbrev pub set_versioning : ℕ → Bool → Account → Change
set_versioning t enabled account =
    let versioning = if enabled then Enabled else Suspended in
    refuse_if (not enabled && is_unversioned account.bucket.versioning) NotEnabledBefore (
      record account { bucket = record account.bucket { versioning = versioning; rules_since = t } },
      VersioningSet versioning,
    )

-- the account with this configuration, or without one, from the moment on
abbrev pub with_rules : ℕ → Option Configuration → Account → Account
with_rules t rules account = record account { bucket = record account.bucket { rules = rules; rules_since = t } }

-- sets a configuration (S3 User Guide, "Setting an S3 Lifecycle configuration on a bucket": it replaces the one before)
abbrev pub set_rules : ℕ → Configuration → Account → Change
set_rules t rules account = Ok (with_rules t (Some rules) account, RulesSet (length rules.rules))

-- drops a bucket's configuration (own: refused if it has none)
abbrev pub drop_rules : ℕ → Account → Change
drop_rules t account = refuse_if (not (is_some account.bucket.rules)) NoRules (with_rules t None account, RulesSet 0)

-- puts an object (S3 User Guide, "Uploading objects")
abbrev pub put_object : ℕ → List ℕ → ℕ → Class → List Tag → Account → Change
put_object t key size class tags account =
    Ok (add_version key (kind.Object size class tags t) t account, Stored t (next_id account.bucket))

-- deletes a key. Without versioning the null version is removed (own: refused if the key has no versions). Else a
-- delete marker is put (S3 User Guide, "Working with delete markers", "Deleting objects from versioning-suspended
-- buckets").
abbrev pub delete : ℕ → List ℕ → Account → Change
delete t key account = by_versioning account.bucket.versioning where
  by_versioning : Versioning → Change
  by_versioning Unversioned =
      refuse_if (not (has_stack key account)) NoSuchKey (remove_version key Null t account, Deleted None)
  by_versioning kept = Ok (add_version key kind.Marker t account, Deleted (Some (next_id account.bucket)))

-- removes a version (S3 User Guide, "Deleting object versions from a versioning-enabled bucket")
abbrev pub delete_version : ℕ → List ℕ → VersionId → Account → Change
delete_version t key id account = do
  stack ← stack_in key account
  version ← of_stack (found id stack.versions)
  Ok (remove_version key id t account, VersionDeleted id)

-- replaces the tags of an object (S3 User Guide, "Categorizing your objects using tags")
abbrev pub set_tags : ℕ → List ℕ → VersionId → List Tag → Account → Change
set_tags t key id tags account = do
  stack ← stack_in key account
  before ← of_stack (tags_at id stack.versions)
  Ok (record account { bucket = with_stack key (after_tags id tags t stack) account.bucket }, TagsSet (length tags))

-- starts an upload (S3 User Guide, "Uploading and copying objects using multipart upload": initiation)
abbrev pub start_upload : ℕ → List ℕ → Class → List Tag → Account → Change
start_upload t key class tags account =
    let number = account.bucket.next_upload in
    let bucket = with_upload number (new_upload key class tags t) account.bucket in
    Ok (record account { bucket = record bucket { next_upload = number + 1 } }, UploadStarted number)

-- puts a part of an upload (S3 User Guide, "Uploading and copying objects using multipart upload": parts upload)
abbrev pub put_part : ℕ → ℕ → ℕ → ℕ → Account → Change
put_part t number part size account = do
  upload ← upload_in number account
  refuse_if (not (admits_part part (new_part size t) upload.parts)) BadPart
      (add_part number upload part size t account, PartStored part)

-- completes an upload: it is removed with its parts, and an object of their total size is put (S3 User Guide,
-- "Uploading and copying objects using multipart upload": completion; own: this is the moment of its creation)
abbrev pub complete : ℕ → ℕ → Account → Change
complete t number account = do
  upload ← upload_in number account
  if is_empty upload.parts then Err NoParts
      else put_object t upload.key (total_size upload.parts) upload.class upload.tags
      (remove_upload number upload t account)

-- aborts an upload (S3 User Guide, "Aborting a multipart upload")
abbrev pub abort : ℕ → ℕ → Account → Change
abort t number account = do
  upload ← upload_in number account
  Ok (remove_upload number upload t account, Aborted number)

-- ---- lifecycle actions

-- the id of the rule at this place, from 1; empty if there is none
abbrev pub rule_id : Option Configuration → ℕ → List ℕ
rule_id None place = []
rule_id (Some rules) place = unwrap_or (option_map (λ (rule : Rule). rule.id) (slice_get rules.rules (place - 1))) []

-- the marker that an action puts; none for other kinds
abbrev pub marker_made : ActionKind → BucketRecord → Option VersionId
marker_made action.Marker bucket = Some (next_id bucket)
marker_made kind bucket = None

-- the reply with an action, and with the marker that it put, if any
abbrev pub shown_action : Action → Option VersionId → BucketRecord → Reply
shown_action action marker bucket =
    Chosen action.kind action.key action.target (rule_id bucket.rules action.rule) action.since marker

-- does the bucket's choice at the moment (S3 User Guide, "Managing the lifecycle of objects")
abbrev pub act : ℕ → Account → Change
act t account = done (choice account.bucket t) where
  done : Option Action → Change
  done None = Ok (account, NothingDue)
  done (Some action) =
      Ok (effect action account, shown_action action (marker_made action.kind account.bucket) account.bucket)

-- ---- the commands on the whole office

-- the office after a command and the reply, or the refusal
abbrev pub Outcome : Type 0
Outcome = Result (Office × Reply) Refusal

-- the outcome of a change of one bucket; refused if there is no such bucket
abbrev pub on_bucket : List ℕ → (Account → Change) → Office → Outcome
on_bucket name change office = do
  account ← account_at name office
  done ← change account
  Ok (record office { accounts = with_name name done.0 office.accounts }, done.1)

-- the outcome of a command; refused if a count is above its limit
abbrev pub unless_full : Option What → Office × Reply → Outcome
unless_full None done = Ok done
unless_full (Some what) done = Err (Full what (limit_of what))

-- the outcome, refused if one of these counts is above its limit afterwards (own: also if the command does not change
-- that count)
abbrev pub within_limits : List What → Outcome → Outcome
within_limits whats outcome = do
  done ← outcome
  unless_full (first_full whats done.0) done

-- a new bucket: without versioning, rules, versions and uploads (S3 User Guide, "Creating a general purpose bucket")
abbrev pub new_bucket : ℕ → BucketRecord
new_bucket t = record {
  versioning = Unversioned;
  rules = None;
  rules_since = t;
  stacks = [];
  uploads = [];
  next_version = 1;
  next_upload = 1;
}

-- the account of a new bucket: nothing is booked for it
abbrev pub new_account : ℕ → Account
new_account t = record { bucket = new_bucket t; books = empty_books }

-- makes a bucket (S3 User Guide, "Creating a general purpose bucket": each name is used once)
abbrev pub create_bucket : ℕ → List ℕ → Office → Outcome
create_bucket t name office =
    refuse_if (is_some (at_name name office.accounts)) BucketExists
    (record office { accounts = with_name name (new_account t) office.accounts }, BucketMade name)

-- the tariffs with this one, in the order of their first months; it replaces the one with the same first month (own)
abbrev pub with_tariff : Prices → List Prices → List Prices
with_tariff tariff others =
    filter (λ other. nat_lt other.from tariff.from) others ++ tariff ∷ filter (λ other. nat_lt tariff.from other.from) others

-- sets a tariff: it holds from its first month on, up to the first month of the next one (own)
abbrev pub set_tariff : Prices → Office → Outcome
set_tariff tariff office = Ok (record office { tariffs = with_tariff tariff office.tariffs }, TariffSet)

-- the first month that is not closed (own). Months before the first accepted command count as closed. Before that
-- command, so do all months before the month of the moment.
abbrev pub month_to_close : ℕ → Office → ℕ
month_to_close t office = unwrap_or office.first_month (month_at t) + length office.closed

-- the first bucket whose choice takes effect before end, with that choice
abbrev pub due_before : ℕ → ℕ → List (List ℕ × Account) → Option (List ℕ × Action)
due_before t end [] = None
due_before t end ((name, account) ∷ accounts) = early_or (choice account.bucket t) (due_before t end accounts) where
  early_or : Option Action → Option (List ℕ × Action) → Option (List ℕ × Action)
  early_or None others = others
  early_or (Some action) others = if nat_lt action.since end then Some (name, action) else others

-- the outcome of a close; refused if an action is due in a bucket
abbrev pub unless_due : Option (List ℕ × Action) → Office × Reply → Outcome
unless_due None done = Ok done
unless_due (Some (name, action)) done = Err (DueActions name action.key action.target)

-- closes a month, with the tariff in force in it (own). Months are closed in order, after they are over, and after all
-- actions due in them are done.
abbrev pub close : ℕ → ℕ → Office → Outcome
close t month office =
    if nat_lt t (month_end month) then Err (MonthNotOver (month_end month))
    else if nat_lt month (month_to_close t office) then Err AlreadyClosed
    else if nat_lt (month_to_close t office) month then Err (EarlierMonthOpen (month_to_close t office))
    else do
      tariff ← ok_or (in_force month office.tariffs) NoTariff
      unless_due (due_before t (month_end month) office.accounts)
          (record office { closed = office.closed ++ (month, tariff) ∷ [] }, Closed month)

-- a delete in this bucket puts a marker, so it adds a version
abbrev pub adds_marker : List ℕ → Office → Bool
adds_marker name office = kept (at_name name office.accounts) where
  kept : Option Account → Bool
  kept None = false
  kept (Some account) = not (is_unversioned account.bucket.versioning)

-- what a command does, or why it is refused, in the order of the tests. A limit is tested if the command may add to its
-- count (own).
unfoldable pub outcome : ℕ → Command → Office → Outcome
outcome t (command.CreateBucket name) office = within_limits (Buckets ∷ []) (create_bucket t name office)
outcome t (command.SetVersioning name enabled) office = on_bucket name (set_versioning t enabled) office
outcome t (command.SetRules name rules) office = within_limits (Rules ∷ []) (on_bucket name (set_rules t rules) office)
outcome t (command.DropRules name) office = on_bucket name (drop_rules t) office
outcome t (command.Put name key size class tags) office =
    within_limits (Versions ∷ Names ∷ []) (on_bucket name (put_object t key size class tags) office)
outcome t (command.Delete name key) office =
    within_limits (if adds_marker name office then Versions ∷ Names ∷ [] else Names ∷ [])
    (on_bucket name (delete t key) office)
outcome t (command.DeleteVersion name key id) office = on_bucket name (delete_version t key id) office
outcome t (command.SetTags name key id tags) office =
    within_limits (Names ∷ []) (on_bucket name (set_tags t key id tags) office)
outcome t (command.StartUpload name key class tags) office =
    within_limits (Uploads ∷ Names ∷ []) (on_bucket name (start_upload t key class tags) office)
outcome t (command.PutPart name upload part size) office =
    within_limits (Parts ∷ []) (on_bucket name (put_part t upload part size) office)
outcome t (command.Complete name upload) office =
    within_limits (Versions ∷ Names ∷ []) (on_bucket name (complete t upload) office)
outcome t (command.Abort name upload) office = on_bucket name (abort t upload) office
outcome t (command.Act name) office = on_bucket name (act t) office
outcome t (command.SetTariff tariff) office = within_limits (Tariffs ∷ []) (set_tariff tariff office)
outcome t (command.Close month) office = close t month office

-- ---- a step

-- an accepted command sets the last moment, and the first one also sets the first month (own)
abbrev pub accepted : ℕ → Office → Office
accepted t office = record office { last = Some t; first_month = Some (unwrap_or office.first_month (month_at t)) }

-- a refused command does not change the office; nor does an act that finds nothing due (own)
abbrev pub settled : ℕ → Office → Outcome → Office × Result Reply Refusal
settled t before (Err refusal) = (before, Err refusal)
settled t before (Ok (after, NothingDue)) = (before, Ok NothingDue)
settled t before (Ok (after, reply)) = (accepted t after, Ok reply)

-- the office after a command without a token at this moment, and the answer. The moment must not be before the last
-- one, and must be below the end of time.
unfoldable pub step : ℕ → Command → Office → Office × Result Reply Refusal
step t command office = settled t office (outcome t command office)

-- the answer is that of an accepted command: any reply except that nothing is due
abbrev pub is_accepted : Result Reply Refusal → Bool
is_accepted (Err refusal) = false
is_accepted (Ok NothingDue) = false
is_accepted (Ok reply) = true
