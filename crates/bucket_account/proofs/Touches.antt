-- What a command or a lifecycle action does not touch stays, so that an index of the next actions stands for the rest.
use Rattle.std.proofs.Common.{◌≡◌, ℕ, ◌+◌, List, refl, ap, sym, ◌∙◌, subst, Bool, true, false, not, cond}
use Rattle.std.specs.Prelude.{Option, Some, None, Result, Ok, Err, IfSome, is_ok}
use Rattle.std.specs.Ordering.{nat_cmp, is_eq}
use Rattle.office_base.specs.Maps.{Rises, bytes_cmp, at_name, with_name, without_name, at_number, with_number, without_number}
use Rattle.office_base.specs.Results.{◌>>=◌}
use Rattle.office_base.specs.Tags.{Tag}
use Rattle.office_base.specs.declared.version_id.VersionId.{VersionId}
use Rattle.office_base.specs.declared.version_id.VersionId.TheVariants.{Null}
use Rattle.rules_core.specs.Matching.{is_empty}
use Rattle.class_rules.specs.declared.class.Class.{Class}
use Rattle.stacks.specs.Stacks.{StackRecord, found, tags_at, after_adding, after_removal, after_move, after_tags}
use Rattle.stacks.specs.declared.version.Kind.{Kind}
use Rattle.stacks.specs.declared.version.Kind.TheVariants as kind
use Rattle.stacks.specs.declared.version.Kind.TheVariants.{Marker}
use Rattle.stacks.specs.declared.version.Versioning.{Versioning}
use Rattle.stacks.specs.declared.version.Versioning.TheVariants.{Unversioned, Enabled, Suspended}
use Rattle.uploads.specs.Uploads.{UploadRecord, new_upload, after_part}
use Rattle.due_core.specs.Buckets.{BucketRecord}
use Rattle.due_core.specs.declared.action.Action.{Action}
use Rattle.due_core.specs.declared.action.ActionKind.{ActionKind}
use Rattle.due_core.specs.declared.action.ActionKind.TheVariants as action
use Rattle.due_core.specs.declared.action.Target.{Target}
use Rattle.due_core.specs.declared.action.Target.TheVariants as target
use Rattle.due_index.specs.Index.{IndexRecord, StandsFor, StandsButKey, StandsButUpload}
use Rattle.due_index.proofs.Following.{FollowsIn}
use Rattle.due_index.proofs.Touched.{KeepsRules, stands_but_key, stands_but_upload}
use Rattle.plain_office.specs.Office.{Account}
use Rattle.plain_office.specs.Changes.{stack_at, stacks_with, with_stack, with_upload, next_id, remove_version, add_version, move_version, add_part, remove_upload_at, remove_upload, effect}
use Rattle.plain_office.specs.Step.{Change, refuse_if, has_stack, stack_in, upload_in, of_stack, delete}
use Rattle.office_types.specs.declared.command.Command.{Command}
use Rattle.office_types.specs.declared.command.Command.TheVariants as command
use Rattle.office_types.specs.declared.reply.Reply.{Reply}
use Rattle.office_types.specs.declared.reply.Reply.TheVariants.{Deleted}
use Rattle.office_types.specs.declared.refusal.Refusal.{Refusal}
use Rattle.office_types.specs.declared.refusal.Refusal.TheVariants.{NoSuchKey}
use Rattle.office_types.specs.declared.refusal.What.{What}
use Rattle.office_laws.proofs.Maps.{by_name, by_number, equal_of, at_other, at_left}
use Rattle.bucket_account.specs.declared.change.Done.{Done}
use Rattle.bucket_account.specs.declared.counts.Counts.{Counts}
use Rattle.bucket_account.specs.Changing.{change_of, DoesTold}
use Rattle.bucket_account.specs.Counting.{AccountRecord}
use Rattle.bucket_account.specs.Effects.{DoesEffect}
use Rattle.bucket_account.proofs.KeyStacks.{FollowsAt, follows_written_at, follows_same_at, added_follows, gone_follows, moved_follows, tagged_follows}
use Rattle.bucket_account.specs.Touching.{Touch, of_key, of_upload, of_all, touched, touched_at, StandsBut}

-- ---- maps elsewhere

differs_by : (b : Bool) (P : Type 0) → (b ≡ true → P) → (P → ⊥) → b ≡ false
differs_by true P is never = absurd (never (is refl))
differs_by false P is never = refl

other_name : (k key : List ℕ) → (k ≡ key → ⊥) → is_eq (bytes_cmp k key) ≡ false
other_name k key apart = differs_by (is_eq (bytes_cmp k key)) (k ≡ key) (λ is. by_name.same k key (equal_of (bytes_cmp k key) is)) apart

other_number : (n number : ℕ) → (n ≡ number → ⊥) → is_eq (nat_cmp n number) ≡ false
other_number n number apart = differs_by (is_eq (nat_cmp n number)) (n ≡ number) (λ is. by_number.same n number (equal_of (nat_cmp n number) is)) apart

name_elsewhere : {X : Type 0} (key : List ℕ) (value : X) (entries : List (List ℕ × X)) (k : List ℕ) → (k ≡ key → ⊥) → at_name k (with_name key value entries) ≡ at_name k entries
name_elsewhere key value entries k apart = at_other by_name key value k (other_name k key apart) entries

number_elsewhere : {X : Type 0} (number : ℕ) (value : X) (entries : List (ℕ × X)) (n : ℕ) → (n ≡ number → ⊥) → at_number n (with_number number value entries) ≡ at_number n entries
number_elsewhere number value entries n apart = at_other by_number number value n (other_number n number apart) entries

stack_elsewhere_by : (b : Bool) (key : List ℕ) (stack : StackRecord) (entries : List (List ℕ × StackRecord)) (k : List ℕ) → (k ≡ key → ⊥)
    → at_name k (cond b (without_name key entries) (with_name key stack entries)) ≡ at_name k entries
stack_elsewhere_by true key stack entries k apart = at_left by_name key k (other_name k key apart) entries
stack_elsewhere_by false key stack entries k apart = name_elsewhere key stack entries k apart

-- ---- what stays

-- versioning, rules, all uploads and the versions of all other keys are the same; the key's noncurrent versions follow
-- from those before
pub record KeepsButKey (key : List ℕ) (touched : Option VersionId) (before after : BucketRecord) : Type 0 where
  pub rules : KeepsRules before after
  pub follows : FollowsAt key touched before after
  pub others : (k : List ℕ) → (k ≡ key → ⊥) → at_name k after.stacks ≡ at_name k before.stacks
  pub uploads : (n : ℕ) → at_number n after.uploads ≡ at_number n before.uploads

-- versioning, rules, all versions and all other uploads are the same
pub record KeepsButUpload (number : ℕ) (before after : BucketRecord) : Type 0 where
  pub rules : KeepsRules before after
  pub stacks : (k : List ℕ) → at_name k after.stacks ≡ at_name k before.stacks
  pub others : (n : ℕ) → (n ≡ number → ⊥) → at_number n after.uploads ≡ at_number n before.uploads

-- nothing else has changed
abbrev pub KeepsBut : Touch → BucketRecord → BucketRecord → Type 0
KeepsBut (of_key key touched) before after = KeepsButKey key touched before after
KeepsBut (of_upload number) before after = KeepsButUpload number before after
KeepsBut of_all before after = Unit {0}

pub keeps_key : (key : List ℕ) (touched : Option VersionId) (before after : BucketRecord) → KeepsRules before after → FollowsAt key touched before after → (stack : StackRecord)
    → after.stacks ≡ stacks_with key stack before.stacks → after.uploads ≡ before.uploads → KeepsButKey key touched before after
keeps_key key touched before after rules follows stack stacks uploads = record {
  rules = rules;
  follows = follows;
  others = λ k apart. ap (at_name k) stacks ∙ stack_elsewhere_by (is_empty stack.versions) key stack before.stacks k apart;
  uploads = λ n. ap (at_number n) uploads;
}

-- a key that has these versions now
pub keeps_written : (key : List ℕ) (touched : Option VersionId) (before after : BucketRecord) → KeepsRules before after → (stack : StackRecord)
    → FollowsIn touched (stack_at key before).versions stack.versions
    → after.stacks ≡ with_name key stack before.stacks → after.uploads ≡ before.uploads → KeepsButKey key touched before after
keeps_written key touched before after rules stack follows stacks uploads = record {
  rules = rules;
  follows = follows_written_at key touched before after stack follows stacks;
  others = λ k apart. ap (at_name k) stacks ∙ name_elsewhere key stack before.stacks k apart;
  uploads = λ n. ap (at_number n) uploads;
}

pub keeps_upload : (number : ℕ) (before after : BucketRecord) → KeepsRules before after → (upload : UploadRecord)
    → after.stacks ≡ before.stacks → after.uploads ≡ with_number number upload before.uploads → KeepsButUpload number before after
keeps_upload number before after rules upload stacks uploads = record {
  rules = rules;
  stacks = λ k. ap (at_name k) stacks;
  others = λ n apart. ap (at_number n) uploads ∙ number_elsewhere number upload before.uploads n apart;
}

pub keeps_removed : (number : ℕ) (before after : BucketRecord) → KeepsRules before after
    → after.stacks ≡ before.stacks → after.uploads ≡ without_number number before.uploads → KeepsButUpload number before after
keeps_removed number before after rules stacks uploads = record {
  rules = rules;
  stacks = λ k. ap (at_name k) stacks;
  others = λ n apart. ap (at_number n) uploads ∙ at_left by_number number n (other_number n number apart) before.uploads;
}

same_rules : (bucket : BucketRecord) → KeepsRules bucket bucket
same_rules bucket = record { versioning = refl; rules = refl; since = refl }

keeps_all : (touch : Touch) (bucket : BucketRecord) → KeepsBut touch bucket bucket
keeps_all (of_key key touched) bucket = record { rules = same_rules bucket; follows = follows_same_at key touched bucket bucket refl; others = λ k apart. refl; uploads = λ n. refl }
keeps_all (of_upload number) bucket = record { rules = same_rules bucket; stacks = λ k. refl; others = λ n apart. refl }
keeps_all of_all bucket = tt

-- ---- what the effects leave

module _ (account : Account) where
  abbrev bucket : BucketRecord
  bucket = account.bucket

  module _ (rises : Rises bytes_cmp account.bucket.stacks) (key : List ℕ) where
    pub added : (touched : Option VersionId) (kind : Kind) (at : ℕ) → KeepsButKey key touched bucket (add_version key kind at account).bucket
    added touched kind at =
        keeps_key key touched bucket (add_version key kind at account).bucket (record { rules = refl; versioning = refl; since = refl }) (added_follows account rises key touched kind at)
        (after_adding (next_id bucket) kind at (stack_at key bucket)) refl refl

    pub gone : (touched : Option VersionId) (id : VersionId) (at : ℕ) → KeepsButKey key touched bucket (remove_version key id at account).bucket
    gone touched id at =
        keeps_key key touched bucket (remove_version key id at account).bucket (record { rules = refl; versioning = refl; since = refl }) (gone_follows account rises key touched id at)
        (after_removal id at (stack_at key bucket)) refl refl

    pub moved : (id : VersionId) (to : Class) (at : ℕ) → KeepsButKey key (Some id) bucket (move_version key id to at account).bucket
    moved id to at =
        keeps_key key (Some id) bucket (move_version key id to at account).bucket (record { rules = refl; versioning = refl; since = refl }) (moved_follows account rises key id to at)
        (after_move id to at (stack_at key bucket)) refl refl

    pub tagged : (id : VersionId) (tags : List Tag) (at : ℕ) (stack : StackRecord) → stack_in key account ≡ Ok stack
        → KeepsButKey key (Some id) bucket (with_stack key (after_tags id tags at stack) bucket)
    tagged id tags at stack is =
        keeps_key key (Some id) bucket (with_stack key (after_tags id tags at stack) bucket) (record { rules = refl; versioning = refl; since = refl }) (tagged_follows account rises key id tags at stack is)
        (after_tags id tags at stack) refl refl

  pub started : (number next : ℕ) (upload : UploadRecord) → KeepsButUpload number bucket (record (with_upload number upload bucket) { next_upload = next })
  started number next upload = keeps_upload number bucket (record (with_upload number upload bucket) { next_upload = next }) (record { rules = refl; versioning = refl; since = refl }) upload refl refl

  pub parted : (number : ℕ) (upload : UploadRecord) (part size at : ℕ) → KeepsButUpload number bucket (add_part number upload part size at account).bucket
  parted number upload part size at =
      keeps_upload number bucket (add_part number upload part size at account).bucket (record { rules = refl; versioning = refl; since = refl }) (after_part part size at upload) refl refl

  pub dropped : (number : ℕ) (upload : UploadRecord) (at : ℕ) → KeepsButUpload number bucket (remove_upload number upload at account).bucket
  dropped number upload at = keeps_removed number bucket (remove_upload number upload at account).bucket (record { rules = refl; versioning = refl; since = refl }) refl refl

-- ---- what a command is told

abbrev Leaves : Touch → BucketRecord → Change → Type 0
Leaves touch before (Ok done) = KeepsBut touch before done.0.bucket
Leaves touch before (Err refusal) = Unit {0}

leaves_any : (before : BucketRecord) (told : Change) → Leaves of_all before told
leaves_any before (Ok done) = tt
leaves_any before (Err refusal) = tt

module _ (touch : Touch) (before : BucketRecord) where
  then_leaves : {A : Type 0} (r : Result A Refusal) (f : A → Change) → ((x : A) → Leaves touch before (f x)) → Leaves touch before (r >>= f)
  then_leaves (Ok x) f h = h x
  then_leaves (Err refusal) f h = tt

  found_leaves : {A : Type 0} (r : Result A Refusal) (f : A → Change) → ((x : A) → r ≡ Ok x → Leaves touch before (f x)) → Leaves touch before (r >>= f)
  found_leaves (Ok x) f h = h x refl
  found_leaves (Err refusal) f h = tt

  unless_leaves : (test : Bool) (refusal : Refusal) (done : Account × Reply) → KeepsBut touch before done.0.bucket → Leaves touch before (refuse_if test refusal done)
  unless_leaves true refusal done h = tt
  unless_leaves false refusal done h = h

module _ (t : ℕ) (account : Account) (rises : Rises bytes_cmp account.bucket.stacks) where
  abbrev its : BucketRecord
  its = account.bucket

  by_versioning : List ℕ → Versioning → Change
  by_versioning key Unversioned = refuse_if (not (has_stack key account)) NoSuchKey (remove_version key Null t account, Deleted None)
  by_versioning key Enabled = Ok (add_version key Marker t account, Deleted (Some (next_id account.bucket)))
  by_versioning key Suspended = Ok (add_version key Marker t account, Deleted (Some (next_id account.bucket)))

  deleted_by : (key : List ℕ) (versioning : Versioning) → Leaves (of_key key None) its (by_versioning key versioning)
  unfolding by_versioning
  deleted_by key Unversioned = unless_leaves (of_key key None) its (not (has_stack key account)) NoSuchKey (remove_version key Null t account, Deleted None) (gone account rises key None Null t)
  deleted_by key Enabled = added account rises key None Marker t
  deleted_by key Suspended = added account rises key None Marker t

  deleted_leaves : (key : List ℕ) → Leaves (of_key key None) its (delete t key account)
  unfolding by_versioning
  deleted_leaves key = deleted_by key account.bucket.versioning

  -- a command leaves what it does not touch
  pub command_leaves : (asked : Command) → Leaves (touched its.next_upload asked) its (change_of t asked account)
  command_leaves (command.Put name key size class tags) = added account rises key None (kind.Object size class tags t) t
  command_leaves (command.Delete name key) = deleted_leaves key
  command_leaves (command.DeleteVersion name key id) =
      then_leaves (of_key key None) its (stack_in key account) _ (λ stack. then_leaves (of_key key None) its (of_stack (found id stack.versions)) _ (λ version. gone account rises key None id t))
  command_leaves (command.SetTags name key id tags) =
      found_leaves (of_key key (Some id)) its (stack_in key account) _ (λ stack is. then_leaves (of_key key (Some id)) its (of_stack (tags_at id stack.versions)) _ (λ old. tagged account rises key id tags t stack is))
  command_leaves (command.StartUpload name key class tags) = started account its.next_upload (its.next_upload + 1) (new_upload key class tags t)
  command_leaves (command.PutPart name number part size) =
      then_leaves (of_upload number) its (upload_in number account) _ (λ upload. unless_leaves (of_upload number) its _ _ _ (parted account number upload part size t))
  command_leaves (command.Abort name number) =
      then_leaves (of_upload number) its (upload_in number account) _ (λ upload. dropped account number upload t)
  command_leaves other = leaves_any its (change_of t other account)

-- ---- what a lifecycle action does

module _ (chosen : Action) (account : Account) (rises : Rises bytes_cmp account.bucket.stacks) where
  removed_by : (number : ℕ) (o : Option UploadRecord) → at_number number account.bucket.uploads ≡ o
      → KeepsButUpload number account.bucket (remove_upload_at number chosen.since account).bucket
  removed_by number None is = rw is (keeps_all (of_upload number) account.bucket)
  removed_by number (Some upload) is = rw is (dropped account number upload chosen.since)

  effect_by : (kind : ActionKind) (aim : Target) → chosen.kind ≡ kind → chosen.target ≡ aim → KeepsBut (touched_at chosen.key aim) account.bucket (effect chosen account).bucket
  unfolding effect
  effect_by action.Remove (target.Version id) kind aims = rw (kind, aims) (gone account rises chosen.key (Some id) id chosen.since)
  effect_by (action.Transition to) (target.Version id) kind aims = rw (kind, aims) (moved account rises chosen.key id to chosen.since)
  effect_by action.Marker (target.Version id) kind aims = rw (kind, aims) (added account rises chosen.key (Some id) Marker chosen.since)
  effect_by action.Abort (target.Version id) kind aims = rw (kind, aims) (keeps_all (of_key chosen.key (Some id)) account.bucket)
  effect_by action.Remove (target.Upload number) kind aims = rw (kind, aims) (keeps_all (of_upload number) account.bucket)
  effect_by (action.Transition to) (target.Upload number) kind aims = rw (kind, aims) (keeps_all (of_upload number) account.bucket)
  effect_by action.Marker (target.Upload number) kind aims = rw (kind, aims) (keeps_all (of_upload number) account.bucket)
  effect_by action.Abort (target.Upload number) kind aims = rw (kind, aims) (removed_by number (at_number number account.bucket.uploads) refl)

  -- an action leaves what it does not touch
  pub effect_leaves : KeepsBut (touched_at chosen.key chosen.target) account.bucket (effect chosen account).bucket
  effect_leaves = effect_by chosen.kind chosen.target refl refl

-- ---- the index stands for the rest

pub stands_but : (touch : Touch) (index : IndexRecord) (before after : BucketRecord) → StandsFor index before → KeepsBut touch before after → StandsBut touch index after
stands_but (of_key key touched) index before after stands keeps = stands_but_key index before after key touched stands keeps.rules keeps.others keeps.uploads keeps.follows
stands_but (of_upload number) index before after stands keeps = stands_but_upload index before after number stands keeps.rules keeps.stacks keeps.others
stands_but of_all index before after stands keeps = tt

pub may_stand_but : (touch : Touch) (index : Option IndexRecord) (before after : BucketRecord) → IfSome index (λ i. StandsFor i before) → KeepsBut touch before after → IfSome index (λ i. StandsBut touch i after)
may_stand_but touch None before after stands keeps = tt
may_stand_but touch (Some index) before after stands keeps = stands_but touch index before after stands keeps

-- ---- after a command

module _ (t : ℕ) (asked : Command) (whats : List What) (account : Account) (rises : Rises bytes_cmp account.bucket.stacks) (counts : Counts) (after : AccountRecord) where
  told_keeps : (told : Change) (result : Result Done Refusal) (touch : Touch) → DoesTold whats told account counts after result → Leaves touch account.bucket told → is_ok result ≡ true
      → KeepsBut touch account.bucket after.bucket
  told_keeps (Ok told) (Ok done) touch h leaves ok = subst (λ (b : BucketRecord). KeepsBut touch account.bucket b) (sym h.1.bucket) leaves
  told_keeps (Err refused) (Ok done) touch h leaves ok = absurd h
  told_keeps told (Err refusal) touch h leaves ok = absurd cc

  -- the index stands for the bucket but for what the command touched
  pub stands_after : (next : ℕ) → next ≡ account.bucket.next_upload → (result : Result Done Refusal) (index : Option IndexRecord)
      → DoesTold whats (change_of t asked account) account counts after result → is_ok result ≡ true
      → IfSome index (λ i. StandsFor i account.bucket) → IfSome index (λ i. StandsBut (touched next asked) i after.bucket)
  stands_after next same result index h ok stands =
      may_stand_but (touched next asked) index account.bucket after.bucket stands
      (told_keeps (change_of t asked account) result (touched next asked) h
      (subst (λ (n : ℕ). Leaves (touched n asked) account.bucket (change_of t asked account)) (sym same) (command_leaves t account rises asked)) ok)

-- ---- after a lifecycle action

-- the index stands for the bucket but for what the action touched
pub stands_acted : (chosen : Action) (account : Account) → Rises bytes_cmp account.bucket.stacks → (whats : List What) (counts : Counts) (after : AccountRecord) (moved : Counts) (index : Option IndexRecord)
    → DoesEffect whats (effect chosen) account counts after (Ok moved)
    → IfSome index (λ i. StandsFor i account.bucket) → IfSome index (λ i. StandsBut (touched_at chosen.key chosen.target) i after.bucket)
stands_acted chosen account rises whats counts after moved index h stands =
    may_stand_but (touched_at chosen.key chosen.target) index account.bucket after.bucket stands
    (subst (λ (b : BucketRecord). KeepsBut (touched_at chosen.key chosen.target) account.bucket b) (sym h.0.bucket) (effect_leaves chosen account rises))

-- the index stands for the same bucket
pub stands_same : (index : Option IndexRecord) (before after : BucketRecord) → after ≡ before → IfSome index (λ i. StandsFor i before) → IfSome index (λ i. StandsFor i after)
stands_same index before after same stands = subst (λ (b : BucketRecord). IfSome index (λ i. StandsFor i b)) (sym same) stands

-- ---- in steps, as where an upload is completed

-- a key has these versions now
pub stands_but_written : (key : List ℕ) (index : Option IndexRecord) (start before after : BucketRecord) → before ≡ start → KeepsRules before after → (stack : StackRecord)
    → FollowsIn None (stack_at key before).versions stack.versions
    → after.stacks ≡ with_name key stack before.stacks → after.uploads ≡ before.uploads
    → IfSome index (λ i. StandsFor i start) → IfSome index (λ i. StandsButKey i after key None)
stands_but_written key index start before after is rules stack follows stacks uploads stands =
    may_stand_but (of_key key None) index before after (subst (λ (b : BucketRecord). IfSome index (λ i. StandsFor i b)) (sym is) stands)
    (keeps_written key None before after rules stack follows stacks uploads)

-- an upload has gone
pub stands_but_removed : (number : ℕ) (index : Option IndexRecord) (before after : BucketRecord) → KeepsRules before after
    → after.stacks ≡ before.stacks → after.uploads ≡ without_number number before.uploads
    → IfSome index (λ i. StandsFor i before) → IfSome index (λ i. StandsButUpload i after number)
stands_but_removed number index before after rules stacks uploads stands =
    may_stand_but (of_upload number) index before after stands (keeps_removed number before after rules stacks uploads)
