-- How the versions of a key follow from those before, in a bucket's stacks: after each change of one key.
use Rattle.std.proofs.Common.{◌≡◌, ℕ, List, refl, ap, sym, ◌∙◌, subst, Bool, true, false, cond}
use Rattle.std.specs.Prelude.{Option, Some, None, Ok, unwrap_or, ok_or}
use Rattle.office_base.specs.Maps.{Rises, bytes_cmp, at_name, with_name, without_name}
use Rattle.office_base.specs.Tags.{Tag}
use Rattle.office_base.specs.declared.version_id.VersionId.{VersionId}
use Rattle.class_rules.specs.declared.class.Class.{Class}
use Rattle.rules_core.specs.Matching.{is_empty}
use Rattle.stacks.specs.Stacks.{StackRecord, new_stack, after_adding, after_removal, after_move, after_tags}
use Rattle.stacks.specs.declared.version.Kind.{Kind}
use Rattle.due_core.specs.Buckets.{BucketRecord}
use Rattle.due_index.proofs.Following.{FollowsIn, FollowsOf, follows_adding, follows_kept, follows_move, follows_removal, follows_same, follows_tags}
use Rattle.plain_office.specs.Office.{Account}
use Rattle.plain_office.specs.Changes.{stack_at, stacks_with, with_stack, next_id, remove_version, add_version, move_version}
use Rattle.plain_office.specs.Step.{stack_in}
use Rattle.office_types.specs.declared.refusal.Refusal.TheVariants.{NoSuchKey}
use Rattle.office_laws.proofs.Maps.{by_name, at_written, at_removed}

-- the versions of a key follow from those before
abbrev pub FollowsAt : List ℕ → Option VersionId → BucketRecord → BucketRecord → Type 0
FollowsAt key touched before after = FollowsOf touched (at_name key before.stacks) (at_name key after.stacks)

-- what is under a key whose stack was set, or removed where it has no versions
under_by : (none : Bool) (key : List ℕ) (stack : StackRecord) (entries : List (List ℕ × StackRecord)) → Rises bytes_cmp entries
    → at_name key (cond none (without_name key entries) (with_name key stack entries)) ≡ cond none None (Some stack)
under_by true key stack entries rises = at_removed by_name key entries rises
under_by false key stack entries rises = at_written by_name key stack entries

module _ (key : List ℕ) (touched : Option VersionId) (before after : BucketRecord) (stack : StackRecord)
    (follows : FollowsIn touched (stack_at key before).versions stack.versions) where
  -- the key has this stack now; a stack without versions is removed
  pub follows_kept_at : Rises bytes_cmp before.stacks → after.stacks ≡ stacks_with key stack before.stacks → FollowsAt key touched before after
  follows_kept_at rises stacks =
      follows_kept touched (at_name key before.stacks) (at_name key after.stacks) stack (is_empty stack.versions)
      (ap (at_name key) stacks ∙ under_by (is_empty stack.versions) key stack before.stacks rises) follows

  -- the key has this stack now
  pub follows_written_at : after.stacks ≡ with_name key stack before.stacks → FollowsAt key touched before after
  follows_written_at stacks =
      follows_kept touched (at_name key before.stacks) (at_name key after.stacks) stack false
      (ap (at_name key) stacks ∙ at_written by_name key stack before.stacks) follows

-- the key's stack is the same
pub follows_same_at : (key : List ℕ) (touched : Option VersionId) (before after : BucketRecord) → after.stacks ≡ before.stacks → FollowsAt key touched before after
follows_same_at key touched before after stacks = follows_same touched (at_name key before.stacks) (at_name key after.stacks) (ap (at_name key) stacks)

-- a stack that a command finds is the one under the key
pub stack_found : (key : List ℕ) (account : Account) (stack : StackRecord) → stack_in key account ≡ Ok stack → stack_at key account.bucket ≡ stack
stack_found key account stack is = by (at_name key account.bucket.stacks) is where
  by : (o : Option StackRecord) → ok_or o NoSuchKey ≡ Ok stack → unwrap_or o (new_stack 0) ≡ stack
  by None is = absurd cc
  by (Some found) is = cc

-- ---- after each change

module _ (account : Account) (rises : Rises bytes_cmp account.bucket.stacks) (key : List ℕ) where
  abbrev bucket : BucketRecord
  bucket = account.bucket

  -- an object or a delete marker is put
  pub added_follows : (touched : Option VersionId) (kind : Kind) (at : ℕ) → FollowsAt key touched bucket (add_version key kind at account).bucket
  added_follows touched kind at =
      follows_kept_at key touched bucket (add_version key kind at account).bucket (after_adding (next_id bucket) kind at (stack_at key bucket))
      (follows_adding touched (next_id bucket) kind at (stack_at key bucket)) rises refl

  -- a version is removed
  pub gone_follows : (touched : Option VersionId) (id : VersionId) (at : ℕ) → FollowsAt key touched bucket (remove_version key id at account).bucket
  gone_follows touched id at =
      follows_kept_at key touched bucket (remove_version key id at account).bucket (after_removal id at (stack_at key bucket))
      (follows_removal touched id at (stack_at key bucket)) rises refl

  -- an object moves to another class
  pub moved_follows : (id : VersionId) (to : Class) (at : ℕ) → FollowsAt key (Some id) bucket (move_version key id to at account).bucket
  moved_follows id to at =
      follows_kept_at key (Some id) bucket (move_version key id to at account).bucket (after_move id to at (stack_at key bucket))
      (follows_move id to at (stack_at key bucket)) rises refl

  -- an object gets new tags
  pub tagged_follows : (id : VersionId) (tags : List Tag) (at : ℕ) (stack : StackRecord) → stack_in key account ≡ Ok stack
      → FollowsAt key (Some id) bucket (with_stack key (after_tags id tags at stack) bucket)
  tagged_follows id tags at stack is =
      follows_kept_at key (Some id) bucket (with_stack key (after_tags id tags at stack) bucket) (after_tags id tags at stack)
      (subst (λ (s : StackRecord). FollowsIn (Some id) s.versions (after_tags id tags at stack).versions) (sym (stack_found key account stack is)) (follows_tags id tags at stack)) rises refl
