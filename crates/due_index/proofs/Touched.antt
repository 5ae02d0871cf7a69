-- If a bucket changes in one place, the index is still right for all others. The first action on a key depends on the
-- key's stack, the rules, the versioning and the moment of their last change. For an upload it depends on the upload in
-- place of the stack.
use Rattle.std.proofs.Common.{◌≡◌, ℕ, List, refl, sym, ap, ◌∙◌, subst}
use Rattle.std.specs.Prelude.{Option, Some, None, All, Contains}
use Rattle.std.proofs.lemmas.List.Elements.{All-weaker, All-contains}
use Rattle.office_base.specs.Maps.{at_name, at_number}
use Rattle.office_base.specs.declared.version_id.VersionId.{VersionId}
use Rattle.rules_core.specs.declared.rule.SizeMode.{SizeMode}
use Rattle.rules_core.specs.declared.rule.Rule.{Rule}
use Rattle.rules_core.specs.Configurations.{Configuration}
use Rattle.stacks.specs.Stacks.{StackRecord}
use Rattle.stacks.specs.declared.version.Versioning.{Versioning}
use Rattle.uploads.specs.Uploads.{UploadRecord}
use Rattle.due_core.specs.Buckets.{BucketRecord}
use Rattle.due_core.specs.Choice.{comes_before, least}
use Rattle.due_index.specs.Firsts.{asked_of_key, asked_of_upload, first_on_key, first_on_upload}
use Rattle.due_index.specs.Actions.{ActionsRecord, ActionsStand, ActionsStandButKey, ActionsStandButUpload, KeepsNext}
use Rattle.due_index.specs.Blocks.{BlockRecord, IsRightFor, AreRight, AreRightBut, AreRightUnder, AreRightUnderBut, but_first, noncurrent_of}
use Rattle.due_index.specs.Index.{IndexRecord, HasBlocks, StandsFor, StandsButKey, StandsButUpload, Follows, blocks_of}
use Rattle.due_index.specs.Table.{IsTable, rules_of}
use Rattle.due_index.specs.Search.{setting_of, key_candidates, number_candidates}
use Rattle.due_index.specs.declared.asked.Setting.{Setting}
use Rattle.due_index.proofs.Searching.{same_versions, same_upload}

-- the rules, the versioning and the moment of their last change stay
pub record KeepsRules (before after : BucketRecord) : Type 0 where
  pub rules : after.rules ≡ before.rules
  pub versioning : after.versioning ≡ before.versioning
  pub since : after.rules_since ≡ before.rules_since

abbrev made : Versioning → SizeMode → ℕ → Setting
made v mode r = record { versioning = v; mode = mode; rules_since = r }

made_same : (v w : Versioning) (mode : SizeMode) (r s : ℕ) → v ≡ w → r ≡ s → made v mode r ≡ made w mode s
made_same v w mode r s hv hr = cc

module _ (before after : BucketRecord) (kept : KeepsRules before after) where
  same_setting : (rules : Configuration) → setting_of after rules ≡ setting_of before rules
  same_setting rules = made_same after.versioning before.versioning rules.mode after.rules_since before.rules_since kept.versioning kept.since

  asked_on_key : (key : List ℕ) (o : Option Configuration) (s : Option StackRecord) → asked_of_key after key o s ≡ asked_of_key before key o s
  asked_on_key key None s = refl
  asked_on_key key (Some rules) None = refl
  asked_on_key key (Some rules) (Some stack) =
      sym (same_versions after rules key stack) ∙ ap (λ s. key_candidates s rules.rules (key, stack)) (same_setting rules)
      ∙ same_versions before rules key stack

  asked_on_upload : (number : ℕ) (o : Option Configuration) (u : Option UploadRecord) → asked_of_upload after number o u ≡ asked_of_upload before number o u
  asked_on_upload number None u = refl
  asked_on_upload number (Some rules) None = refl
  asked_on_upload number (Some rules) (Some upload) =
      sym (same_upload after rules number upload) ∙ ap (λ s. number_candidates s rules.rules (number, upload)) (same_setting rules)
      ∙ same_upload before rules number upload

  -- the same stack on a key: the same comes first
  pub same_first_on_key : (key : List ℕ) → at_name key after.stacks ≡ at_name key before.stacks → first_on_key after key ≡ first_on_key before key
  unfolding first_on_key
  same_first_on_key key same =
      ap (least comes_before) (ap (λ s. asked_of_key after key after.rules s) same ∙ ap (λ o. asked_of_key after key o (at_name key before.stacks)) kept.rules
      ∙ asked_on_key key before.rules (at_name key before.stacks))

  -- the same upload of a number: the same comes first
  pub same_first_on_upload : (number : ℕ) → at_number number after.uploads ≡ at_number number before.uploads
      → first_on_upload after number ≡ first_on_upload before number
  unfolding first_on_upload
  same_first_on_upload number same =
      ap (least comes_before) (ap (λ u. asked_of_upload after number after.rules u) same ∙ ap (λ o. asked_of_upload after number o (at_number number before.uploads)) kept.rules
      ∙ asked_on_upload number before.rules (at_number number before.uploads))

-- the stacks of all keys but this one are as before
abbrev pub KeepsOtherStacks : List ℕ → BucketRecord → BucketRecord → Type 0
KeepsOtherStacks key before after = (k : List ℕ) → (k ≡ key → ⊥) → at_name k after.stacks ≡ at_name k before.stacks

-- the uploads of all numbers but this one are as before
abbrev pub KeepsOtherUploads : ℕ → BucketRecord → BucketRecord → Type 0
KeepsOtherUploads number before after = (n : ℕ) → (n ≡ number → ⊥) → at_number n after.uploads ≡ at_number n before.uploads

abbrev pub KeepsStacks : BucketRecord → BucketRecord → Type 0
KeepsStacks before after = (key : List ℕ) → at_name key after.stacks ≡ at_name key before.stacks

abbrev pub KeepsUploads : BucketRecord → BucketRecord → Type 0
KeepsUploads before after = (number : ℕ) → at_number number after.uploads ≡ at_number number before.uploads

-- ---- the next actions

-- if nothing that an action depends on changed, next actions that are right for the bucket before are right for it after
actions_still : (index : ActionsRecord) (before after : BucketRecord) → ActionsStand index before → KeepsRules before after
    → KeepsStacks before after → KeepsUploads before after → ActionsStand index after
actions_still index before after stands kept stacks uploads = record {
  table = subst (λ o. IsTable index.table (rules_of o)) (sym kept.rules) stands.table;
  keys = λ key. stands.keys key ∙ sym (same_first_on_key before after kept key (stacks key));
  uploads = λ number. stands.uploads number ∙ sym (same_first_on_upload before after kept number (uploads number));
}

-- one key's stack changed
actions_but_key : (index : ActionsRecord) (before after : BucketRecord) (key : List ℕ) → ActionsStand index before → KeepsRules before after
    → KeepsOtherStacks key before after → KeepsUploads before after → ActionsStandButKey index after key
actions_but_key index before after key stands kept stacks uploads = record {
  table = subst (λ o. IsTable index.table (rules_of o)) (sym kept.rules) stands.table;
  keys = λ k apart. stands.keys k ∙ sym (same_first_on_key before after kept k (stacks k apart));
  uploads = λ number. stands.uploads number ∙ sym (same_first_on_upload before after kept number (uploads number));
}

-- one upload changed
actions_but_upload : (index : ActionsRecord) (before after : BucketRecord) (number : ℕ) → ActionsStand index before → KeepsRules before after
    → KeepsStacks before after → KeepsOtherUploads number before after → ActionsStandButUpload index after number
actions_but_upload index before after number stands kept stacks uploads = record {
  table = subst (λ o. IsTable index.table (rules_of o)) (sym kept.rules) stands.table;
  keys = λ key. stands.keys key ∙ sym (same_first_on_key before after kept key (stacks key));
  uploads = λ n apart. stands.uploads n ∙ sym (same_first_on_upload before after kept n (uploads n apart));
}

-- if memory ran out, the next actions are still right for the bucket before
actions_kept : (old new : ActionsRecord) (bucket : BucketRecord) → ActionsStand old bucket → KeepsNext old new → ActionsStand new bucket
actions_kept old new bucket stands kept = record {
  table = subst (λ t. IsTable t (rules_of bucket.rules)) (sym kept.table) stands.table;
  keys = λ key. kept.keys key ∙ stands.keys key;
  uploads = λ number. kept.uploads number ∙ stands.uploads number;
}

-- ---- the blocks

-- the same rules and stack: the same blocks are right
same_blocks : (key : List ℕ) (blocks : List BlockRecord) (o p : Option Configuration) (s r : Option StackRecord) → p ≡ o → r ≡ s
    → AreRightUnder o key blocks s → AreRightUnder p key blocks r
same_blocks key blocks o p s r rules stack right =
    subst (λ q. AreRightUnder q key blocks r) (sym rules) (subst (λ t. AreRightUnder o key blocks t) (sym stack) right)

module _ (touched : Option VersionId) (key : List ℕ) (blocks : List BlockRecord) (before after : Option StackRecord) (follows : Follows touched before after) where
  -- what is right for the versions before is right for those that were there
  follows_right : (mode : SizeMode) (rules : List Rule) → AreRight mode rules key blocks (noncurrent_of before)
      → AreRightBut touched mode rules key blocks (noncurrent_of after)
  follows_right mode rules right =
      All-weaker (λ block. All (IsRightFor mode rules key block) (noncurrent_of before))
      (λ block. All (λ version. (touched ≡ Some version.id → ⊥) → IsRightFor mode rules key block version) (but_first (noncurrent_of after)))
      (λ block own. All-weaker (λ version. (touched ≡ Some version.id → ⊥) → Contains (noncurrent_of before) version)
      (λ version. (touched ≡ Some version.id → ⊥) → IsRightFor mode rules key block version)
      (λ version there apart. All-contains (IsRightFor mode rules key block) (noncurrent_of before) version own (there apart))
      (but_first (noncurrent_of after)) follows)
      blocks right

  follows_under : (o : Option Configuration) → AreRightUnder o key blocks before → AreRightUnderBut touched o key blocks after
  follows_under None right = tt
  follows_under (Some rules) right = follows_right rules.mode rules.rules right

-- ---- the index

-- if nothing that an action depends on changed, an index that is right for the bucket before is right for it after
pub stands_still : (index : IndexRecord) (before after : BucketRecord) → StandsFor index before → KeepsRules before after
    → KeepsStacks before after → KeepsUploads before after → StandsFor index after
stands_still index before after stands kept stacks uploads = record {
  actions = actions_still index.actions before after stands.actions kept stacks uploads;
  blocks = λ key. same_blocks key (blocks_of key index.blocks) before.rules after.rules (at_name key before.stacks) (at_name key after.stacks) kept.rules (stacks key) (stands.blocks key);
}

-- one key's stack changed: of its noncurrent versions the newest one and the one with this id, or some are gone
pub stands_but_key : (index : IndexRecord) (before after : BucketRecord) (key : List ℕ) (touched : Option VersionId) → StandsFor index before → KeepsRules before after
    → KeepsOtherStacks key before after → KeepsUploads before after → Follows touched (at_name key before.stacks) (at_name key after.stacks)
    → StandsButKey index after key touched
stands_but_key index before after key touched stands kept stacks uploads follows = record {
  actions = actions_but_key index.actions before after key stands.actions kept stacks uploads;
  others = λ k apart. same_blocks k (blocks_of k index.blocks) before.rules after.rules (at_name k before.stacks) (at_name k after.stacks) kept.rules (stacks k apart) (stands.blocks k);
  blocks = subst (λ o. AreRightUnderBut touched o key (blocks_of key index.blocks) (at_name key after.stacks)) (sym kept.rules)
      (follows_under touched key (blocks_of key index.blocks) (at_name key before.stacks) (at_name key after.stacks) follows before.rules (stands.blocks key));
}

-- one upload changed
pub stands_but_upload : (index : IndexRecord) (before after : BucketRecord) (number : ℕ) → StandsFor index before → KeepsRules before after
    → KeepsStacks before after → KeepsOtherUploads number before after → StandsButUpload index after number
stands_but_upload index before after number stands kept stacks uploads = record {
  actions = actions_but_upload index.actions before after number stands.actions kept stacks uploads;
  blocks = λ key. same_blocks key (blocks_of key index.blocks) before.rules after.rules (at_name key before.stacks) (at_name key after.stacks) kept.rules (stacks key) (stands.blocks key);
}

-- if memory ran out and the blocks are right, the index is still right for the bucket before
pub stands_kept : (old new : IndexRecord) (bucket : BucketRecord) → StandsFor old bucket → KeepsNext old.actions new.actions
    → ((key : List ℕ) → HasBlocks new bucket key) → StandsFor new bucket
stands_kept old new bucket stands kept blocks = record {
  actions = actions_kept old.actions new.actions bucket stands.actions kept;
  blocks = blocks;
}
