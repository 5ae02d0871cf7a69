-- What an index of the next actions means: its next actions are those that the rules ask for, and its blocks are right.
use Rattle.std.specs.Prelude.{◌≡◌, ◌⊎◌, ℕ, List, [], All, Contains, Option, Some, unwrap_or}
use Rattle.office_base.specs.Maps.{at_name}
use Rattle.office_base.specs.declared.version_id.VersionId.{VersionId}
use Rattle.stacks.specs.Stacks.{StackRecord}
use Rattle.due_core.specs.Buckets.{BucketRecord}
use Rattle.due_index.specs.Actions.{ActionsRecord, ActionsStand, ActionsStandButKey, ActionsStandButUpload}
use Rattle.due_index.specs.Blocks.{BlockRecord, AreRightUnder, AreRightUnderBut, but_first, noncurrent_of}

-- an index as contracts see it: the next actions, and the blocks of keys that have many versions
pub record IndexRecord : Type 0 where
  pub actions : ActionsRecord
  pub blocks : List (List ℕ × List BlockRecord)

-- the blocks of a key; none if the index has none for it
abbrev pub blocks_of : List ℕ → List (List ℕ × List BlockRecord) → List BlockRecord
blocks_of key entries = unwrap_or (at_name key entries) []

-- the blocks of a key are right for the bucket
abbrev pub HasBlocks : IndexRecord → BucketRecord → List ℕ → Type 0
HasBlocks index bucket key =
    AreRightUnder bucket.rules key (blocks_of key index.blocks) (at_name key bucket.stacks)

-- the index is right for a bucket: its next actions are the first ones that the rules ask for, and its blocks are right
pub record StandsFor (index : IndexRecord) (bucket : BucketRecord) : Type 0 where
  pub actions : ActionsStand index.actions bucket
  pub blocks : (key : List ℕ) → HasBlocks index bucket key

-- the index is right for a bucket, except for one key. Of this key's noncurrent versions, the blocks are right for all
-- but the newest one and the one with this id.
pub record StandsButKey (index : IndexRecord) (bucket : BucketRecord) (key : List ℕ) (touched : Option VersionId)
    : Type 0 where
  pub actions : ActionsStandButKey index.actions bucket key
  pub others : (k : List ℕ) → (k ≡ key → ⊥) → HasBlocks index bucket k
  pub blocks : AreRightUnderBut touched bucket.rules key (blocks_of key index.blocks) (at_name key bucket.stacks)

-- the index is right for a bucket, except for one upload
pub record StandsButUpload (index : IndexRecord) (bucket : BucketRecord) (number : ℕ) : Type 0 where
  pub actions : ActionsStandButUpload index.actions bucket number
  pub blocks : (key : List ℕ) → HasBlocks index bucket key

-- how the noncurrent versions of a key follow from those before: each one but the newest, and but the one with this id,
-- was noncurrent before, and is unchanged
abbrev pub Follows : Option VersionId → Option StackRecord → Option StackRecord → Type 0
Follows touched before after =
    All (λ version. (touched ≡ Some version.id → ⊥) → Contains (noncurrent_of before) version)
    (but_first (noncurrent_of after))

-- the key has these blocks or those of before; all else is unchanged
pub record SetsBlocks (old new : IndexRecord) (key : List ℕ) (blocks : List BlockRecord) : Type 0 where
  pub actions : new.actions ≡ old.actions
  pub here : (blocks_of key new.blocks ≡ blocks) ⊎ (blocks_of key new.blocks ≡ blocks_of key old.blocks)
  pub others : (k : List ℕ) → (k ≡ key → ⊥) → blocks_of k new.blocks ≡ blocks_of k old.blocks
