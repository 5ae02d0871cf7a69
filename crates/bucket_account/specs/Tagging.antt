-- How new tags of an object are counted.
use Rattle.std.specs.Prelude.{◌≡◌, ◌⊎◌, ℕ, ◌+◌, ◌-◌, ◌≤◌, ◌^◌, List, [], ◌∷◌, Option, Some, None, Result, Ok, Err, IfOk}
use Rattle.office_base.specs.Tags.{Tag}
use Rattle.office_base.specs.declared.version_id.VersionId.{VersionId}
use Rattle.stacks.specs.Stacks.{StackRecord, tags_at}
use Rattle.stacks.specs.declared.refusal.StackRefusal.{StackRefusal}
use Rattle.plain_office.specs.Counts.{tag_bytes}
use Rattle.plain_office.specs.Step.{of_stack}
use Rattle.office_types.specs.declared.refusal.Refusal.{Refusal}
use Rattle.office_types.specs.declared.refusal.Refusal.TheVariants.{NoSuchKey, NoMemory}
use Rattle.office_types.specs.declared.refusal.What.TheVariants.{Names}
use Rattle.bucket_account.specs.declared.counts.Counts.{Counts}
use Rattle.bucket_account.specs.Counting.{first_over, IsFullOf}

-- the bytes of an object's tags, or what its stack refuses
abbrev pub tags_counted : Result (List Tag) StackRefusal → Result ℕ Refusal
tags_counted (Ok tags) = Ok (tag_bytes tags)
tags_counted (Err refused) = of_stack (Err refused)

-- the counts after these tags replaced those
abbrev pub counts_tagged : List Tag → List Tag → Counts → Counts
counts_tagged tags before counts = record counts { names = counts.names + tag_bytes tags - tag_bytes before }

-- the tags of this object can be replaced within the range of these counts
pub record AreTaggable (id : VersionId) (stack : StackRecord) (counts : Counts) : Type 0 where
  pub names : counts.names ≤ 2 ^ 32
  pub before : IfOk (tags_at id stack.versions) (λ before. tag_bytes before ≤ counts.names)

-- the tags of a version are counted, or refused as its stack refuses them
abbrev pub CountsTags : Result (List Tag) StackRefusal → List Tag → Counts → Result Counts Refusal → Type 0
CountsTags (Ok before) tags counts (Ok after) =
    (after ≡ counts_tagged tags before counts) × (first_over (Names ∷ []) after ≡ None)
CountsTags (Ok before) tags counts (Err refusal) =
    (refusal ≡ NoMemory) ⊎ IsFullOf (Names ∷ []) (counts_tagged tags before counts) refusal
CountsTags (Err refused) tags counts (Ok after) = ⊥
CountsTags (Err refused) tags counts (Err refusal) = of_stack {X = Counts} (Err refused) ≡ Err refusal

-- the same for the version with this id under a key; refused if the key has no stack
abbrev pub CountsTagsUnder : VersionId → Option StackRecord → List Tag → Counts → Result Counts Refusal → Type 0
CountsTagsUnder id None tags counts result = result ≡ Err NoSuchKey
CountsTagsUnder id (Some stack) tags counts result = CountsTags (tags_at id stack.versions) tags counts result
