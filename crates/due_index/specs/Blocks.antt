-- What is known of the noncurrent versions of a key that has many: blocks of them, and which steps of the rules none of
-- a block's versions takes.
use Rattle.std.specs.Prelude.{◌≡◌, ℕ, ◌+◌, ◌*◌, ◌≤◌, Bool, true, false, List, [], ◌∷◌, All, Contains}
use Rattle.std.specs.Prelude.{Option, Some, None, slice_get, slice_index_or}
use Rattle.class_rules.specs.Classes.{rank_of}
use Rattle.office_base.specs.declared.version_id.VersionId.{VersionId}
use Rattle.rules_core.specs.Configurations.{Configuration}
use Rattle.rules_core.specs.declared.rule.Rule.{Rule}
use Rattle.rules_core.specs.declared.rule.SizeMode.{SizeMode}
use Rattle.stacks.specs.Stacks.{StackRecord}
use Rattle.stacks.specs.declared.version.Version.{Version}
use Rattle.due_core.specs.declared.action.ActionKind.{ActionKind}
use Rattle.due_core.specs.declared.action.ActionKind.TheVariants.{Remove, Transition, Marker, Abort}
use Rattle.due_index.specs.Search.{Among, steps_of, takes_step}
use Rattle.due_index.specs.declared.noncurrent.Step.{Step}

-- the number of a kind of action
abbrev pub kind_code : ActionKind → ℕ
kind_code Remove = 0
kind_code (Transition to) = rank_of to + 1
kind_code Marker = 7
kind_code Abort = 8

-- how many kinds of action there are
abbrev pub kind_count : ℕ
kind_count = 9

-- a block: the noncurrent versions that ceased to be current from one moment until another, and marks, one for each
-- rule and kind of action
pub record BlockRecord : Type 0 where
  pub from : ℕ
  pub until : ℕ
  pub marks : List Bool

-- the mark of the rule at a place, from 0, and of a kind of action: a version of the block may take it. A mark that is
-- not there counts as set.
abbrev pub is_marked : List Bool → ℕ → ActionKind → Bool
is_marked marks place kind = slice_index_or marks (place * kind_count + kind_code kind) true

-- the version is one of the block's
abbrev pub IsIn : BlockRecord → Version → Type 0
IsIn block version = (block.from ≤ version.ceased) × (version.ceased ≤ block.until)

-- each step of the rule at this place that the version takes is marked
abbrev pub IsMarkedFor : SizeMode → List ℕ → ℕ → Rule → List Bool → Version → Type 0
IsMarkedFor mode key place rule marks version = (step : Step) → Among (steps_of rule) step
    → takes_step mode rule.filter step.kind key version ≡ true → is_marked marks place step.kind ≡ true

-- every mark that was set is set
abbrev pub KeepsMarks : List Bool → List Bool → Type 0
KeepsMarks old new = (place : ℕ) (kind : ActionKind) → is_marked old place kind ≡ true
    → is_marked new place kind ≡ true

-- a block is right for a version: if the version is in it, the marks have each step of the rules that the version takes
abbrev pub IsRightFor : SizeMode → List Rule → List ℕ → BlockRecord → Version → Type 0
IsRightFor mode rules key block version = IsIn block version → (place : ℕ) (rule : Rule)
    → slice_get rules place ≡ Some rule → IsMarkedFor mode key place rule block.marks version

-- the blocks are right for these versions
abbrev pub AreRight : SizeMode → List Rule → List ℕ → List BlockRecord → List Version → Type 0
AreRight mode rules key blocks versions =
    All (λ block. All (IsRightFor mode rules key block) versions) blocks

-- the same for the rule at one place
abbrev pub AreRightAt : SizeMode → List ℕ → ℕ → Rule → List BlockRecord → List Version → Type 0
AreRightAt mode key place rule blocks versions = All (λ block. All (λ version. IsIn block version
    → IsMarkedFor mode key place rule block.marks version) versions) blocks

-- the same for one step of the rule at one place
abbrev pub AreRightIn : SizeMode → List ℕ → ℕ → Rule → Step → List BlockRecord → List Version → Type 0
AreRightIn mode key place rule step blocks versions = All (λ block. All (λ version. IsIn block version
    → takes_step mode rule.filter step.kind key version ≡ true → is_marked block.marks place step.kind ≡ true) versions)
    blocks

-- the versions but the first one
abbrev pub but_first : {X : Type 0} → List X → List X
but_first [] = []
but_first (x ∷ xs) = xs

-- the part has each of the versions that ceased from one moment until another
abbrev pub HasSpan : ℕ → ℕ → List Version → List Version → Type 0
HasSpan from until part versions =
    All (λ version. from ≤ version.ceased → version.ceased ≤ until → Contains part version) versions

-- the noncurrent versions of a key; none if there is no stack
abbrev pub noncurrent_of : Option StackRecord → List Version
noncurrent_of None = []
noncurrent_of (Some stack) = but_first stack.versions

-- the blocks are right for the noncurrent versions, except for the newest one and the one with this id
abbrev pub AreRightBut : Option VersionId → SizeMode → List Rule → List ℕ → List BlockRecord → List Version → Type 0
AreRightBut touched mode rules key blocks noncurrent = All (λ block. All (λ version.
    (touched ≡ Some version.id → ⊥) → IsRightFor mode rules key block version) (but_first noncurrent)) blocks

-- the blocks are right for the stack under these rules; without rules any are
abbrev pub AreRightUnder : Option Configuration → List ℕ → List BlockRecord → Option StackRecord → Type 0
AreRightUnder None key blocks stack = Unit {0}
AreRightUnder (Some rules) key blocks stack = AreRight rules.mode rules.rules key blocks (noncurrent_of stack)

-- the same, except for the newest noncurrent version and the one with this id
abbrev pub AreRightUnderBut :
    Option VersionId → Option Configuration → List ℕ → List BlockRecord → Option StackRecord → Type 0
AreRightUnderBut touched None key blocks stack = Unit {0}
AreRightUnderBut touched (Some rules) key blocks stack =
    AreRightBut touched rules.mode rules.rules key blocks (noncurrent_of stack)

-- some block that the version is in says that it does not take this kind of step of the rule at this place
pub record IsPassed (blocks : List BlockRecord) (place : ℕ) (kind : ActionKind) (version : Version) : Type 0 where
  pub block : BlockRecord
  pub there : Contains blocks block
  pub own : IsIn block version
  pub clear : is_marked block.marks place kind ≡ false

-- each moment from the begin of one block until the end of another is in a block without this mark
abbrev pub AreClear : List BlockRecord → ℕ → ℕ → ℕ → ActionKind → Type 0
AreClear blocks first last place kind = (begin end : BlockRecord) → slice_get blocks first ≡ Some begin
    → slice_get blocks last ≡ Some end → (version : Version) → begin.from ≤ version.ceased
    → version.ceased ≤ end.until → IsPassed blocks place kind version
