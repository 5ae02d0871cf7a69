-- The versions that blocks say take no such step: those from the oldest one that is left up to the end of the last block.
use Rattle.std.proofs.Common.{◌≡◌, ℕ, ◌-◌, ◌<◌, ◌≤◌, List, [], ◌∷◌, length, get_or, sym, ap, ◌∙◌, subst, Bool, true, false, arith, zero, suc, All}
use Rattle.std.specs.Prelude.{◌&&◌, nat_le, Option, Some, Contains, slice_get}
use Rattle.std.proofs.lemmas.Option.{slice_get_within, slice_get-get_or, get_or_from_slice_get}
use Rattle.std.proofs.lemmas.List.Elements.{All-contains, Contains-get_or}
use Rattle.rules_core.specs.declared.rule.Rule.{Rule}
use Rattle.rules_core.specs.declared.rule.SizeMode.{SizeMode}
use Rattle.stacks.specs.Ceasing.{cease_in_order}
use Rattle.stacks.specs.Stacks.{StackRecord}
use Rattle.stacks.specs.declared.version.Version.{Version}
use Rattle.due_core.specs.declared.action.ActionKind.{ActionKind}
use Rattle.due_core.specs.declared.action.Candidate.{Candidate}
use Rattle.due_index.specs.Search.{IsFirstOf, takes_step}
use Rattle.due_index.specs.Blocks.{BlockRecord, AreClear, AreRightIn, IsIn, IsPassed, but_first, is_marked}
use Rattle.due_index.specs.declared.asked.Setting.{Setting}
use Rattle.due_index.specs.declared.noncurrent.Step.{Step}
use Rattle.due_index.proofs.Oldest.{IsFrom, noncurrent_order, both, is_le, none_between}

pub has_from : (from ceased until : ℕ) (has : Bool) → has ≡ nat_le from ceased && nat_le ceased until → has ≡ true → from ≤ ceased
has_from from ceased until has is held = is_le from ceased (both (nat_le from ceased) (nat_le ceased until) (sym is ∙ held)).0

module _ (changed : ℕ) (versions : List Version) (ordered : cease_in_order changed versions ≡ true) where
  -- an older version ceased no later
  older_first : (j k : ℕ) (v w : Version) → 1 ≤ j → j ≤ k → slice_get versions j ≡ Some v → slice_get versions k ≡ Some w → w.ceased ≤ v.ceased
  older_first j k v w one le at_j at_k =
      subst (λ (x : Version). x.ceased ≤ v.ceased) (get_or_from_slice_get versions k w v at_k)
      (subst (λ (x : Version). (get_or versions k v).ceased ≤ x.ceased) (get_or_from_slice_get versions j v v at_j)
      (noncurrent_order changed versions ordered j k v one le (slice_get_within versions k w at_k)))

  module _ (blocks : List BlockRecord) (first last place : ℕ) (kind : ActionKind) (clear : AreClear blocks first last place kind)
      (begin end : BlockRecord) (at_first : slice_get blocks first ≡ Some begin) (at_last : slice_get blocks last ≡ Some end)
      (left next : ℕ) (oldest : Version) (at : slice_get versions (left - 1) ≡ Some oldest) (from : begin.from ≤ oldest.ceased) (some : 1 ≤ next)
      (until : (v : Version) → next < left → slice_get versions next ≡ Some v → v.ceased ≤ end.until) where
    -- the blocks pass over the versions from the next one on
    pub blocks_pass : (j : ℕ) (v : Version) → next ≤ j → j < left → slice_get versions j ≡ Some v → IsPassed blocks place kind v
    blocks_pass j v le less at_j =
        let newer = get_or versions next v in
        let within = slice_get_within versions j v at_j in
        let at_next = slice_get-get_or versions next v (omega arith) in
        let newest = older_first next j newer v some le at_next at_j in
        let ends = until newer (omega arith) at_next in
        let oldest_one = older_first j (left - 1) v oldest (omega arith) (omega arith) at_j at in
        clear begin end at_first at_last v (omega (arith, from, oldest_one)) (omega (arith, newest, ends))

-- ---- what was passed over does not take the step

without_first : (versions : List Version) (j : ℕ) (v : Version) → 1 ≤ j → slice_get versions j ≡ Some v → Contains (but_first versions) v
without_first [] j v one at = absurd cc
without_first (x ∷ xs) zero v one at = absurd (omega arith)
without_first (x ∷ xs) (suc j) v one at =
    subst (λ y. Contains xs y) (get_or_from_slice_get xs j v v at) (Contains-get_or xs j v (slice_get_within xs j v at))

not_both : (b : Bool) → b ≡ true → b ≡ false → ⊥
not_both b is other = cc

not_taken : (mode : SizeMode) (key : List ℕ) (place : ℕ) (rule : Rule) (step : Step) (blocks : List BlockRecord) (versions : List Version) (v : Version)
    → AreRightIn mode key place rule step blocks versions → Contains versions v → IsPassed blocks place step.kind v
    → takes_step mode rule.filter step.kind key v ≡ true → ⊥
not_taken mode key place rule step blocks versions v right there over takes =
    let of_block : All (λ w. IsIn over.block w → takes_step mode rule.filter step.kind key w ≡ true → is_marked over.block.marks place step.kind ≡ true) versions =
    All-contains (λ b. All (λ w. IsIn b w → takes_step mode rule.filter step.kind key w ≡ true → is_marked b.marks place step.kind ≡ true) versions) blocks over.block right over.there in
    not_both (is_marked over.block.marks place step.kind)
    (All-contains (λ w. IsIn over.block w → takes_step mode rule.filter step.kind key w ≡ true → is_marked over.block.marks place step.kind ≡ true) versions v of_block there over.own takes)
    over.clear

-- so the search may go on after those that were passed over
pub goes_on : (setting : Setting) (key : List ℕ) (stack : StackRecord) (number : ℕ) (rule : Rule) (step : Step) (old : Option Candidate) (blocks : List BlockRecord)
    → AreRightIn setting.mode key (number - 1) rule step blocks (but_first stack.versions) → (left i : ℕ) (new : Option Candidate) → 1 ≤ left → left ≤ i → i ≤ length stack.versions
    → ((j : ℕ) (v : Version) → left ≤ j → j < i → slice_get stack.versions j ≡ Some v → IsPassed blocks (number - 1) step.kind v)
    → IsFirstOf old (IsFrom setting (key, stack) (number, rule) step i) new → IsFirstOf old (IsFrom setting (key, stack) (number, rule) step left) new
goes_on setting key stack number rule step old blocks right left i new one le within passed first =
    none_between setting key stack (number, rule) step old left i new le (λ p placed from less takes.
    let at : slice_get stack.versions p.newer ≡ Some p.version = slice_get-get_or stack.versions p.newer p.version (omega arith)
    ∙ ap Some (placed.version p.newer p.version (omega arith)) in
    not_taken setting.mode key (number - 1) rule step blocks (but_first stack.versions) p.version right
    (without_first stack.versions p.newer p.version (omega arith) at) (passed p.newer p.version from less at) takes) first
