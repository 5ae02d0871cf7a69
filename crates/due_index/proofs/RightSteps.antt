-- Blocks that are right for all rules are right for the rule at each place, and for each of its steps.
use Rattle.std.proofs.Common.{◌≡◌, ℕ, ◌<◌, List, length, get_or, sym, subst, true, map, inl}
use Rattle.std.specs.Prelude.{All, Option, Some, None, option_to_list, slice_get}
use Rattle.std.proofs.lemmas.List.Elements.{All-weaker}
use Rattle.rules_core.specs.Configurations.{Configuration}
use Rattle.rules_core.specs.declared.rule.Noncurrent.{Noncurrent}
use Rattle.rules_core.specs.declared.rule.NoncurrentMove.{NoncurrentMove}
use Rattle.rules_core.specs.declared.rule.Rule.{Rule}
use Rattle.rules_core.specs.declared.rule.SizeMode.{SizeMode}
use Rattle.stacks.specs.Stacks.{StackRecord}
use Rattle.stacks.specs.declared.version.Version.{Version}
use Rattle.due_index.specs.Search.{Among, takes_step, steps_of, removal_step, move_step}
use Rattle.due_index.specs.Blocks.{BlockRecord, AreRight, AreRightAt, AreRightIn, AreRightUnder, but_first, IsIn, IsMarkedFor, IsRightFor, is_marked}
use Rattle.due_index.specs.declared.noncurrent.Step.{Step}
use Rattle.due_index.proofs.Among.{among_front, among_back, among_at, mapped}

pub right_at : (mode : SizeMode) (rules : List Rule) (key : List ℕ) (place : ℕ) (rule : Rule) (blocks : List BlockRecord) (versions : List Version)
    → slice_get rules place ≡ Some rule → AreRight mode rules key blocks versions → AreRightAt mode key place rule blocks versions
right_at mode rules key place rule blocks versions at right =
    All-weaker (λ b. All (λ v. IsRightFor mode rules key b v) versions) (λ b. All (λ v. IsIn b v → IsMarkedFor mode key place rule b.marks v) versions)
    (λ b all. All-weaker (λ v. IsRightFor mode rules key b v) (λ v. IsIn b v → IsMarkedFor mode key place rule b.marks v) (λ v h own. h own place rule at) versions all)
    blocks right

pub right_in : (mode : SizeMode) (key : List ℕ) (place : ℕ) (rule : Rule) (step : Step) (blocks : List BlockRecord) (versions : List Version)
    → Among (steps_of rule) step → AreRightAt mode key place rule blocks versions → AreRightIn mode key place rule step blocks versions
right_in mode key place rule step blocks versions one right =
    All-weaker (λ b. All (λ v. IsIn b v → IsMarkedFor mode key place rule b.marks v) versions)
    (λ b. All (λ v. IsIn b v → takes_step mode rule.filter step.kind key v ≡ true → is_marked b.marks place step.kind ≡ true) versions)
    (λ b all. All-weaker (λ v. IsIn b v → IsMarkedFor mode key place rule b.marks v)
    (λ v. IsIn b v → takes_step mode rule.filter step.kind key v ≡ true → is_marked b.marks place step.kind ≡ true) (λ v h own takes. h own step one takes) versions all)
    blocks right

-- the removal is one of the steps, and so is each move
only : (e : Noncurrent) (o : Option Noncurrent) → o ≡ Some e → Among (option_to_list o) e
only e None is = absurd cc
only e (Some d) is = inl (cc)

pub removal_among : (rule : Rule) (e : Noncurrent) (step : Step) → rule.noncurrent_expiration ≡ Some e → step ≡ removal_step e → Among (steps_of rule) step
removal_among rule e step is same = subst (λ s. Among (steps_of rule) s) (sym same)
    (among_front (map removal_step (option_to_list rule.noncurrent_expiration)) (map move_step rule.noncurrent_moves) (removal_step e)
    (mapped removal_step (option_to_list rule.noncurrent_expiration) e (only e rule.noncurrent_expiration is)))

pub move_among : (rule : Rule) (moves : List NoncurrentMove) (i : ℕ) (x : NoncurrentMove) (step : Step) → moves ≡ rule.noncurrent_moves → i < length moves
    → x ≡ get_or moves i x → step ≡ move_step x → Among (steps_of rule) step
move_among rule moves i x step all less at same = subst (λ s. Among (steps_of rule) s) (sym same)
    (among_back (map removal_step (option_to_list rule.noncurrent_expiration)) (map move_step rule.noncurrent_moves) (move_step x)
    (mapped move_step rule.noncurrent_moves x (subst (λ ms. Among ms x) all (among_at moves i x x less (sym at)))))

-- what is right for a bucket is right for one of its stacks under its rules
pub right_under : (o : Option Configuration) (s : Option StackRecord) (rules : Configuration) (stack : StackRecord) (key : List ℕ) (blocks : List BlockRecord)
    → o ≡ Some rules → s ≡ Some stack → AreRightUnder o key blocks s → AreRight rules.mode rules.rules key blocks (but_first stack.versions)
right_under o s rules stack key blocks by at right =
    subst (λ t. AreRightUnder (Some rules) key blocks t) at (subst (λ p. AreRightUnder p key blocks s) by right)
