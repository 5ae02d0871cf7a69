use Rattle.std.proofs.Common.{◌≡◌, ℕ, All}
use Rattle.due_core.specs.declared.action.ActionKind.{ActionKind}
use Rattle.due_index.specs.Blocks.{is_marked, IsMarkedFor}
use Rattle.due_index.proofs.blocks.clear_rule.Given as goal

-- what was marked for the versions is, and the other rules' marks stay
abbrev pub invariant-loop-asked : goal.invariant-loop-asked
invariant-loop-asked l = record {
  here : All (λ version. IsMarkedFor l.mode l.key l.place l.rule l.fn.marks.items version → IsMarkedFor l.mode l.key l.place l.rule l.marks.items version) l.versions;
  others : (p : ℕ) (k : ActionKind) → (p ≡ l.place → ⊥) → is_marked l.marks.items p k ≡ is_marked l.fn.marks.items p k;
}
