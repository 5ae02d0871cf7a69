use Rattle.std.proofs.Common.{◌≡◌, ◌∷◌, [], List, cond, drop, flat_map}
use Rattle.due_core.specs.RuleActions.{DueAction, admits_move, due_when}
use Rattle.due_core.specs.declared.action.ActionKind.TheVariants.{Transition}
use Rattle.rules_core.specs.declared.rule.Transition as rule
use Rattle.due_index.specs.Search.{on_key, with_each_due}
use Rattle.due_index.proofs.asked.Aim.transitions.Given as goal

-- the moves that are left are looked at after those that were
abbrev pub invariant-loop-transition : goal.invariant-loop-transition
invariant-loop-transition l =
    with_each_due l.self (on_key l.self.key l.best) (flat_map asked (drop l.transition-index l.transition-items))
    ≡ with_each_due l.self (on_key l.self.key l.fn.best) (flat_map asked l.transition-items) where
      asked : rule.Transition → List DueAction
      asked transition = cond (admits_move l.mode l.rule.filter l.object.class l.object.size transition.to) ((Transition transition.to, due_when l.created transition.when) ∷ []) []
