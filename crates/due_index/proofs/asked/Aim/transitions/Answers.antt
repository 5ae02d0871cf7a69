use Rattle.std.proofs.Common.{◌∙◌, ap, map, filter}
use Rattle.due_core.specs.RuleActions.{admits_move, due_when}
use Rattle.due_index.specs.Search.{on_key, with_each_due, with_due}
use Rattle.due_core.specs.declared.action.ActionKind.TheVariants.{Transition}
use Rattle.due_core.proofs.Loops.{end, picked_map}
use Rattle.due_index.proofs.asked.Aim.transitions.Goals as goal

pub returns : goal.returns
returns c =
    let aim = c.args.self.now in
    let object = c.args.object.now in
    let items = c.as_slice-transition-items.result.now in
    let picked = picked_map (λ transition. admits_move c.args.mode c.args.rule.now.filter object.class object.size transition.to)
    (λ transition. (Transition transition.to, due_when c.args.created transition.when)) items in
    end (with_due aim) _ _ _ items _ c.loop-transition-test.false c.loop-transition.invariant
    ∙ ap (λ asked. with_each_due aim (on_key c.args.self.now.key c.args.best.now) asked) picked
    ∙ ap (λ moves. with_each_due aim (on_key c.args.self.now.key c.args.best.now) (map (λ transition. (Transition transition.to, due_when c.args.created transition.when))
    (filter (λ transition. admits_move c.args.mode c.args.rule.now.filter object.class object.size transition.to) moves))) c.as_slice-transition-items.ensures
