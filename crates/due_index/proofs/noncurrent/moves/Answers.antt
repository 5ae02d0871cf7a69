use Rattle.std.proofs.Common.{◌+◌, ◌-◌, refl, map, subst, ◌∙◌}
use Rattle.std.proofs.lemmas.List.{take_all}
use Rattle.due_index.specs.Search.{on_key, IsFirstOf, IsOfStep, IsOfSteps, move_step}
use Rattle.due_index.proofs.Noncurrents.{no_step, one_move, element_at}
use Rattle.due_index.specs.Blocks.{but_first}
use Rattle.due_index.proofs.RightSteps.{right_in, move_among}
use Rattle.due_index.proofs.noncurrent.moves.Goals as goal

pub loop-asked-init : goal.loop-asked-init
loop-asked-init c = no_step c.args.setting.now (c.args.key.now, c.args.of_key.now) (c.args.number, c.args.rule.now) (on_key c.args.key.now c.args.best.now)

pub loop-asked-preserved : goal.loop-asked-preserved
loop-asked-preserved c =
    let items = c.as_slice-asked-items.result.now in
    let found = element_at items c.loop-asked.asked-index c.move_step.result c.loop-asked-test.true c.move_step.ensures in
    one_move c.args.setting.now (c.args.key.now, c.args.of_key.now) (c.args.number, c.args.rule.now) (on_key c.args.key.now c.args.best.now)
    (on_key c.args.key.now c.loop-asked.best) (on_key c.args.key.now c.step_of_key.new.best) items
    c.loop-asked.asked-index (c.loop-asked.asked-index + 1) found.0 c.loop-asked-test.true found.1 refl c.loop-asked.invariant
    (subst (λ step. IsFirstOf (on_key c.args.key.now c.loop-asked.best) (IsOfStep c.args.setting.now (c.args.key.now, c.args.of_key.now) (c.args.number, c.args.rule.now) step)
    (on_key c.args.key.now c.step_of_key.new.best)) found.2 c.step_of_key.ensures)

pub returns : goal.returns
returns c =
    subst (λ moves. IsFirstOf (on_key c.args.key.now c.args.best.now) (IsOfSteps c.args.setting.now (c.args.key.now, c.args.of_key.now) (c.args.number, c.args.rule.now) (map move_step moves))
    (on_key c.args.key.now c.loop-asked.best)) (take_all c.loop-asked.asked-index c.as_slice-asked-items.result.now c.loop-asked-test.false ∙ c.as_slice-asked-items.ensures)
    c.loop-asked.invariant

pub step_of_key-requires-clause-right : goal.step_of_key-requires-clause-right
step_of_key-requires-clause-right c =
    let found = element_at c.as_slice-asked-items.result.now c.loop-asked.asked-index c.move_step.result c.loop-asked-test.true c.move_step.ensures in
    right_in c.args.setting.now.mode c.args.key.now (c.args.number - 1) c.args.rule.now c.move_step.result c.args.blocks.now (but_first c.args.of_key.now.versions)
    (move_among c.args.rule.now c.as_slice-asked-items.result.now c.loop-asked.asked-index found.0 c.move_step.result c.as_slice-asked-items.ensures
    c.loop-asked-test.true found.1 found.2) c.requires.right
