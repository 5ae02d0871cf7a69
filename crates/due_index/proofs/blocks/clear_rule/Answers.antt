use Rattle.std.proofs.Common.{◌∙◌}
use Rattle.due_index.proofs.Marks.{step_cleared}
use Rattle.due_index.proofs.blocks.clear_rule.Goals as goal

pub loop-asked-preserved : goal.loop-asked-preserved
loop-asked-preserved c = record {
  here = step_cleared c.args.mode c.args.key.now c.args.place c.args.rule.now c.args.versions.now c.args.marks.now.items c.loop-asked.marks.items
      c.clear_step-in-loop-asked.new.marks.items c.move_step-step.result.kind c.clear_step-in-loop-asked.ensures.here
      c.clear_step-in-loop-asked.ensures.others c.loop-asked.invariant.here;
  others = λ p k other. c.clear_step-in-loop-asked.ensures.others p k (λ both. other both.0) ∙ c.loop-asked.invariant.others p k other;
}
