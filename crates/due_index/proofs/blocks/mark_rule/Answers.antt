use Rattle.std.proofs.Common.{map}
use Rattle.std.specs.Prelude.{None, option_to_list}
use Rattle.class_rules.specs.declared.class.Class.TheVariants.{Standard}
use Rattle.due_index.specs.Search.{removal_step}
use Rattle.due_index.proofs.Marks.{mark_more}
use Rattle.due_index.proofs.blocks.mark_rule.Goals as goal

pub loop-asked-preserved : goal.loop-asked-preserved
loop-asked-preserved c = record {
  here = mark_more c.args.mode c.args.key.now c.args.place c.args.rule.now.filter c.args.version.now
      (map removal_step (option_to_list c.args.rule.now.noncurrent_expiration)) c.as_slice-asked-items.result.now c.loop-asked.asked-index
      (record { days = 0; newer = None; to = Standard }) c.move_step.result c.loop-asked.marks.items c.mark_step-in-loop-asked.new.marks.items
      c.loop-asked-test.true c.move_step.ensures c.loop-asked.invariant.here c.mark_step-in-loop-asked.ensures.kept c.mark_step-in-loop-asked.ensures.here;
  kept = λ p k was. c.mark_step-in-loop-asked.ensures.kept p k (c.loop-asked.invariant.kept p k was);
}
