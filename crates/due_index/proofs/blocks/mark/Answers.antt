use Rattle.std.proofs.Common.{arith}
use Rattle.std.proofs.lemmas.Option.{slice_get_within}
use Rattle.due_index.proofs.Marks.{rule_marked}
use Rattle.due_index.proofs.blocks.mark.Goals as goal

pub loop-place-preserved : goal.loop-place-preserved
loop-place-preserved c = record {
  from = c.loop-place.invariant.from;
  until = c.loop-place.invariant.until;
  kept = λ p k was. c.mark_rule.ensures.kept p k (c.loop-place.invariant.kept p k was);
  marked = rule_marked c.args.mode c.args.rules.now c.args.key.now c.args.version.now c.loop-place.place c.index-rules-place.result
      c.loop-place.block-inside.marks.items c.mark_rule.new.marks.items c.loop-place-test.true c.index-rules-place.is c.mark_rule.ensures.here
      c.mark_rule.ensures.kept c.loop-place.invariant.marked;
}

pub returns-clause-marked : goal.returns-clause-marked
returns-clause-marked c = λ p rule at.
    let past = c.loop-place-test.false in
    let within = slice_get_within c.args.rules.now p rule at in
    c.loop-place.invariant.marked p rule (omega (arith, past, within)) at
