use Rattle.std.proofs.Common.{sym, ap, ◌∙◌, subst}
use Rattle.due_index.specs.declared.blocks.Block.TheInside.{Inside}
use Rattle.due_index.proofs.Marks.{AreLeft, rule_cleared}
use Rattle.due_index.proofs.blocks.clear.Goals as goal
use Rattle.due_index.proofs.blocks.clear.Goals.{then-rule+then-matches_upload, else-rule}

pub loop-place-preserved : goal.loop-place-preserved
loop-place-preserved c =
    let left = λ (inside : Inside). AreLeft c.args.mode c.args.rules.now c.args.key.now c.args.block.now.marks inside.marks.items c.args.versions.now in
    elim c.if-rule.branch [
      | then-rule+then-matches_upload w ↦ record {
        from = ap (λ (inside : Inside). inside.from) w.block-inside-is ∙ c.loop-place.invariant.from;
        until = ap (λ (inside : Inside). inside.until) w.block-inside-is ∙ c.loop-place.invariant.until;
        marked = subst left (sym w.block-inside-is)
            (rule_cleared c.args.mode c.args.rules.now c.args.key.now c.args.versions.now c.loop-place.place c.index-rules-place.result
            c.args.block.now.marks c.loop-place.block-inside.marks.items w.clear_rule.new.marks.items c.loop-place-test.true c.index-rules-place.is
            w.clear_rule.ensures.here w.clear_rule.ensures.others c.loop-place.invariant.marked);
      }
      | else-rule w ↦ record {
        from = ap (λ (inside : Inside). inside.from) w.block-inside-is ∙ c.loop-place.invariant.from;
        until = ap (λ (inside : Inside). inside.until) w.block-inside-is ∙ c.loop-place.invariant.until;
        marked = subst left (sym w.block-inside-is) c.loop-place.invariant.marked;
      }
    ]
