use Rattle.std.proofs.Common.{ap, ◌∙◌, arith}
use Rattle.due_index.specs.Blocks.{but_first}
use Rattle.due_index.proofs.Spans.{span_of}
use Rattle.due_index.proofs.upkeep.versions_in.Goals as goal
use Rattle.due_index.proofs.upkeep.versions_in.Goals.{else-start-gt0-via-then-start-gt0+else-not-is_after, else-start-gt0-via-else-start-gt0}

pub returns : goal.returns
returns c = span_of c.args.of_key.now.changed c.args.of_key.now.versions c.but_first-noncurrent.result.now c.requires.order
    (c.but_first-noncurrent.ensures ∙ ap but_first c.versions.ensures.same) c.first_until-start.result c.first_before-end.result c.args.from c.args.until
    c.if-start-end.false c.first_before-end.ensures
    (λ some. elim c.else-start-gt0.branch [
      | else-start-gt0-via-then-start-gt0+else-not-is_after w ↦ w.is_after.ensures w.if-not-is_after.false
      | else-start-gt0-via-else-start-gt0 w ↦ let none = w.if-start-gt0.false in absurd (omega (arith, some, none))
    ])
    (c.is_before.ensures c.if-not-is_before.false)
