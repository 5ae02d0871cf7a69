use Rattle.std.proofs.Common.{All, sym, subst}
use Rattle.due_index.specs.Blocks.{IsRightFor, but_first}
use Rattle.due_index.proofs.Spans.{span_right}
use Rattle.due_index.proofs.upkeep.block_in.Goals as goal

pub returns : goal.returns
returns c = subst (λ block. All (IsRightFor c.args.mode c.args.rules.now c.args.key.now block) (but_first c.args.of_key.now.versions)) (sym c.block.view_is)
    (span_right c.args.mode c.args.rules.now c.args.key.now (but_first c.args.of_key.now.versions) c.in-Ok.block c.args.from c.args.until c.in_ok-part.part.now
    c.in-Ok.ensures.from c.in-Ok.ensures.until c.in_ok-part.ensures c.in-Ok.ensures.marked)
