use Rattle.std.proofs.Common.{◌∙◌}
use Rattle.due_index.proofs.Keeping.{sets_right}
use Rattle.due_index.proofs.due.DueIndex.make_blocks.Goals as goal

pub loop-key-preserved-then-versions-gt-FEW : goal.loop-key-preserved-then-versions-gt-FEW
loop-key-preserved-then-versions-gt-FEW c = (
  c.keep.ensures.actions ∙ c.loop-key.invariant.0,
  sets_right c.loop-key.self c.keep.new.self c.args.bucket.now c.in-Some.key.now c.renewed-blocks.result c.keep.ensures c.renewed-blocks.ensures c.loop-key.invariant.1,
)
