use Rattle.std.proofs.Common.{◌≤◌, length}
use Rattle.due_index.specs.Blocks.{AreRight, but_first}
use Rattle.due_index.proofs.upkeep.extend.Given as goal

-- the blocks are right
abbrev pub invariant-loop-left : goal.invariant-loop-left
invariant-loop-left l = record {
  within : l.left ≤ length l.noncurrent;
  right : AreRight l.mode l.rules l.key l.blocks-inside.list.items (but_first l.of_key.versions);
}

abbrev pub decreases-loop-left : goal.decreases-loop-left
decreases-loop-left l = l.left
