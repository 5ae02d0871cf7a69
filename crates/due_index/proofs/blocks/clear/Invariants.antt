use Rattle.std.proofs.Common.{◌≡◌}
use Rattle.due_index.proofs.Marks.{AreLeft}
use Rattle.due_index.proofs.blocks.clear.Given as goal

-- what was marked for the versions is
abbrev pub invariant-loop-place : goal.invariant-loop-place
invariant-loop-place l = record {
  from : l.block-inside.from ≡ l.fn.block.from;
  until : l.block-inside.until ≡ l.fn.block.until;
  marked : AreLeft l.mode l.rules l.key l.fn.block.marks l.block-inside.marks.items l.versions;
}
