use Rattle.std.proofs.Common.{◌≡◌}
use Rattle.due_index.specs.Blocks.{KeepsMarks}
use Rattle.due_index.proofs.Marks.{AreMarkedBefore}
use Rattle.due_index.proofs.blocks.mark.Given as goal

-- what the version takes of the rules before this place is marked
abbrev pub invariant-loop-place : goal.invariant-loop-place
invariant-loop-place l = record {
  from : l.block-inside.from ≡ l.fn.block.from;
  until : l.block-inside.until ≡ l.fn.block.until;
  kept : KeepsMarks l.fn.block.marks l.block-inside.marks.items;
  marked : AreMarkedBefore l.mode l.rules l.key l.place l.block-inside.marks.items l.version;
}
