use Rattle.std.proofs.Common.{◌≡◌}
use Rattle.due_index.proofs.upkeep.count_ends.Given as goal

-- the blocks are as they were, but for their ends
abbrev pub invariant-loop-at : goal.invariant-loop-at
invariant-loop-at l = l.blocks-inside.list.items ≡ l.fn.blocks
