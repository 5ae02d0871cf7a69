use Rattle.std.proofs.Common.{◌≡◌, List, ℕ}
use Rattle.due_index.specs.Index.{HasBlocks}
use Rattle.due_index.proofs.due.DueIndex.make_blocks.Given as goal

-- the actions are as at first, and all blocks are right
abbrev pub invariant-loop-key : goal.invariant-loop-key
invariant-loop-key l = (l.self.actions ≡ l.fn.self.actions) × ((key : List ℕ) → HasBlocks l.self l.bucket key)
