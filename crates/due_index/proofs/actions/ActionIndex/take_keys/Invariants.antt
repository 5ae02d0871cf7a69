use Rattle.due_index.proofs.Building.{AreKeysLeft}
use Rattle.due_index.proofs.actions.ActionIndex.take_keys.Given as goal

-- the keys that are left are still to be taken up
abbrev pub invariant-loop-key : goal.invariant-loop-key
invariant-loop-key l = AreKeysLeft l.fn.self l.self l.bucket l.key-iterator
