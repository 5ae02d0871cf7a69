use Rattle.due_index.proofs.Tables.{AreEnabledBelow}
use Rattle.due_index.proofs.table.enabled.Given as goal

-- the enabled rules so far were taken up
abbrev pub invariant-loop-i : goal.invariant-loop-i
invariant-loop-i l = AreEnabledBelow l.rules l.order.items l.i
