use Rattle.due_index.proofs.Building.{AreUploadsLeft}
use Rattle.due_index.proofs.actions.ActionIndex.take_uploads.Given as goal

-- the uploads that are left are still to be taken up
abbrev pub invariant-loop-number : goal.invariant-loop-number
invariant-loop-number l = AreUploadsLeft l.fn.self l.self l.bucket l.number-iterator
