use Rattle.disk_core.specs.Choices.{IsChosen}
use Rattle.disk_core.specs.Pending.{file_of}
use Rattle.disk_core.proofs.pending.Pending.image.Given as goal

-- the bytes so far are those of the shorter image
abbrev pub invariant-loop-at : goal.invariant-loop-at
invariant-loop-at l = IsChosen (file_of l.self) (record l.choice { size = l.at }) l.image.items
