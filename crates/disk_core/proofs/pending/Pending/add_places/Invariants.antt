use Rattle.std.proofs.Common.{◌≡◌, ◌<◌}
use Rattle.disk_core.specs.declared.pending.Choice.{Choice}
use Rattle.disk_core.specs.Choices.{Gives}
use Rattle.disk_core.specs.Pending.{file_of, AreImages, KeepsGiven}
use Rattle.disk_core.proofs.pending.Pending.add_places.Given as goal

-- the images so far, with one for each choice of a place before this one
abbrev pub invariant-loop-place : goal.invariant-loop-place
invariant-loop-place l =
    AreImages (file_of l.self) l.images.items
    × KeepsGiven (file_of l.self) l.fn.images.items l.images.items
    × ((choice : Choice) → choice.size ≡ l.size → choice.place < l.place → Gives (file_of l.self) l.images.items choice)
