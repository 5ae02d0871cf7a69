use Rattle.std.proofs.Common.{◌<◌, ℕ, get_or}
use Rattle.disk_core.specs.declared.pending.Filling.{Filling}
use Rattle.disk_core.specs.Choices.{Gives}
use Rattle.disk_core.specs.Pending.{file_of, AreImages, KeepsGiven}
use Rattle.disk_core.proofs.pending.Pending.add_fillings.Given as goal

-- the images so far, with one for each of the fillings so far
abbrev pub invariant-loop-before : goal.invariant-loop-before
invariant-loop-before l =
    AreImages (file_of l.self) l.images.items
    × KeepsGiven (file_of l.self) l.fn.images.items l.images.items
    × ((k : ℕ) (d : Filling × Filling) → k < l.before-index → Gives (file_of l.self) l.images.items
    (record { size = l.size; place = l.place; before = (get_or l.before-items k d).0; behind = (get_or l.before-items k d).1 }))
