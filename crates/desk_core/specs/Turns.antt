-- Calls of a desk, one after another, as threads make them in turns.
use Rattle.std.specs.Prelude.{◌≡◌, List, [], ◌∷◌, map, Result}
use Rattle.disk_core.specs.declared.disk.Disk as disks
use Rattle.office_types.specs.declared.command.Ask.{Ask}
use Rattle.office_types.specs.declared.command.Entry.{Entry}
use Rattle.desk_core.specs.Answers.{Answer, Call}
use Rattle.desk_core.specs.Submitting.{Submits}
use Rattle.desk_core.specs.Desk.{DeskView, StandsFor}
use Rattle.desk_core.specs.Serving.{Opened, LegalOn}
use Rattle.desk_core.specs.declared.clock.Clock as clocks
use Rattle.desk_core.specs.declared.fault.DeskFault.{DeskFault}

module _ {T : Type 0} (moves : T → Ask → Result Answer DeskFault → T → Type 0) where
  -- from the first to the last it moves by these calls, in order
  abbrev pub Moves : T → List Call → T → Type 0
  Moves old [] new = new ≡ old
  Moves old (call ∷ calls) new = (mid : T) × moves old call.ask call.said mid × Moves mid calls new

-- calls, each given as what was asked and what was said
abbrev pub calls_from : List (Ask × Result Answer DeskFault) → List Call
calls_from = map (λ pair. record { ask = pair.0; said = pair.1 })

module _ {D C : Type 0} (d : disks.Ghosts D) where
  -- by these calls, in order, the first desk becomes this one
  abbrev pub Reaches : clocks.Ghosts C → DeskView D C → DeskView D C → List (Ask × Result Answer DeskFault) → Type 0
  Reaches k first desk pairs = Moves (Submits d k) first (calls_from pairs) desk

  -- these calls are legal since the opening of the first desk, whichever opening it stands for with no call
  abbrev pub LegalSince : DeskView D C → List (Ask × Result Answer DeskFault) → Type 0
  LegalSince first pairs =
      (opened : Opened) → StandsFor d opened [] first
      → (history : List Entry) × LegalOn d.honest opened (calls_from pairs) history
