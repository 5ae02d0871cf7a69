-- The calls by which a desk is reached are legal, and one turn adds one call.
use Rattle.std.proofs.Common.{List, [], ◌∷◌, ◌++◌, Result, refl, sym, subst}
use Rattle.std.proofs.lemmas.List.{map-append}
use Rattle.disk_core.specs.declared.disk.Disk as disks
use Rattle.office_types.specs.declared.command.Ask.{Ask}
use Rattle.desk_core.specs.Answers.{Answer, Call}
use Rattle.desk_core.specs.Submitting.{Submits}
use Rattle.desk_core.specs.Desk.{DeskView}
use Rattle.desk_core.specs.Turns.{Moves, calls_from, Reaches}
use Rattle.desk_core.specs.declared.clock.Clock as clocks
use Rattle.desk_core.specs.declared.fault.DeskFault.{DeskFault}

-- one call more
pub moves_on : {T : Type 0} (moves : T → Ask → Result Answer DeskFault → T → Type 0) (first old new : T) (calls : List Call) (call : Call)
    → Moves moves first calls old → moves old call.ask call.said new → Moves moves first (calls ++ call ∷ []) new
moves_on moves first old new [] call same step = (new, subst (λ t. moves t call.ask call.said new) same step, refl)
moves_on moves first old new (head ∷ calls) call path step = (path.0, path.1, moves_on moves path.0 old new calls call path.2 step)

module _ {D C : Type 0} (d : disks.Ghosts D) (k : clocks.Ghosts C) where
  abbrev Step : DeskView D C → Ask → Result Answer DeskFault → DeskView D C → Type 0
  Step = Submits d k

  pub reaches_on : (first old new : DeskView D C) (pairs : List (Ask × Result Answer DeskFault)) (ask : Ask) (said : Result Answer DeskFault)
      → Reaches d k first old pairs → Step old ask said new
      → Reaches d k first new (pairs ++ (ask, said) ∷ [])
  reaches_on first old new pairs ask said path step =
      subst (λ (calls : List Call). Moves Step first calls new) (sym (map-append (λ pair. record { ask = pair.0; said = pair.1 }) pairs ((ask, said) ∷ [])))
      (moves_on Step first old new (calls_from pairs) (record { ask = ask; said = said }) path step)
