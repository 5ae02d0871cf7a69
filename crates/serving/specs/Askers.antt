-- What a clause says of one ask.
use Rattle.std.specs.Prelude.{◌≡◌, ℕ, List, Option, Some, Result}
use Rattle.office_types.specs.declared.command.Ask.{Ask}
use Rattle.desk_core.specs.Answers.{Answer}
use Rattle.desk_core.specs.Desk.{DeskView}
use Rattle.desk_core.specs.declared.fault.DeskFault.{DeskFault}
use Rattle.serving.specs.Seats.{Seat, TakesTurn}

module _ {D C G : Type 0} where
  -- the ask was one turn at this seat, which the gate let through, and its answer is kept
  pub record AsksOnce (lets : G → ℕ → ℕ → Type 0)
      (lawful : DeskView D C → List (Ask × Result Answer DeskFault) → Type 0) (old : Seat D C G)
      (ask : Ask) (said : Option (Result Answer DeskFault)) (new : Seat D C G) : Type 0 where
    pub what : Result Answer DeskFault
    pub kept : said ≡ Some what
    pub turn : TakesTurn lets lawful old ask what new
