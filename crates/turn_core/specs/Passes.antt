-- What a clause says of a pass.
use Rattle.std.specs.Prelude.{◌≡◌, ◌-◌, ◌^◌, Option, length, min}
use Rattle.turn_core.specs.declared.pass.TicketPass.{TicketPass}
use Rattle.turn_core.specs.declared.turns.TicketLock.{TicketLock}
use Rattle.turn_core.specs.declared.view.Kept.{Kept}
use Rattle.turn_core.specs.declared.view.View.{View}
use Rattle.turn_core.specs.Views.{AtRest}

module _ {T A S : Type 0} where
  -- what the pass knows
  abbrev pub view : TicketPass (Option (Kept T A S)) (View T A S) → View T A S
  view p = p.seat.me.0

  -- the pass is between two calls, and its number of calls is kept
  abbrev pub IsBetweenCalls : TicketPass (Option (Kept T A S)) (View T A S) → Type 0
  IsBetweenCalls p = AtRest p.seat.me × (p.calls ≡ min (length p.seat.me.0.made) (2 ^ 64 - 1))

  -- the pass is one of these turns, and between two calls
  abbrev pub IsPassOf : {K P : Type 0} → TicketLock (Option (Kept T A S)) (View T A S) K P
      → TicketPass (Option (Kept T A S)) (View T A S) → Type 0
  IsPassOf turns p = (p.seat.table_id ≡ turns.table.shared.table_id) × IsBetweenCalls p
