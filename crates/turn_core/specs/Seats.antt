-- What a clause says of the seat of a pass while it takes a turn.
use Rattle.std.specs.Prelude.{◌≡◌, ℕ, ◌%◌, ◌^◌, List, [], ◌∷◌, ◌++◌, Some, false}
use Rattle.atomic_table.specs.declared.shared.Seat.{Seat}
use Rattle.atomic_table.specs.declared.shared.Shared.{Shared}
use Rattle.turn_core.specs.declared.view.LastCall.{LastCall}
use Rattle.turn_core.specs.declared.view.Kept.{Kept}
use Rattle.turn_core.specs.declared.view.View.{View}
use Rattle.turn_core.specs.Plays.{Place}
use Rattle.turn_core.specs.Rule.{has}
use Rattle.turn_core.specs.Views.{StandsSince, next_call}

module _ {S V : Type 0} where
  -- the seat is one at this table, which has the two words and the slot
  abbrev pub IsSeatAt : {K P : Type 0} → Shared S V K P → Seat S V → Type 0
  IsSeatAt table seat = (seat.table_id ≡ table.table_id) × (table.table_id.words ≡ 2) × (table.table_id.slots ≡ 1)

  -- it is still the same seat
  abbrev pub IsSameSeat : Seat S V → Seat S V → Type 0
  IsSameSeat old new = (new.table_id ≡ old.table_id) × (new.id ≡ old.id)

module _ {T A S : Type 0} where
  -- it waits with a ticket
  abbrev pub IsWaiting : Place T A S → Type 0
  IsWaiting m = (m.1 ≡ []) × (has m.0.ticket ≡ 1) × (m.0.served ≡ false)

  -- it waits with the ticket that has this number modulo 2^64
  abbrev pub IsWaitingWith : Place T A S → ℕ → Type 0
  IsWaitingWith m number = (m.1 ≡ []) × (m.0.served ≡ false) × ((t : ℕ) × (number ≡ t % 2 ^ 64) × (m.0.ticket ≡ Some t))

module _ {T A S : Type 0} (stands : T → T → List (A × S) → Type 0) where
  -- it has the value, which stands for the list that the pass has seen
  abbrev pub HasValue : Place T A S → Type 0
  HasValue m = (k : Kept T A S) × (m.1 ≡ (0, Some k) ∷ []) × StandsSince stands m.0.opening k.value m.0.seen

  -- it has the value, which stands for that list and the call that the slot records
  abbrev pub HasCalled : Place T A S → Type 0
  HasCalled m =
      (k : Kept T A S) × (d : LastCall A S) × (m.1 ≡ (0, Some k) ∷ []) × (k.last ≡ Some d)
      × StandsSince stands m.0.opening k.value (m.0.seen ++ next_call m.0 d.ask.value d.say.value ∷ [])

  -- the same; that call was this one, and the pass knew v before it
  abbrev pub HasAnswered : View T A S → A → S → Place T A S → Type 0
  HasAnswered v ask say m =
      (k : Kept T A S) × (d : LastCall A S) × (m.1 ≡ (0, Some k) ∷ []) × (k.last ≡ Some d) × (d.ask.value ≡ ask)
      × (d.say.value ≡ say)
      × StandsSince stands m.0.opening k.value (v.seen ++ next_call v d.ask.value d.say.value ∷ [])
