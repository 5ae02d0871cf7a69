-- The slots of the next actions.
use Rattle.std.specs.Prelude.{◌≡◌, ℕ, List, Option, Some, None, slice_get, option_map, false}
use Rattle.due_core.specs.declared.action.Action.{Action}
use Rattle.due_core.specs.Choice.{comes_before}
use Rattle.due_core.specs.declared.action.Candidate.{Candidate}

-- the content of a slot; none if there is no such slot, or it is empty
abbrev pub held_in : Option (Option Candidate) → Option Candidate
held_in None = None
held_in (Some slot) = slot

-- the content of the slot with this number
abbrev pub slot_at : ℕ → List (Option Candidate) → Option Candidate
slot_at slot slots = held_in (slice_get slots slot)

-- the candidate is in one of the slots, and none in the slots comes before it; None: all slots are empty
abbrev pub IsHead : List (Option Candidate) → Option Candidate → Type 0
IsHead slots None = (slot : ℕ) (candidate : Candidate) → slot_at slot slots ≡ Some candidate → ⊥
IsHead slots (Some head) = ((slot : ℕ) × (slot_at slot slots ≡ Some head))
    × ((slot : ℕ) (candidate : Candidate) → slot_at slot slots ≡ Some candidate → comes_before candidate head ≡ false)

-- the content of this slot is this one; that of all others is unchanged
pub record IsPut (old new : List (Option Candidate)) (slot : ℕ) (held : Option Candidate) : Type 0 where
  pub here : slot_at slot new ≡ held
  pub others : (k : ℕ) → (k ≡ slot → ⊥) → slot_at k new ≡ slot_at k old

-- the action of the first candidate in the slots; None: all slots are empty
abbrev pub IsFirstAction : List (Option Candidate) → Option Action → Type 0
IsFirstAction slots action =
    (head : Option Candidate) × IsHead slots head × (option_map (λ candidate. candidate.action) head ≡ action)
