-- What is read at the front of a slot.
use Rattle.std.specs.Prelude.{ℕ, ◌+◌, ◌≤◌, List, length, take, drop, Option, Some, None, Bool, false, nat_lt}
use Rattle.slots.specs.Slots.{HoldsBody}
use Rattle.slots.specs.declared.heads.Head.{Head}

-- the body of this length
abbrev pub body_at : ℕ → List ℕ → List ℕ
body_at size file = take size (drop 17 file)

-- both slots have a head, and the second has the greater position
abbrev pub is_below : Option Head → Option Head → Bool
is_below None one = false
is_below (Some zero) None = false
is_below (Some zero) (Some one) = nat_lt zero.position one.position

-- the slot is open, with its position and a body of this length; with no head it is not open, or its body does not end
-- within the file
abbrev pub HasHead : Option Head → List ℕ → Type 0
HasHead (Some head) file = (17 + head.size ≤ length file) × HoldsBody head.position (body_at head.size file) file
HasHead None file = (position : ℕ) (body : List ℕ) → HoldsBody position body file → ⊥
