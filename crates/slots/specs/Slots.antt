-- A slot: a file that keeps a body, and the position in the journal up to which the body records what happened. Its
-- first byte is a gate: A7 is open, any other byte is closed (own).
use Rattle.std.specs.Prelude.{◌≡◌, ℕ, ◌^◌, ◌<◌, ◌≤◌, List, ◌∷◌, ◌++◌, length}
use Rattle.std.specs.Int.{w64, to_be_bytes}

-- what follows the gate: the position and the body's length, in eight bytes each, and the body
unfoldable pub text_of : ℕ → List ℕ → List ℕ
text_of position body = to_be_bytes w64 position ++ to_be_bytes w64 (length body) ++ body

-- the slot is open, with this body at this position; bytes after the body have no meaning
pub record HoldsBody (position : ℕ) (body file : List ℕ) : Type 0 where
  pub rest : List ℕ
  pub parts : file ≡ 0xA7 ∷ (text_of position body ++ rest)
  pub position_fits : position < 2 ^ 64
  pub body_fits : length body < 2 ^ 64

-- the slot decodes: it is open, with a body that spells this value, at a position not before the first gate of a
-- journal
pub record Keeps {V : Type 0} (spells : List ℕ → V → Type 0) (value : V) (position : ℕ) (file : List ℕ)
    : Type 0 where
  pub body : List ℕ
  pub holds : HoldsBody position body file
  pub placed : 10 ≤ position
  pub spelled : spells body value
