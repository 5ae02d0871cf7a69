-- A part of a journal file in memory.
use Rattle.std.specs.Prelude.{◌≡◌, ℕ, List, length, take, drop}

-- what contracts see of a window: the place of its first byte, in bytes from the start of the file, and its bytes
pub record WindowView : Type 0 where
  pub at : ℕ
  pub bytes : List ℕ

-- these bytes are in the file from this place on
abbrev pub IsPart : ℕ → List ℕ → List ℕ → Type 0
IsPart at bytes file = bytes ≡ take (length bytes) (drop at file)
