-- What a journal is to its callers.
use Rattle.std.specs.Prelude.{ℕ}

-- a journal: its disk, the place of the next gate, which is its end gate once it was read, and the limit of its
-- length, in bytes
pub record JournalView (D : Type 0) : Type 0 where
  pub disk : D
  pub gate : ℕ
  pub limit : ℕ
