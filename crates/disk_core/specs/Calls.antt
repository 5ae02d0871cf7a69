-- A call of a disk, in time.
use Rattle.std.specs.Prelude.{◌≡◌, ◌⊎◌, ℕ, ◌≤◌}
use Rattle.disk_core.specs.Files.{State}

-- time goes on by one call: the states since an earlier moment are those from before, and the one now
pub record Elapses {D : Type 0} (state : D → State) (moment : D → ℕ) (had_since : D → ℕ → State → Type 0)
    (old new : D) : Type 0 where
  pub later : moment old ≤ moment new
  pub nothing_else : (t : ℕ) (s : State) → t ≤ moment old → had_since new t s → had_since old t s ⊎ (s ≡ state new)
  pub keeps : (t : ℕ) (s : State) → t ≤ moment old → had_since old t s → had_since new t s
