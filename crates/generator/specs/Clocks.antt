-- The moments that the clock of a load returns.
use Rattle.std.specs.Prelude.{ℕ, zero, suc, List, [], ◌∷◌, ◌++◌}
use Rattle.generator.specs.Places.{place_after}

-- the number, and after it the moments of this many commands
unfoldable pub moments_told : ℕ → ℕ → List ℕ
moments_told number zero = number ∷ []
moments_told number (suc n) = moments_told number n ++ (place_after number (suc n)).moment ∷ []
