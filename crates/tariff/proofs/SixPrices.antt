-- A price for each of six classes.
use Rattle.std.proofs.Common.{◌≡◌, ℕ, List, [], ◌∷◌, length, get_or, refl, arith}

-- a list of six numbers is its six numbers
pub six_are : (xs : List ℕ) → length xs ≡ 6 → xs ≡ get_or xs 0 0 ∷ get_or xs 1 0 ∷ get_or xs 2 0 ∷ get_or xs 3 0 ∷ get_or xs 4 0 ∷ get_or xs 5 0 ∷ []
six_are [] is = absurd (omega arith)
six_are (a ∷ []) is = absurd (omega arith)
six_are (a ∷ b ∷ []) is = absurd (omega arith)
six_are (a ∷ b ∷ c ∷ []) is = absurd (omega arith)
six_are (a ∷ b ∷ c ∷ d ∷ []) is = absurd (omega arith)
six_are (a ∷ b ∷ c ∷ d ∷ e ∷ []) is = absurd (omega arith)
six_are (a ∷ b ∷ c ∷ d ∷ e ∷ f ∷ []) is = refl
six_are (a ∷ b ∷ c ∷ d ∷ e ∷ f ∷ g ∷ xs) is = absurd (omega arith)
