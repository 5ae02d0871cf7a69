-- A name among others.
use Rattle.std.proofs.Common.{◌≡◌, ℕ, Bool, ◌||◌, List, [], ◌∷◌, refl, ap, map}
use Rattle.std.specs.List.{list_any}

pub any_of_names : {X : Type 0} (test : List ℕ → Bool) (name : X → List ℕ) (xs : List X) → list_any (λ x. test (name x)) xs ≡ list_any test (map name xs)
any_of_names test name [] = refl
any_of_names test name (x ∷ xs) = ap (λ rest. test (name x) || rest) (any_of_names test name xs)
