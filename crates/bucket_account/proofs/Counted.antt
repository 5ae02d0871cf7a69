-- A count over a list, element by element.
use Rattle.std.proofs.Common.{◌≡◌, ℕ, ◌+◌, ◌≤◌, List, [], ◌∷◌, ap, arith}
use Rattle.std.specs.Prelude.{sum_by}
use Rattle.std.proofs.lemmas.List.Sums.{sum_by-cons}

module _ {X : Type 0} (f : X → ℕ) (count total : ℕ) (xs : List X) (so_far : count + sum_by f xs ≡ total) where
  pub counted_more : (x : X) (rest : List X) → xs ≡ x ∷ rest → count + f x + sum_by f rest ≡ total
  counted_more x rest is =
      let here = ap (sum_by f) is in
      let cons = sum_by-cons f x rest in
      omega (arith, so_far, here, cons)

  pub counted_fits : (x : X) (rest : List X) → xs ≡ x ∷ rest → count + f x ≤ total
  counted_fits x rest is = let more = counted_more x rest is in omega (arith, more)

  pub counted_all : xs ≡ [] → count ≡ total
  counted_all is = let here : sum_by f xs ≡ 0 = ap (sum_by f) is in omega (arith, so_far, here)
