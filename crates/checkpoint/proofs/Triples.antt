-- The numbers of the classes, one class after the other.
use Rattle.std.proofs.Common.{◌≡◌, ℕ, zero, suc, ◌+◌, ◌<◌, true, List, [], ◌∷◌, ◌++◌, length, take, get_or, refl, ap, arith}
use Rattle.std.proofs.lemmas.Bool.Decides.{nat_tests}
use Rattle.accrual.specs.declared.monthly.MonthSums.{MonthSums}
use Rattle.checkpoint.specs.Parts.{Triple, triples, are_six}

pub take_triple : (i : ℕ) (xs ys zs : List ℕ) → i < length xs → i < length ys → i < length zs
    → take (i + 1) (triples xs ys zs) ≡ take i (triples xs ys zs) ++ (get_or xs i 0, (get_or ys i 0, get_or zs i 0)) ∷ []
take_triple i [] ys zs a b c = absurd (omega (arith, a))
take_triple i (x ∷ xs) [] zs a b c = absurd (omega (arith, b))
take_triple i (x ∷ xs) (y ∷ ys) [] a b c = absurd (omega (arith, c))
take_triple zero (x ∷ xs) (y ∷ ys) (z ∷ zs) a b c = refl
take_triple (suc i) (x ∷ xs) (y ∷ ys) (z ∷ zs) a b c =
    let n : suc i + 1 ≡ suc (i + 1) = omega arith in
    rw n (ap (λ (l : List Triple). (x, (y, z)) ∷ l) (take_triple i xs ys zs (omega (arith, a)) (omega (arith, b)) (omega (arith, c))))

pub length_triples : (xs ys zs : List ℕ) → length ys ≡ length xs → length zs ≡ length xs → length (triples xs ys zs) ≡ length xs
length_triples [] ys zs b c = refl
length_triples (x ∷ xs) [] zs b c = absurd (omega (arith, b))
length_triples (x ∷ xs) (y ∷ ys) [] b c = absurd (omega (arith, c))
length_triples (x ∷ xs) (y ∷ ys) (z ∷ zs) b c = ap suc (length_triples xs ys zs (omega (arith, b)) (omega (arith, c)))

pub are_six_of : (sums : MonthSums) → length sums.ended ≡ 6 → length sums.early ≡ 6 → length sums.moves ≡ 6 → are_six sums ≡ true
are_six_of sums a b c = grind (arith, nat_tests)
