-- What a source in memory gives.
use Rattle.std.proofs.Common.{◌≡◌, ℕ, ◌+◌, ◌-◌, ◌≤◌, List, [], ◌∷◌, ◌++◌, take, drop, length, refl, sym, ap, ◌∙◌, arith, length-drop, take-append-drop}
use Rattle.std.proofs.lemmas.List.{drop-drop, drop_all, length-take-le}

take_front : (xs ys : List ℕ) → take (length xs) (xs ++ ys) ≡ xs
take_front [] ys = refl
take_front (x ∷ xs) ys = ap (λ (t : List ℕ). x ∷ t) (take_front xs ys)

-- the bytes that are left are those given and those left after them
pub given_part : (bytes copied behind : List ℕ) (given count : ℕ) → given + count ≤ length bytes → copied ≡ take (given + count - given) (drop given bytes)
    → drop given bytes ≡ take count (copied ++ behind) ++ drop (given + count) bytes
given_part bytes copied behind given count inside same =
    let is : copied ≡ take count (drop given bytes) = same ∙ ap (λ (n : ℕ). take n (drop given bytes)) (omega arith) in
    let long : length copied ≡ count = ap length is ∙ length-take-le count (drop given bytes) (omega (arith, inside, length-drop given bytes)) in
    let front : take count (copied ++ behind) ≡ take count (drop given bytes) =
    ap (λ (n : ℕ). take n (copied ++ behind)) (sym long) ∙ take_front copied behind ∙ is in
    sym (take-append-drop count (drop given bytes)) ∙ ap (λ (t : List ℕ). t ++ drop count (drop given bytes)) (sym front)
    ∙ ap (λ (t : List ℕ). take count (copied ++ behind) ++ t) (drop-drop count given bytes)

-- no byte is left where all were given
pub none_left : (bytes : List ℕ) (given : ℕ) → length bytes ≤ given → drop given bytes ≡ []
none_left bytes given all = drop_all given bytes all
