-- A body whose first bytes were copied.
use Rattle.std.proofs.Common.{◌≡◌, ℕ, ◌-◌, List, ◌++◌, length, take, drop, ap, ◌∙◌, arith, length-drop}
use Rattle.std.proofs.lemmas.List.{take_all, take-append-le}

pub copied : (bytes behind : List ℕ) (start : ℕ) → take (length bytes - start) (take (length bytes - start) (drop start bytes) ++ behind) ≡ drop start bytes
copied bytes behind start =
    let n = length bytes - start in
    let all : take n (drop start bytes) ≡ drop start bytes = take_all n (drop start bytes) (omega (arith, length-drop start bytes)) in
    ap (λ (t : List ℕ). take n (t ++ behind)) all ∙ take-append-le n (drop start bytes) behind (omega (arith, length-drop start bytes)) ∙ all
