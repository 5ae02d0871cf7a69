-- A buffer after its front was dropped.
use Rattle.std.proofs.Common.{◌≡◌, ℕ, ◌+◌, ◌-◌, ◌≤◌, List, ◌++◌, length, take, drop, sym, ap, subst, ◌∙◌, arith}
use Rattle.std.proofs.lemmas.List.{length-take-le, length-drop, take-append-le, take-take, drop-take}

pub dropped : (items : List ℕ) (len count : ℕ) → len ≤ length items → count ≤ len → take (len - count) (take (len - count) (drop count items) ++ drop (len - count) items) ≡ drop count (take len items)
dropped items len count inside front =
    let n = len - count in
    let rest = drop count items in
    let room : n ≤ length rest = subst (λ (l : ℕ). n ≤ l) (sym (length-drop count items)) (omega (arith, inside, front)) in
    let all : count + n ≡ len = omega (arith, front) in
    take-append-le n (take n rest) (drop n items) (subst (λ (l : ℕ). n ≤ l) (sym (length-take-le n rest room)) (omega arith))
    ∙ take-take n n rest (omega arith)
    ∙ sym (drop-take count n items)
    ∙ ap (λ (l : ℕ). drop count (take l items)) all
