-- A reply that is said in pieces.
use Rattle.std.proofs.Common.{◌≡◌, ◌∙◌, ℕ, List, [], ◌++◌, take, drop, length, sym, ap, subst, arith, append_assoc, append-nil, take-append-drop, Option, Result, Ok, Err}
use Rattle.std.proofs.KnownBytes.{Appends-trans}
use Rattle.std.proofs.Math.Seq.{take-append-add}
use Rattle.std.proofs.lemmas.Bool.{false≢true}
use Rattle.std.proofs.lemmas.List.{take_all}
use Rattle.std.specs.Io.KnownBytes.{Appends}
use Rattle.std.specs.Result.{IsErr}
use Rattle.http_front.specs.Puts.{PutsOut}

-- a front of a text
front : (some rest text : List ℕ) → some ++ rest ≡ text → some ≡ take (length some) text
front some rest text is =
    sym (append-nil some) ∙ sym (take-append-add some rest 0) ∙ ap (λ (n : ℕ). take n (some ++ rest)) (omega arith) ∙ ap (take (length some)) is

-- one more piece was said, and more is left
pub said_more : (old mid new : Option (List ℕ)) (some piece left whole text : List ℕ) → Appends old mid some → whole ≡ piece ++ left → some ++ whole ≡ text → Appends mid new piece
    → Appends old new (some ++ piece) × ((some ++ piece) ++ left ≡ text)
said_more old mid new some piece left whole text said parts is next =
    (Appends-trans old mid new some piece said next, append_assoc some piece left ∙ ap (λ t. some ++ t) (sym parts) ∙ is)

-- a piece was said in part: a front of the text was said
pub said_front : {E : Type 0} (old mid new : Option (List ℕ)) (some piece left whole text : List ℕ) (result : Result Unit E) → Appends old mid some → whole ≡ piece ++ left
    → some ++ whole ≡ text → ((n : ℕ) × Appends mid new (take n piece)) → IsErr result → PutsOut old new text result
said_front old mid new some piece left whole text (Ok x) said parts is next err = absurd (false≢true err)
said_front old mid new some piece left whole text (Err e) said parts is (n, next) err =
    let done = some ++ take n piece in
    let rest = drop n piece ++ left in
    let all : done ++ rest ≡ text =
    append_assoc some (take n piece) rest
    ∙ ap (λ t. some ++ t) (sym (append_assoc (take n piece) (drop n piece) left) ∙ ap (λ t. t ++ left) (take-append-drop n piece) ∙ sym parts)
    ∙ is in
    (length done, subst (λ (t : List ℕ). Appends old new t) (front done rest text all) (Appends-trans old mid new some (take n piece) said next))

-- all pieces were said
pub said_all : (old new : Option (List ℕ)) (some left text : List ℕ) → Appends old new some → left ≡ [] → some ++ left ≡ text → Appends old new text
said_all old new some left text said none is = subst (λ (t : List ℕ). Appends old new t) (sym (append-nil some) ∙ ap (λ t. some ++ t) (sym none) ∙ is) said

-- all was said, and the answer was told or not
pub said_whole : {E : Type 0} (old mid new : Option (List ℕ)) (text : List ℕ) (result : Result Unit E) → new ≡ mid → Appends old mid text → PutsOut old new text result
said_whole old mid new text (Ok x) same said = subst (λ (o : Option (List ℕ)). Appends old o text) (sym same) said
said_whole old mid new text (Err e) same said =
    (length text, subst (λ (t : List ℕ). Appends old new t) (sym (take_all (length text) text (omega arith))) (subst (λ (o : Option (List ℕ)). Appends old o text) (sym same) said))
