-- The order of the candidates is total. The least of a list is one of them, and none comes before it.
use Rattle.std.proofs.Common.{◌≡◌, ℕ, ◌<◌, List, [], ◌∷◌, length, get_or, refl, ◌∙◌, subst, Bool, false, arith, zero, suc}
use Rattle.std.specs.Cmp.{IsTotalOrder, IsStrictWeakOrder}
use Rattle.std.specs.List.{best_of}
use Rattle.std.proofs.lemmas.List.MinMax.{ranks_by, IsFirstBest-from_best_of}
use Rattle.std.proofs.lemmas.Cmp.{then_total, on_total, back_total, nat_cmp_total, nat_list_cmp_total}
use Rattle.due_core.specs.Choice.{precedence, comes_before, kind_place, coldness, least, IsLeast}
use Rattle.due_core.specs.declared.action.Candidate.{Candidate}

pub precedence_total : IsTotalOrder precedence
precedence_total =
    then_total (on_total (λ (c : Candidate). c.action.since) nat_cmp_total)
    (then_total (on_total (λ (c : Candidate). kind_place c.action.kind) nat_cmp_total)
    (then_total (on_total (λ (c : Candidate). c.action.key) nat_list_cmp_total)
    (then_total (on_total (λ (c : Candidate). c.age) nat_cmp_total)
    (then_total (back_total (on_total (λ (c : Candidate). coldness c.action.kind) nat_cmp_total))
    (on_total (λ (c : Candidate). c.action.rule) nat_cmp_total)))))

-- inside a list the default doesn't matter
any_default : {X : Type 0} (xs : List X) (k : ℕ) (d e : X) → k < length xs → get_or xs k d ≡ get_or xs k e
any_default [] k d e h = absurd (omega arith)
any_default (x ∷ xs) zero d e h = refl
any_default (x ∷ xs) (suc k) d e h = any_default xs k d e (omega arith)

pub least_is_least : {X : Type 0} {before : X → X → Bool} → IsStrictWeakOrder before → (xs : List X) → IsLeast before xs (least before xs)
least_is_least o [] = refl
least_is_least {X} {before} o (x ∷ xs) =
    let found = IsFirstBest-from_best_of o x xs in
    let best = best_of before x xs in
    let here : (d : X) → get_or (x ∷ xs) found.0 d ≡ best = λ d. any_default (x ∷ xs) found.0 d x found.1.0 ∙ found.2 in
    ((found.0, found.1.0, here best), λ k d h. subst (λ (y : X). before (get_or (x ∷ xs) k d) y ≡ false) (here d) (found.1.1 k d h))

pub first_candidate : (xs : List Candidate) → IsLeast comes_before xs (least comes_before xs)
first_candidate xs = least_is_least (ranks_by precedence_total (λ (c : Candidate). c)) xs
