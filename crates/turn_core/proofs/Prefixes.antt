-- Two beginnings of one list.
use Rattle.std.proofs.Common.{◌≡◌, ◌∙◌, sym, ap, refl, subst, ◌≤◌, List, [], ◌∷◌, ◌++◌, length, length-append, append-nil, ⊎_elim, ◌⊎◌, inl, inr, arith, Bool, true, false, nat_lt, if◌then◌else◌}
use Rattle.std.proofs.lemmas.Bool.Decides.{nat_tests}
use mathlib.Core.List.{IsPrefix}
use Rattle.turn_core.specs.declared.view.TurnCall.{TurnCall}
use Rattle.turn_core.specs.Calls.{longer, shorter}

module _ {A : Type 0} where
  abbrev head_of : A → List A → A
  head_of d [] = d
  head_of d (x ∷ xs) = x

  abbrev tail_of : List A → List A
  tail_of [] = []
  tail_of (x ∷ xs) = xs

  no_rest : (xs t : List A) → length (xs ++ t) ≤ length xs → t ≡ []
  no_rest xs [] less = refl
  no_rest xs (x ∷ t) less = absurd (omega (arith, less, length-append xs (x ∷ t)))

  pub prefix_whole : (xs ys : List A) → IsPrefix xs ys → length ys ≤ length xs → xs ≡ ys
  prefix_whole xs ys (t, e) less =
      let n : length (xs ++ t) ≡ length ys = ap length e in
      let none_left : t ≡ [] = no_rest xs t (omega (arith, n, less)) in
      sym (append-nil xs) ∙ ap (λ (l : List A). xs ++ l) (sym none_left) ∙ e

  pub prefix_of : (xs ys zs : List A) → IsPrefix xs zs → IsPrefix ys zs → length xs ≤ length ys → IsPrefix xs ys
  prefix_of [] ys zs p q less = (ys, refl)
  prefix_of (x ∷ xs) [] zs p q less = absurd (omega (arith, less))
  prefix_of (x ∷ xs) (y ∷ ys) zs (a, e) (b, f) less =
      let inner = prefix_of xs ys (tail_of zs) (a, ap tail_of e) (b, ap tail_of f) (omega (arith, less)) in
      let same : x ≡ y = ap (head_of x) (e ∙ sym f) in
      (inner.0, (λ i. same i ∷ inner.1 i))

module _ {A S : Type 0} where
  by_test : (xs ys : List (TurnCall A S)) (b : Bool) → nat_lt (length xs) (length ys) ≡ b
      → (((if b then ys else xs) ≡ ys) × ((if b then xs else ys) ≡ xs) × (length xs ≤ length ys)) ⊎ (((if b then ys else xs) ≡ xs) × ((if b then xs else ys) ≡ ys) × (length ys ≤ length xs))
  by_test xs ys true e = inl (refl, refl, grind (arith, nat_tests))
  by_test xs ys false e = inr (refl, refl, grind (arith, nat_tests))

  pub cases : (xs ys : List (TurnCall A S)) → ((longer xs ys ≡ ys) × (shorter xs ys ≡ xs) × (length xs ≤ length ys)) ⊎ ((longer xs ys ≡ xs) × (shorter xs ys ≡ ys) × (length ys ≤ length xs))
  cases xs ys = by_test xs ys _ refl

  pub longer_prefix : (xs ys zs : List (TurnCall A S)) → IsPrefix xs zs → IsPrefix ys zs → IsPrefix (longer xs ys) zs
  longer_prefix xs ys zs p q = ⊎_elim
      (λ (c : (longer xs ys ≡ ys) × (shorter xs ys ≡ xs) × (length xs ≤ length ys)). subst (λ (l : List (TurnCall A S)). IsPrefix l zs) (sym c.0) q)
      (λ (c : (longer xs ys ≡ xs) × (shorter xs ys ≡ ys) × (length ys ≤ length xs)). subst (λ (l : List (TurnCall A S)). IsPrefix l zs) (sym c.0) p)
      (cases xs ys)

  pub shorter_begins : (xs ys zs : List (TurnCall A S)) → IsPrefix xs zs → IsPrefix ys zs → IsPrefix (shorter xs ys) (longer xs ys)
  shorter_begins xs ys zs p q = ⊎_elim
      (λ (c : (longer xs ys ≡ ys) × (shorter xs ys ≡ xs) × (length xs ≤ length ys)).
      subst (λ (l : List (TurnCall A S) × List (TurnCall A S)). IsPrefix l.0 l.1) (λ i. (sym c.1 i, sym c.0 i))
      (prefix_of xs ys zs p q c.2))
      (λ (c : (longer xs ys ≡ xs) × (shorter xs ys ≡ ys) × (length ys ≤ length xs)).
      subst (λ (l : List (TurnCall A S) × List (TurnCall A S)). IsPrefix l.0 l.1) (λ i. (sym c.1 i, sym c.0 i))
      (prefix_of ys xs zs q p c.2))
      (cases xs ys)

  pub longer_whole : (xs ys zs : List (TurnCall A S)) → IsPrefix xs zs → IsPrefix ys zs → (xs ≡ zs) ⊎ (ys ≡ zs) → longer xs ys ≡ zs
  longer_whole xs ys zs p q one = prefix_whole (longer xs ys) zs (longer_prefix xs ys zs p q) (⊎_elim
      (λ (c : (longer xs ys ≡ ys) × (shorter xs ys ≡ xs) × (length xs ≤ length ys)). let n : length (longer xs ys) ≡ length ys = ap length c.0 in ⊎_elim
      (λ (e : xs ≡ zs). let m : length xs ≡ length zs = ap length e in omega (arith, n, m, c.2))
      (λ (e : ys ≡ zs). let m : length ys ≡ length zs = ap length e in omega (arith, n, m)) one)
      (λ (c : (longer xs ys ≡ xs) × (shorter xs ys ≡ ys) × (length ys ≤ length xs)). let n : length (longer xs ys) ≡ length xs = ap length c.0 in ⊎_elim
      (λ (e : xs ≡ zs). let m : length xs ≡ length zs = ap length e in omega (arith, n, m))
      (λ (e : ys ≡ zs). let m : length ys ≡ length zs = ap length e in omega (arith, n, m, c.2)) one)
      (cases xs ys))

  -- each of the two begins the longer, if the shorter does
  pub each_begins : (xs ys : List (TurnCall A S)) → IsPrefix (shorter xs ys) (longer xs ys) → IsPrefix xs (longer xs ys) × IsPrefix ys (longer xs ys)
  each_begins xs ys p = ⊎_elim
      (λ (c : (longer xs ys ≡ ys) × (shorter xs ys ≡ xs) × (length xs ≤ length ys)). (subst (λ (l : List (TurnCall A S)). IsPrefix l (longer xs ys)) c.1 p, ([], append-nil ys ∙ sym c.0)))
      (λ (c : (longer xs ys ≡ xs) × (shorter xs ys ≡ ys) × (length ys ≤ length xs)). (([], append-nil xs ∙ sym c.0), subst (λ (l : List (TurnCall A S)). IsPrefix l (longer xs ys)) c.1 p))
      (cases xs ys)
