-- The calls under one number, in lists that go on.
use Rattle.std.proofs.Common.{◌≡◌, ◌≢◌, ◌∙◌, sym, ap, refl, ℕ, zero, suc, List, [], ◌∷◌, ◌++◌, length, length-append, append-nil, append_assoc, cond, eq-eqb, ne_eqb, arith}
use Rattle.std.specs.Prelude.{All}
use Rattle.std.proofs.lemmas.List.Elements.{filter-append}
use mathlib.Core.List.{IsPrefix}
use Rattle.turn_core.specs.declared.view.TurnCall.{TurnCall}
use Rattle.turn_core.specs.Calls.{calls_under}

pub all_one : {X : Type 0} (P : X → Type 0) (x : X) → P x → All P (x ∷ [])
all_one P x p zero d h = p
all_one P x p (suc k) d h = absurd (omega (arith, h))

no_more : {X : Type 0} (xs ys : List X) → xs ++ ys ≡ xs → ys ≡ []
no_more xs [] e = refl
no_more xs (y ∷ ys) e = let n : length (xs ++ y ∷ ys) ≡ length xs = ap length e in absurd (omega (arith, n, length-append xs (y ∷ ys)))

no_first : {X : Type 0} (xs ys : List X) → xs ++ ys ≡ [] → xs ≡ []
no_first [] ys e = refl
no_first (x ∷ xs) ys e = let n : length ((x ∷ xs) ++ ys) ≡ 0 = ap length e in absurd (omega (arith, n))

module _ {A S : Type 0} where
  -- a call under the number is counted, and one under another number is not
  pub under : (number : ℕ) (xs : List (TurnCall A S)) (c : TurnCall A S) → c.by ≡ number → calls_under number (xs ++ c ∷ []) ≡ calls_under number xs ++ c ∷ []
  under number xs c e = filter-append _ xs (c ∷ []) ∙ ap (λ b. calls_under number xs ++ cond b (c ∷ []) []) (eq-eqb c.by number e)

  pub not_under : (number : ℕ) (xs : List (TurnCall A S)) (c : TurnCall A S) → c.by ≢ number → calls_under number (xs ++ c ∷ []) ≡ calls_under number xs
  not_under number xs c e = filter-append _ xs (c ∷ []) ∙ ap (λ b. calls_under number xs ++ cond b (c ∷ []) []) (ne_eqb c.by number e) ∙ append-nil (calls_under number xs)

  -- a list between two that have the same calls under a number has them too
  pub between : (number : ℕ) (xs ys zs made : List (TurnCall A S)) → IsPrefix xs ys → IsPrefix ys zs → calls_under number xs ≡ made → calls_under number zs ≡ made → calls_under number ys ≡ made
  between number xs ys zs made (a, e) (b, f) first last =
      let of : List (TurnCall A S) → List (TurnCall A S) = calls_under number in
      let of_ys : of ys ≡ of xs ++ of a = sym (ap of e) ∙ filter-append _ xs a in
      let of_zs : of zs ≡ of xs ++ (of a ++ of b) = sym (ap of f) ∙ filter-append _ ys b ∙ ap (λ (l : List (TurnCall A S)). l ++ of b) of_ys ∙ append_assoc (of xs) (of a) (of b) in
      let none_left : of a ++ of b ≡ [] = no_more (of xs) (of a ++ of b) (sym of_zs ∙ last ∙ sym first) in
      of_ys ∙ ap (λ (l : List (TurnCall A S)). of xs ++ l) (no_first (of a) (of b) none_left) ∙ append-nil (of xs) ∙ first
