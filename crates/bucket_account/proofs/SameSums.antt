-- Two lists that have the same elements under each label have the same sum, in whatever order.
use Rattle.std.proofs.Common.{◌≡◌, ℕ, List, [], ◌∷◌, ◌++◌, refl, ap, sym, ◌∙◌, subst, Bool, true, false, cond, filter, arith}
use Rattle.std.specs.Prelude.{sum_by}
use Rattle.std.proofs.lemmas.Bool.{both_ways}
use Rattle.std.proofs.lemmas.List.Elements.{filter-append}
use Rattle.std.proofs.lemmas.List.Sums.{sum_by-append, sum_by-cons}

-- ---- the first element that passes a test

pub record First {X : Type 0} (test : X → Bool) (x : X) (rest xs : List X) : Type 0 where
  pub front : List X
  pub back : List X
  pub is : xs ≡ front ++ x ∷ back
  pub none_before : filter test front ≡ []
  pub after : filter test back ≡ rest

module _ {X : Type 0} (test : X → Bool) (x : X) (rest : List X) where
  nothing_more : [] ≡ x ∷ rest → ⊥
  nothing_more h = absurd cc

  first_at : (y : X) (ys : List X) (b : Bool) → test y ≡ b → cond b (y ∷ filter test ys) (filter test ys) ≡ x ∷ rest
      → (filter test ys ≡ x ∷ rest → First test x rest ys) → First test x rest (y ∷ ys)
  first_at y ys true is h more =
      let same : y ≡ x = cc in
      record { front = []; back = ys; is = ap (λ (z : X). z ∷ ys) same; none_before = refl; after = cc }
  first_at y ys false is h more =
      let m = more h in
      record { front = y ∷ m.front; back = m.back; is = ap (λ (l : List X). y ∷ l) m.is; none_before = rw is m.none_before; after = m.after }

  pub first : (xs : List X) → filter test xs ≡ x ∷ rest → First test x rest xs
  first [] h = absurd (nothing_more h)
  first (y ∷ ys) h = first_at y ys (test y) refl h (first ys)

-- ---- elements under labels: some are counted, each under its own label and no other

module _ {X L : Type 0} (test : L → X → Bool) (label : X → L) (counted : X → Bool)
    (own : (x : X) → counted x ≡ true → test (label x) x ≡ true)
    (only : (l : L) (x : X) → test l x ≡ true → (l ≡ label x) × (counted x ≡ true)) where
  not_its : (l : L) (x : X) → counted x ≡ false → test l x ≡ false
  not_its l x is = by (test l x) refl where
    by : (b : Bool) → test l x ≡ b → b ≡ false
    by true h = absurd (both_ways (counted x) is (only l x h).1)
    by false h = refl

  module _ (f : X → ℕ) (nothing : (x : X) → counted x ≡ false → f x ≡ 0) where
    none_sum : (ys : List X) → ((l : L) → [] ≡ filter (test l) ys) → sum_by f ys ≡ 0
    none_sum [] h = refl
    none_sum (y ∷ ys) h = by (counted y) refl (none_sum ys) where
      some : (b : Bool) → b ≡ true → [] ≡ cond b (y ∷ filter (test (label y)) ys) (filter (test (label y)) ys) → ⊥
      some b is e = absurd cc

      by : (b : Bool) → counted y ≡ b → (((l : L) → [] ≡ filter (test l) ys) → sum_by f ys ≡ 0) → sum_by f (y ∷ ys) ≡ 0
      by true is more = absurd (some (test (label y) y) (own y is) (h (label y)))
      by false is more =
          let rest = more (λ l. h l ∙ ap (λ (b : Bool). cond b (y ∷ filter (test l) ys) (filter (test l) ys)) (not_its l y is)) in
          let cons = sum_by-cons f y ys in
          let none = nothing y is in
          omega (arith, rest, cons, none)

    -- what is left once the same element was taken from both
    module _ (x : X) (xs ys : List X) (same : (l : L) → filter (test l) (x ∷ xs) ≡ filter (test l) ys) where
      left_at : (s : First (test (label x)) x (filter (test (label x)) xs) ys) (l : L) (b : Bool) → test l x ≡ b → filter (test l) xs ≡ filter (test l) (s.front ++ s.back)
      left_at s l true is =
          let its = (only l x is).0 in
          subst (λ (k : L). filter (test k) xs ≡ filter (test k) (s.front ++ s.back)) (sym its)
          (sym (filter-append (test (label x)) s.front s.back ∙ (λ i. s.none_before i ++ s.after i)))
      left_at s l false is =
          let here = ap (λ (b : Bool). cond b (x ∷ filter (test l) xs) (filter (test l) xs)) is in
          let there = ap (λ (b : Bool). filter (test l) s.front ++ cond b (x ∷ filter (test l) s.back) (filter (test l) s.back)) is in
          sym here ∙ same l ∙ ap (filter (test l)) s.is ∙ filter-append (test l) s.front (x ∷ s.back) ∙ there ∙ sym (filter-append (test l) s.front s.back)

      taken : counted x ≡ true → ((zs : List X) → ((l : L) → filter (test l) xs ≡ filter (test l) zs) → sum_by f xs ≡ sum_by f zs) → sum_by f (x ∷ xs) ≡ sum_by f ys
      taken is more =
          let passes = ap (λ (b : Bool). cond b (x ∷ filter (test (label x)) xs) (filter (test (label x)) xs)) (own x is) in
          let s : First (test (label x)) x (filter (test (label x)) xs) ys = first (test (label x)) x (filter (test (label x)) xs) ys (sym (same (label x)) ∙ passes) in
          let rest = more (s.front ++ s.back) (λ l. left_at s l (test l x) refl) in
          let parts = sum_by-append f s.front s.back in
          let whole = ap (sum_by f) s.is ∙ sum_by-append f s.front (x ∷ s.back) in
          let a = sum_by-cons f x xs in
          let b = sum_by-cons f x s.back in
          omega (arith, rest, parts, whole, a, b)

    -- the same under each label: the same sum
    pub same_sum : (xs ys : List X) → ((l : L) → filter (test l) xs ≡ filter (test l) ys) → sum_by f xs ≡ sum_by f ys
    same_sum [] ys same = sym (none_sum ys same)
    same_sum (x ∷ xs) ys same = by (counted x) refl (same_sum xs) where
      by : (b : Bool) → counted x ≡ b → ((zs : List X) → ((l : L) → filter (test l) xs ≡ filter (test l) zs) → sum_by f xs ≡ sum_by f zs) → sum_by f (x ∷ xs) ≡ sum_by f ys
      by true is more = taken x xs ys same is more
      by false is more =
          let rest = more ys (λ l. sym (ap (λ (b : Bool). cond b (x ∷ filter (test l) xs) (filter (test l) xs)) (not_its l x is)) ∙ same l) in
          let cons = sum_by-cons f x xs in
          let none = nothing x is in
          omega (arith, rest, cons, none)
