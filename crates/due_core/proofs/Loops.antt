-- Folds over lists that are made of shorter ones, in the steps of a loop.
use Rattle.std.proofs.Common.{◌≡◌, ℕ, ◌+◌, ◌<◌, ◌≤◌, List, [], ◌∷◌, ◌++◌, length, drop, get_or, refl, sym, ap, ◌∙◌, Bool, true, false, cond, filter, map, flat_map, fold}
use Rattle.std.proofs.lemmas.List.{at_drop_more, at_drop_all}
use Rattle.std.proofs.lemmas.List.Sums.{fold-append}

-- what stands in a list for those that pass a test, and for those that pass two
map_by : {X Y : Type 0} (g : X → Y) (x : X) (xs : List X) (ys : List Y) (b : Bool) → ys ≡ map g xs
    → cond b (g x ∷ []) [] ++ ys ≡ map g (cond b (x ∷ xs) xs)
map_by g x xs ys true is = ap (λ zs. g x ∷ zs) is
map_by g x xs ys false is = is

pub picked_map : {X Y : Type 0} (p : X → Bool) (g : X → Y) (xs : List X) → flat_map (λ x. cond (p x) (g x ∷ []) []) xs ≡ map g (filter p xs)
picked_map p g [] = refl
picked_map p g (x ∷ xs) = map_by g x (filter p xs) _ (p x) (picked_map p g xs)

flat_by : {X Y : Type 0} (q : X → Bool) (f : X → List Y) (x : X) (xs : List X) (ys : List Y) (a b : Bool) → q x ≡ b → ys ≡ flat_map f (filter q xs)
    → cond a (cond b (f x) []) [] ++ ys ≡ flat_map f (filter q (cond a (x ∷ xs) xs))
flat_by q f x xs ys true true is rest = rw is (ap (λ zs. f x ++ zs) rest)
flat_by q f x xs ys true false is rest = rw is rest
flat_by q f x xs ys false b is rest = rest

pub picked_twice : {X Y : Type 0} (p q : X → Bool) (f : X → List Y) (xs : List X)
    → flat_map (λ x. cond (p x) (cond (q x) (f x) []) []) xs ≡ flat_map f (filter q (filter p xs))
picked_twice p q f [] = refl
picked_twice p q f (x ∷ xs) = flat_by q f x (filter p xs) _ (p x) (q x) refl (picked_twice p q f xs)

pub same_flat : {X Y : Type 0} (f g : X → List Y) → ((x : X) → f x ≡ g x) → (xs : List X) → flat_map f xs ≡ flat_map g xs
same_flat f g same [] = refl
same_flat f g same (x ∷ xs) = ap (λ ys. ys ++ flat_map f xs) (same x) ∙ ap (λ ys. g x ++ ys) (same_flat f g same xs)

-- ---- one turn of a loop, where `place` gives each element with where it stands
module _ {S X Y Z : Type 0} (step : S → Y → S) (f : Z → List Y) (place : ℕ → List X → List Z) (placed : ℕ → X → List X → Z)
    (none : (n : ℕ) → place n [] ≡ []) (more : (n : ℕ) (x : X) (xs : List X) → place n (x ∷ xs) ≡ placed n x xs ∷ place (n + 1) xs) where
  pub placed_turn : (before after whole : S) (xs : List X) (i n : ℕ) (x : X) → i < length xs → x ≡ get_or xs i x
      → fold step before (flat_map f (place n (drop i xs))) ≡ whole → after ≡ fold step before (f (placed n x (drop (i + 1) xs)))
      → fold step after (flat_map f (place (n + 1) (drop (i + 1) xs))) ≡ whole
  placed_turn before after whole xs i n x less here so_far turn =
      let rest = drop (i + 1) xs in
      let split = at_drop_more (λ ys. flat_map f (place n ys)) xs i x less in
      ap (λ s. fold step s (flat_map f (place (n + 1) rest))) turn
      ∙ sym (fold-append step before (f (placed n x rest)) (flat_map f (place (n + 1) rest)))
      ∙ ap (λ zs. fold step before (flat_map f zs)) (sym (more n x rest))
      ∙ ap (λ y. fold step before (flat_map f (place n (y ∷ rest)))) here
      ∙ ap (λ ys. fold step before ys) (sym split)
      ∙ so_far

  pub placed_end : (last whole : S) (xs : List X) (i n : ℕ) → length xs ≤ i → fold step last (flat_map f (place n (drop i xs))) ≡ whole → last ≡ whole
  placed_end last whole xs i n over so_far =
      let empty = at_drop_all (λ ys. flat_map f (place n ys)) xs i over in
      ap (λ zs. fold step last (flat_map f zs)) (sym (none n)) ∙ ap (λ ys. fold step last ys) (sym empty) ∙ so_far

-- and where the elements alone count
module _ {S X Y : Type 0} (step : S → Y → S) (f : X → List Y) where
  pub turn : (before after whole : S) (xs : List X) (i : ℕ) (x : X) → i < length xs → x ≡ get_or xs i x
      → fold step before (flat_map f (drop i xs)) ≡ whole → after ≡ fold step before (f x)
      → fold step after (flat_map f (drop (i + 1) xs)) ≡ whole
  turn before after whole xs i x = placed_turn step f (λ _ ys. ys) (λ _ y _. y) (λ _. refl) (λ _ _ _. refl) before after whole xs i 0 x

  pub end : (last whole : S) (xs : List X) (i : ℕ) → length xs ≤ i → fold step last (flat_map f (drop i xs)) ≡ whole → last ≡ whole
  end last whole xs i = placed_end step f (λ _ ys. ys) (λ _ y _. y) (λ _. refl) (λ _ _ _. refl) last whole xs i 0
