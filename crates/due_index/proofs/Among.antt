-- The elements of a list, by recursion.
use Rattle.std.proofs.Common.{◌≡◌, ℕ, ◌<◌, ◌⊎◌, inl, inr, List, [], ◌∷◌, ◌++◌, length, get_or, refl, sym, ap, ◌∙◌, subst, Bool, true, false, cond, filter, map, flat_map, arith, zero, suc}
use Rattle.due_index.specs.Search.{Among}

pub among_append : {X : Type 0} (xs ys : List X) (x : X) → Among (xs ++ ys) x → Among xs x ⊎ Among ys x
among_append [] ys x h = inr h
among_append (z ∷ zs) ys x (inl e) = inl (inl e)
among_append (z ∷ zs) ys x (inr h) = elim (among_append zs ys x h) [ inl a ↦ inl (inr a) | inr b ↦ inr b ]

pub among_front : {X : Type 0} (xs ys : List X) (x : X) → Among xs x → Among (xs ++ ys) x
among_front [] ys x h = absurd h
among_front (z ∷ zs) ys x (inl e) = inl e
among_front (z ∷ zs) ys x (inr h) = inr (among_front zs ys x h)

pub among_back : {X : Type 0} (xs ys : List X) (x : X) → Among ys x → Among (xs ++ ys) x
among_back [] ys x h = h
among_back (z ∷ zs) ys x h = inr (among_back zs ys x h)

pub among_map : {X Y : Type 0} (f : X → Y) (xs : List X) (y : Y) → Among (map f xs) y → (x : X) × Among xs x × (f x ≡ y)
among_map f [] y h = absurd h
among_map f (x ∷ xs) y (inl e) = (x, inl refl, e)
among_map f (x ∷ xs) y (inr h) = let found = among_map f xs y h in (found.0, inr found.1, found.2)

pub mapped : {X Y : Type 0} (f : X → Y) (xs : List X) (x : X) → Among xs x → Among (map f xs) (f x)
mapped f [] x h = absurd h
mapped f (y ∷ ys) x (inl e) = inl (ap f e)
mapped f (y ∷ ys) x (inr h) = inr (mapped f ys x h)

kept_by : {X : Type 0} (p : X → Bool) (y : X) (ys : List X) (x : X) (b : Bool) → p y ≡ b
    → (Among (filter p ys) x → Among ys x × (p x ≡ true)) → Among (cond b (y ∷ filter p ys) (filter p ys)) x → Among (y ∷ ys) x × (p x ≡ true)
kept_by p y ys x true is rest (inl e) = (inl e, subst (λ z. p z ≡ true) e is)
kept_by p y ys x true is rest (inr h) = let found = rest h in (inr found.0, found.1)
kept_by p y ys x false is rest h = let found = rest h in (inr found.0, found.1)

pub among_filter : {X : Type 0} (p : X → Bool) (xs : List X) (x : X) → Among (filter p xs) x → Among xs x × (p x ≡ true)
among_filter p [] x h = absurd h
among_filter p (y ∷ ys) x h = kept_by p y ys x (p y) refl (λ k. among_filter p ys x k) h

keeps_by : {X : Type 0} (p : X → Bool) (y : X) (ys : List X) (x : X) (b : Bool) → Among (filter p ys) x → Among (cond b (y ∷ filter p ys) (filter p ys)) x
keeps_by p y ys x true h = inr h
keeps_by p y ys x false h = h

here_by : {X : Type 0} (p : X → Bool) (y : X) (ys : List X) (x : X) (b : Bool) → y ≡ x → b ≡ true → Among (cond b (y ∷ filter p ys) (filter p ys)) x
here_by p y ys x true e is = inl e
here_by p y ys x false e is = absurd cc

pub filtered : {X : Type 0} (p : X → Bool) (xs : List X) (x : X) → Among xs x → p x ≡ true → Among (filter p xs) x
filtered p [] x h is = absurd h
filtered p (y ∷ ys) x (inl e) is = here_by p y ys x (p y) e (ap p e ∙ is)
filtered p (y ∷ ys) x (inr h) is = keeps_by p y ys x (p y) (filtered p ys x h is)

pub among_flat_map : {X Y : Type 0} (f : X → List Y) (xs : List X) (y : Y) → Among (flat_map f xs) y → (x : X) × Among xs x × Among (f x) y
among_flat_map f [] y h = absurd h
among_flat_map f (x ∷ xs) y h = elim (among_append (f x) (flat_map f xs) y h) [
  | inl a ↦ (x, inl refl, a)
  | inr b ↦ let found = among_flat_map f xs y b in (found.0, inr found.1, found.2)
]

pub flat_mapped : {X Y : Type 0} (f : X → List Y) (xs : List X) (x : X) (y : Y) → Among xs x → Among (f x) y → Among (flat_map f xs) y
flat_mapped f [] x y h k = absurd h
flat_mapped f (z ∷ zs) x y (inl e) k = among_front (f z) (flat_map f zs) y (subst (λ w. Among (f w) y) (sym e) k)
flat_mapped f (z ∷ zs) x y (inr h) k = among_back (f z) (flat_map f zs) y (flat_mapped f zs x y h k)

-- ---- and by index

pub among_at : {X : Type 0} (xs : List X) (k : ℕ) (d x : X) → k < length xs → get_or xs k d ≡ x → Among xs x
among_at [] k d x less is = absurd (omega arith)
among_at (y ∷ ys) zero d x less is = inl is
among_at (y ∷ ys) (suc k) d x less is = inr (among_at ys k d x (omega arith) is)

pub place_of : {X : Type 0} (xs : List X) (x : X) → Among xs x → (k : ℕ) × (k < length xs) × (get_or xs k x ≡ x)
place_of [] x h = absurd h
place_of (y ∷ ys) x (inl e) = (0, omega arith, e)
place_of (y ∷ ys) x (inr h) = let found = place_of ys x h in (suc found.0, omega arith, found.2)
