-- Lists in which one element was added, changed or left out: their lengths and sums, and what holds of each element.
use Rattle.std.proofs.Common.{◌≡◌, ℕ, ◌+◌, ◌≤◌, List, [], ◌∷◌, ◌++◌, map, length, length-append, refl, ap, sym, ◌∙◌, Bool, true, false, cond, subst, arith, filter, flat_map}
use Rattle.std.specs.Prelude.{sum_by}
use Rattle.std.specs.List.{AllByRecursion, list_all}
use Rattle.std.proofs.lemmas.Bool.{and_parts, and_from}
use Rattle.std.proofs.lemmas.List.Sums.{sum_by-append, sum_by-cons}

-- ---- every element

module _ {X : Type 0} (P : X → Type 0) where
  pub every : ((x : X) → P x) → (xs : List X) → AllByRecursion P xs
  every f [] = tt
  every f (x ∷ xs) = (f x, every f xs)

  pub every_append : (xs ys : List X) → AllByRecursion P xs → AllByRecursion P ys → AllByRecursion P (xs ++ ys)
  every_append [] ys h k = k
  every_append (x ∷ xs) ys h k = (h.0, every_append xs ys h.1 k)

  pub every_parts : (xs ys : List X) → AllByRecursion P (xs ++ ys) → AllByRecursion P xs × AllByRecursion P ys
  every_parts [] ys h = (tt, h)
  every_parts (x ∷ xs) ys h = let parts = every_parts xs ys h.1 in ((h.0, parts.0), parts.1)

  pub every_filter : (test : X → Bool) (xs : List X) → AllByRecursion P xs → AllByRecursion P (filter test xs)
  every_filter test [] h = tt
  every_filter test (x ∷ xs) h = by (test x) (every_filter test xs h.1) where
    by : (b : Bool) → AllByRecursion P (filter test xs) → AllByRecursion P (cond b (x ∷ filter test xs) (filter test xs))
    by true k = (h.0, k)
    by false k = k

module _ {X : Type 0} (P : X → Type 0) where
  -- what passes a test
  pub passing : (test : X → Bool) → ((x : X) → test x ≡ true → P x) → (xs : List X) → AllByRecursion P (filter test xs)
  passing test f [] = tt
  passing test f (x ∷ xs) = by (test x) refl (passing test f xs) where
    by : (b : Bool) → test x ≡ b → AllByRecursion P (filter test xs) → AllByRecursion P (cond b (x ∷ filter test xs) (filter test xs))
    by true is k = (f x is, k)
    by false is k = k

  pub every_cond : (b : Bool) (xs ys : List X) → (b ≡ true → AllByRecursion P xs) → (b ≡ false → AllByRecursion P ys) → AllByRecursion P (cond b xs ys)
  every_cond true xs ys f g = f refl
  every_cond false xs ys f g = g refl

pub every_weaker : {X : Type 0} (Q P : X → Type 0) → ((x : X) → Q x → P x) → (xs : List X) → AllByRecursion Q xs → AllByRecursion P xs
every_weaker Q P f [] h = tt
every_weaker Q P f (x ∷ xs) h = (f x h.0, every_weaker Q P f xs h.1)

module _ {X Y : Type 0} (Q : X → Type 0) (P : Y → Type 0) where
  pub every_map : (f : X → Y) → ((x : X) → Q x → P (f x)) → (xs : List X) → AllByRecursion Q xs → AllByRecursion P (map f xs)
  every_map f g [] h = tt
  every_map f g (x ∷ xs) h = (g x h.0, every_map f g xs h.1)

  pub every_flat_map : (f : X → List Y) → ((x : X) → Q x → AllByRecursion P (f x)) → (xs : List X) → AllByRecursion Q xs → AllByRecursion P (flat_map f xs)
  every_flat_map f g [] h = tt
  every_flat_map f g (x ∷ xs) h = every_append P (f x) (flat_map f xs) (g x h.0) (every_flat_map f g xs h.1)

-- what holds of each element of the lists joined, holds in each list
pub each_list : {X Y : Type 0} (P : Y → Type 0) (f : X → List Y) (xs : List X) → AllByRecursion P (flat_map f xs) → AllByRecursion (λ x. AllByRecursion P (f x)) xs
each_list P f [] h = tt
each_list P f (x ∷ xs) h = let parts = every_parts P (f x) (flat_map f xs) h in (parts.0, each_list P f xs parts.1)

-- a test holds of each element
module _ {X : Type 0} (test : X → Bool) where
  pub every_true : (xs : List X) → list_all test xs ≡ true → AllByRecursion (λ x. test x ≡ true) xs
  every_true [] h = tt
  every_true (x ∷ xs) h = let parts = and_parts (test x) (list_all test xs) h in (parts.0, every_true xs parts.1)

  pub all_true : (xs : List X) → AllByRecursion (λ x. test x ≡ true) xs → list_all test xs ≡ true
  all_true [] h = refl
  all_true (x ∷ xs) h = and_from _ _ h.0 (all_true xs h.1)

-- ---- sums

pub sum_most : {X : Type 0} (f g : X → ℕ) → ((x : X) → f x ≤ g x) → (xs : List X) → sum_by f xs ≤ sum_by g xs
sum_most f g le [] = omega arith
sum_most f g le (x ∷ xs) =
    let rest = sum_most f g le xs in
    let here = le x in
    let a = sum_by-cons f x xs in
    let b = sum_by-cons g x xs in
    omega (arith, rest, here, a, b)

pub sum_filtered : {X : Type 0} (f : X → ℕ) (test : X → Bool) (xs : List X) → sum_by f (filter test xs) ≤ sum_by f xs
sum_filtered f test [] = omega arith
sum_filtered f test (x ∷ xs) = by (test x) (sum_filtered f test xs) where
  by : (b : Bool) → sum_by f (filter test xs) ≤ sum_by f xs → sum_by f (cond b (x ∷ filter test xs) (filter test xs)) ≤ sum_by f (x ∷ xs)
  by true h = let a = sum_by-cons f x (filter test xs) in let b = sum_by-cons f x xs in omega (arith, h, a, b)
  by false h = let b = sum_by-cons f x xs in omega (arith, h, b)

pub length_filtered : {X : Type 0} (test : X → Bool) (xs : List X) → length (filter test xs) ≤ length xs
length_filtered test [] = omega arith
length_filtered test (x ∷ xs) = by (test x) (length_filtered test xs) where
  by : (b : Bool) → length (filter test xs) ≤ length xs → length (cond b (x ∷ filter test xs) (filter test xs)) ≤ length (x ∷ xs)
  by true h = omega (arith, h)
  by false h = omega (arith, h)

-- ---- one element of a list

pub record Held {X : Type 0} (x : X) (xs : List X) : Type 0 where
  pub front : List X
  pub back : List X
  pub is : xs ≡ front ++ x ∷ back

module _ {X : Type 0} (x : X) (xs : List X) (held : Held x xs) where
  pub held_every : (P : X → Type 0) → AllByRecursion P xs → P x
  held_every P all = (every_parts P held.front (x ∷ held.back) (subst (AllByRecursion P) held.is all)).1.0

-- ---- one element more

pub record Added {X : Type 0} (x : X) (xs ys : List X) : Type 0 where
  pub front : List X
  pub back : List X
  pub was : xs ≡ front ++ back
  pub is : ys ≡ front ++ x ∷ back

module _ {X : Type 0} (x : X) (xs ys : List X) (a : Added x xs ys) where
  pub added_length : length ys ≡ length xs + 1
  added_length =
      let was = ap (λ (l : List X). length l) a.was ∙ length-append a.front a.back in
      let is = ap (λ (l : List X). length l) a.is ∙ length-append a.front (x ∷ a.back) in
      omega (arith, was, is)

  pub added_sum : (f : X → ℕ) → sum_by f ys ≡ sum_by f xs + f x
  added_sum f =
      let was = ap (λ (l : List X). sum_by f l) a.was ∙ sum_by-append f a.front a.back in
      let is = ap (λ (l : List X). sum_by f l) a.is ∙ sum_by-append f a.front (x ∷ a.back) in
      let cons = sum_by-cons f x a.back in
      omega (arith, was, is, cons)

  pub added_every : (P : X → Type 0) → P x → AllByRecursion P xs → AllByRecursion P ys
  added_every P h all =
      let parts = every_parts P a.front a.back (subst (AllByRecursion P) a.was all) in
      subst (AllByRecursion P) (sym a.is) (every_append P a.front (x ∷ a.back) parts.0 (h, parts.1))

-- ---- one element changed

pub record Replaced {X : Type 0} (old new : X) (xs ys : List X) : Type 0 where
  pub front : List X
  pub back : List X
  pub was : xs ≡ front ++ old ∷ back
  pub is : ys ≡ front ++ new ∷ back

module _ {X : Type 0} (old new : X) (xs ys : List X) (r : Replaced old new xs ys) where
  pub replaced_length : length ys ≡ length xs
  replaced_length =
      let was = ap (λ (l : List X). length l) r.was ∙ length-append r.front (old ∷ r.back) in
      let is = ap (λ (l : List X). length l) r.is ∙ length-append r.front (new ∷ r.back) in
      omega (arith, was, is)

  pub replaced_sum : (f : X → ℕ) → sum_by f ys + f old ≡ sum_by f xs + f new
  replaced_sum f =
      let was = ap (λ (l : List X). sum_by f l) r.was ∙ sum_by-append f r.front (old ∷ r.back) in
      let is = ap (λ (l : List X). sum_by f l) r.is ∙ sum_by-append f r.front (new ∷ r.back) in
      let cons_old = sum_by-cons f old r.back in
      let cons_new = sum_by-cons f new r.back in
      omega (arith, was, is, cons_old, cons_new)

  pub replaced_every : (P : X → Type 0) → P new → AllByRecursion P xs → AllByRecursion P ys
  replaced_every P h all =
      let parts = every_parts P r.front (old ∷ r.back) (subst (AllByRecursion P) r.was all) in
      subst (AllByRecursion P) (sym r.is) (every_append P r.front (new ∷ r.back) parts.0 (h, parts.1.1))
