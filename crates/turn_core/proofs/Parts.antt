-- Facts on lists of views, for each kind of step.
use Rattle.std.proofs.Common.{◌≡◌, ◌≢◌, ◌∙◌, sym, ap, refl, subst, ℕ, zero, suc, ◌+◌, ◌≤◌, List, [], ◌∷◌, ◌++◌, length, set, ⊎_elim, ◌⊎◌, inl, inr, arith, Option, Some, None}
use Rattle.std.proofs.Common.{append_assoc}
use mathlib.Core.Option.{some, some-injective, some-ne-none}
use mathlib.Core.List.{IsPrefix}
use lib.ListN.{get_elem?}
use mathlib.Core.Logic.{dite}
use native.Mathlib.Decide.{ℕ_discrete}
use mathlib.Core.List.{map-append}
use Rattle.atomic_table.specs.Table.{Me, rest}
use Rattle.turn_core.specs.declared.view.TurnCall.{TurnCall}
use Rattle.turn_core.specs.Calls.{plain}
use Rattle.turn_core.specs.Rule.{sum_of}
use Rattle.turn_core.specs.Views.{StandsSince}

module _ {V : Type 0} where
  pub sum_of-replaced : (f : V → ℕ) (l : List V) (i : ℕ) (v w : V) → get_elem? l i ≡ some v → sum_of f (set l i w) + f v ≡ sum_of f l + f w
  sum_of-replaced f [] i v w e = absurd (some-ne-none v (sym e))
  sum_of-replaced f (x ∷ xs) zero v w e = let is : f x ≡ f v = ap f (some-injective x v e) in omega arith
  sum_of-replaced f (x ∷ xs) (suc i) v w e = let r = sum_of-replaced f xs i v w e in omega arith

  pub sum_of-below : (f g : V → ℕ) (l : List V) → ((i : ℕ) (v : V) → get_elem? l i ≡ some v → f v ≤ g v) → sum_of f l ≤ sum_of g l
  sum_of-below f g [] h = omega arith
  sum_of-below f g (x ∷ xs) h = let first = h 0 x refl in let others = sum_of-below f g xs (λ i. h (suc i)) in omega arith

  pub sum_of-snoc : (f : V → ℕ) (l : List V) (v : V) → sum_of f (l ++ v ∷ []) ≡ sum_of f l + f v
  sum_of-snoc f [] v = omega arith
  sum_of-snoc f (x ∷ xs) v = let r = sum_of-snoc f xs v in omega (arith, r)

  pub sum_of-one : (f : V → ℕ) (l : List V) (i : ℕ) (v : V) → get_elem? l i ≡ some v → f v ≤ sum_of f l
  sum_of-one f [] i v e = absurd (some-ne-none v (sym e))
  sum_of-one f (x ∷ xs) zero v e = let is : f x ≡ f v = ap f (some-injective x v e) in omega arith
  sum_of-one f (x ∷ xs) (suc i) v e = let r = sum_of-one f xs i v e in omega arith

  pub sum_of-two : (f : V → ℕ) (l : List V) (i j : ℕ) (v w : V) → i ≢ j → get_elem? l i ≡ some v → get_elem? l j ≡ some w → f v + f w ≤ sum_of f l
  sum_of-two f [] i j v w apart e g = absurd (some-ne-none v (sym e))
  sum_of-two f (x ∷ xs) zero zero v w apart e g = absurd (apart refl)
  sum_of-two f (x ∷ xs) zero (suc j) v w apart e g = let is : f x ≡ f v = ap f (some-injective x v e) in let r = sum_of-one f xs j w g in omega arith
  sum_of-two f (x ∷ xs) (suc i) zero v w apart e g = let is : f x ≡ f w = ap f (some-injective x w g) in let r = sum_of-one f xs i v e in omega arith
  sum_of-two f (x ∷ xs) (suc i) (suc j) v w apart e g = let r = sum_of-two f xs i j v w (λ same. apart (ap suc same)) e g in omega arith

  -- the first item that is pushed
  pub pushed : (xs ys : List V) (v : V) → xs ≡ [] → ys ≡ xs ++ v ∷ [] → ys ≡ v ∷ []
  pushed xs ys v none_yet e = e ∙ ap (λ (l : List V). l ++ v ∷ []) none_yet

  -- the only view of a list of one
  pub only : (x u : V) (by : ℕ) → get_elem? (x ∷ []) by ≡ some u → (by ≡ 0) × (x ≡ u)
  only x u zero e = (refl, some-injective x u e)
  only x u (suc by) e = absurd (some-ne-none u (sym e))

  pub one_view : (l : List V) (i : ℕ) (v w : V) → get_elem? l i ≡ some v → get_elem? l i ≡ some w → v ≡ w
  one_view l i v w e f = some-injective v w (sym e ∙ f)

  -- a view at the end of a list has its length for a number
  pub at_end : (l : List V) (x u : V) (by : ℕ) → get_elem? (l ++ x ∷ []) by ≡ some u → (get_elem? l by ≡ some u) ⊎ ((x ≡ u) × (by ≡ length l))
  at_end [] x u zero e = inr (some-injective x u e, refl)
  at_end [] x u (suc by) e = absurd (some-ne-none u (sym e))
  at_end (y ∷ ys) x u zero e = inl e
  at_end (y ∷ ys) x u (suc by) e = ⊎_elim (λ (p : get_elem? ys by ≡ some u). inl p) (λ (p : (x ≡ u) × (by ≡ length ys)). inr (p.0, ap suc p.1)) (at_end ys x u by e)

  pub placed : (l : List V) (i : ℕ) (v w : V) → get_elem? l i ≡ some v → get_elem? (set l i w) i ≡ some w
  placed [] i v w e = absurd (some-ne-none v (sym e))
  placed (x ∷ xs) zero v w e = refl
  placed (x ∷ xs) (suc i) v w e = placed xs i v w e

module _ {A : Type 0} where
  pub prefix_trans : (xs ys zs : List A) → IsPrefix xs ys → IsPrefix ys zs → IsPrefix xs zs
  prefix_trans xs ys zs (a, e) (b, f) = (a ++ b, sym (append_assoc xs a b) ∙ ap (λ l. l ++ b) e ∙ f)

  pub prefix_more : (xs ys : List A) (y : A) → IsPrefix xs ys → IsPrefix xs (ys ++ y ∷ [])
  prefix_more xs ys y (rest, e) = (rest ++ y ∷ [], sym (append_assoc xs rest (y ∷ [])) ∙ ap (λ l. l ++ y ∷ []) e)

pub one_not_zero : ◌≡◌ {A = ℕ} 1 0 → ⊥
one_not_zero e = omega (arith, e)

abbrev pub from_some : {A : Type 0} → A → Option A → A
from_some d None = d
from_some d (Some x) = x

pub some_same : {A : Type 0} (x y : A) → Some x ≡ Some y → x ≡ y
some_same x y e = ap (from_some x) e

abbrev is_none : {A : Type 0} → Option A → ℕ
is_none None = 1
is_none (Some x) = 0

pub none_some : {A : Type 0} (x : A) → None ≡ Some x → ⊥
none_some x e = one_not_zero (ap is_none e)

pub same_or_not : (i j : ℕ) → (i ≡ j) ⊎ (i ≢ j)
same_or_not i j = dite (ℕ_discrete i j) (λ (e : i ≡ j). inl e) (λ (n : i ≢ j). inr n)

abbrev pub head_or : {A : Type 0} → A → List A → A
head_or d [] = d
head_or d (x ∷ xs) = x

module _ {S : Type 0} where
  pub first_same : (n : ℕ) (a b : S) (xs ys : List (ℕ × S)) → (n, a) ∷ xs ≡ (n, b) ∷ ys → a ≡ b
  first_same n a b xs ys e = ap (λ (l : List (ℕ × S)). (head_or (n, a) l).1) e

module _ {S V : Type 0} where
  -- two exchanges of the one slot in hand
  pub exchanged_twice : (me me' me'' : Me S V) (old gone new : S) → me.1 ≡ (0, old) ∷ [] → me' ≡ (me.0, (0, gone) ∷ rest me.1) → me'' ≡ (me'.0, (0, new) ∷ rest me'.1)
      → (me''.0 ≡ me.0) × (me''.1 ≡ (0, new) ∷ [])
  exchanged_twice me me' me'' old gone new held out back = (
    ap (λ (m : Me S V). m.0) back ∙ ap (λ (m : Me S V). m.0) out,
    ap (λ (m : Me S V). m.1) back ∙ ap (λ (l : List (ℕ × S)). (0, new) ∷ rest l) (ap (λ (m : Me S V). m.1) out ∙ ap (λ (l : List (ℕ × S)). (0, gone) ∷ rest l) held),
  )

module _ {A S : Type 0} where
  pub plain_more : (log : List (TurnCall A S)) (c : TurnCall A S) → plain (log ++ c ∷ []) ≡ plain log ++ (c.ask, c.say) ∷ []
  plain_more log c = map-append (λ (x : TurnCall A S). (x.ask, x.say)) log (c ∷ [])

module _ {T A S : Type 0} (stands : T → T → List (A × S) → Type 0) where
  -- the value made one call more
  pub makes_call : (o : Option T) (value value' : T) (log : List (TurnCall A S)) (c : TurnCall A S) (a : A) (s : S)
      → ((opening : T) (calls : List (A × S)) → stands opening value calls → stands opening value' (calls ++ (a, s) ∷ []))
      → c.ask ≡ a → c.say ≡ s → StandsSince stands o value log → StandsSince stands o value' (log ++ c ∷ [])
  makes_call o value value' log c a s step asked said (first, opened, h) = (
    first,
    opened,
    subst (λ (l : List (A × S)). stands first value' l) (ap (λ (p : A × S). plain log ++ p ∷ []) (λ i. (sym asked i, sym said i)) ∙ sym (plain_more log c)) (step first (plain log) h),
  )

  -- what a value stands for is lawful
  pub lawful_of : (lawful : T → List (A × S) → Type 0) → ((first now : T) (calls : List (A × S)) → stands first now calls → lawful first calls)
      → (o : Option T) (value : T) (log : List (TurnCall A S)) → StandsSince stands o value log → (first : T) × (o ≡ Some first) × lawful first (plain log)
  lawful_of lawful law o value log (first, opened, h) = (first, opened, law first value (plain log) h)
