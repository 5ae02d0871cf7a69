-- Tests and what they decide.
use Rattle.std.proofs.Common.{◌≡◌, ℕ, zero, suc, ◌+◌, ◌<◌, ◌≤◌, Bool, true, false, ◌&&◌, not, eqb, leb, ltb, List, [], ◌∷◌, length, get_or, refl, ap, arith}
use Rattle.std.specs.Prelude.{AllPairs}
use Rattle.std.specs.Bool.{Decides, IsTrue, IsFalse, beq}
use Rattle.std.specs.List.{All, AllByRecursion, list_all}
use Rattle.std.proofs.lemmas.Bool.{and_parts, and_from, leb-true, le-leb, ltb-true, lt-ltb, eqb-true, eq-eqb, not-true, not_from_false}
use Rattle.std.proofs.lemmas.Bool.Decides.{nat_tests}
use Rattle.std.proofs.lemmas.List.Sums.{AllPass-from_list_all, list_all-from_AllPass}
use Rattle.restorable.specs.Tests.{rise_from}

pub change : {P Q : Type 0} (b : Bool) → (P → Q) → (Q → P) → Decides b P → Decides b Q
change b to back d = (λ e. to (d.0 e), λ q. d.1 (back q))

pub both : {P Q : Type 0} (a b : Bool) → Decides a P → Decides b Q → Decides (a && b) (P × Q)
both a b da db = (λ e. (da.0 (and_parts a b e).0, db.0 (and_parts a b e).1), λ pq. and_from a b (da.1 pq.0) (db.1 pq.1))

pub le : (a b : ℕ) → Decides (leb a b) (a ≤ b)
le a b = (leb-true a b, le-leb a b)

pub lt : (a b : ℕ) → Decides (ltb a b) (a < b)
lt a b = (ltb-true a b, lt-ltb a b)

pub eq : (a b : ℕ) → Decides (eqb a b) (a ≡ b)
eq a b = (eqb-true a b, eq-eqb a b)

pub itself : (b : Bool) → Decides b (IsTrue b)
itself b = (λ e. e, λ e. e)

pub turned : (b : Bool) → Decides (not b) (IsFalse b)
turned b = (not-true b, not_from_false b)

pub same_flags : (a b : Bool) → Decides (beq a b) (a ≡ b)
same_flags true true = (λ e. refl, λ e. refl)
same_flags true false = (λ e. absurd cc, λ e. absurd cc)
same_flags false true = (λ e. absurd cc, λ e. absurd cc)
same_flags false false = (λ e. refl, λ e. refl)

empty_from : {X : Type 0} (xs : List X) → length xs ≡ 0 → xs ≡ []
empty_from [] is = refl
empty_from (x ∷ xs) is = absurd (omega (arith, is))

pub none : {X : Type 0} (xs : List X) → Decides (eqb (length xs) 0) (xs ≡ [])
none xs = change (eqb (length xs) 0) (empty_from xs) (λ e. ap length e) (eq (length xs) 0)

above_zero : (n : ℕ) → eqb n 0 ≡ false → 0 < n
above_zero n off = grind (arith, nat_tests)

not_zero : (n : ℕ) → 0 < n → eqb n 0 ≡ false
not_zero n h = grind (arith, nat_tests)

pub some : {X : Type 0} (xs : List X) → Decides (not (eqb (length xs) 0)) (0 < length xs)
some xs = (λ e. above_zero (length xs) (not-true _ e), λ h. not_from_false _ (not_zero (length xs) h))

-- ---- lists

pub each : {X : Type 0} (p : X → Bool) (P : X → Type 0) → ((x : X) → Decides (p x) (P x)) → (xs : List X) → Decides (list_all p xs) (AllByRecursion P xs)
each p P d [] = (λ e. tt, λ a. refl)
each p P d (x ∷ xs) = both (p x) (list_all p xs) (d x) (each p P d xs)

pub at_each : {X : Type 0} (p : X → Bool) (P : X → Type 0) → ((x : X) → Decides (p x) (P x)) → (xs : List X) → Decides (list_all p xs) (All P xs)
at_each p P d xs = (
  λ e k o h. (d (get_or xs k o)).0 (AllPass-from_list_all p xs e k o h),
  λ all. list_all-from_AllPass p xs (λ k o h. (d (get_or xs k o)).1 (all k o h)),
)

pub to_all : {X : Type 0} (P : X → Type 0) (xs : List X) → AllByRecursion P xs → All P xs
to_all P [] a k d h = absurd (omega (arith, h))
to_all P (x ∷ xs) a zero d h = a.0
to_all P (x ∷ xs) a (suc k) d h = to_all P xs a.1 k d (omega (arith, h))

pub from_all : {X : Type 0} (P : X → Type 0) (xs : List X) → All P xs → AllByRecursion P xs
from_all P [] all = tt
from_all P (x ∷ xs) all = (all 0 x (omega arith), from_all P xs (λ k d h. all (suc k) d (omega (arith, h))))

pub every : {X : Type 0} (P Q : X → Type 0) → ((x : X) → P x → Q x) → (xs : List X) → AllByRecursion P xs → AllByRecursion Q xs
every P Q f [] a = tt
every P Q f (x ∷ xs) a = (f x a.0, every P Q f xs a.1)

pub zipped : {X : Type 0} (P Q : X → Type 0) (xs : List X) → AllByRecursion P xs → AllByRecursion Q xs → AllByRecursion (λ x. P x × Q x) xs
zipped P Q [] a b = tt
zipped P Q (x ∷ xs) a b = ((a.0, b.0), zipped P Q xs a.1 b.1)

-- ---- numbers that rise

module _ {X : Type 0} (f : X → ℕ) where
  at_least : (n : ℕ) (xs : List X) → rise_from f n xs ≡ true → (k : ℕ) (d : X) → k < length xs → n ≤ f (get_or xs k d)
  at_least n [] e k d h = absurd (omega (arith, h))
  at_least n (x ∷ xs) e zero d h = leb-true _ _ (and_parts _ _ e).0
  at_least n (x ∷ xs) e (suc k) d h =
      let first : n ≤ f x = leb-true _ _ (and_parts _ _ e).0 in
      let rest : f x + 1 ≤ f (get_or xs k d) = at_least (f x + 1) xs (and_parts _ _ e).1 k d (omega (arith, h)) in
      omega (arith, first, rest)

  pairs : (n : ℕ) (xs : List X) → rise_from f n xs ≡ true → AllPairs (λ a b. f a < f b) xs
  pairs n [] e i j d lower upper = absurd (omega (arith, upper))
  pairs n (x ∷ xs) e zero zero d lower upper = absurd (omega (arith, lower))
  pairs n (x ∷ xs) e zero (suc j) d lower upper =
      let rest : f x + 1 ≤ f (get_or xs j d) = at_least (f x + 1) xs (and_parts _ _ e).1 j d (omega (arith, upper)) in
      omega (arith, rest)
  pairs n (x ∷ xs) e (suc i) zero d lower upper = absurd (omega (arith, lower))
  pairs n (x ∷ xs) e (suc i) (suc j) d lower upper = pairs (f x + 1) xs (and_parts _ _ e).1 i j d (omega (arith, lower)) (omega (arith, upper))

  rises : (n : ℕ) (xs : List X) → All (λ x. n ≤ f x) xs → AllPairs (λ a b. f a < f b) xs → rise_from f n xs ≡ true
  rises n [] all two = refl
  rises n (x ∷ xs) all two =
      and_from _ _ (le-leb n (f x) (all 0 x (omega arith)))
      (rises (f x + 1) xs
      (λ k d h. let up : f x < f (get_or xs k d) = two 0 (suc k) d (omega arith) (omega (arith, h)) in omega (arith, up))
      (λ i j d lower upper. two (suc i) (suc j) d (omega (arith, lower)) (omega (arith, upper))))

  pub in_pairs : (xs : List X) → Decides (rise_from f 0 xs) (AllPairs (λ a b. f a < f b) xs)
  in_pairs xs = (pairs 0 xs, rises 0 xs (λ k d h. omega arith))
