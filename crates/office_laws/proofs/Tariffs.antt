-- The tariffs that were set, by their first months.
use Rattle.std.proofs.Common.{◌≡◌, ◌∙◌, ℕ, ◌<◌, ◌≤◌, List, [], ◌∷◌, ◌++◌, filter, reverse, refl, ap, sym, subst, Bool, true, false, cond, arith}
use Rattle.std.specs.Prelude.{Option, Some, None, nat_lt, nat_le, find}
use Rattle.std.specs.List.{AllByRecursion}
use Rattle.std.specs.Option.{option_or}
use Rattle.std.proofs.lemmas.Bool.{ltb-true, leb-true, leb-false}
use Rattle.std.proofs.lemmas.List.{reverse-append}
use Rattle.std.proofs.lemmas.List.Folds.{find-append}
use Rattle.tariff.specs.Prices.{Prices}
use Rattle.plain_office.specs.Charges.{in_force}
use Rattle.plain_office.specs.Orderly.{FirstMonthsRise}
use Rattle.plain_office.specs.Step.{with_tariff}
use Rattle.office_laws.specs.Tariffs.{IsInForce}

-- ---- a tariff among others

all_kept : {X : Type 0} (P : X → Type 0) (test : X → Bool) (xs : List X) → AllByRecursion P xs → AllByRecursion P (filter test xs)
all_kept P test [] h = tt
all_kept P test (x ∷ xs) h = by (test x) (all_kept P test xs h.1) where
  by : (b : Bool) → AllByRecursion P (filter test xs) → AllByRecursion P (cond b (x ∷ filter test xs) (filter test xs))
  by true more = (h.0, more)
  by false more = more

all_tested : {X : Type 0} (P : X → Type 0) (test : X → Bool) → ((x : X) → test x ≡ true → P x) → (xs : List X) → AllByRecursion P (filter test xs)
all_tested P test means [] = tt
all_tested P test means (x ∷ xs) = by (test x) refl (all_tested P test means xs) where
  by : (b : Bool) → test x ≡ b → AllByRecursion P (filter test xs) → AllByRecursion P (cond b (x ∷ filter test xs) (filter test xs))
  by true is more = (means x is, more)
  by false is more = more

all_then : {X : Type 0} (P Q : X → Type 0) → ((x : X) → P x → Q x) → (xs : List X) → AllByRecursion P xs → AllByRecursion Q xs
all_then P Q weaker [] h = tt
all_then P Q weaker (x ∷ xs) h = (weaker x h.0, all_then P Q weaker xs h.1)

all_joined : {X : Type 0} (P : X → Type 0) (xs ys : List X) → AllByRecursion P xs → AllByRecursion P ys → AllByRecursion P (xs ++ ys)
all_joined P [] ys h k = k
all_joined P (x ∷ xs) ys h k = (h.0, all_joined P xs ys h.1 k)

held_by : {X : Type 0} (P : X → Type 0) (xs : List X) (x : X) (ys : List X) → AllByRecursion P (xs ++ x ∷ ys) → P x
held_by P [] x ys h = h.0
held_by P (z ∷ xs) x ys h = held_by P xs x ys h.1

abbrev Later : Prices → Prices → Type 0
Later tariff other = tariff.from < other.from

rise_kept : (test : Prices → Bool) (xs : List Prices) → FirstMonthsRise xs → FirstMonthsRise (filter test xs)
rise_kept test [] h = tt
rise_kept test (x ∷ xs) h = by (test x) (rise_kept test xs h.1) where
  by : (b : Bool) → FirstMonthsRise (filter test xs) → FirstMonthsRise (cond b (x ∷ filter test xs) (filter test xs))
  by true more = (all_kept (Later x) test xs h.0, more)
  by false more = more

rise_joined : (xs : List Prices) (tariff : Prices) (ys : List Prices) → FirstMonthsRise xs → FirstMonthsRise ys
    → AllByRecursion (λ (x : Prices). x.from < tariff.from) xs → AllByRecursion (Later tariff) ys → FirstMonthsRise (xs ++ tariff ∷ ys)
rise_joined [] tariff ys h k before behind = (behind, k)
rise_joined (x ∷ xs) tariff ys h k before behind = (
  all_joined (Later x) xs (tariff ∷ ys) h.0 (before.0, all_then (Later tariff) (Later x) (λ y is. let lt = before.0 in omega (arith, is, lt)) ys behind),
  rise_joined xs tariff ys h.1 k before.1 behind,
)

-- one more tariff, or one in the place of another, leaves the others in order
pub rise_with : (tariff : Prices) (others : List Prices) → FirstMonthsRise others → FirstMonthsRise (with_tariff tariff others)
rise_with tariff others h =
    let earlier = λ (other : Prices). nat_lt other.from tariff.from in
    let later = λ (other : Prices). nat_lt tariff.from other.from in
    rise_joined (filter earlier others) tariff (filter later others) (rise_kept earlier others h) (rise_kept later others h)
    (all_tested (λ (x : Prices). x.from < tariff.from) earlier (λ x is. ltb-true x.from tariff.from is) others)
    (all_tested (Later tariff) later (λ x is. ltb-true tariff.from x.from is) others)

-- ---- the one in force

module _ (month : ℕ) where
  abbrev holds : Prices → Bool
  holds tariff = nat_le tariff.from month

  -- the first tariff holds where no later one does
  first_or : (tariff : Prices) (tariffs : List Prices) → in_force month (tariff ∷ tariffs) ≡ option_or (in_force month tariffs) (cond (holds tariff) (Some tariff) None)
  first_or tariff tariffs = ap (find holds) (reverse-append (tariff ∷ []) tariffs) ∙ find-append holds (reverse tariffs) (tariff ∷ [])

  -- where none is in force, all begin later
  pub none_holds : (tariffs : List Prices) → in_force month tariffs ≡ None → AllByRecursion (λ (other : Prices). month < other.from) tariffs
  none_holds [] is = tt
  none_holds (tariff ∷ tariffs) is = by (in_force month tariffs) refl (holds tariff) refl (sym (first_or tariff tariffs) ∙ is) (none_holds tariffs) where
    by : (o : Option Prices) → in_force month tariffs ≡ o → (b : Bool) → holds tariff ≡ b → option_or o (cond b (Some tariff) None) ≡ None
        → (in_force month tariffs ≡ None → AllByRecursion (λ (other : Prices). month < other.from) tariffs) → AllByRecursion (λ (other : Prices). month < other.from) (tariff ∷ tariffs)
    by (Some other) found b begins none more = absurd cc
    by None found true begins none more = absurd cc
    by None found false begins none more = (leb-false tariff.from month begins, more found)

  begin_later : (tariff : Prices) (tariffs : List Prices) → AllByRecursion (λ (other : Prices). month < other.from) tariffs → AllByRecursion (λ (other : Prices). other.from ≤ month → other.from ≤ tariff.from) tariffs
  begin_later tariff tariffs h =
      all_then (λ (other : Prices). month < other.from) (λ (other : Prices). other.from ≤ month → other.from ≤ tariff.from)
      (λ other lt le. absurd (omega (arith, lt, le))) tariffs h

  -- the one in force is among them, holds, and none that holds begins later
  pub latest_holds : (tariffs : List Prices) (found : Prices) → FirstMonthsRise tariffs → in_force month tariffs ≡ Some found → IsInForce month found tariffs
  latest_holds [] found rise is = absurd cc
  latest_holds (tariff ∷ tariffs) found rise is = by (in_force month tariffs) refl (holds tariff) refl (sym (first_or tariff tariffs) ∙ is) (latest_holds tariffs found rise.1) where
    by : (o : Option Prices) → in_force month tariffs ≡ o → (b : Bool) → holds tariff ≡ b → option_or o (cond b (Some tariff) None) ≡ Some found
        → (in_force month tariffs ≡ Some found → IsInForce month found tariffs) → IsInForce month found (tariff ∷ tariffs)
    by (Some other) later b begins is more =
        let k = more (later ∙ is) in
        record {
          earlier = tariff ∷ k.earlier;
          later = k.later;
          among = ap (λ (l : List Prices). tariff ∷ l) k.among;
          begun = k.begun;
          latest = (λ le. let after = held_by (Later tariff) k.earlier found k.later (subst (AllByRecursion (Later tariff)) k.among rise.0) in omega (arith, after), k.latest);
        }
    by None none true begins is more =
        let same : tariff ≡ found = cc in
        subst (λ (t : Prices). IsInForce month t (tariff ∷ tariffs)) same (record {
          earlier = [];
          later = tariffs;
          among = refl;
          begun = leb-true tariff.from month begins;
          latest = (λ le. omega arith, begin_later tariff tariffs (none_holds tariffs none));
        })
    by None none false begins is more = absurd cc
