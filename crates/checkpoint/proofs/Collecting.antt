-- A map that is collected from pairs whose keys rise.
use Rattle.std.proofs.Common.{◌≡◌, ◌∙◌, ℕ, ◌+◌, ◌<◌, ◌≤◌, Bool, true, false, ◌&&◌, List, [], ◌∷◌, length, drop, get_or, Option, Some, None, refl, sym, ap, subst}
use Rattle.std.specs.Prelude.{cond, T}
use Rattle.std.specs.BTreeMap.{BTreeMap, IsFromIterResult, is_at}
use Rattle.std.specs.FinMap.{IsAntisymmetric}
use Rattle.std.specs.FinMap.Entries.{find, below_all, is_sorted, same_entries}
use Rattle.std.specs.Cmp.{IsTotalOrder}
use Rattle.std.specs.declared.cmp.Ordering.{Ordering}
use Rattle.std.specs.declared.cmp.Ordering.TheVariants.{Less, Equal, Greater}
use Rattle.std.specs.Ordering.{is_lt, is_eq, nat_cmp, eq_by_cmp}
use Rattle.std.specs.List.{AllByRecursion, list_all}
use Rattle.std.specs.List.Sorted.{IsStrictlySortedBy}
use Rattle.std.specs.Map.{keys_of, lookup}
use Rattle.std.proofs.lemmas.Bool.{and_parts, and_from}
use Rattle.std.proofs.lemmas.List.{at_drop_all, at_drop_more}
use Rattle.std.proofs.lemmas.Cmp.{eq_by_cmp_equiv}
use Rattle.std.proofs.lemmas.Map.Keys.{IsDistinct-from_sorted}
use Rattle.std.proofs.lemmas.Map.Lookups.{exact_unsigned, exact_bytes}
use Rattle.std.proofs.lemmas.Map.Made.{update_all_none}
use Rattle.office_base.specs.Maps.{bytes_cmp}
use Rattle.checkpoint.proofs.Rising.{rise_of}
use Rattle.checkpoint.specs.Parts.{keys_rise}

-- ---- numbers and bytes

pub numbers_apart : IsAntisymmetric nat_cmp
numbers_apart = exact_unsigned

pub names_apart : IsAntisymmetric bytes_cmp
names_apart = exact_bytes

holds : (b : Bool) → b ≡ true → T b
holds b is = subst T (sym is) tt

-- ---- keys that rise from each to the next

is_less : (r : Ordering) → is_lt r ≡ true → r ≡ Less
is_less Less is = refl
is_less Equal is = absurd cc
is_less Greater is = absurd cc

-- the key is above this one
abbrev pub is_above : {K : Type 0} → (K → K → Ordering) → Option K → K → Bool
is_above R None k = true
is_above R (Some before) k = is_lt (R before k)

-- the keys rise, and the first is above this one
abbrev pub rise_after : {K X : Type 0} → (K → K → Ordering) → Option K → List (K × X) → Bool
rise_after R before [] = true
rise_after R before (e ∷ es) = is_above R before e.0 && rise_after R (Some e.0) es

and_false : (b : Bool) → (b && false) ≡ false
and_false true = refl
and_false false = refl

module _ {K X : Type 0} (R : K → K → Ordering) where
  module _ (o : IsTotalOrder R) where
    above_all : (k : K) (e : K) (es : List (K × X)) → is_lt (R k e) ≡ true → list_all (λ (other : K × X). is_lt (R e other.0)) es ≡ true
        → list_all (λ (other : K × X). is_lt (R k other.0)) es ≡ true
    above_all k e [] below all = refl
    above_all k e (f ∷ es) below all =
        let parts = and_parts _ _ all in
        and_from _ _ (ap is_lt (o.trans k e f.0 (is_less _ below) (is_less _ parts.0))) (above_all k e es below parts.1)

    -- a key below the first is below all
    below_by : (k : K) (e : K × X) (es : List (K × X)) (b c : Bool) → is_lt (R k e.0) ≡ b → list_all (λ (other : K × X). is_lt (R e.0 other.0)) es ≡ c
        → ((b && list_all (λ (other : K × X). is_lt (R k other.0)) es) && (c && keys_rise R es)) ≡ (b && (c && keys_rise R es))
    below_by k e es false c is_b is_c = refl
    below_by k e es true false is_b is_c = and_false (list_all (λ (other : K × X). is_lt (R k other.0)) es)
    below_by k e es true true is_b is_c = ap (λ (b : Bool). b && keys_rise R es) (above_all k e.0 es is_b is_c)

    in_turn : (k : K) (es : List (K × X)) → (list_all (λ (other : K × X). is_lt (R k other.0)) es && keys_rise R es) ≡ rise_after R (Some k) es
    in_turn k [] = refl
    in_turn k (e ∷ es) =
        below_by k e es (is_lt (R k e.0)) (list_all (λ (other : K × X). is_lt (R e.0 other.0)) es) refl refl
        ∙ ap (λ (b : Bool). is_lt (R k e.0) && b) (in_turn e.0 es)

    -- the keys rise exactly if each is above the one before it
    pub rise_in_turn : (es : List (K × X)) → keys_rise R es ≡ rise_after R None es
    rise_in_turn [] = refl
    rise_in_turn (e ∷ es) = in_turn e.0 es

    -- none is left
    pub no_more : (before : Option K) (es : List (K × X)) (i : ℕ) → rise_after R before (drop i es) ≡ rise_after R None es → length es ≤ i → true ≡ keys_rise R es
    no_more before es i so_far end = sym (at_drop_all (rise_after R before) es i end) ∙ so_far ∙ sym (rise_in_turn es)

    -- one that is not above the one before it
    pub falls : (before : Option K) (last : K) (es : List (K × X)) (i : ℕ) (e : K × X) → rise_after R before (drop i es) ≡ rise_after R None es
        → before ≡ Some last → i < length es → e ≡ get_or es i e → is_lt (R last e.0) ≡ false → false ≡ keys_rise R es
    falls before last es i e so_far some inside at low =
        let here : rise_after R before (get_or es i e ∷ drop (i + 1) es) ≡ false =
        rw (sym at, some) (ap (λ (b : Bool). b && rise_after R (Some e.0) (drop (i + 1) es)) low) in
        sym (rise_in_turn es ∙ sym so_far ∙ at_drop_more (rise_after R before) es i e inside ∙ here)

  -- ---- what is collected

  all_less : (k : K) (es : List (K × X)) → list_all (λ (other : K × X). is_lt (R k other.0)) es ≡ true → AllByRecursion (λ other. R k other ≡ Less) (keys_of es)
  all_less k [] all = tt
  all_less k (e ∷ es) all = let parts = and_parts _ _ all in (is_less _ parts.0, all_less k es parts.1)

  sorted_of : (es : List (K × X)) → keys_rise R es ≡ true → IsStrictlySortedBy R (keys_of es)
  unfolding IsStrictlySortedBy
  sorted_of [] rise = tt
  sorted_of (e ∷ es) rise = let parts = and_parts _ _ rise in (all_less e.0 es parts.0, sorted_of es parts.1)

  -- the same in the words of finite maps
  below_is : (k : K) (es : List (K × X)) → below_all R k es ≡ list_all (λ (other : K × X). is_lt (R k other.0)) es
  below_is k [] = refl
  below_is k (e ∷ es) = ap (λ (b : Bool). is_lt (R k e.0) && b) (below_is k es)

  sorted_is : (es : List (K × X)) → is_sorted R es ≡ keys_rise R es
  sorted_is [] = refl
  sorted_is (e ∷ es) = rw (below_is e.0 es, sorted_is es) refl

  find_is : (q : K) (es : List (K × X)) → find R q es ≡ lookup (is_at (R q)) es
  find_is q [] = refl
  find_is q (e ∷ es) = ap (λ (x : Option X). cond (is_eq (R q e.0)) (Some e.1) x) (find_is q es)

  -- pairs whose keys rise are the entries of the map that is collected from them
  pub collected : IsTotalOrder R → IsAntisymmetric R → (es : List (K × X)) (map : BTreeMap K X) → keys_rise R es ≡ true → IsFromIterResult R es map → map.entries ≡ es
  collected o apart es map rise from =
      let sorted = sorted_of es rise in
      same_entries R o apart map.entries es (holds _ (sorted_is map.entries ∙ rise_of R map.entries from.1)) (holds _ (sorted_is es ∙ rise))
      (λ q. find_is q map.entries ∙ from.0 q
      ∙ update_all_none (eq_by_cmp_equiv o) (eq_by_cmp R) (λ x y. refl) es q (IsDistinct-from_sorted R (keys_of es) sorted) ∙ sym (find_is q es))
