-- The tiers with which bytes begin, by their number and the tiers; and tiers in range.
use Rattle.std.proofs.Common.{◌≡◌, ℕ, ◌^◌, ◌<◌, ◌≤◌, Bool, true, false, if◌then◌else◌, List, [], ◌∷◌, ◌++◌, length, map, take, Option, Some, None, unwrap_or, refl, sym, ap, ap₂, ◌∙◌, arith}
use Rattle.std.specs.Prelude.{nat_lt, nat_le}
use Rattle.std.specs.Int.{w8, to_be_bytes}
use Rattle.std.specs.List.{list_all, flat_map}
use Rattle.std.proofs.lemmas.Bool.{and_parts, and_from, lt-ltb, ltb-true, leb-true, eqb-true}
use Rattle.std.proofs.lemmas.Bool.Decides.{nat_tests}
use Rattle.std.proofs.lemmas.List.{nil_from_length, take_all}
use Rattle.tariff.specs.declared.tiers.Tier.{Tier}
use Rattle.tariff.specs.Prices.{is_price, are_priced, is_end, rise_from, have_ends, are_tiers, one_tier}
use Rattle.entry_codec.specs.Formats.{◌>>=◌, number, front_items}
use Rattle.entry_codec.specs.Fields.{Tiers, tier_format, is_tier, format}
use Rattle.entry_codec.specs.Kinds.{has_one, first_price}

-- ---- reading

abbrev from_tiers : Option (List Tier × List ℕ) → Option (List Tier × List ℕ)
from_tiers o = o >>= λ tiers. if are_tiers tiers.0 then Some tiers else None

abbrev some_tiers : Option (ℕ × List ℕ) → Option (List Tier × List ℕ)
some_tiers o = from_tiers (o >>= λ n. front_items tier_format n.0 n.1)

abbrev from_count : Option (ℕ × List ℕ) → Option (List Tier × List ℕ)
from_count o = some_tiers (o >>= λ n. if nat_le n.0 8 then Some n else None)

by_count : (bytes : List ℕ) → (format Tiers).front bytes ≡ from_count ((number w8).front bytes)
unfolding format
by_count bytes = refl

pub no_count : (bytes : List ℕ) → (number w8).front bytes ≡ None → (format Tiers).front bytes ≡ None
no_count bytes none = by_count bytes ∙ ap from_count none

pub large_count : (bytes : List ℕ) (n : ℕ) (rest : List ℕ) → (number w8).front bytes ≡ Some (n, rest) → 8 < n → (format Tiers).front bytes ≡ None
large_count bytes n rest is large =
    let test : nat_le n 8 ≡ false = grind (arith, nat_tests) in
    by_count bytes ∙ ap from_count is ∙ ap (λ (b : Bool). some_tiers (if b then Some (n, rest) else None)) test

small_count : (bytes : List ℕ) (n : ℕ) (rest : List ℕ) → (number w8).front bytes ≡ Some (n, rest) → n ≤ 8 → (format Tiers).front bytes ≡ from_tiers (front_items tier_format n rest)
small_count bytes n rest is small =
    let test : nat_le n 8 ≡ true = grind (arith, nat_tests) in
    by_count bytes ∙ ap from_count is ∙ ap (λ (b : Bool). some_tiers (if b then Some (n, rest) else None)) test

pub no_items : (bytes : List ℕ) (n : ℕ) (rest : List ℕ) → (number w8).front bytes ≡ Some (n, rest) → n ≤ 8 → front_items tier_format n rest ≡ None → (format Tiers).front bytes ≡ None
no_items bytes n rest is small none = small_count bytes n rest is small ∙ ap from_tiers none

pub items_read : (bytes : List ℕ) (n : ℕ) (rest : List ℕ) (tiers : List Tier) (left : List ℕ) (are : Bool) → (number w8).front bytes ≡ Some (n, rest) → n ≤ 8
    → front_items tier_format n rest ≡ Some (tiers, left) → are_tiers tiers ≡ are → (format Tiers).front bytes ≡ (if are then Some (tiers, left) else None)
items_read bytes n rest tiers left are is small some test =
    small_count bytes n rest is small ∙ ap from_tiers some ∙ ap (λ (b : Bool). if b then Some (tiers, left) else None) test

-- ---- tiers in range are values of their field

tier_has : (upto : Option ℕ) (price : ℕ) → unwrap_or upto 0 < 2 ^ 32 → is_tier (record { upto = upto; price = price }) ≡ true → is_price price ≡ true → tier_format.has (record { upto = upto; price = price }) ≡ true
unfolding tier_format
tier_has upto price small is priced =
    and_from _ _ (and_from _ _ (lt-ltb (unwrap_or upto 0) (256 ^ 4) (omega (arith, small))) (lt-ltb price (256 ^ 4) (omega (arith, leb-true price 1_048_576 priced)))) is

each_by : (above : ℕ) (upto : Option ℕ) (price : ℕ) (tiers : List Tier) → rise_from above (record { upto = upto; price = price } ∷ tiers) ≡ true → is_price price ≡ true → are_priced tiers ≡ true
    → ((end : ℕ) → rise_from end tiers ≡ true → list_all tier_format.has tiers ≡ true) → list_all tier_format.has (record { upto = upto; price = price } ∷ tiers) ≡ true
each_by above None price tiers rise priced others more =
    let none = nil_from_length tiers (eqb-true (length tiers) 0 rise) in
    and_from _ _ (tier_has None price (omega arith) refl priced) (ap (list_all tier_format.has) none)
each_by above (Some upto) price tiers rise priced others more =
    let parts = and_parts (is_end above upto) (rise_from upto tiers) rise in
    let ends = and_parts (nat_lt above upto) (nat_le upto 4_294_967_295) parts.0 in
    let low = ltb-true above upto ends.0 in
    let high = leb-true upto 4_294_967_295 ends.1 in
    and_from _ _ (tier_has (Some upto) price (omega (arith, high)) (lt-ltb 0 upto (omega (arith, low))) priced) (more upto parts.1)

each_has : (above : ℕ) (tiers : List Tier) → rise_from above tiers ≡ true → are_priced tiers ≡ true → list_all tier_format.has tiers ≡ true
each_has above [] rise priced = refl
each_has above (tier ∷ tiers) rise priced =
    let prices = and_parts (is_price tier.price) (are_priced tiers) priced in
    each_by above tier.upto tier.price tiers rise prices.0 prices.1 (λ end r. each_has end tiers r prices.1)

pub tiers_have : (tiers : List Tier) → are_tiers tiers ≡ true → (format Tiers).has tiers ≡ true
unfolding format
tiers_have tiers are =
    let parts = and_parts (have_ends tiers) (are_priced tiers) are in
    let ends = and_parts (nat_le (length tiers) 8) (rise_from 0 tiers) parts.0 in
    let few = leb-true (length tiers) 8 ends.0 in
    and_from _ _ (and_from _ _ (and_from _ _ (lt-ltb (length tiers) 256 (omega (arith, few))) ends.0) (each_has 0 tiers ends.1 parts.1)) are

pub all_have : (storage : List (List Tier)) → list_all are_tiers storage ≡ true → list_all (format Tiers).has storage ≡ true
all_have [] all = refl
all_have (tiers ∷ storage) all = let parts = and_parts (are_tiers tiers) (list_all are_tiers storage) all in and_from _ _ (tiers_have tiers parts.0) (all_have storage parts.1)

-- ---- one tier

one_by : (upto : Option ℕ) (price : ℕ) (tiers : List Tier) → tiers ≡ [] → rise_from 0 (record { upto = upto; price = price } ∷ tiers) ≡ true
    → one_tier price ≡ record { upto = upto; price = price } ∷ tiers
one_by None price tiers none rise = ap (λ (ts : List Tier). record { upto = None; price = price } ∷ ts) (sym none)
one_by (Some upto) price tiers none rise =
    let parts = and_parts (is_end 0 upto) (rise_from upto tiers) rise in
    absurd (no_rise upto (sym (ap (rise_from upto) none) ∙ parts.1))
  where
    no_rise : (upto : ℕ) → rise_from upto [] ≡ true → ⊥
    no_rise upto is = absurd cc

one_is : (tiers : List Tier) → are_tiers tiers ≡ true → has_one tiers ≡ true → (one_tier (first_price tiers) ≡ tiers) × (is_price (first_price tiers) ≡ true)
one_is [] are one = absurd cc
one_is (tier ∷ tiers) are one =
    let parts = and_parts (have_ends (tier ∷ tiers)) (are_priced (tier ∷ tiers)) are in
    let ends = and_parts (nat_le (length (tier ∷ tiers)) 8) (rise_from 0 (tier ∷ tiers)) parts.0 in
    let long = eqb-true (length (tier ∷ tiers)) 1 one in
    let none = nil_from_length tiers (omega (arith, long)) in
    (one_by tier.upto tier.price tiers none ends.1, (and_parts (is_price tier.price) (are_priced tiers) parts.1).0)

pub ones_are : (storage : List (List Tier)) → list_all are_tiers storage ≡ true → list_all has_one storage ≡ true
    → (map one_tier (map first_price storage) ≡ storage) × (list_all is_price (map first_price storage) ≡ true)
ones_are [] are ones = (refl, refl)
ones_are (tiers ∷ storage) are ones =
    let a = and_parts (are_tiers tiers) (list_all are_tiers storage) are in
    let o = and_parts (has_one tiers) (list_all has_one storage) ones in
    let here = one_is tiers a.0 o.0 in
    let rest = ones_are storage a.1 o.1 in
    (ap₂ (λ (x : List Tier) (xs : List (List Tier)). x ∷ xs) here.0 rest.0, and_from _ _ here.1 rest.1)

-- ---- writing

pub tiers_written : (n : ℕ) (list tiers : List Tier) → length list ≤ n → list ≡ tiers
    → to_be_bytes w8 (length list) ++ flat_map tier_format.written (take n list) ≡ (format Tiers).written tiers
unfolding format
tiers_written n list tiers past is =
    ap (λ (l : List Tier). to_be_bytes w8 (length list) ++ flat_map tier_format.written l) (take_all n list past)
    ∙ ap (λ (l : List Tier). to_be_bytes w8 (length l) ++ flat_map tier_format.written l) is
