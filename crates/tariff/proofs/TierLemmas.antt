-- The parts of a quantity in tiers.
use Rattle.std.proofs.Common.{◌≡◌, ◌≤◌, ◌<◌, ◌+◌, ◌*◌, ◌/◌, ◌%◌, ◌-◌, ◌^◌, ℕ, zero, min, arith, ap, refl, ◌∙◌, List, [], ◌∷◌, length, sum_by, Option, Some, None, option_map, unwrap_or, true, ◌==◌}
use Rattle.std.specs.Prelude.{nat_lt, nat_le}
use Rattle.std.proofs.Math.Nat.{mul-add-div_right, mul-le-mul_right, div-lt_iff_lt-mul, min-eq_left}
use Rattle.std.proofs.lemmas.Nat.{div-add-mod'}
use Rattle.std.proofs.lemmas.Bool.{and_parts, ltb-true, eqb-true}
use Rattle.std.proofs.lemmas.List.{nil_from_length}
use Rattle.std.proofs.lemmas.List.Sums.{sum_by-cons}
use Rattle.tariff.specs.declared.tiers.Tier.{Tier}
use Rattle.tariff.specs.Prices.{is_end, rise_from}
use Rattle.tariff.specs.Charges.{part_between, parts_from, priced}

-- ---- numbers

pub end_above : (above upto : ℕ) → is_end above upto ≡ true → above < upto
end_above above upto is = ltb-true above upto (and_parts (nat_lt above upto) (nat_le upto 4_294_967_295) is).0

none_behind : {X : Type 0} (xs : List X) → (length xs == 0) ≡ true → xs ≡ []
none_behind xs is = nil_from_length xs (eqb-true (length xs) 0 is)

between : (a b u : ℕ) → a ≤ b → b * u - a * u ≡ (b - a) * u
between a b u le = let d : b ≡ (b - a) + a = omega arith in omega (arith, ap (λ n. n * u) d)

-- the last part is whole units and a rest
rest_of : (w b u r : ℕ) → b ≤ w → w * u + r - b * u ≡ (w - b) * u + r
rest_of w b u r le = let le2 : b * u ≤ w * u = mul-le-mul_right u le in omega (arith, between b w u le)

spread : (n u r p : ℕ) → (n * u + r) * p ≡ n * p * u + r * p
spread n u r p = omega arith

abbrev tier_of : Option ℕ → ℕ → Tier
tier_of upto price = record { upto = upto; price = price }

module _ (unit q : ℕ) where
  abbrev pub amount : ℕ → List Tier → ℕ
  amount begin tiers = priced (parts_from begin unit q tiers)

  abbrev part : ℕ → Option ℕ → ℕ
  part begin upto = part_between (begin * unit) (option_map (λ end. end * unit) upto) q

  amount_cons : (begin price : ℕ) (upto : Option ℕ) (tiers : List Tier) → amount begin (tier_of upto price ∷ tiers) ≡ part begin upto * price + amount (unwrap_or upto begin) tiers
  amount_cons begin price upto tiers = sum_by-cons (λ (p : ℕ × ℕ). p.0 * p.1) (part begin upto, price) (parts_from (unwrap_or upto begin) unit q tiers)

  abbrev shares : ℕ → List Tier → ℕ
  shares begin tiers = sum_by (λ (p : ℕ × ℕ). p.0) (parts_from begin unit q tiers)

  shares_cons : (begin price : ℕ) (upto : Option ℕ) (tiers : List Tier) → shares begin (tier_of upto price ∷ tiers) ≡ part begin upto + shares (unwrap_or upto begin) tiers
  shares_cons begin price upto tiers = sum_by-cons (λ (p : ℕ × ℕ). p.0) (part begin upto, price) (parts_from (unwrap_or upto begin) unit q tiers)

  -- ---- where the quantity ends before the tiers begin, nothing is left for them

  none_by : (begin price : ℕ) (upto : Option ℕ) (tiers : List Tier) → q ≤ begin * unit → rise_from begin (tier_of upto price ∷ tiers) ≡ true
      → ((end : ℕ) → q ≤ end * unit → rise_from end tiers ≡ true → amount end tiers ≡ 0) → amount begin (tier_of upto price ∷ tiers) ≡ 0
  none_by begin price None tiers over rise others =
      let last = none_behind tiers rise in
      let zero : q - begin * unit ≡ 0 = omega arith in
      amount_cons begin price None tiers ∙ rw (last, zero) (omega arith)
  none_by begin price (Some upto) tiers over rise others =
      let both = and_parts (is_end begin upto) (rise_from upto tiers) rise in
      let lt = end_above begin upto both.0 in
      let le : begin * unit ≤ upto * unit = mul-le-mul_right unit (omega arith) in
      let rest = others upto (omega arith) both.1 in
      let zero : min (upto * unit) q - begin * unit ≡ 0 = omega arith in
      amount_cons begin price (Some upto) tiers ∙ rw (rest, zero) (omega arith)

  pub none_left : (begin : ℕ) (tiers : List Tier) → q ≤ begin * unit → rise_from begin tiers ≡ true → amount begin tiers ≡ 0
  none_left begin [] over rise = refl
  none_left begin (tier ∷ tiers) over rise = none_by begin tier.price tier.upto tiers over rise (λ end. none_left end tiers)

  -- ---- no part is left out, and none stands twice

  all_by : (begin price : ℕ) (upto : Option ℕ) (tiers : List Tier) → rise_from begin (tier_of upto price ∷ tiers) ≡ true
      → ((end : ℕ) → rise_from end tiers ≡ true → shares end tiers ≡ q - end * unit) → shares begin (tier_of upto price ∷ tiers) ≡ q - begin * unit
  all_by begin price None tiers rise others =
      let last = none_behind tiers rise in
      shares_cons begin price None tiers ∙ rw last (omega arith)
  all_by begin price (Some upto) tiers rise others =
      let both = and_parts (is_end begin upto) (rise_from upto tiers) rise in
      let lt = end_above begin upto both.0 in
      let le : begin * unit ≤ upto * unit = mul-le-mul_right unit (omega arith) in
      let rest = others upto both.1 in
      shares_cons begin price (Some upto) tiers ∙ rw rest (omega arith)

  pub parts_are_all : (begin : ℕ) (tiers : List Tier) → rise_from begin tiers ≡ true → shares begin tiers ≡ q - begin * unit
  parts_are_all begin [] rise = absurd cc
  parts_are_all begin (tier ∷ tiers) rise = all_by begin tier.price tier.upto tiers rise (λ end. parts_are_all end tiers)

  -- ---- a tier that is taken up whole

  pub whole_tier : (begin upto price : ℕ) (tiers : List Tier) → begin ≤ upto → upto * unit ≤ q
      → amount begin (tier_of (Some upto) price ∷ tiers) ≡ (upto - begin) * price * unit + amount upto tiers
  whole_tier begin upto price tiers le all =
      let end : min (upto * unit) q ≡ upto * unit = min-eq_left all in
      let same : (upto * unit - begin * unit) * price ≡ (upto - begin) * price * unit = ap (λ n. n * price) (between begin upto unit le) ∙ omega arith in
      amount_cons begin price (Some upto) tiers ∙ rw (end, same) refl

  -- ---- the tier in which the quantity ends

  pub last_tier : (begin price : ℕ) (upto : Option ℕ) (tiers : List Tier) → rise_from begin (tier_of upto price ∷ tiers) ≡ true
      → ((end : ℕ) → upto ≡ Some end → q ≤ end * unit)
      → amount begin (tier_of upto price ∷ tiers) ≡ (q - begin * unit) * price
  last_tier begin price None tiers rise ends =
      let last = none_behind tiers rise in
      amount_cons begin price None tiers ∙ rw last (omega arith)
  last_tier begin price (Some upto) tiers rise ends =
      let both = and_parts (is_end begin upto) (rise_from upto tiers) rise in
      let over = ends upto refl in
      let rest = none_left upto tiers over both.1 in
      let end : min (upto * unit) q ≡ q = omega arith in
      amount_cons begin price (Some upto) tiers ∙ rw (rest, end) (omega arith)

-- ---- the steps of a charge

module _ (unit w r : ℕ) (above : zero < unit) (below : r < unit) where
  abbrev all : ℕ
  all = w * unit + r

  -- all of a tier is charged
  pub charge_on : (charge begin upto price total : ℕ) (tiers : List Tier) → begin ≤ upto → upto ≤ w
      → charge + amount unit all begin (tier_of (Some upto) price ∷ tiers) / unit ≡ total
      → charge + (upto - begin) * price + amount unit all upto tiers / unit ≡ total
  charge_on charge begin upto price total tiers le le_w is =
      let some : upto * unit ≤ w * unit = mul-le-mul_right unit le_w in
      let whole = whole_tier unit all begin upto price tiers le (omega arith) in
      let split = ap (λ n. n / unit) whole ∙ mul-add-div_right above ((upto - begin) * price) (amount unit all upto tiers) in
      omega (arith, split, is)

  -- and of the last one what is left
  pub charge_ends : (charge begin price total : ℕ) (upto : Option ℕ) (tiers : List Tier) → begin ≤ w → rise_from begin (tier_of upto price ∷ tiers) ≡ true
      → ((end : ℕ) → upto ≡ Some end → w < end)
      → charge + amount unit all begin (tier_of upto price ∷ tiers) / unit ≡ total
      → charge + (w - begin) * price + r * price / unit ≡ total
  charge_ends charge begin price total upto tiers le rise ends is =
      let over : (end : ℕ) → upto ≡ Some end → all ≤ end * unit = λ end same. let lt : w + 1 ≤ end = omega (arith, ends end same) in let some : (w + 1) * unit ≤ end * unit = mul-le-mul_right unit lt in omega (arith, some) in
      let last = last_tier unit all begin price upto tiers rise over in
      let split = ap (λ n. n / unit) (last ∙ ap (λ n. n * price) (rest_of w begin unit r le) ∙ spread (w - begin) unit r price)
      ∙ mul-add-div_right above ((w - begin) * price) (r * price) in
      omega (arith, split, is)

-- ---- whole units and the rest of a quantity

pub few_units : (q unit : ℕ) → q < 2 ^ 128 → 2 ^ 60 ≤ unit → q / unit < 2 ^ 68
few_units q unit small large = (div-lt_iff_lt-mul {k = unit} {x = q} {y = 2 ^ 68} (omega arith)).1 (omega arith)

pub put_together : (q unit : ℕ) → q / unit * unit + q % unit ≡ q
put_together q unit = div-add-mod' q unit
