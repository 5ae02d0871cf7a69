-- The charges of a report are small.
use Rattle.std.proofs.Common.{◌≡◌, ℕ, ◌*◌, ◌^◌, ◌<◌, ◌≤◌, List, [], ◌∷◌, length, true, refl, arith, sum_by, unwrap_or}
use Rattle.std.specs.Prelude.{nat_le}
use Rattle.std.specs.List.{AllByRecursion}
use Rattle.std.proofs.Math.Nat.{div-le_of_le-mul}
use Rattle.std.proofs.lemmas.Nat.{mul-le}
use Rattle.std.proofs.lemmas.Bool.{and_parts, leb-true}
use Rattle.std.proofs.lemmas.List.Sums.{sum_by-cons}
use Rattle.tariff.specs.declared.tiers.Tier.{Tier}
use Rattle.tariff.specs.Prices.{is_price, are_priced, have_ends, rise_from, are_tiers}
use Rattle.tariff.specs.Charges.{gib_month, parts_from, parts_of, priced, charge_of, move_charge_of}
use Rattle.tariff.proofs.Amounts.{month_bounds}
use Rattle.tariff.proofs.TierLemmas.{parts_are_all}
use Rattle.plain_office.specs.Charges.{price_told}
use Rattle.office_types.specs.declared.reply.Price.TheVariants.{Tiered}

unit_large : (month : ℕ) → 2 ^ 60 ≤ gib_month month
unit_large month = let b = month_bounds month in omega (arith, b)

-- ---- the prices of tiers

abbrev Part : Type 0
Part = ℕ × ℕ

-- each part has a price of a tier
cheap_parts : (begin unit quantity : ℕ) (tiers : List Tier) → are_priced tiers ≡ true → AllByRecursion (λ (part : Part). part.1 ≤ 1_048_576) (parts_from begin unit quantity tiers)
cheap_parts begin unit quantity [] all = tt
cheap_parts begin unit quantity (tier ∷ tiers) all =
    let both = and_parts (is_price tier.price) (are_priced tiers) all in
    (leb-true tier.price 1_048_576 both.0, cheap_parts (unwrap_or tier.upto begin) unit quantity tiers both.1)

-- so all of them together are not dearer than the largest price
priced_most : (parts : List Part) → AllByRecursion (λ (part : Part). part.1 ≤ 1_048_576) parts → priced parts ≤ sum_by (λ (part : Part). part.0) parts * 1_048_576
priced_most [] all = omega arith
priced_most (part ∷ parts) all =
    let cost = sum_by-cons (λ (p : Part). p.0 * p.1) part parts in
    let size = sum_by-cons (λ (p : Part). p.0) part parts in
    let one : part.0 * part.1 ≤ part.0 * 1_048_576 = mul-le part.0 part.1 part.0 1_048_576 (omega arith) all.0 in
    let rest = priced_most parts all.1 in
    omega (arith, cost, size, one, rest)

pub charge_small : (quantity : ℕ) (tiers : List Tier) (month : ℕ) → quantity < 2 ^ 128 → are_tiers tiers ≡ true → charge_of quantity tiers month ≤ 2 ^ 100
charge_small quantity tiers month few are =
    let both = and_parts (have_ends tiers) (are_priced tiers) are in
    let rise = (and_parts (nat_le (length tiers) 8) (rise_from 0 tiers) both.0).1 in
    let all = parts_are_all (gib_month month) quantity 0 tiers rise in
    let most = priced_most (parts_of quantity tiers month) (cheap_parts 0 (gib_month month) quantity tiers both.1) in
    let unit = unit_large month in
    div-le_of_le-mul (gib_month month) (omega (arith, most, all, unit, few))

pub moves_small : (moves price : ℕ) → moves < 2 ^ 64 → price < 2 ^ 32 → move_charge_of moves price ≤ 2 ^ 100
moves_small moves price few cheap =
    let most : moves * price ≤ 2 ^ 64 * 2 ^ 32 = mul-le moves price (2 ^ 64) (2 ^ 32) (omega (arith, few)) (omega (arith, cheap)) in
    div-le_of_le-mul 1_000 (omega (arith, most))

-- ---- what a line tells of the price

pub several_told : (tiers : List Tier) → (length tiers ≡ 1 → ⊥) → price_told tiers ≡ Tiered
several_told [] is = refl
several_told (tier ∷ []) is = absurd (is refl)
several_told (tier ∷ other ∷ tiers) is = refl
