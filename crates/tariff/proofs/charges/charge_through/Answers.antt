use Rattle.std.proofs.Common.{◌≡◌, ◌∙◌, ◌+◌, ◌*◌, ◌/◌, ◌-◌, ◌<◌, ◌^◌, ℕ, ap, sym, subst, arith, rules, true, drop, get_or, List, ◌∷◌, Option, Some, None}
use Rattle.std.proofs.Math.Nat.{mul-le-mul_left, le_of_lt}
use Rattle.std.proofs.lemmas.List.{drop_more}
use Rattle.std.proofs.lemmas.Bool.{and_parts}
use Rattle.tariff.specs.declared.tiers.Tier.{Tier}
use Rattle.tariff.specs.Prices.{is_end, rise_from}
use Rattle.tariff.proofs.TierLemmas.{amount, charge_on, charge_ends, end_above}
use Rattle.tariff.proofs.charges.charge_through.Goals as goal
use Rattle.tariff.proofs.charges.charge_through.Goals.{in_default-via-in-Some+else-upto-whole, in_default-via-in_default}

some_is : {a b : ℕ} → Some a ≡ Some b → a ≡ b
some_is is = cc

pub returns-in_default : goal.returns-in_default
returns-in_default c =
    let tiers = c.args.tiers.now in
    let i = c.loop-tier.tier-index in
    let tier : Tier = get_or tiers i (record { upto = None; price = 0 }) in
    let held = c.loop-tier.invariant in
    let here : drop i tiers ≡ tier ∷ drop (i + 1) tiers = drop_more tiers i _ c.loop-tier-test.true in
    let rise : rise_from c.loop-tier.begin (tier ∷ drop (i + 1) tiers) ≡ true = ap (rise_from c.loop-tier.begin) (sym here) ∙ held.rise in
    let before = ap (λ (ts : List Tier). c.loop-tier.charge + amount c.args.unit (c.args.whole * c.args.unit + c.args.rest) c.loop-tier.begin ts / c.args.unit) (sym here) ∙ held.amount in
    let ends : (end : ℕ) → tier.upto ≡ Some end → c.args.whole < end =
    elim c.in_default.branch [
      | in_default-via-in-Some+else-upto-whole w ↦ λ end same. subst (λ n. c.args.whole < n) (some_is (sym w.in-Some.is ∙ same)) w.if-upto-whole.false
      | in_default-via-in_default w ↦ λ end same. absurd (w.in_default.not-Some end same)
    ] in
    charge_ends c.args.unit c.args.whole c.args.rest (omega arith) c.requires.rest_below c.loop-tier.charge c.loop-tier.begin tier.price _ tier.upto (drop (i + 1) tiers) held.begins rise ends before

pub loop-tier-preserved : goal.loop-tier-preserved
loop-tier-preserved c =
    let tiers = c.args.tiers.now in
    let i = c.loop-tier.tier-index in
    let tier : Tier = get_or tiers i (record { upto = None; price = 0 }) in
    let upto = c.in-Some.upto in
    let held = c.loop-tier.invariant in
    let same : tier ≡ record { upto = Some upto; price = tier.price } = ap (λ (o : Option ℕ). record { upto = o; price = tier.price }) c.in-Some.is in
    let here : drop i tiers ≡ record { upto = Some upto; price = tier.price } ∷ drop (i + 1) tiers = drop_more tiers i _ c.loop-tier-test.true ∙ ap (λ (t : Tier). t ∷ drop (i + 1) tiers) same in
    let rise = and_parts (is_end c.loop-tier.begin upto) (rise_from upto (drop (i + 1) tiers)) (ap (rise_from c.loop-tier.begin) (sym here) ∙ held.rise) in
    let lt : c.loop-tier.begin < upto = end_above c.loop-tier.begin upto rise.0 in
    let before = ap (λ (ts : List Tier). c.loop-tier.charge + amount c.args.unit (c.args.whole * c.args.unit + c.args.rest) c.loop-tier.begin ts / c.args.unit) (sym here) ∙ held.amount in
    let fits : tier.price < 2 ^ 32 = search rules in
    record {
      begins = c.if-upto-whole.true;
      small = omega (arith, mul-le-mul_left (upto - c.loop-tier.begin) (le_of_lt fits), held.small);
      rise = rise.1;
      amount = charge_on c.args.unit c.args.whole c.args.rest (omega arith) c.requires.rest_below c.loop-tier.charge c.loop-tier.begin upto tier.price _ (drop (i + 1) tiers) (omega arith) c.if-upto-whole.true before;
    }
