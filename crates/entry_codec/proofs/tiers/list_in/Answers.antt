use Rattle.std.proofs.Common.{◌≡◌, ◌∙◌, ◌+◌, ◌<◌, ◌++◌, ◌∷◌, [], ℕ, take, length, None, Some, option_map, sym, ap, arith}
use Rattle.std.proofs.Math.ListN.{set}
use Rattle.std.proofs.lemmas.List.{take_more_set}
use Rattle.entry_codec.specs.Formats.{front_items}
use Rattle.entry_codec.specs.Fields.{tier_format}
use Rattle.entry_codec.proofs.Items.{goes_on, ends, is_done}
use Rattle.entry_codec.proofs.tiers.list_in.Goals as goal

pub returns-in_default : goal.returns-in_default
returns-in_default c =
    let none : tier_format.front c.loop-i.rest.now ≡ None = sym c.tier_in.ensures ∙ ap (option_map (λ x. (x.0, x.1.now))) c.in_default.is in
    sym (ends tier_format (take c.loop-i.i c.loop-i.room) c.args.count c.loop-i.i c.loop-i.rest.now (front_items tier_format c.args.count c.args.bytes.now) c.loop-i-test.true none c.loop-i.invariant)

pub loop-i-preserved : goal.loop-i-preserved
loop-i-preserved c =
    let i = c.loop-i.i in
    let some : tier_format.front c.loop-i.rest.now ≡ Some (c.in-Some.tier, c.in-Some.after.now) = sym c.tier_in.ensures ∙ ap (option_map (λ x. (x.0, x.1.now))) c.in-Some.is in
    let inside : i < length c.loop-i.room = omega (arith, c.loop-i-test.true) in
    let front : take (i + 1) (set c.loop-i.room i c.in-Some.tier) ≡ take i c.loop-i.room ++ c.in-Some.tier ∷ [] = take_more_set c.loop-i.room i c.in-Some.tier inside in
    rw front (goes_on tier_format (take i c.loop-i.room) c.args.count i c.loop-i.rest.now c.in-Some.tier c.in-Some.after.now (front_items tier_format c.args.count c.args.bytes.now)
    c.loop-i-test.true some c.loop-i.invariant)

pub returns : goal.returns
returns c =
    let end : c.loop-i.i ≡ c.args.count = omega arith in
    sym (is_done tier_format (take c.loop-i.i c.loop-i.room) c.args.count c.loop-i.i c.loop-i.rest.now (front_items tier_format c.args.count c.args.bytes.now) c.loop-i-test.false c.loop-i.invariant
    ∙ ap (λ (n : ℕ). Some (take n c.loop-i.room, c.loop-i.rest.now)) end)
