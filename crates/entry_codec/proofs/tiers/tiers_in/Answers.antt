use Rattle.std.proofs.Common.{◌≡◌, ◌∙◌, List, take, true, false, None, Some, option_map, sym, ap}
use Rattle.tariff.specs.declared.tiers.Tier.{Tier}
use Rattle.entry_codec.specs.Formats.{front_items}
use Rattle.entry_codec.specs.Fields.{tier_format}
use Rattle.entry_codec.proofs.TierLemmas.{no_count, large_count, no_items, items_read}
use Rattle.entry_codec.proofs.tiers.tiers_in.Goals as goal

pub returns-in_default : goal.returns-in_default
returns-in_default c = sym (no_count c.args.bytes.now (sym c.u8_in.ensures ∙ ap (option_map (λ x. (x.0, x.1.now))) c.in_default.is))

pub returns-then-count-gt-MOST_TIERS : goal.returns-then-count-gt-MOST_TIERS
returns-then-count-gt-MOST_TIERS c = sym (large_count c.args.bytes.now c.in-Some.count c.in-Some.rest.now (sym c.in-Some.ensures) c.if-count-gt-MOST_TIERS.true)

pub returns-in_default-list_in : goal.returns-in_default-list_in
returns-in_default-list_in c =
    let none : front_items tier_format c.in-Some.count c.in-Some.rest.now ≡ None = sym c.list_in.ensures ∙ ap (option_map (λ r. (take c.in-Some.count c.list_in.new.room, r.now))) c.in_default-list_in.is in
    sym (no_items c.args.bytes.now c.in-Some.count c.in-Some.rest.now (sym c.in-Some.ensures) c.if-count-gt-MOST_TIERS.false none)

pub returns-in-Some-from_slice : goal.returns-in-Some-from_slice
returns-in-Some-from_slice c =
    let some : front_items tier_format c.in-Some.count c.in-Some.rest.now ≡ Some (take c.in-Some.count c.list_in.new.room, c.in-Some-list_in.rest.now) =
    sym c.list_in.ensures ∙ ap (option_map (λ r. (take c.in-Some.count c.list_in.new.room, r.now))) c.in-Some-list_in.is in
    let kept = c.in-Some-from_slice.ensures.some in
    sym (items_read c.args.bytes.now c.in-Some.count c.in-Some.rest.now (take c.in-Some.count c.list_in.new.room) c.in-Some-list_in.rest.now true (sym c.in-Some.ensures) c.if-count-gt-MOST_TIERS.false some kept.1
    ∙ ap (λ (ts : List Tier). Some (ts, c.in-Some-list_in.rest.now)) (sym kept.0))

pub returns-in-None : goal.returns-in-None
returns-in-None c =
    let some : front_items tier_format c.in-Some.count c.in-Some.rest.now ≡ Some (take c.in-Some.count c.list_in.new.room, c.in-Some-list_in.rest.now) =
    sym c.list_in.ensures ∙ ap (option_map (λ r. (take c.in-Some.count c.list_in.new.room, r.now))) c.in-Some-list_in.is in
    sym (items_read c.args.bytes.now c.in-Some.count c.in-Some.rest.now (take c.in-Some.count c.list_in.new.room) c.in-Some-list_in.rest.now false (sym c.in-Some.ensures) c.if-count-gt-MOST_TIERS.false some c.in-None.ensures.none)
