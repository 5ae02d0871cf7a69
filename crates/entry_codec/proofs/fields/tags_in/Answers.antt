use Rattle.std.proofs.Common.{◌≡◌, true, false, None, Some, option_map, sym, ap, ◌∙◌, inl, inr, rules}
use Rattle.office_base.specs.Tags.{are_tags, keys_rise, tags_of}
use Rattle.entry_codec.specs.Formats.{front_items}
use Rattle.entry_codec.specs.Fields.{tag_format}
use Rattle.entry_codec.proofs.TagLemmas.{no_count, large_count, no_pairs, not_rising, rising, out_of_range}
use Rattle.entry_codec.proofs.fields.tags_in.Goals as goal

pub returns-in_default : goal.returns-in_default
returns-in_default c = no_count c.args.bytes.now (sym c.u8_in.ensures ∙ ap (option_map (λ x. (x.0, x.1.now))) c.in_default.is)

pub returns-then-count-gt-MOST_TAGS : goal.returns-then-count-gt-MOST_TAGS
returns-then-count-gt-MOST_TAGS c = large_count c.args.bytes.now c.in-Some.count c.in-Some.rest.now (sym c.in-Some.ensures) c.if-count-gt-MOST_TAGS.true

pub returns-in_default-2 : goal.returns-in_default-2
returns-in_default-2 c =
    let none : front_items tag_format c.in-Some.count c.in-Some.rest.now ≡ None = c.in_ok-pairs.ensures ∙ ap (option_map (λ x. (tags_of x.0.items, x.1.now))) c.in_default-2.is in
    no_pairs c.args.bytes.now c.in-Some.count c.in-Some.rest.now (sym c.in-Some.ensures) c.if-count-gt-MOST_TAGS.false none

pub returns-then-not-rise : goal.returns-then-not-rise
returns-then-not-rise c =
    let some : front_items tag_format c.in-Some.count c.in-Some.rest.now ≡ Some (tags_of c.in-Some-2.pairs.items, c.in-Some-2.rest.now) =
    c.in_ok-pairs.ensures ∙ ap (option_map (λ x. (tags_of x.0.items, x.1.now))) c.in-Some-2.is in
    let falls : keys_rise (tags_of c.in-Some-2.pairs.items) ≡ false = search rules in
    not_rising c.args.bytes.now c.in-Some.count c.in-Some.rest.now (tags_of c.in-Some-2.pairs.items) c.in-Some-2.rest.now (sym c.in-Some.ensures) c.if-count-gt-MOST_TAGS.false some falls

pub returns-in-Ok : goal.returns-in-Ok
returns-in-Ok c =
    let some : front_items tag_format c.in-Some.count c.in-Some.rest.now ≡ Some (tags_of c.in-Some-2.pairs.items, c.in-Some-2.rest.now) =
    c.in_ok-pairs.ensures ∙ ap (option_map (λ x. (tags_of x.0.items, x.1.now))) c.in-Some-2.is in
    let rise : keys_rise (tags_of c.in-Some-2.pairs.items) ≡ true = search rules in
    rising c.args.bytes.now c.in-Some.count c.in-Some.rest.now (tags_of c.in-Some-2.pairs.items) c.in-Ok.tags c.in-Some-2.rest.now (sym c.in-Some.ensures) c.if-count-gt-MOST_TAGS.false some rise
    c.in-Ok.ensures.ok.0 c.in-Ok.ensures.ok.1

pub returns-in_default-e : goal.returns-in_default-e
returns-in_default-e c =
    let some : front_items tag_format c.in-Some.count c.in-Some.rest.now ≡ Some (tags_of c.in-Some-2.pairs.items, c.in-Some-2.rest.now) =
    c.in_ok-pairs.ensures ∙ ap (option_map (λ x. (tags_of x.0.items, x.1.now))) c.in-Some-2.is in
    let rise : keys_rise (tags_of c.in-Some-2.pairs.items) ≡ true = search rules in
    let out : are_tags (tags_of c.in-Some-2.pairs.items) ≡ false =
    elim c.in-Err.ensures.refusal [
      | inl bad ↦ c.in-Err.ensures.bad.0 cc
      | inr memory ↦ absurd (c.in_default-e.not-NoMemory memory)
    ] in
    out_of_range c.args.bytes.now c.in-Some.count c.in-Some.rest.now (tags_of c.in-Some-2.pairs.items) c.in-Some-2.rest.now (sym c.in-Some.ensures) c.if-count-gt-MOST_TAGS.false some rise out
