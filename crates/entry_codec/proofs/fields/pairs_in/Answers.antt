use Rattle.std.proofs.Common.{◌≡◌, ◌++◌, ◌∷◌, [], None, Some, option_map, sym, ap, ◌∙◌}
use Rattle.std.proofs.lemmas.List.{map_push}
use Rattle.office_base.specs.Tags.{tag_of, tags_of}
use Rattle.entry_codec.specs.Formats.{front_items}
use Rattle.entry_codec.specs.Fields.{tag_format}
use Rattle.entry_codec.proofs.Items.{goes_on, ends, is_done, pushed}
use Rattle.entry_codec.proofs.fields.pairs_in.Goals as goal

pub returns-in_default : goal.returns-in_default
returns-in_default c =
    let none : tag_format.front c.loop.rest.now ≡ None = c.in_ok-pair.ensures ∙ ap (option_map (λ x. (tag_of x.0, x.1.now))) c.in_default.is in
    ends tag_format (tags_of c.loop.pairs.items) c.args.count c.loop.counter c.loop.rest.now (front_items tag_format c.args.count c.args.bytes.now) c.loop-test.true none c.loop.invariant

pub loop-preserved : goal.loop-preserved
loop-preserved c =
    let some : tag_format.front c.loop.rest.now ≡ Some (tag_of c.in-Some.pair, c.in-Some.after.now) = c.in_ok-pair.ensures ∙ ap (option_map (λ x. (tag_of x.0, x.1.now))) c.in-Some.is in
    let one : c.push.new.self.items ≡ c.loop.pairs.items ++ c.in-Some.pair ∷ [] =
    pushed c.push.result c.push.new.self.items c.loop.pairs.items (c.loop.pairs.items ++ c.in-Some.pair ∷ []) (sym c.is_err.ensures.value ∙ c.if-is_err.false) c.push.ensures.items in
    let e : tags_of c.push.new.self.items ≡ tags_of c.loop.pairs.items ++ tag_of c.in-Some.pair ∷ [] = rw one (map_push tag_of c.loop.pairs.items c.in-Some.pair) in
    rw e (goes_on tag_format (tags_of c.loop.pairs.items) c.args.count c.loop.counter c.loop.rest.now
    (tag_of c.in-Some.pair) c.in-Some.after.now (front_items tag_format c.args.count c.args.bytes.now)
    c.loop-test.true some c.loop.invariant)

pub returns : goal.returns
returns c = is_done tag_format (tags_of c.loop.pairs.items) c.args.count c.loop.counter c.loop.rest.now (front_items tag_format c.args.count c.args.bytes.now) c.loop-test.false c.loop.invariant
