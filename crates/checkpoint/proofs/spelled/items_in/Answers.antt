use Rattle.std.proofs.Common.{◌≡◌, ◌++◌, ◌∷◌, [], None, Some, option_map, sym, ap, ◌∙◌}
use Rattle.entry_codec.specs.Formats.{front_items}
use Rattle.entry_codec.proofs.Items.{goes_on, ends, is_done, pushed}
use Rattle.checkpoint.proofs.spelled.items_in.Goals as goal

pub returns-in_default : goal.returns-in_default
returns-in_default g c =
    let none : g.T.Spelled.format.front c.loop.rest.now ≡ None = c.in_ok-item.ensures ∙ ap (option_map (λ x. (x.0, x.1.now))) c.in_default.is in
    ends g.T.Spelled.format c.loop.items.items c.args.count c.loop.counter c.loop.rest.now (front_items g.T.Spelled.format c.args.count c.args.bytes.now) c.loop-test.true none c.loop.invariant

pub loop-preserved : goal.loop-preserved
loop-preserved g c =
    let some : g.T.Spelled.format.front c.loop.rest.now ≡ Some (c.in-Some.item, c.in-Some.after.now) = c.in_ok-item.ensures ∙ ap (option_map (λ x. (x.0, x.1.now))) c.in-Some.is in
    let one : c.push.new.self.items ≡ c.loop.items.items ++ c.in-Some.item ∷ [] =
    pushed c.push.result c.push.new.self.items c.loop.items.items (c.loop.items.items ++ c.in-Some.item ∷ []) (sym c.is_err.ensures.value ∙ c.if-is_err.false) c.push.ensures.items in
    rw one (goes_on g.T.Spelled.format c.loop.items.items c.args.count c.loop.counter c.loop.rest.now c.in-Some.item c.in-Some.after.now
    (front_items g.T.Spelled.format c.args.count c.args.bytes.now) c.loop-test.true some c.loop.invariant)

pub returns : goal.returns
returns g c =
    is_done g.T.Spelled.format c.loop.items.items c.args.count c.loop.counter c.loop.rest.now
    (front_items g.T.Spelled.format c.args.count c.args.bytes.now) c.loop-test.false c.loop.invariant
