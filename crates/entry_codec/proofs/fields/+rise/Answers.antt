use Rattle.std.proofs.Common.{◌&&◌, sym, ap, ◌∙◌}
use Rattle.office_base.specs.Tags.{tags_of, keys_rise}
use Rattle.office_base.proofs.InOrder.{others}
use Rattle.entry_codec.proofs.Rising.{rise_first}
use Rattle.entry_codec.proofs.fields.+rise.Goals as goal

pub returns-then-is_before : goal.returns-then-is_before
returns-then-is_before t c =
    let first = rise_first c.args.pairs.now c.first-item.result c.second-item.result c.in-len1-up.len_at_least c.first-item.is c.in-len1-up-rest.len_at_least c.second-item.is in
    c.rise.ensures ∙ sym (first ∙ ap (λ b. b && keys_rise (tags_of (others c.args.pairs.now))) (sym c.is_before.ensures ∙ c.if-is_before.true))
