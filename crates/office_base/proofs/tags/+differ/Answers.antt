use Rattle.std.proofs.Common.{◌≡◌, ◌∙◌, sym, ap, not, true, false, ◌&&◌, rules, string_bytes}
use Rattle.office_base.specs.Tags.{tags_of, keys_differ, has_key}
use Rattle.office_base.proofs.InOrder.{differ_first, others}
use Rattle.office_base.proofs.tags.+differ.Goals as goal

pub returns-then-not-holds_key : goal.returns-then-not-holds_key
returns-then-not-holds_key t c =
    let first = differ_first c.args.pairs.now c.first-item.result c.in-len1-up.len_at_least c.first-item.is in
    let other : has_key (tags_of (others c.args.pairs.now)) (string_bytes c.first-item.result.0) ≡ false = search rules in
    c.differ.ensures ∙ sym (first ∙ ap (λ b. not b && keys_differ (tags_of (others c.args.pairs.now))) other)

pub returns-else-not-holds_key : goal.returns-else-not-holds_key
returns-else-not-holds_key t c =
    let first = differ_first c.args.pairs.now c.first-item.result c.in-len1-up.len_at_least c.first-item.is in
    let same : has_key (tags_of (others c.args.pairs.now)) (string_bytes c.first-item.result.0) ≡ true = search rules in
    ap not c.if-not-holds_key.false ∙ sym (first ∙ ap (λ b. not b && keys_differ (tags_of (others c.args.pairs.now))) same)
