use Rattle.std.proofs.Common.{◌≡◌, sym, subst, true, rules}
use Rattle.office_base.specs.Tags.{AreTags, are_tags, tags_of, by_key}
use Rattle.office_base.proofs.InOrder.{kept_tags}
use Rattle.office_base.proofs.tags.Tags.read.Goals as goal

pub invariant_of-result : goal.invariant_of-result
invariant_of-result c =
    let valid : are_tags (tags_of c.args.pairs.items) ≡ true = search rules in
    let kept : tags_of c.in_ok-pairs.pairs.items ≡ by_key (tags_of c.args.pairs.items) = search rules in
    subst AreTags (sym kept) (kept_tags (tags_of c.args.pairs.items) valid)

pub returns-clause-ok : goal.returns-clause-ok
returns-clause-ok c =
    let valid : are_tags (tags_of c.args.pairs.items) ≡ true = search rules in
    let kept : tags_of c.in_ok-pairs.pairs.items ≡ by_key (tags_of c.args.pairs.items) = search rules in
    (kept, subst AreTags (sym kept) (kept_tags (tags_of c.args.pairs.items) valid))
