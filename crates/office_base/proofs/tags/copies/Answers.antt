use Rattle.office_base.proofs.InOrder.{copied, same_tag}
use Rattle.office_base.proofs.tags.copies.Goals as goal

pub returns : goal.returns
returns c =
    let cases = c.in_ok-copies.ensures.cases in
    copied _ c.args.pairs.now.items _ cases.0 (λ x y is. same_tag x y is.0 is.1)
