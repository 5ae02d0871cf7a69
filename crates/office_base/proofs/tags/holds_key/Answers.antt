use Rattle.std.proofs.Common.{◌∙◌}
use Rattle.std.specs.Str.{bytes_eq}
use Rattle.office_base.proofs.InOrder.{any_pair}
use Rattle.office_base.proofs.tags.holds_key.Goals as goal

pub returns : goal.returns
returns c = c.any_has.ensures ∙ any_pair (λ tag. bytes_eq tag.0 c.args.key.now) c.args.pairs.now
