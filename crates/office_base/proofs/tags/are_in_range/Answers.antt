use Rattle.std.proofs.Common.{◌∙◌}
use Rattle.office_base.specs.Tags.{is_tag}
use Rattle.office_base.proofs.InOrder.{all_pairs}
use Rattle.office_base.proofs.tags.are_in_range.Goals as goal

pub returns : goal.returns
returns c = c.each_in_range.ensures ∙ all_pairs is_tag c.args.pairs.now
