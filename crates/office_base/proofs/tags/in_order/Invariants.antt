use Rattle.std.proofs.Common.{◌≡◌, length}
use Rattle.office_base.specs.Tags.{by_key, tags_of}
use Rattle.office_base.proofs.InOrder.{onto}
use Rattle.office_base.proofs.tags.in_order.Given as goal

-- what is left, put onto what is kept, gives all in order
abbrev pub invariant-loop-pair : goal.invariant-loop-pair
invariant-loop-pair l = onto (tags_of l.pairs.items) (tags_of l.kept.items) ≡ by_key (tags_of l.fn.pairs.items)

abbrev pub decreases-loop-pair : goal.decreases-loop-pair
decreases-loop-pair l = length l.pairs.items
