use Rattle.std.proofs.Common.{◌≡◌}
use Rattle.std.specs.Vec.Iter.{into_iter_items}
use Rattle.bill_posting.specs.Differences.{first_difference}
use Rattle.bill_posting.proofs.posting.first_difference.Given as goal

-- the bills that are left differ if all do
abbrev pub invariant-loop-kept : goal.invariant-loop-kept
invariant-loop-kept l =
    (goal.iterator-loop-kept).can_next l.kept-iterator ×
    (goal.iterator-loop-kept).is_finite l.kept-iterator ×
    (first_difference (into_iter_items l.kept-iterator) (into_iter_items l.asked) ≡ first_difference l.fn.kept.items l.fn.asked.items)
