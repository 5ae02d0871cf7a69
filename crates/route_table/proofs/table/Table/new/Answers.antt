use Rattle.route_table.specs.Patterns.{pattern_in}
use Rattle.route_table.proofs.Rows.{is_fine, is_free, holds_none, holds_next, routed}
use Rattle.route_table.proofs.table.Table.new.Goals as goal

pub add-requires-clause-pattern : goal.add-requires-clause-pattern
add-requires-clause-pattern g c =
    is_fine (λ row. pattern_in row.0.now) (λ row. row.1) _ _ _ c.loop-place-test.true c.requires.disjoint

pub add-requires-clause-free : goal.add-requires-clause-free
add-requires-clause-free g c =
    is_free (λ row. pattern_in row.0.now) (λ row. row.1) _ _ _ _ c.loop-place-test.true c.requires.disjoint c.loop-place.invariant

pub loop-place-preserved : goal.loop-place-preserved
loop-place-preserved g c =
    holds_next (λ row. pattern_in row.0.now) (λ row. row.1) _ _ _ _ _ c.loop-place-test.true c.loop-place.invariant c.in_ok-add.ensures

pub loop-place-init : goal.loop-place-init
loop-place-init g c = holds_none (λ row. pattern_in row.0.now) (λ row. row.1) _ _ c.new-router.ensures

pub invariant_of-result : goal.invariant_of-result
invariant_of-result g c =
    routed (λ row. pattern_in row.0.now) (λ row. row.1) _ _ _ c.loop-place.auto.place-end c.loop-place-test.false c.requires.disjoint c.loop-place.invariant
