use Rattle.accrual.proofs.Bounds.{bounded_small}
use Rattle.accrual.proofs.Summing.{stands_summed}
use Rattle.accrual.proofs.meters.Meters.from_sums.Goals as goal

pub invariant_of-result : goal.invariant_of-result
invariant_of-result c = bounded_small c.in_ok-rows.rows c.in_ok-rows.ensures.run c.in_ok-rows.ensures.small

pub returns-clause-stands : goal.returns-clause-stands
returns-clause-stands c book ended of = stands_summed (record { rows = c.in_ok-rows.rows; booked = 0 }) book c.args.sums.now c.in_ok-rows.ensures.sums c.in_ok-rows.ensures.small ended of
