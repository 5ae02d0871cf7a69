use Rattle.accrual.proofs.Places.{kept_none}
use Rattle.accrual.proofs.Bounds.{bounded_none}
use Rattle.accrual.proofs.Bookings.{stands_empty}
use Rattle.accrual.proofs.meters.Meters.new.Goals as goal

pub invariant_of-result : goal.invariant_of-result
invariant_of-result c = bounded_none c.new.result c.new.ensures.first c.new.ensures.none (λ month rank. kept_none c.new.result month rank c.new.ensures.none)

pub returns-clause-stands : goal.returns-clause-stands
returns-clause-stands c = stands_empty (record { rows = c.new.result; booked = 0 }) (λ month rank. kept_none c.new.result month rank c.new.ensures.none)
