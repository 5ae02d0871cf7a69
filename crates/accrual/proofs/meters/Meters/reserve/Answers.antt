use Rattle.std.proofs.Common.{subst, sym}
use Rattle.accrual.specs.Totals.{Totals, AreTotalsOf}
use Rattle.accrual.proofs.Bounds.{bounded_same}
use Rattle.accrual.proofs.Bookings.{stands_same}
use Rattle.accrual.proofs.meters.Meters.reserve.Goals as goal

pub invariant_of-self : goal.invariant_of-self
invariant_of-self c = bounded_same c.self.inside.rows c.reserve.new.self c.self.inside.booked c.self.invariant c.reserve.ensures.same c.reserve.ensures.run

pub returns-clause-stands : goal.returns-clause-stands
returns-clause-stands c book stands =
    stands_same (record { rows = c.self.inside.rows; booked = c.self.inside.booked }) (record { rows = c.reserve.new.self; booked = c.self.inside.booked }) book
    c.reserve.ensures.same (subst (λ (t : Totals). AreTotalsOf t book) (sym c.self.view_is) stands)
