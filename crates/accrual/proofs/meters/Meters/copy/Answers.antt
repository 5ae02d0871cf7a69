use Rattle.std.proofs.Common.{subst, sym, arith}
use Rattle.accrual.specs.Totals.{Totals, AreTotalsOf}
use Rattle.accrual.proofs.Bounds.{bounded_same}
use Rattle.accrual.proofs.Bookings.{stands_same}
use Rattle.accrual.proofs.meters.Meters.copy.Goals as goal

pub invariant_of-result : goal.invariant_of-result
invariant_of-result c =
    let run = c.in_ok-rows.ensures.run in
    let was = c.self.invariant.run in
    bounded_same c.self.inside.rows c.in_ok-rows.rows c.self.inside.booked c.self.invariant c.in_ok-rows.ensures.same (omega (arith, run, was))

pub returns-clause-stands : goal.returns-clause-stands
returns-clause-stands c = λ book stands.
    stands_same (record { rows = c.self.inside.rows; booked = c.self.inside.booked }) (record { rows = c.in_ok-rows.rows; booked = c.self.inside.booked }) book
    c.in_ok-rows.ensures.same (subst (λ (t : Totals). AreTotalsOf t book) (sym c.self.view_is) stands)
