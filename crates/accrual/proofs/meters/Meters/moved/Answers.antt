use Rattle.std.proofs.Common.{◌<◌, ◌+◌, subst, sym, ap, arith}
use Rattle.moments.specs.Months.{IsInMonth}
use Rattle.class_rules.specs.Classes.{rank_of}
use Rattle.accrual.specs.Totals.{Totals, AreTotalsOf, most_bookings}
use Rattle.accrual.proofs.Bounds.{bounded_added, added_room}
use Rattle.accrual.proofs.Bookings.{stands_moved}
use Rattle.accrual.proofs.meters.Meters.moved.Goals as goal

pub add-requires-clause-room : goal.add-requires-clause-room
add-requires-clause-room c = added_room c.self.inside.rows c.self.inside.booked c.number.result c.args.to 0 1 c.self.invariant (omega arith) (omega arith)

pub invariant_of-self : goal.invariant_of-self
invariant_of-self c =
    let b = ap (λ (t : Totals). t.booked) c.self.view_is in let few : c.self.inside.booked < most_bookings = omega (arith, b, c.requires.few) in
    bounded_added c.self.inside.rows c.add.new.self c.self.inside.booked c.number.result (rank_of c.args.to) 0 1 c.self.invariant few (omega arith) (omega arith) c.add.ensures

pub returns-clause-stands : goal.returns-clause-stands
returns-clause-stands c book stands =
    stands_moved (record { rows = c.self.inside.rows; booked = c.self.inside.booked })
    (record { rows = c.add.new.self; booked = c.self.inside.booked + 1 }) book c.args.to c.number.result
    c.args.at (subst (λ k. IsInMonth k c.args.at) (sym c.number.ensures.number) c.month_of.ensures.within)
    c.add.ensures (subst (λ (t : Totals). AreTotalsOf t book) (sym c.self.view_is) stands)
