use Rattle.std.proofs.Common.{◌≡◌, ◌<◌, ◌≤◌, ◌+◌, ◌-◌, ◌*◌, subst, sym, ap, arith}
use Rattle.std.specs.Prelude.{◌^◌}
use Rattle.moments.specs.Months.{IsInMonth}
use Rattle.class_rules.specs.Classes.{rank_of, least_stay}
use Rattle.accrual.specs.Totals.{Totals, AreTotalsOf, most_bookings}
use Rattle.accrual.specs.Rows.{IsAdded}
use Rattle.accrual.proofs.Bounds.{bounded_added, added_room, owed_small}
use Rattle.accrual.proofs.Bookings.{stands_owed, early_numbers}
use Rattle.accrual.proofs.meters.Meters.early.Goals as goal

pub add-requires-clause-room : goal.add-requires-clause-room
add-requires-clause-room c =
    let owed : c.args.bytes * c.saturating_sub.result ≡ c.args.bytes * (c.args.entered + least_stay c.args.class - c.args.at) = cc in
    added_room c.self.inside.rows c.self.inside.booked c.number.result c.args.class (c.args.bytes * c.saturating_sub.result) 0 c.self.invariant
    (subst (λ n. n ≤ 5 * 2 ^ 74) (sym owed) (owed_small c.args.class c.args.bytes c.args.entered c.args.at c.requires.billed c.requires.later)) (omega arith)

pub invariant_of-self : goal.invariant_of-self
invariant_of-self c =
    let b = ap (λ (t : Totals). t.booked) c.self.view_is in let few : c.self.inside.booked < most_bookings = omega (arith, b, c.requires.few) in
    let owed : c.args.bytes * c.saturating_sub.result ≡ c.args.bytes * (c.args.entered + least_stay c.args.class - c.args.at) = cc in
    bounded_added c.self.inside.rows c.add.new.self c.self.inside.booked c.number.result (rank_of c.args.class) (c.args.bytes * c.saturating_sub.result) 0 c.self.invariant few
    (subst (λ n. n ≤ 5 * 2 ^ 74) (sym owed) (owed_small c.args.class c.args.bytes c.args.entered c.args.at c.requires.billed c.requires.later)) (omega arith) c.add.ensures

pub returns-clause-stands : goal.returns-clause-stands
returns-clause-stands c book stands =
    let owed : c.args.bytes * c.saturating_sub.result ≡ c.args.bytes * (c.args.entered + least_stay c.args.class - c.args.at) = cc in
    stands_owed (record { rows = c.self.inside.rows; booked = c.self.inside.booked })
    (record { rows = c.add.new.self; booked = c.self.inside.booked + 1 }) book c.args.class c.number.result
    c.args.bytes c.args.entered c.args.at
    (subst (λ k. IsInMonth k c.args.at) (sym c.number.ensures.number) c.month_of.ensures.within)
    (subst (λ n. IsAdded c.self.inside.rows c.add.new.self c.number.result (rank_of c.args.class) (early_numbers n))
    owed c.add.ensures) (subst (λ (t : Totals). AreTotalsOf t book) (sym c.self.view_is) stands)
