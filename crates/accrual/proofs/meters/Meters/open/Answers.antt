use Rattle.std.proofs.Common.{◌≡◌, ◌<◌, ◌≤◌, ◌+◌, ◌-◌, ℕ, subst, sym, ap, arith, ◌∙◌}
use Rattle.std.specs.Prelude.{◌^◌}
use Rattle.moments.specs.Months.{IsInMonth, month_start, month_end}
use Rattle.accrual.specs.Totals.{Totals, AreTotalsOf, most_bookings}
use Rattle.accrual.specs.Rows.{IsShort, IsBooked, running_each}
use Rattle.accrual.proofs.Windows.{month_short}
use Rattle.accrual.proofs.Bounds.{bounded_begun, bounded_modest}
use Rattle.accrual.proofs.Bookings.{stands_opened}
use Rattle.accrual.proofs.meters.Meters.open.Goals as goal

pub book-requires-clause-modest : goal.book-requires-clause-modest
book-requires-clause-modest c class = bounded_modest c.self.inside.rows c.self.inside.booked c.number.result class c.self.invariant

short_ms : (start end from ms : ℕ) → end ≤ start + 2_678_400_000 → from < end → ms ≡ from - start → ms < 2 ^ 32
short_ms start end from ms short within is = omega (arith, short, within, is)

pub book-requires-clause-short : goal.book-requires-clause-short
book-requires-clause-short c = subst IsShort (sym c.running_each.ensures) (record {
  edges = omega arith;
  arrived = omega arith;
  departed = omega arith;
  running = omega arith;
  lead = short;
}) where
  short : c.ms.result - c.month_window-start.result.0 < 2 ^ 32
  short =
      let same : c.ms.result - c.month_window-start.result.0 ≡ c.args.from - month_start c.number.result = cc in
      short_ms (month_start c.number.result) (month_end c.number.result) c.args.from _
      (month_short c.number.result)
      (subst (λ k. IsInMonth k c.args.from) (sym c.number.ensures.number) c.month_of-month.ensures.within).not_over
      same

pub invariant_of-self : goal.invariant_of-self
invariant_of-self c =
    let same : c.ms.result - c.month_window-start.result.0 ≡ c.args.from - month_start c.number.result = cc in
    let short = short_ms (month_start c.number.result) (month_end c.number.result) c.args.from _
    (month_short c.number.result)
    (subst (λ k. IsInMonth k c.args.from) (sym c.number.ensures.number) c.month_of-month.ensures.within).not_over
    same in
    let b = ap (λ (t : Totals). t.booked) c.self.view_is in let few : c.self.inside.booked < most_bookings = omega (arith, b, c.requires.few) in
    bounded_begun c.self.inside.rows c.book.new.self c.self.inside.booked c.args.lines.now c.number.result
    (c.ms.result - c.month_window-start.result.0) c.self.invariant few c.requires.billed short (subst (λ n. IsBooked c.self.inside.rows c.book.new.self c.args.lines.now c.number.result n) c.running_each.ensures c.book.ensures)

pub returns-clause-stands : goal.returns-clause-stands
returns-clause-stands c book stands =
    let same : c.ms.result - c.month_window-start.result.0 ≡ c.args.from - month_start c.number.result = cc in
    stands_opened (record { rows = c.self.inside.rows; booked = c.self.inside.booked })
    (record { rows = c.book.new.self; booked = c.self.inside.booked + 1 }) book c.args.lines.now c.number.result
    c.args.from
    (subst (λ k. IsInMonth k c.args.from) (sym c.number.ensures.number) c.month_of-month.ensures.within)
    (subst (λ n. IsBooked c.self.inside.rows c.book.new.self c.args.lines.now c.number.result n) (c.running_each.ensures ∙ ap running_each same) c.book.ensures) (subst (λ (t : Totals). AreTotalsOf t book) (sym c.self.view_is) stands)
