use Rattle.std.proofs.Common.{◌≡◌, ◌-◌, ◌<◌, ◌≤◌, ℕ, subst, sym, ap, arith, ◌∙◌}
use Rattle.moments.specs.Months.{months, IsInMonth, month_start, month_end, month_at}
use Rattle.class_rules.specs.declared.billing.Lines.{Lines}
use Rattle.accrual.specs.Totals.{Totals, AreTotalsOf, HasRow, ms_within}
use Rattle.accrual.specs.declared.rows.Rows.{Rows}
use Rattle.accrual.specs.Rows.{HasRowIn, HasBooked, IsShort, IsBooked, IsEnded, running_each, arrived_each, departed_each}
use Rattle.accrual.proofs.Windows.{within_short, month_at_order, short_before, short_after}
use Rattle.accrual.proofs.Changes.{booked_at, row_kept, short_running, short_arrived, short_departed}
use Rattle.accrual.proofs.Bounds.{bounded_ended, covered_finished, modest_finished, modest_arrived}
use Rattle.accrual.proofs.Ending.{ended_stay_is}
use Rattle.accrual.proofs.Bookings.{stands_begun, stands_ended}
use Rattle.accrual.proofs.meters.Meters.end.Goals as goal

-- the rows of the first month and of the last one
row_of : (totals : Totals) (from at month k : ℕ) → month_at from ≤ month → month ≤ month_at at → ((month : ℕ) → month_at from ≤ month → month ≤ month_at at → HasRow totals month) → k ≡ month → HasRowIn totals.rows k
row_of totals from at month k after before rows is = subst (λ m. HasRowIn totals.rows m) (sym is) (rows month after before)

both_ended : (old mid new : Rows) (lines : Lines) (first last from at : ℕ) → IsInMonth first from → IsInMonth last at → from ≤ at → first < months → last < months
    → IsBooked old mid lines first (arrived_each (month_end first - from)) → IsBooked mid new lines last (departed_each (at - month_start last))
    → IsEnded old new lines (λ m. ms_within (month_start m) (month_end m) from at)
both_ended old mid new lines first last from at is is_last past among among_too a d =
    ended_stay_is old mid new lines first last from at is is_last past among among_too (short_after first from is) (short_before last at is_last) a d

pub unbook-requires-clause-row : goal.unbook-requires-clause-row
unbook-requires-clause-row c =
    row_of (record { rows = c.self.inside.rows; booked = c.self.inside.booked }) c.args.from c.args.at (month_at c.args.from) c.number.result (omega arith) (month_at_order c.args.from c.args.at c.requires.later)
    (λ month after before. subst (λ (t : Totals). HasRowIn t.rows month) (sym c.self.view_is) (c.requires.rows month after before)) (c.number.ensures.number ∙ c.month_of-first.ensures.month)

pub unbook-requires-clause-within : goal.unbook-requires-clause-within
unbook-requires-clause-within c =
    let lead : c.ms.result - c.month_window-start.result.0 ≡ c.args.from - month_start c.month_of-first.result = cc in
    let has = stands_begun (record { rows = c.self.inside.rows; booked = c.self.inside.booked }) c.requires.opened.0 c.args.lines.now c.month_of-first.result c.args.from c.month_of-first.ensures.within (subst (λ (t : Totals). AreTotalsOf t c.requires.opened.0) (sym c.self.view_is) c.requires.opened.1) c.requires.opened.2 in
    subst (λ n. HasBooked c.self.inside.rows c.args.lines.now c.number.result n) (sym (c.running_each.ensures ∙ ap running_each lead))
    (subst (λ k. HasBooked c.self.inside.rows c.args.lines.now k (running_each (c.args.from - month_start c.month_of-first.result))) (sym c.number.ensures.number) has)

pub unbook-requires-clause-short : goal.unbook-requires-clause-short
unbook-requires-clause-short c =
    let lead : c.ms.result - c.month_window-start.result.0 ≡ c.args.from - month_start c.month_of-first.result = cc in
    subst IsShort (sym (c.running_each.ensures ∙ ap running_each lead)) (short_running (c.args.from - month_start c.month_of-first.result) (short_before c.month_of-first.result c.args.from c.month_of-first.ensures.within))

pub book-requires-clause-row : goal.book-requires-clause-row
book-requires-clause-row c =
    row_kept c.self.inside.rows c.unbook.new.self c.number-2.result (sym c.unbook.ensures.first) (sym c.unbook.ensures.as_many)
    (row_of (record { rows = c.self.inside.rows; booked = c.self.inside.booked }) c.args.from c.args.at (month_at c.args.from) c.number-2.result (omega arith) (month_at_order c.args.from c.args.at c.requires.later)
    (λ month after before. subst (λ (t : Totals). HasRowIn t.rows month) (sym c.self.view_is) (c.requires.rows month after before)) (c.number-2.ensures.number ∙ c.month_of-first.ensures.month))

pub book-requires-clause-modest : goal.book-requires-clause-modest
book-requires-clause-modest c class =
    let lead : c.ms.result - c.month_window-start.result.0 ≡ c.args.from - month_start c.month_of-first.result = cc in
    let begun = booked_at c.month_of-first.result (running_each (c.args.from - month_start c.month_of-first.result)) c.number.ensures.number (c.running_each.ensures ∙ ap running_each lead) c.unbook.ensures in
    modest_finished c.self.inside.rows c.unbook.new.self c.self.inside.booked c.args.lines.now c.month_of-first.result (c.args.from - month_start c.month_of-first.result) c.number-2.result class c.self.invariant begun

pub book-requires-clause-short : goal.book-requires-clause-short
book-requires-clause-short c =
    let rest : c.month_window-start.result.1 - c.ms-2.result ≡ month_end c.month_of-first.result - c.args.from = cc in
    subst IsShort (sym (c.arrived_each.ensures ∙ ap arrived_each rest)) (short_arrived (month_end c.month_of-first.result - c.args.from) (short_after c.month_of-first.result c.args.from c.month_of-first.ensures.within))

pub book-requires-2-clause-row : goal.book-requires-2-clause-row
book-requires-2-clause-row c =
    row_kept c.unbook.new.self c.book.new.self c.number-3.result c.book.ensures.first c.book.ensures.as_many
    (row_kept c.self.inside.rows c.unbook.new.self c.number-3.result (sym c.unbook.ensures.first) (sym c.unbook.ensures.as_many)
    (row_of (record { rows = c.self.inside.rows; booked = c.self.inside.booked }) c.args.from c.args.at (month_at c.args.at) c.number-3.result (month_at_order c.args.from c.args.at c.requires.later) (omega arith)
    (λ month after before. subst (λ (t : Totals). HasRowIn t.rows month) (sym c.self.view_is) (c.requires.rows month after before)) (c.number-3.ensures.number ∙ c.month_of-last.ensures.month)))

pub book-requires-2-clause-modest : goal.book-requires-2-clause-modest
book-requires-2-clause-modest c class =
    let lead : c.ms.result - c.month_window-start.result.0 ≡ c.args.from - month_start c.month_of-first.result = cc in
    let rest : c.month_window-start.result.1 - c.ms-2.result ≡ month_end c.month_of-first.result - c.args.from = cc in
    let begun = booked_at c.month_of-first.result (running_each (c.args.from - month_start c.month_of-first.result)) c.number.ensures.number (c.running_each.ensures ∙ ap running_each lead) c.unbook.ensures in
    let arrived = booked_at c.month_of-first.result (arrived_each (month_end c.month_of-first.result - c.args.from)) c.number-2.ensures.number (c.arrived_each.ensures ∙ ap arrived_each rest) c.book.ensures in
    modest_arrived c.self.inside.rows c.unbook.new.self c.book.new.self c.self.inside.booked c.args.lines.now c.month_of-first.result (c.args.from - month_start c.month_of-first.result) c.month_of-first.result (month_end c.month_of-first.result - c.args.from) c.number-3.result class c.self.invariant c.requires.billed
    (short_after c.month_of-first.result c.args.from c.month_of-first.ensures.within) begun arrived

pub book-requires-2-clause-short : goal.book-requires-2-clause-short
book-requires-2-clause-short c =
    let tail : c.ms-3.result - c.month_window-start-2.result.0 ≡ c.args.at - month_start c.month_of-last.result = cc in
    subst IsShort (sym (c.departed_each.ensures ∙ ap departed_each tail)) (short_departed (c.args.at - month_start c.month_of-last.result) (short_before c.month_of-last.result c.args.at c.month_of-last.ensures.within))

pub invariant_of-self : goal.invariant_of-self
invariant_of-self c =
    let lead : c.ms.result - c.month_window-start.result.0 ≡ c.args.from - month_start c.month_of-first.result = cc in
    let rest : c.month_window-start.result.1 - c.ms-2.result ≡ month_end c.month_of-first.result - c.args.from = cc in
    let tail : c.ms-3.result - c.month_window-start-2.result.0 ≡ c.args.at - month_start c.month_of-last.result = cc in
    let begun = booked_at c.month_of-first.result (running_each (c.args.from - month_start c.month_of-first.result)) c.number.ensures.number (c.running_each.ensures ∙ ap running_each lead) c.unbook.ensures in
    let arrived = booked_at c.month_of-first.result (arrived_each (month_end c.month_of-first.result - c.args.from)) c.number-2.ensures.number (c.arrived_each.ensures ∙ ap arrived_each rest) c.book.ensures in
    let departed = booked_at c.month_of-last.result (departed_each (c.args.at - month_start c.month_of-last.result)) c.number-3.ensures.number (c.departed_each.ensures ∙ ap departed_each tail) c.book-2.ensures in
    let ended = both_ended c.unbook.new.self c.book.new.self c.book-2.new.self c.args.lines.now c.month_of-first.result c.month_of-last.result c.args.from c.args.at
    c.month_of-first.ensures.within c.month_of-last.ensures.within c.requires.later
    (omega (arith, c.number.ensures.number, c.number.ensures.among)) (omega (arith, c.number-3.ensures.number, c.number-3.ensures.among)) arrived departed in
    bounded_ended c.self.inside.rows c.unbook.new.self c.book-2.new.self c.self.inside.booked c.args.lines.now c.month_of-first.result (c.args.from - month_start c.month_of-first.result) (λ m. ms_within (month_start m) (month_end m) c.args.from c.args.at)
    c.self.invariant (omega (arith, c.number.ensures.number, c.number.ensures.among)) (λ m. within_short m c.args.from c.args.at) begun ended

pub returns-clause-stands : goal.returns-clause-stands
returns-clause-stands c book before after stands split =
    let lead : c.ms.result - c.month_window-start.result.0 ≡ c.args.from - month_start c.month_of-first.result = cc in
    let rest : c.month_window-start.result.1 - c.ms-2.result ≡ month_end c.month_of-first.result - c.args.from = cc in
    let tail : c.ms-3.result - c.month_window-start-2.result.0 ≡ c.args.at - month_start c.month_of-last.result = cc in
    let begun = booked_at c.month_of-first.result (running_each (c.args.from - month_start c.month_of-first.result)) c.number.ensures.number (c.running_each.ensures ∙ ap running_each lead) c.unbook.ensures in
    let arrived = booked_at c.month_of-first.result (arrived_each (month_end c.month_of-first.result - c.args.from)) c.number-2.ensures.number (c.arrived_each.ensures ∙ ap arrived_each rest) c.book.ensures in
    let departed = booked_at c.month_of-last.result (departed_each (c.args.at - month_start c.month_of-last.result)) c.number-3.ensures.number (c.departed_each.ensures ∙ ap departed_each tail) c.book-2.ensures in
    let ended = both_ended c.unbook.new.self c.book.new.self c.book-2.new.self c.args.lines.now c.month_of-first.result c.month_of-last.result c.args.from c.args.at
    c.month_of-first.ensures.within c.month_of-last.ensures.within c.requires.later
    (omega (arith, c.number.ensures.number, c.number.ensures.among)) (omega (arith, c.number-3.ensures.number, c.number-3.ensures.among)) arrived departed in
    stands_ended (record { rows = c.self.inside.rows; booked = c.self.inside.booked })
    (record { rows = c.unbook.new.self; booked = c.self.inside.booked })
    (record { rows = c.book-2.new.self; booked = c.self.inside.booked }) book before after c.args.lines.now
    c.month_of-first.result c.args.from c.args.at c.month_of-first.ensures.within begun ended
    (covered_finished c.self.inside.rows c.unbook.new.self c.self.inside.booked c.args.lines.now c.month_of-first.result (c.args.from - month_start c.month_of-first.result) c.self.invariant begun)
    (subst (λ (t : Totals). AreTotalsOf t book) (sym c.self.view_is) stands) split
