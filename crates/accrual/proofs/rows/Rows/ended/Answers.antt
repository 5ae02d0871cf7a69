use Rattle.std.proofs.Common.{◌≡◌, ◌<◌, ◌+◌, ◌-◌, ℕ, ap, ◌∙◌, arith}
use Rattle.std.specs.Prelude.{◌^◌}
use Rattle.moments.specs.Months.{month_start, month_end, month_length}
use Rattle.class_rules.specs.Classes.{rank_of}
use Rattle.class_rules.specs.declared.class.Class.{Class}
use Rattle.accrual.specs.declared.rows.Before.{Before}
use Rattle.accrual.specs.declared.rows.Numbers.{Numbers}
use Rattle.accrual.specs.declared.rows.Rows.{Rows}
use Rattle.accrual.specs.Bounds.{IsBounded}
use Rattle.accrual.specs.Rows.{kept_in, IsBefore}
use Rattle.accrual.proofs.Windows.{month_short, month_order}
use Rattle.accrual.proofs.Bounds.{computed_fits, past_fits, EndedFits}
use Rattle.accrual.proofs.rows.Rows.ended.Goals as goal

pub overflow_sub-length : goal.overflow_sub-length
overflow_sub-length c =
    let o = month_order c.args.month in
    omega (arith, o, c.month_window-start.ensures.begins, c.month_window-start.ensures.ends)

short : (month : ℕ) → month_length month < 2 ^ 32
short month = let s = month_short month in omega (arith, s)

-- the numbers as they are read, by the month's number
fits : (rows : Rows) (booked month : ℕ) (class : Class) (kept : Numbers) (before : Before) (start end k : ℕ) → IsBounded rows booked
    → kept ≡ kept_in rows k (rank_of class) → IsBefore rows month (rank_of class) before → k ≡ month → start ≡ month_start month → end ≡ month_end month
    → EndedFits rows month (rank_of class) kept.edges before.arrived (before.departed + kept.departed) (end - start)
fits rows booked month class kept before start end k bounded is_kept sums is_k begins ends =
    computed_fits rows booked month class kept before (end - start) bounded (short month) (is_kept ∙ ap (λ m. kept_in rows m (rank_of class)) is_k) sums cc

pub overflow_mul-gross : goal.overflow_mul-gross
overflow_mul-gross c =
    let f = fits c.args.self.now c.requires.sound.0 c.args.month c.args.class c.kept-kept.result c.args.before c.month_window-start.result.0 c.month_window-start.result.1 c.number.result c.requires.sound.1 c.kept-kept.ensures c.requires.before c.number.ensures.number c.month_window-start.ensures.begins c.month_window-start.ensures.ends in
    omega (arith, f.arrivals)

pub overflow_add-gross : goal.overflow_add-gross
overflow_add-gross c =
    let f = fits c.args.self.now c.requires.sound.0 c.args.month c.args.class c.kept-kept.result c.args.before c.month_window-start.result.0 c.month_window-start.result.1 c.number.result c.requires.sound.1 c.kept-kept.ensures c.requires.before c.number.ensures.number c.month_window-start.ensures.begins c.month_window-start.ensures.ends in
    omega (arith, f.gross)

pub overflow_mul-result : goal.overflow_mul-result
overflow_mul-result c =
    let f = fits c.args.self.now c.requires.sound.0 c.args.month c.args.class c.kept-kept.result c.args.before c.month_window-start.result.0 c.month_window-start.result.1 c.number.result c.requires.sound.1 c.kept-kept.ensures c.requires.before c.number.ensures.number c.month_window-start.ensures.begins c.month_window-start.ensures.ends in
    omega (arith, f.departures)

pub overflow_sub-result : goal.overflow_sub-result
overflow_sub-result c =
    let f = fits c.args.self.now c.requires.sound.0 c.args.month c.args.class c.kept-kept.result c.args.before c.month_window-start.result.0 c.month_window-start.result.1 c.number.result c.requires.sound.1 c.kept-kept.ensures c.requires.before c.number.ensures.number c.month_window-start.ensures.begins c.month_window-start.ensures.ends in
    omega (arith, f.covered)

pub overflow_add-result : goal.overflow_add-result
overflow_add-result c =
    let f = past_fits c.args.self.now c.requires.sound.0 c.args.month c.args.class c.kept-kept.result c.args.before c.requires.sound.1
    (c.kept-kept.ensures ∙ ap (λ m. kept_in c.args.self.now m (rank_of c.args.class)) c.number.ensures.number) c.requires.before in
    omega (arith, f.departed)

pub returns : goal.returns
returns c =
    let f = fits c.args.self.now c.requires.sound.0 c.args.month c.args.class c.kept-kept.result c.args.before c.month_window-start.result.0 c.month_window-start.result.1 c.number.result c.requires.sound.1 c.kept-kept.ensures c.requires.before c.number.ensures.number c.month_window-start.ensures.begins c.month_window-start.ensures.ends in
    f.exact
