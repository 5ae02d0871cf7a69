use Rattle.std.proofs.Common.{◌≡◌, ◌≤◌, ◌<◌, ◌+◌, ◌-◌, ◌*◌, ℕ, subst, sym, ap, arith, ◌∙◌, refl}
use Rattle.std.specs.Prelude.{◌^◌, min}
use Rattle.accrual.specs.declared.rows.Numbers.{Numbers}
use Rattle.accrual.specs.declared.rows.Rows.{Rows}
use Rattle.moments.specs.Months.{month_start, month_end}
use Rattle.class_rules.specs.Classes.{rank_of}
use Rattle.class_rules.specs.declared.class.Class.{Class}
use Rattle.accrual.specs.Totals.{Totals, AreTotalsOf}
use Rattle.accrual.specs.Rows.{kept_in, running_to, ended_in}
use Rattle.accrual.specs.Bounds.{IsBounded}
use Rattle.accrual.proofs.Windows.{month_short}
use Rattle.accrual.proofs.Bounds.{all_used, counted_for}
use Rattle.accrual.proofs.Sums.{meter_is}
use Rattle.accrual.proofs.meters.Meters.reading.Goals as goal

short_ms : (start end t ms : ℕ) → end ≤ start + 2_678_400_000 → ms ≡ min t end - start → ms < 2 ^ 32
short_ms start end t ms short is = omega (arith, short, is)

-- the bytes for the part of a month that is over are no more than they are for 2 ^ 32 milliseconds
for_a_month : (bytes month t ms : ℕ) → ms ≡ min t (month_end month) - month_start month → bytes * ms ≤ bytes * 2 ^ 32
for_a_month bytes month t ms is = counted_for bytes ms (short_ms (month_start month) (month_end month) t ms (month_short month) is)

used_by : (k kept : Numbers) (before b ended e : ℕ) → kept ≡ k → before ≡ b → ended ≡ e → e + (b + k.running) * 2 ^ 32 < 2 ^ 121 → ended + (before + kept.running) * 2 ^ 32 < 2 ^ 121
used_by k kept before b ended e is_kept is_before is_ended used = rw (is_kept, is_before, is_ended) used

-- what is kept of the month, and the bytes that run before it, each read by the month's number
kept_now : {kept : Numbers} {number : ℕ} (rows : Rows) (rank month : ℕ) → kept ≡ kept_in rows number rank → number ≡ month → kept ≡ kept_in rows month rank
kept_now rows rank month is same = is ∙ ap (λ n. kept_in rows n rank) same

before_now : {before number : ℕ} (rows : Rows) (rank month : ℕ) → before ≡ running_to rows rank number → number ≡ month → before ≡ running_to rows rank month
before_now rows rank month is same = is ∙ ap (λ n. running_to rows rank n) same

all_small : {kept : Numbers} {before number other ended : ℕ} (rows : Rows) (booked month : ℕ) (class : Class) → IsBounded rows booked
    → kept ≡ kept_in rows number (rank_of class) → number ≡ month → before ≡ running_to rows (rank_of class) other → other ≡ month → ended ≡ ended_in rows month (rank_of class)
    → ended + (before + kept.running) * 2 ^ 32 < 2 ^ 121
all_small rows booked month class bounded here same earlier same_too is_ended =
    used_by _ _ _ _ _ _ (kept_now rows (rank_of class) month here same) (before_now rows (rank_of class) month earlier same_too) is_ended
    (all_used rows booked month class bounded)

-- before the call that reads what has ended
bytes_small : {kept : Numbers} {before number other : ℕ} (rows : Rows) (booked month : ℕ) (class : Class) → IsBounded rows booked
    → kept ≡ kept_in rows number (rank_of class) → number ≡ month → before ≡ running_to rows (rank_of class) other → other ≡ month
    → (before + kept.running) * 2 ^ 32 < 2 ^ 121
bytes_small rows booked month class bounded here same earlier same_too =
    let a = all_small rows booked month class bounded here same earlier same_too refl in
    omega (arith, a)

pub overflow_add-bytes : goal.overflow_add-bytes
overflow_add-bytes c =
    let all = bytes_small c.self.inside.rows c.self.inside.booked c.args.month c.args.class c.self.invariant
    c.kept-kept.ensures c.number.ensures.number c.before-sums.ensures.running c.number-2.ensures.number in
    omega (arith, all)

pub overflow_mul-bytes : goal.overflow_mul-bytes
overflow_mul-bytes c =
    let all = all_small c.self.inside.rows c.self.inside.booked c.args.month c.args.class c.self.invariant
    c.kept-kept.ensures c.number.ensures.number c.before-sums.ensures.running c.number-2.ensures.number c.ended.ensures in
    let p = for_a_month (c.before-sums.result.running + c.kept-kept.result.running) c.args.month c.args.t c.saturating_sub-ms.result cc in
    omega (arith, all, p)

pub overflow_add-result : goal.overflow_add-result
overflow_add-result c =
    let all = all_small c.self.inside.rows c.self.inside.booked c.args.month c.args.class c.self.invariant
    c.kept-kept.ensures c.number.ensures.number c.before-sums.ensures.running c.number-2.ensures.number c.ended.ensures in
    let p = for_a_month (c.before-sums.result.running + c.kept-kept.result.running) c.args.month c.args.t c.saturating_sub-ms.result cc in
    let s = c.saturating_sub.ensures in
    omega (arith, all, p, s)

by_kept : (k kept : Numbers) (before b ms w rest ended now : ℕ) → kept ≡ k → before ≡ b → ms ≡ w → rest ≡ (before + kept.running) * ms - kept.lead → ended ≡ now
    → ended + rest ≡ now + ((b + k.running) * w - k.lead)
by_kept k kept before b ms w rest ended now e f g h i = cc

pub returns-clause-exact : goal.returns-clause-exact
returns-clause-exact c book stands by =
    let here = kept_now c.self.inside.rows (rank_of c.args.class) c.args.month c.kept-kept.ensures c.number.ensures.number in
    let earlier = before_now c.self.inside.rows (rank_of c.args.class) c.args.month c.before-sums.ensures.running c.number-2.ensures.number in
    let ms : c.saturating_sub-ms.result ≡ min c.args.t (month_end c.args.month) - month_start c.args.month = cc in
    by_kept _ _ _ _ _ _ _ _ _ here earlier ms c.saturating_sub.ensures c.ended.ensures
    ∙ sym (meter_is (record { rows = c.self.inside.rows; booked = c.self.inside.booked }) book c.args.month c.args.class
    c.args.t (subst (λ (t : Totals). AreTotalsOf t book) (sym c.self.view_is) stands) by)

pub returns-clause-small : goal.returns-clause-small
returns-clause-small c =
    let all = all_small c.self.inside.rows c.self.inside.booked c.args.month c.args.class c.self.invariant
    c.kept-kept.ensures c.number.ensures.number c.before-sums.ensures.running c.number-2.ensures.number c.ended.ensures in
    let p = for_a_month (c.before-sums.result.running + c.kept-kept.result.running) c.args.month c.args.t c.saturating_sub-ms.result cc in
    let s = c.saturating_sub.ensures in
    omega (arith, all, p, s)
