-- Sums over the months before one.
use Rattle.std.proofs.Common.{◌≡◌, ◌≤◌, ◌+◌, ◌-◌, ◌*◌, ◌==◌, ℕ, suc, zero, length, false, refl, ap, sym, ◌∙◌, arith, subst, add-one, get_or}
use Rattle.std.specs.Prelude.{nat_lt, min, max, replicate, if◌then◌else◌}
use Rattle.std.proofs.lemmas.Bool.Decides.{nat_tests}
use Rattle.moments.specs.Months.{months, month_length}
use Rattle.class_rules.specs.Classes.{rank_of}
use Rattle.class_rules.specs.declared.class.Class.{Class}
use Rattle.class_rules.specs.declared.class.Class.TheVariants.{Standard, StandardIa, OnezoneIa, GlacierIr, Glacier, DeepArchive}
use Rattle.accrual.specs.declared.rows.Before.{Before}
use Rattle.accrual.specs.declared.rows.Numbers.{Numbers}
use Rattle.accrual.specs.declared.rows.Rows.{Rows}
use Rattle.accrual.specs.Rows.{nothing, kept_in, in_month, sum_to, arrived_to, departed_to, gross_in, excess_in, ended_in, IsBefore, AreBefore, none_before}
use Rattle.accrual.proofs.Cases.{by_less, by_same}
use Rattle.accrual.proofs.Places.{kept_before, kept_behind}

pub sum_more : (f : Numbers → ℕ) (rows : Rows) (rank n : ℕ) → sum_to f rows rank (n + 1) ≡ sum_to f rows rank n + f (kept_in rows n rank)
unfolding sum_to
sum_more f rows rank n = rw add-one refl

-- before the first row nothing is kept, and behind the last one
pub sum_none : (f : Numbers → ℕ) → f nothing ≡ 0 → (rows : Rows) (rank n : ℕ) → n ≤ rows.first → sum_to f rows rank n ≡ 0
unfolding sum_to
sum_none f z rows rank zero le = refl
sum_none f z rows rank (suc n) le =
    let a = sum_none f z rows rank n (omega (arith, le)) in
    let k : f (kept_in rows n rank) ≡ 0 = ap f (kept_before rows n rank (omega (arith, le))) ∙ z in
    omega (arith, a, k)

sum_behind : (f : Numbers → ℕ) → f nothing ≡ 0 → (rows : Rows) (rank end n : ℕ) → rows.first + length rows.rows.items ≤ end → sum_to f rows rank (end + n) ≡ sum_to f rows rank end
unfolding sum_to
sum_behind f z rows rank end zero le =
    let e : end + zero ≡ end = omega arith in
    rw e refl
sum_behind f z rows rank end (suc n) le =
    let e : end + suc n ≡ end + n + 1 = omega arith in
    let a = sum_behind f z rows rank end n le in
    let k : f (kept_in rows (end + n) rank) ≡ 0 = ap f (kept_behind rows (end + n) rank (omega (arith, le))) ∙ z in
    let m = sum_more f rows rank (end + n) in
    rw e (omega (arith, m, a, k))

pub sum_all : (f : Numbers → ℕ) → f nothing ≡ 0 → (rows : Rows) (rank end n : ℕ) → rows.first + length rows.rows.items ≤ end → end ≤ n → sum_to f rows rank n ≡ sum_to f rows rank end
sum_all f z rows rank end n le later =
    let e : end + (n - end) ≡ n = omega (arith, later) in
    subst (λ k. sum_to f rows rank k ≡ sum_to f rows rank end) e (sum_behind f z rows rank end (n - end) le)

pub sum_whole : (f : Numbers → ℕ) → f nothing ≡ 0 → (rows : Rows) (rank month earlier : ℕ)
    → min month (rows.first + length rows.rows.items) ≤ earlier → earlier ≤ max rows.first (min month (rows.first + length rows.rows.items))
    → sum_to f rows rank earlier ≡ sum_to f rows rank month
sum_whole f z rows rank month earlier from until =
    by_less month rows.first
    (λ less. sum_none f z rows rank earlier (omega (arith, until, less)) ∙ sym (sum_none f z rows rank month (omega (arith, less))))
    (λ more. by_less month (rows.first + length rows.rows.items)
    (λ inside. let e : earlier ≡ month = omega (arith, from, until, more, inside) in ap (λ n. sum_to f rows rank n) e)
    (λ behind.
    let e : earlier ≡ rows.first + length rows.rows.items = omega (arith, from, until, more, behind) in
    ap (λ n. sum_to f rows rank n) e
    ∙ sym (sum_all f z rows rank (rows.first + length rows.rows.items) month (omega arith) behind)))

-- ---- the three sums together

pub none_is : (rows : Rows) (rank n : ℕ) → n ≤ rows.first → IsBefore rows n rank none_before
none_is rows rank n le = record {
  running = sym (sum_none (λ kept. kept.running) refl rows rank n le);
  arrived = sym (sum_none (λ kept. kept.arrived) refl rows rank n le);
  departed = sym (sum_none (λ kept. kept.departed) refl rows rank n le);
}

pub past_is : (rows : Rows) (month rank : ℕ) (before : Before) (kept : Numbers) → kept ≡ kept_in rows month rank → IsBefore rows month rank before
    → IsBefore rows (month + 1) rank (record { running = before.running + kept.running; arrived = before.arrived + kept.arrived; departed = before.departed + kept.departed })
past_is rows month rank before kept is sums = record {
  running = let m = sum_more (λ kept. kept.running) rows rank month in let k = ap (λ (k : Numbers). k.running) is in let s = sums.running in omega (arith, m, k, s);
  arrived = let m = sum_more (λ kept. kept.arrived) rows rank month in let k = ap (λ (k : Numbers). k.arrived) is in let s = sums.arrived in omega (arith, m, k, s);
  departed = let m = sum_more (λ kept. kept.departed) rows rank month in let k = ap (λ (k : Numbers). k.departed) is in let s = sums.departed in omega (arith, m, k, s);
}

pub whole_is : (rows : Rows) (month earlier rank : ℕ) (before : Before)
    → min month (rows.first + length rows.rows.items) ≤ earlier → earlier ≤ max rows.first (min month (rows.first + length rows.rows.items))
    → IsBefore rows earlier rank before → IsBefore rows month rank before
whole_is rows month earlier rank before from until sums = record {
  running = sums.running ∙ sum_whole (λ kept. kept.running) refl rows rank month earlier from until;
  arrived = sums.arrived ∙ sum_whole (λ kept. kept.arrived) refl rows rank month earlier from until;
  departed = sums.departed ∙ sum_whole (λ kept. kept.departed) refl rows rank month earlier from until;
}

none_of : (class : Class) → get_or (replicate 6 none_before) (rank_of class) none_before ≡ none_before
none_of Standard = refl
none_of StandardIa = refl
none_of OnezoneIa = refl
none_of GlacierIr = refl
none_of Glacier = refl
none_of DeepArchive = refl

pub none_are : (rows : Rows) (n : ℕ) → n ≤ rows.first → AreBefore rows n (replicate 6 none_before)
none_are rows n le class = subst (λ (b : Before). IsBefore rows n (rank_of class) b) (sym (none_of class)) (none_is rows (rank_of class) n le)

-- ---- of other rows

same_place : (month n b : ℕ) → (if nat_lt month n then b else 0) + (if n == month then b else 0) ≡ (if nat_lt month (n + 1) then b else 0)
same_place month n b =
    by_less month n
    (λ less. grind (arith, nat_tests))
    (λ from. by_same n month (λ e. grind (arith, nat_tests)) (λ differs. grind (arith, nat_tests)))

-- so much was added in one month
pub sum_booked : (f : Numbers → ℕ) (old new : Rows) (rank month b n : ℕ) → ((m : ℕ) → f (kept_in new m rank) ≡ f (kept_in old m rank) + in_month month m b)
    → sum_to f new rank n ≡ sum_to f old rank n + (if nat_lt month n then b else 0)
unfolding sum_to
sum_booked f old new rank month b zero each = let f : nat_lt month 0 ≡ false = grind (arith, nat_tests) in rw f refl
sum_booked f old new rank month b (suc n) each =
    let a = sum_booked f old new rank month b n each in
    let e = each n in
    let x = sum_more f old rank n in
    let y = sum_more f new rank n in
    let p = same_place month n b in
    let s : suc n ≡ n + 1 = omega arith in
    rw s (omega (arith, a, e, x, y, p))

pub sum_same : (f : Numbers → ℕ) (old new : Rows) (rank n : ℕ) → ((m : ℕ) → f (kept_in new m rank) ≡ f (kept_in old m rank)) → sum_to f new rank n ≡ sum_to f old rank n
unfolding sum_to
sum_same f old new rank zero each = refl
sum_same f old new rank (suc n) each =
    let a = sum_same f old new rank n each in
    let e = each n in
    omega (arith, a, e)

sum_grows : (f : Numbers → ℕ) (rows : Rows) (rank n k : ℕ) → sum_to f rows rank n ≤ sum_to f rows rank (n + k)
sum_grows f rows rank n zero = let e : n + zero ≡ n = omega arith in rw e (omega arith)
sum_grows f rows rank n (suc k) =
    let e : n + suc k ≡ n + k + 1 = omega arith in
    let a = sum_grows f rows rank n k in
    let m = sum_more f rows rank (n + k) in
    rw e (omega (arith, a, m))

-- no months have more than all of them
pub sum_least : (f : Numbers → ℕ) → f nothing ≡ 0 → (rows : Rows) (rank n : ℕ) → rows.first + length rows.rows.items ≤ months → sum_to f rows rank n ≤ sum_to f rows rank months
sum_least f z rows rank n run =
    by_less n months
    (λ less. let e : n + (months - n) ≡ months = omega (arith, less) in subst (λ k. sum_to f rows rank n ≤ sum_to f rows rank k) e (sum_grows f rows rank n (months - n)))
    (λ more. let e = sum_all f z rows rank months n run more in omega (arith, e))

-- nor has one month
pub one_least : (f : Numbers → ℕ) → f nothing ≡ 0 → (rows : Rows) (rank n : ℕ) → rows.first + length rows.rows.items ≤ months → f (kept_in rows n rank) ≤ sum_to f rows rank months
one_least f z rows rank n run =
    let m = sum_more f rows rank n in
    let l = sum_least f z rows rank (n + 1) run in
    omega (arith, m, l)

pub sum_empty : (f : Numbers → ℕ) (rows : Rows) (rank n : ℕ) → ((month : ℕ) → f (kept_in rows month rank) ≡ 0) → sum_to f rows rank n ≡ 0
unfolding sum_to
sum_empty f rows rank zero empty = refl
sum_empty f rows rank (suc n) empty = let a = sum_empty f rows rank n empty in let e = empty n in omega (arith, a, e)

-- ---- the stays that have ended

pub gross_is : (rows : Rows) (month rank : ℕ) → gross_in rows month rank ≡ (kept_in rows month rank).edges + arrived_to rows rank month * month_length month
unfolding gross_in
gross_is rows month rank = refl

pub excess_is : (rows : Rows) (month rank : ℕ) → excess_in rows month rank ≡ (departed_to rows rank month + (kept_in rows month rank).departed) * month_length month
unfolding excess_in
excess_is rows month rank = ap (λ n. n * month_length month) (sum_more (λ kept. kept.departed) rows rank month)

pub ended_is : (rows : Rows) (month rank : ℕ) → ended_in rows month rank ≡ gross_in rows month rank - excess_in rows month rank
unfolding ended_in
ended_is rows month rank = refl

pub gross_same : (old new : Rows) (month rank : ℕ) → (kept_in new month rank).edges ≡ (kept_in old month rank).edges
    → ((m : ℕ) → (kept_in new m rank).arrived ≡ (kept_in old m rank).arrived) → gross_in new month rank ≡ gross_in old month rank
gross_same old new month rank edges arrived =
    let s = sum_same (λ kept. kept.arrived) old new rank month arrived in
    gross_is new month rank ∙ (ap (λ n. n + arrived_to new rank month * month_length month) edges ∙ (ap (λ n. (kept_in old month rank).edges + n * month_length month) s ∙ sym (gross_is old month rank)))

pub excess_same : (old new : Rows) (month rank : ℕ) → ((m : ℕ) → (kept_in new m rank).departed ≡ (kept_in old m rank).departed) → excess_in new month rank ≡ excess_in old month rank
unfolding excess_in
excess_same old new month rank departed = ap (λ n. n * month_length month) (sum_same (λ kept. kept.departed) old new rank (month + 1) departed)

pub ended_same : (old new : Rows) (month rank : ℕ) → gross_in new month rank ≡ gross_in old month rank → excess_in new month rank ≡ excess_in old month rank → ended_in new month rank ≡ ended_in old month rank
unfolding ended_in
ended_same old new month rank g x = rw (g, x) refl

-- where no ended stay arrived or departed
pub ended_plain : (rows : Rows) (month rank : ℕ) → ((m : ℕ) → (kept_in rows m rank).arrived ≡ 0) → ((m : ℕ) → (kept_in rows m rank).departed ≡ 0)
    → (gross_in rows month rank ≡ (kept_in rows month rank).edges) × (excess_in rows month rank ≡ 0)
unfolding excess_in
ended_plain rows month rank arrived departed =
    let a = sum_empty (λ kept. kept.arrived) rows rank month arrived in
    let d = sum_empty (λ kept. kept.departed) rows rank (month + 1) departed in (
      gross_is rows month rank ∙ (ap (λ n. (kept_in rows month rank).edges + n * month_length month) a ∙ omega arith),
      ap (λ n. n * month_length month) d ∙ omega arith,
    )
