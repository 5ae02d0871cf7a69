use Rattle.std.proofs.Common.{◌≡◌, ◌∙◌, ◌≤◌, ℕ, pos, arith, w16, to_z}
use Rattle.std.proofs.lemmas.Int.{ints}
use Rattle.jiff.specs.Types.{Date}
use Rattle.jiff.specs.Words.{epoch_day}
use Rattle.jiff_core.proofs.SignedLemmas.{signed_arith, signed_casts}
use Rattle.moments.specs.Months.{months, first_day, year_of, month_of_year}
use Rattle.moments.proofs.Calendar.{first_is, first_day_bound}
use Rattle.moments.proofs.month.days_before.Goals as goal

-- the day number of the month's first
found : (n : ℕ) (d : Date) → n ≤ months → d.year ≡ to_z w16 (year_of n) → d.month ≡ month_of_year n → d.day ≡ 1 → epoch_day d ≡ pos (first_day n)
found n d le year month first =
    let same : to_z w16 (year_of n) ≡ pos (year_of n) = omega (arith, signed_casts, le) in
    first_is d n (year ∙ same) month first

pub days_until-requires : goal.days_until-requires
days_until-requires c =
    let is = c.constant-first.ensures in
    let e = found c.args.number c.constant-first.result c.requires is.0 (omega (arith, ints, signed_casts, is)) (omega (arith, ints, is)) in
    omega (arith, signed_arith, e)

pub returns-clause-first : goal.returns-clause-first
returns-clause-first c =
    let is = c.constant-first.ensures in
    let e = found c.args.number c.constant-first.result c.requires is.0 (omega (arith, ints, signed_casts, is)) (omega (arith, ints, is)) in
    omega (arith, ints, e, c.days_until.ensures)

pub returns-clause-bound : goal.returns-clause-bound
returns-clause-bound c = omega (arith, returns-clause-first c, first_day_bound c.args.number c.requires)
