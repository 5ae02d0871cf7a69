use Rattle.std.proofs.Common.{◌≡◌, ◌∙◌, ◌/◌, ◌≤◌, ℕ, ℤ, pos, ap, arith, w8, w16, w64, to_z, of_z, ◌+ℤ◌, ◌*ℤ◌}
use Rattle.std.specs.Prelude.{unsigned_abs, int_div}
use Rattle.std.proofs.lemmas.Int.{ints}
use Rattle.jiff.specs.Words.{epoch_day}
use Rattle.jiff.specs.Types.{Date}
use Rattle.jiff_core.proofs.SignedLemmas.{signed_arith, signed_casts}
use Rattle.moments.specs.Time.{day, end_of_time}
use Rattle.moments.proofs.Calendar.{date_is, year_between, days_of_ms, day_small}
use Rattle.moments.proofs.month.day_of.Goals as goal

-- the day number of the date that jiff gives
found : (ms : ℕ) (nanos : ℤ) (from d : Date) → ms ≤ end_of_time → epoch_day from ≡ pos 0 → nanos ≡ to_z w64 ms *ℤ pos 1_000_000
    → epoch_day d ≡ epoch_day from +ℤ int_div nanos (pos 86_400_000_000_000) → epoch_day d ≡ pos (ms / day)
found ms nanos from d le begins is_nanos moved =
    let small : to_z w64 ms ≡ pos ms = omega (arith, signed_casts, le) in
    let same : nanos ≡ pos ms *ℤ pos 1_000_000 = is_nanos ∙ ap (λ z. z *ℤ pos 1_000_000) small in
    let days : int_div nanos (pos 86_400_000_000_000) ≡ pos (ms / day) = ap (λ z. int_div z (pos 86_400_000_000_000)) same ∙ days_of_ms ms in
    omega (arith, signed_arith, moved, begins, days)

pub overflow_cast-result : goal.overflow_cast-result
overflow_cast-result c =
    let e = found c.args.ms _ c.epoch.result c.add-date.result c.requires c.epoch.ensures c.from_millis.ensures c.add-date.ensures in
    let b = year_between c.add-date.result (c.args.ms / day) e (omega (arith, c.requires)) in
    omega (arith, signed_casts, b, c.year.ensures)

pub returns : goal.returns
returns c =
    let d : Date = c.add-date.result in
    let le : c.args.ms / day ≤ 47_482 = omega (arith, c.requires) in
    let e : epoch_day d ≡ pos (c.args.ms / day) = found c.args.ms _ c.epoch.result d c.requires c.epoch.ensures c.from_millis.ensures c.add-date.ensures in
    let b = year_between d (c.args.ms / day) e le in
    let year : to_z w16 (of_z w16 c.year.result) ≡ d.year = omega (arith, signed_casts, b, c.year.ensures) in
    let month : unsigned_abs (to_z w8 (of_z w8 c.month.result)) ≡ d.month = omega (arith, ints, signed_casts, d.month_in, c.month.ensures) in
    let date : unsigned_abs (to_z w8 (of_z w8 c.day.result)) ≡ d.day = omega (arith, ints, signed_casts, day_small d, c.day.ensures) in
    rw (year, month, date) (date_is d (c.args.ms / day) e le)
