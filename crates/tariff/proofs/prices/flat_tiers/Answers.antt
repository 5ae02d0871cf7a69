use Rattle.std.proofs.Common.{refl}
use Rattle.tariff.proofs.SixPrices.{six_are}
use Rattle.tariff.proofs.prices.flat_tiers.Goals as goal

pub returns-clause-some : goal.returns-clause-some
returns-clause-some c =
    let six = six_are c.args.prices.now c.told-prices in
    let a = c.in_ok-a.ensures.some in
    let b = c.in_ok-b.ensures.some in
    let d = c.in_ok-c.ensures.some in
    let e = c.in_ok-d.ensures.some in
    let f = c.in_ok-e.ensures.some in
    let g = c.in_ok-f.ensures.some in
    (rw (six, a.0, b.0, d.0, e.0, f.0, g.0) refl, rw (six, a.1, b.1, d.1, e.1, f.1, g.1) refl)
