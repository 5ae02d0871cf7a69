use Rattle.std.proofs.Common.{◌≡◌, true, subst, arith}
use Rattle.checkpoint.specs.Parts.{tariff_format}
use Rattle.checkpoint.proofs.TariffRanges.{tariff_has, when_ok}
use Rattle.checkpoint.proofs.record_writers.put_tariff.Goals as goal

pub returns-clause-has : goal.returns-clause-has
returns-clause-has c =
    let t = c.tariff.inside in
    let has = tariff_has t.from t.storage t.transition c.in_ok-put_month.ensures.has (omega arith) c.in_ok-put_storage.ensures.are (omega arith) c.tariff.invariant in
    when_ok c.put_prices.result (subst (λ tariff. tariff_format.has tariff ≡ true) c.tariff.view_is has)
