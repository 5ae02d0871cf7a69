use Rattle.std.proofs.Common.{◌≡◌, drop}
use Rattle.tariff.specs.Prices.{Prices}
use Rattle.restorable.specs.Tests.{rise_from}
use Rattle.restorable.proofs.months.do_tariffs_rise.Given as goal

abbrev pub invariant-loop-tariff : goal.invariant-loop-tariff
invariant-loop-tariff l = rise_from (λ (t : Prices). t.from) l.least (drop l.tariff-index l.tariffs) ≡ rise_from (λ (t : Prices). t.from) 0 l.tariffs
