use Rattle.std.proofs.Common.{◌≡◌, drop}
use Rattle.tariff.specs.Prices.{rise_from}
use Rattle.tariff.proofs.tiers.rise.Given as goal

abbrev pub invariant-loop-i : goal.invariant-loop-i
invariant-loop-i l = rise_from 0 l.tiers ≡ rise_from l.above (drop l.i l.tiers)
