use Rattle.std.proofs.Common.{◌≡◌, ◌+◌, ◌*◌, ◌/◌, ◌^◌, ◌≤◌, drop, true}
use Rattle.tariff.specs.Prices.{rise_from}
use Rattle.tariff.specs.Charges.{priced, parts_from}
use Rattle.tariff.proofs.charges.charge_through.Given as goal

-- the tiers that are left are charged on top of what is charged
abbrev pub invariant-loop-tier : goal.invariant-loop-tier
invariant-loop-tier l = record {
  begins : l.begin ≤ l.whole;
  small : l.charge ≤ l.begin * 2 ^ 32;
  rise : rise_from l.begin (drop l.tier-index l.tiers) ≡ true;
  amount : l.charge + priced (parts_from l.begin l.unit (l.whole * l.unit + l.rest) (drop l.tier-index l.tiers)) / l.unit
      ≡ priced (parts_from 0 l.unit (l.whole * l.unit + l.rest) l.tiers) / l.unit;
}
