use Rattle.std.proofs.Common.{◌≡◌, ◌++◌, drop, filter}
use Rattle.std.specs.Prelude.{nat_lt}
use Rattle.tariff.specs.Prices.{Prices}
use Rattle.office_machine.proofs.tariffs.push_later.Given as goal

-- those that are left come after those that stand there
abbrev pub invariant-loop-other : goal.invariant-loop-other
invariant-loop-other l =
    l.all.items ++ filter (λ (other : Prices). nat_lt l.month other.from) (drop l.other-index l.others) ≡ l.initial.all.items ++ filter (λ (other : Prices). nat_lt l.month other.from) l.others
