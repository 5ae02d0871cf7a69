use Rattle.std.proofs.Common.{◌≡◌, ℕ, drop}
use Rattle.tariff.specs.Prices.{Prices}
use Rattle.restorable.specs.Tests.{follow}
use Rattle.restorable.proofs.months.do_follow.Given as goal

abbrev pub invariant-loop-month : goal.invariant-loop-month
invariant-loop-month l = follow (λ (m : ℕ × Prices). m.0) l.next (drop l.month-index l.closed) ≡ follow (λ (m : ℕ × Prices). m.0) l.first l.closed
