use Rattle.std.proofs.Common.{◌≡◌}
use Rattle.generator.specs.Working.{IsWork}
use Rattle.generator.proofs.generating.generate.Given as goal

abbrev pub invariant-making : goal.invariant-making
invariant-making l = IsWork l.work × (l.work.number ≡ l.number) × (l.work.place.made ≡ l._made)
