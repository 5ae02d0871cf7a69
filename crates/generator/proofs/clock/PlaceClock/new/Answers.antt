use Rattle.std.proofs.Common.{ap, arith}
use Rattle.generator.specs.declared.place.Place.{Place}
use Rattle.generator.proofs.PlaceLemmas.{first_after}
use Rattle.generator.proofs.clock.PlaceClock.new.Goals as goal

pub invariant_of-result : goal.invariant_of-result
invariant_of-result c = record {
  stands = first_after c.args.number c.before-2.result c.before-2.ensures;
  within = omega (arith, ap (λ (p : Place). p.made) c.before-2.ensures);
}
