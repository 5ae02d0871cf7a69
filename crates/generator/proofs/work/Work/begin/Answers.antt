use Rattle.std.proofs.Common.{refl, ap, ◌∙◌}
use Rattle.generator.specs.declared.clock.PlaceClock.{PlaceClock}
use Rattle.generator.specs.declared.work.Work.{Work}
use Rattle.generator.proofs.Standing.{empty_fits}
use Rattle.generator.proofs.Works.{begun}
use Rattle.generator.proofs.work.Work.begin.Goals as goal

pub returns : goal.returns
returns c =
    let work : Work = record { number = c.args.number; desk = c.in_ok-desk.desk; place = c.before-2.result; answers = c.none.result; text = c.new-3.result } in
    let clock = c.in_ok-desk.ensures.clock in
    begun work c.args.number refl c.before-2.ensures c.none.ensures (c.in_ok-desk.ensures.holds refl (empty_fits _ c.new-disk.ensures.empty)) c.in_ok-desk.ensures.fresh
    (ap (λ (k : PlaceClock). k.number) clock ∙ c.new-2.ensures.number) (ap (λ (k : PlaceClock). k.place.made) clock ∙ c.new-2.ensures.made)
