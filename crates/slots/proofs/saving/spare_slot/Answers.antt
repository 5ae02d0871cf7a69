use Rattle.std.proofs.Common.{Option, subst}
use Rattle.slots.specs.Loading.{FindGives, pair_in}
use Rattle.slots.specs.declared.finding.Found.{Found}
use Rattle.slots.proofs.Choosing.{spares_none, spares_other, spares_from}
use Rattle.slots.proofs.saving.spare_slot.Goals as goal

pub returns-in-None-clause-spares : goal.returns-in-None-clause-spares
returns-in-None-clause-spares g c told =
    let slots = pair_in (g.D.Disk.state c.args.disk.now) in
    spares_none slots (subst (λ (o : Option (Found g.row.B.Denot)). FindGives g.B.Body.spells o slots) c.in-None.is (c.in-Ok.ensures.exact told))

pub returns-in-Slot0-clause-spares : goal.returns-in-Slot0-clause-spares
returns-in-Slot0-clause-spares g c told =
    let slots = pair_in (g.D.Disk.state c.args.disk.now) in
    let is = subst (λ (o : Option (Found g.row.B.Denot)). FindGives g.B.Body.spells o slots) c.in-Some.is (c.in-Ok.ensures.exact told) in
    spares_other c.in-Some.found.file slots c.in-Some.found.value c.in-Some.found.position c.in-Slot0.is is

pub returns-clause-spares : goal.returns-clause-spares
returns-clause-spares g c told =
    let slots = pair_in (g.D.Disk.state c.args.disk.now) in
    let is = subst (λ (o : Option (Found g.row.B.Denot)). FindGives g.B.Body.spells o slots) c.in-Some.is (c.in-Ok.ensures.exact told) in
    spares_from c.in-Some.found.file slots c.in-Some.found.value c.in-Some.found.position c.in_default.not-Slot0 is
