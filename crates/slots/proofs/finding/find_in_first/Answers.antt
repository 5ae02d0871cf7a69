use Rattle.std.proofs.Common.{ℕ, Option, Some, None, ap, subst}
use Rattle.disk_core.specs.Files.{State}
use Rattle.slots.specs.Loading.{ReadGives, pair_in}
use Rattle.slots.proofs.Choosing.{first_before, second_alone}
use Rattle.slots.proofs.finding.find_in_first.Goals as goal

pub returns-in-Some-clause-exact : goal.returns-in-Some-clause-exact
returns-in-Some-clause-exact g c told =
    let slots = pair_in (g.D.Disk.state c.args.disk.now) in
    first_before c.args.zero c.args.one slots c.in-Some.value c.in-Some.position (c.requires.zero told) (c.requires.one told) c.requires.order
    (subst (λ (o : Option (g.row.B.Denot × ℕ)). ReadGives g.B.Body.spells o slots.slot0) c.in-Some.is (c.in-Ok.ensures.exact told))

pub returns-in-Some-read-clause-exact : goal.returns-in-Some-read-clause-exact
returns-in-Some-read-clause-exact g c told =
    let slots = pair_in (g.D.Disk.state c.args.disk.now) in
    let first_none = subst (λ (o : Option (g.row.B.Denot × ℕ)). ReadGives g.B.Body.spells o slots.slot0) c.in_default.is (c.in-Ok.ensures.exact told) in
    let mid = g.D.Disk.state c.slot_of.new.disk in
    let second = subst (λ (o : Option (g.row.B.Denot × ℕ)). ReadGives g.B.Body.spells o mid.slot1.seen) c.in-Some-read.is (c.in-Ok-slot_of.ensures.exact told) in
    let same = ap (λ (s : State). s.slot1.seen) (c.slot_of.ensures.untouched.files told).now in
    second_alone slots c.in-Some-read.value c.in-Some-read.position
    (subst (ReadGives g.B.Body.spells (Some (c.in-Some-read.value, c.in-Some-read.position))) same second) first_none

pub returns-in-None-clause-exact : goal.returns-in-None-clause-exact
returns-in-None-clause-exact g c told =
    let slots = pair_in (g.D.Disk.state c.args.disk.now) in
    let first_none = subst (λ (o : Option (g.row.B.Denot × ℕ)). ReadGives g.B.Body.spells o slots.slot0) c.in_default.is (c.in-Ok.ensures.exact told) in
    let mid = g.D.Disk.state c.slot_of.new.disk in
    let second = subst (λ (o : Option (g.row.B.Denot × ℕ)). ReadGives g.B.Body.spells o mid.slot1.seen) c.in-None.is (c.in-Ok-slot_of.ensures.exact told) in
    let same = ap (λ (s : State). s.slot1.seen) (c.slot_of.ensures.untouched.files told).now in
    record { slot0 = first_none; slot1 = subst (ReadGives g.B.Body.spells None) same second }
