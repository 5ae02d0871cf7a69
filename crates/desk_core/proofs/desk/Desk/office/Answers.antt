use Rattle.std.proofs.Common.{◌≡◌, ◌∙◌, false, ap, arith}
use Rattle.office_machine.specs.Once.{OfficeView}
use Rattle.desk_core.specs.Desk.{DeskView}
use Rattle.desk_core.proofs.Counted.{counted_few}
use Rattle.desk_core.proofs.desk.Desk.office.Goals as goal

pub returns-clause-few : goal.returns-clause-few
returns-clause-few g c =
    let desk = c.self.inside.engine in
    let S : Type 0 = DeskView g.row.D.Denot g.row.C.Denot in
    let fresh : desk.stale ≡ false = ap (λ (s : S). s.stale) c.self.view_is ∙ c.requires.fresh in
    let ready = c.self.invariant.0 fresh in
    omega (
      arith,
      ap (λ (v : OfficeView). v.records.accepted) c.office.ensures,
      counted_few ready.tail.head ready.tail.entries desk.office desk.gate ready.holds.office ready.holds.end ready.holds.small,
    )
