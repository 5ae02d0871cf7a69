use Rattle.std.proofs.Common.{sym, subst}
use Rattle.office_machine.specs.Once.{StandsFor}
use Rattle.desk_core.specs.Desk.{DeskView}
use Rattle.desk_core.proofs.Offices.{run_is}
use Rattle.desk_core.proofs.desk.Desk.look.Goals as goal

pub returns-clause-answered : goal.returns-clause-answered
returns-clause-answered g c plain stands =
    let P : Type 0 = DeskView g.row.D.Denot g.row.C.Denot in
    c.look.ensures.reads plain (subst (λ (s : P). StandsFor s.office plain) (sym c.self.view_is) stands)

pub returns-clause-own : goal.returns-clause-own
returns-clause-own g c history holds =
    let plain = holds.office.plain in
    record { plain = plain; is_run = run_is history holds.office.is_run; answered = returns-clause-answered g c plain holds.office.stands }

pub returns-clause-reads : goal.returns-clause-reads
returns-clause-reads g c opened calls stands =
    let held = stands.holds c.requires.fresh in
    (held.0, held.1, returns-clause-own g c held.0 held.2)
