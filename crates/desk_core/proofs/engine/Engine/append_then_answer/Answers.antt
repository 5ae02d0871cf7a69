use Rattle.std.proofs.Common.{◌≡◌, ℕ, Ok, ◌+◌, sym, subst, length, IsTrue}
use Rattle.disk_core.specs.Tallies.{IsDurable}
use Rattle.meter_journal.specs.History.{IsAtRest}
use Rattle.desk_core.specs.Answering.{AddsOrNot}
use Rattle.desk_core.specs.Desk.{DeskView}
use Rattle.desk_core.proofs.Adding.{end_by}
use Rattle.desk_core.proofs.engine.Engine.append_then_answer.Goals as goal

pub returns-in-Ok-clause-adds : goal.returns-in-Ok-clause-adds
returns-in-Ok-clause-adds g c before e fits spelled end rest =
    let d = g.D.Disk in
    let inner : IsTrue d.honest → _ = λ tells. subst (λ (s : DeskView g.row.D.Denot g.row.C.Denot). IsAtRest before.head (d.state s.disk) s.gate before.entries) (sym c.self.view_is) (rest tells) in
    let place = subst (λ (s : DeskView g.row.D.Denot g.row.C.Denot). (c.in-Ok.field-0 ≡ c.append.new.self.gate)
    × (c.in-Ok.field-0 ≡ s.gate + 5 + length c.args.bytes.now)) c.self.view_is c.in-Ok.ensures.place in (
      subst (λ (t : ℕ). c.answer.result ≡ record {
        moment = t;
        told = c.args.told;
        reply = Ok c.args.reply;
        position = c.append.new.self.gate;
        disk_moment = d.moment c.append.new.self.disk;
      }) c.ms.ensures.same c.answer.ensures,
      end_by c.args.self.now.gate c.append.new.self.gate c.in-Ok.field-0 c.args.bytes.now before e end spelled place,
      λ tells. (
        c.in-Ok.ensures.acknowledged tells before.head before.entries e fits spelled (inner tells),
        subst (λ (s : DeskView g.row.D.Denot g.row.C.Denot). AddsOrNot d before e s.disk c.append.new.self.disk) c.self.view_is
            (c.in-Ok.ensures.any_moment tells before.head before.entries e fits spelled (inner tells)),
      ),
      subst (λ (s : DeskView g.row.D.Denot g.row.C.Denot). IsDurable (d.tally s.disk) (d.tally c.append.new.self.disk)) c.self.view_is c.in-Ok.ensures.durable,
      subst (λ (s : DeskView g.row.D.Denot g.row.C.Denot). d.fault_count c.append.new.self.disk ≡ d.fault_count s.disk) c.self.view_is
          (c.in-Ok.ensures.quiet (λ is. absurd cc)),
    )
