use Rattle.std.proofs.Common.{sym, subst, arith}
use Rattle.plain_office.specs.Office.{Office}
use Rattle.office_machine.specs.Once.{OfficeView, StandsFor}
use Rattle.office_machine.proofs.Repeats.{plain_done, once_stands, accepted_more}
use Rattle.office_machine.proofs.office.Office.apply_plain.Goals as goal

pub invariant_of-self : goal.invariant_of-self
invariant_of-self c =
    let i = c.self.inside in
    let p : Office = c.self.invariant.office in
    let stands = c.self.invariant.stands in
    let done = plain_done c.args.t c.args.command.now p c.apply.new.self i.kept c.apply.result stands.kept (c.apply.ensures.step p stands.records) in
    let now = once_stands _ p _ c.apply.result done in
    let more = accepted_more c.apply.result i.machine.accepted in
    record { office = now.0; stands = now.1; free = c.self.invariant.free; few = omega (arith, more, c.apply.ensures.accepted, c.self.invariant.few) }

pub returns-clause-step : goal.returns-clause-step
returns-clause-step c = λ p stands.
    let stood = subst (λ (v : OfficeView). StandsFor v p) (sym c.self.view_is) stands in
    plain_done c.args.t c.args.command.now p c.apply.new.self c.self.inside.kept c.apply.result stood.kept (c.apply.ensures.step p stood.records)
