use Rattle.std.proofs.Common.{inl, sym, subst}
use Rattle.std.specs.Prelude.{Result}
use Rattle.office_types.specs.declared.reply.Reply.{Reply}
use Rattle.office_types.specs.declared.refusal.Refusal.{Refusal}
use Rattle.office_machine.specs.AnswerParts.{IsAnswer}
use Rattle.office_machine.proofs.Offices.{due_none, shows_due}
use Rattle.office_machine.proofs.Seen.{seen_stands}
use Rattle.office_machine.proofs.machine.Machine.show_due.Goals as goal

pub returns-in-Some-clause-reply : goal.returns-in-Some-clause-reply
returns-in-Some-clause-reply c = λ p stands.
    let stood = seen_stands c.self.view_is stands in
    let is = shows_due _ p stood c.args.name.now c.in-Some.account.now (sym c.in-Some.ensures.value) c.args.t in
    subst (λ (expected : Result Reply Refusal). IsAnswer expected c.due_of.result) (sym is) c.due_of.ensures.reply

pub returns-in-None-clause-reply : goal.returns-in-None-clause-reply
returns-in-None-clause-reply c = λ p stands.
    let stood = seen_stands c.self.view_is stands in
    inl (sym (due_none _ p stood c.args.name.now c.args.t (sym c.in-None.ensures.value)))
