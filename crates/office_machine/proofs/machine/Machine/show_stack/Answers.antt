use Rattle.std.proofs.Common.{inl, sym, subst}
use Rattle.std.specs.Prelude.{Result}
use Rattle.due_core.specs.Buckets.{BucketRecord}
use Rattle.office_types.specs.declared.reply.Reply.{Reply}
use Rattle.office_types.specs.declared.refusal.Refusal.{Refusal}
use Rattle.plain_office.specs.Answers.{stack_told}
use Rattle.office_machine.specs.AnswerParts.{IsAnswer}
use Rattle.office_machine.proofs.Offices.{stack_none, shows_stack}
use Rattle.office_machine.proofs.Seen.{seen_stands}
use Rattle.office_machine.proofs.machine.Machine.show_stack.Goals as goal

pub returns-in-Some-clause-reply : goal.returns-in-Some-clause-reply
returns-in-Some-clause-reply c = λ t p stands.
    let stood = seen_stands c.self.view_is stands in
    let is = shows_stack _ p stood c.args.name.now c.in-Some.account.now (sym c.in-Some.ensures.value) t c.args.key.now in
    subst (λ (expected : Result Reply Refusal). IsAnswer expected c.stack_of.result) (sym is)
    (subst (λ (bucket : BucketRecord). IsAnswer (stack_told c.args.key.now bucket) c.stack_of.result) c.bucket.ensures c.stack_of.ensures.reply)

pub returns-in-None-clause-reply : goal.returns-in-None-clause-reply
returns-in-None-clause-reply c = λ t p stands.
    let stood = seen_stands c.self.view_is stands in
    inl (sym (stack_none _ p stood c.args.name.now t c.args.key.now (sym c.in-None.ensures.value)))
