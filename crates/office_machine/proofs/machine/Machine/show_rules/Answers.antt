use Rattle.std.proofs.Common.{inl, sym, subst}
use Rattle.std.specs.Prelude.{Result}
use Rattle.due_core.specs.Buckets.{BucketRecord}
use Rattle.office_types.specs.declared.reply.Reply.{Reply}
use Rattle.office_types.specs.declared.refusal.Refusal.{Refusal}
use Rattle.plain_office.specs.Answers.{rules_told}
use Rattle.office_machine.specs.AnswerParts.{IsAnswer}
use Rattle.office_machine.proofs.Offices.{rules_none, shows_rules}
use Rattle.office_machine.proofs.Seen.{seen_stands}
use Rattle.office_machine.proofs.machine.Machine.show_rules.Goals as goal

pub returns-in-Some-clause-reply : goal.returns-in-Some-clause-reply
returns-in-Some-clause-reply c = λ t p stands.
    let stood = seen_stands c.self.view_is stands in
    let is = shows_rules _ p stood c.args.name.now c.in-Some.account.now (sym c.in-Some.ensures.value) t in
    subst (λ (expected : Result Reply Refusal). IsAnswer expected c.rules_of.result) (sym is)
    (subst (λ (bucket : BucketRecord). IsAnswer (rules_told bucket) c.rules_of.result) c.bucket.ensures c.rules_of.ensures.reply)

pub returns-in-None-clause-reply : goal.returns-in-None-clause-reply
returns-in-None-clause-reply c = λ t p stands.
    let stood = seen_stands c.self.view_is stands in
    inl (sym (rules_none _ p stood c.args.name.now t (sym c.in-None.ensures.value)))
