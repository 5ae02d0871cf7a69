use Rattle.std.proofs.Common.{inl, sym, subst}
use Rattle.std.specs.Prelude.{Result}
use Rattle.due_core.specs.Buckets.{BucketRecord}
use Rattle.office_types.specs.declared.reply.Reply.{Reply}
use Rattle.office_types.specs.declared.refusal.Refusal.{Refusal}
use Rattle.plain_office.specs.Answers.{upload_told}
use Rattle.office_machine.specs.AnswerParts.{IsAnswer}
use Rattle.office_machine.proofs.Offices.{upload_none, shows_upload}
use Rattle.office_machine.proofs.Seen.{seen_stands}
use Rattle.office_machine.proofs.machine.Machine.show_upload.Goals as goal

pub returns-in-Some-clause-reply : goal.returns-in-Some-clause-reply
returns-in-Some-clause-reply c = λ t p stands.
    let stood = seen_stands c.self.view_is stands in
    let is = shows_upload _ p stood c.args.name.now c.in-Some.account.now (sym c.in-Some.ensures.value) t c.args.number in
    subst (λ (expected : Result Reply Refusal). IsAnswer expected c.upload_of.result) (sym is)
    (subst (λ (bucket : BucketRecord). IsAnswer (upload_told c.args.number bucket) c.upload_of.result) c.bucket.ensures c.upload_of.ensures.reply)

pub returns-in-None-clause-reply : goal.returns-in-None-clause-reply
returns-in-None-clause-reply c = λ t p stands.
    let stood = seen_stands c.self.view_is stands in
    inl (sym (upload_none _ p stood c.args.name.now t c.args.number (sym c.in-None.ensures.value)))
