use Rattle.std.proofs.Common.{List, ◌∷◌, [], ap, ◌∙◌, subst}
use Rattle.std.specs.Prelude.{Result, Ok, Err}
use Rattle.due_core.specs.Buckets.{BucketRecord}
use Rattle.office_base.specs.Tags.{Tag}
use Rattle.stacks.specs.declared.version.Kind.TheVariants.{Object}
use Rattle.plain_office.specs.Changes.{next_id, add_version}
use Rattle.plain_office.specs.Step.{put_object}
use Rattle.office_types.specs.declared.reply.Reply.TheVariants.{Stored}
use Rattle.office_types.specs.declared.refusal.Refusal.{Refusal}
use Rattle.office_types.specs.declared.refusal.What.{What}
use Rattle.office_types.specs.declared.refusal.What.TheVariants.{Versions, Names}
use Rattle.bucket_account.specs.declared.change.Done.{Done}
use Rattle.bucket_account.specs.Changing.{DoesTold}
use Rattle.bucket_account.specs.Counting.{account_of}
use Rattle.bucket_account.specs.Effects.{DoesEffect}
use Rattle.bucket_account.proofs.Doing.{ready_at, told_done, told_refused}
use Rattle.bucket_account.proofs.Handed.{err_of}
use Rattle.bucket_account.proofs.put.put.Goals as goal

pub add_version-requires-clause-account : goal.add_version-requires-clause-account
add_version-requires-clause-account c =
    (c.requires.account.0, c.requires.account.1, ready_at c.args.key.now c.args.t c.requires.account.0 c.requires.account.2)

pub returns-in_err-counts-clause-done : goal.returns-in_err-counts-clause-done
returns-in_err-counts-clause-done c = λ account stands orderly.
    let whats : List What = Versions ∷ Names ∷ [] in
    let after = account_of c.add_version.new.bucket c.add_version.new.meters in
    let done =
    subst (λ (tags : List Tag). DoesEffect whats (add_version c.args.key.now (Object c.args.size c.args.class tags c.args.t) c.args.t) account c.args.counts after (Err c.in_err-counts.field-0.0))
    c.in-Ok.ensures (c.in_err-counts.ensures.done account stands (ready_at c.args.key.now c.args.t account orderly)) in
    let told =
    told_refused whats (add_version c.args.key.now (Object c.args.size c.args.class c.args.tags.now c.args.t) c.args.t) account c.args.counts after
    (Stored c.args.t (next_id account.bucket)) c.in_err-counts.field-0.0 done in
    subst (λ (r : Result Done Refusal). DoesTold whats (put_object c.args.t c.args.key.now c.args.size c.args.class c.args.tags.now account) account c.args.counts after r)
    (err_of c.from_residual.result c.in_err-counts.field-0.0 c.from_residual.ensures.1) told

pub returns-clause-done : goal.returns-clause-done
returns-clause-done c = λ account stands orderly.
    let whats : List What = Versions ∷ Names ∷ [] in
    let after = account_of c.add_version.new.bucket c.add_version.new.meters in
    let id = c.id_of-version.ensures ∙ ap (λ (b : BucketRecord). next_id b) (c.bucket.view_is ∙ stands.bucket) in
    let done =
    subst (λ (tags : List Tag). DoesEffect whats (add_version c.args.key.now (Object c.args.size c.args.class tags c.args.t) c.args.t) account c.args.counts after (Ok c.in_ok-counts.counts))
    c.in-Ok.ensures (c.in_ok-counts.ensures.done account stands (ready_at c.args.key.now c.args.t account orderly)) in
    told_done whats (add_version c.args.key.now (Object c.args.size c.args.class c.args.tags.now c.args.t) c.args.t) account c.args.counts after
    (Stored c.args.t (next_id account.bucket)) (record { counts = c.in_ok-counts.counts; reply = Stored c.args.t c.id_of-version.result })
    (ap (Stored c.args.t) id) done
