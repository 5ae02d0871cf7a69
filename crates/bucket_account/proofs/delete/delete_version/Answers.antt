use Rattle.std.proofs.Common.{◌≡◌, List, [], refl, sym, ◌∙◌, subst}
use Rattle.std.specs.Prelude.{Result, Ok, Err, None}
use Rattle.due_core.specs.Buckets.{BucketRecord}
use Rattle.plain_office.specs.Changes.{remove_version}
use Rattle.plain_office.specs.Step.{Change, delete_version}
use Rattle.office_types.specs.declared.reply.Reply.TheVariants.{VersionDeleted}
use Rattle.office_types.specs.declared.refusal.Refusal.{Refusal}
use Rattle.office_types.specs.declared.refusal.What.{What}
use Rattle.bucket_account.specs.declared.change.Done.{Done}
use Rattle.bucket_account.specs.Booking.{missing}
use Rattle.bucket_account.specs.Changing.{DoesTold}
use Rattle.bucket_account.specs.Counting.{account_of}
use Rattle.bucket_account.proofs.Deletes.{goes}
use Rattle.bucket_account.proofs.Doing.{ready_at, told_done, told_refused}
use Rattle.bucket_account.proofs.Handed.{err_of}
use Rattle.bucket_account.proofs.delete.delete_version.Goals as goal

pub remove_version-requires-clause-account : goal.remove_version-requires-clause-account
remove_version-requires-clause-account c =
    (c.requires.account.0, c.requires.account.1, ready_at c.args.key.now c.args.t c.requires.account.0 c.requires.account.2)

pub returns-in_err-counts-clause-done : goal.returns-in_err-counts-clause-done
returns-in_err-counts-clause-done c = λ account stands orderly.
    let whats : List What = [] in
    let after = account_of c.remove_version.new.bucket c.remove_version.new.meters in
    let present = subst (λ (b : BucketRecord). missing c.args.key.now c.args.id.now b.stacks ≡ None) (c.bucket.view_is ∙ stands.bucket) (sym c.missing.ensures ∙ c.in_default.is) in
    let told =
    told_refused whats (remove_version c.args.key.now c.args.id.now c.args.t) account c.args.counts after (VersionDeleted c.args.id.now) c.in_err-counts.field-0.0
    (c.in_err-counts.ensures.done account stands (ready_at c.args.key.now c.args.t account orderly)) in
    subst (λ (r : Result Done Refusal). DoesTold whats (delete_version c.args.t c.args.key.now c.args.id.now account) account c.args.counts after r)
    (err_of c.from_residual.result c.in_err-counts.field-0.0 c.from_residual.ensures.1)
    (subst (λ (change : Change). DoesTold whats change account c.args.counts after (Err c.in_err-counts.field-0.0)) (sym (goes c.args.t c.args.key.now c.args.id.now account present)) told)

pub returns-clause-done : goal.returns-clause-done
returns-clause-done c = λ account stands orderly.
    let whats : List What = [] in
    let after = account_of c.remove_version.new.bucket c.remove_version.new.meters in
    let present = subst (λ (b : BucketRecord). missing c.args.key.now c.args.id.now b.stacks ≡ None) (c.bucket.view_is ∙ stands.bucket) (sym c.missing.ensures ∙ c.in_default.is) in
    let done : Done = record { counts = c.in_ok-counts.counts; reply = VersionDeleted c.args.id.now } in
    let told =
    told_done whats (remove_version c.args.key.now c.args.id.now c.args.t) account c.args.counts after (VersionDeleted c.args.id.now) done refl
    (c.in_ok-counts.ensures.done account stands (ready_at c.args.key.now c.args.t account orderly)) in
    subst (λ (change : Change). DoesTold whats change account c.args.counts after (Ok done)) (sym (goes c.args.t c.args.key.now c.args.id.now account present)) told
