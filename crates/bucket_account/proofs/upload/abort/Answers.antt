use Rattle.std.proofs.Common.{◌≡◌, [], true, sym, ◌∙◌, subst}
use Rattle.std.specs.Prelude.{Result, is_some}
use Rattle.due_core.specs.Buckets.{BucketRecord}
use Rattle.office_base.specs.Maps.{at_number}
use Rattle.plain_office.specs.Step.{abort}
use Rattle.office_types.specs.declared.refusal.Refusal.{Refusal}
use Rattle.bucket_account.specs.declared.change.Done.{Done}
use Rattle.bucket_account.specs.Changing.{DoesTold}
use Rattle.bucket_account.specs.Counting.{account_of}
use Rattle.bucket_account.proofs.Handed.{err_of}
use Rattle.bucket_account.proofs.Started.{upload_ready_at, abort_done, abort_refused}
use Rattle.bucket_account.proofs.upload.abort.Goals as goal

pub remove_upload-requires-clause-account : goal.remove_upload-requires-clause-account
remove_upload-requires-clause-account c =
    let a = c.requires.account in (a.0, a.1, upload_ready_at c.args.upload c.args.t a.0 a.2)

pub returns-in_err-counts-clause-done : goal.returns-in_err-counts-clause-done
returns-in_err-counts-clause-done c = λ account stands orderly.
    let some =
    subst (λ (b : BucketRecord). is_some (at_number c.args.upload b.uploads) ≡ true) (c.bucket.view_is ∙ stands.bucket) (sym c.contains_key.ensures ∙ c.if-not-contains_key.false) in
    let after = account_of c.remove_upload.new.bucket c.remove_upload.new.meters in
    subst (λ (r : Result Done Refusal). DoesTold [] (abort c.args.t c.args.upload account) account c.args.counts after r)
    (err_of c.from_residual.result c.in_err-counts.field-0.0 c.from_residual.ensures.1)
    (abort_refused c.args.upload c.args.t account c.args.counts after c.in_err-counts.field-0.0 some
    (c.in_err-counts.ensures.done account stands (upload_ready_at c.args.upload c.args.t account orderly)))

pub returns-clause-done : goal.returns-clause-done
returns-clause-done c = λ account stands orderly.
    let some =
    subst (λ (b : BucketRecord). is_some (at_number c.args.upload b.uploads) ≡ true) (c.bucket.view_is ∙ stands.bucket) (sym c.contains_key.ensures ∙ c.if-not-contains_key.false) in
    abort_done c.args.upload c.args.t account c.args.counts (account_of c.remove_upload.new.bucket c.remove_upload.new.meters) c.in_ok-counts.counts some
    (c.in_ok-counts.ensures.done account stands (upload_ready_at c.args.upload c.args.t account orderly))
