use Rattle.std.proofs.Common.{[], sym, ap, ◌∙◌, subst}
use Rattle.std.specs.Prelude.{IsSome}
use Rattle.office_base.specs.Maps.{at_number}
use Rattle.due_core.specs.Buckets.{BucketRecord}
use Rattle.due_core.specs.Choice.{choice}
use Rattle.plain_office.specs.Changes.{effect, remove_upload_at}
use Rattle.bucket_account.specs.Counting.{account_of}
use Rattle.bucket_account.proofs.Acting.{ready_upload, upload_there, is_abort, is_aborting, same_effect}
use Rattle.bucket_account.proofs.act.do_action.Goals as goal

pub remove_upload-requires-clause-account : goal.remove_upload-requires-clause-account
remove_upload-requires-clause-account c =
    let held = c.requires.account in
    let is = ap (λ (b : BucketRecord). choice b c.args.t) (sym held.1.bucket) ∙ c.requires.chosen in
    (held.0, held.1, ready_upload c.args.t held.0 held.2 c.args.action.now is c.in-Upload.number c.in-Upload.is)

pub remove_upload-requires-clause-there : goal.remove_upload-requires-clause-there
remove_upload-requires-clause-there c =
    let held = c.requires.account in
    let is = ap (λ (b : BucketRecord). choice b c.args.t) (sym held.1.bucket) ∙ c.requires.chosen in
    subst (λ (b : BucketRecord). IsSome (at_number c.in-Upload.number b.uploads)) (sym held.1.bucket)
    (upload_there c.args.t held.0 held.2 c.args.action.now is c.in-Upload.number c.in-Upload.is)

pub returns-in-Upload-clause-done : goal.returns-in-Upload-clause-done
returns-in-Upload-clause-done c = λ account stands orderly.
    let chosen = c.args.action.now in
    let is = ap (λ (b : BucketRecord). choice b c.args.t) (sym stands.bucket) ∙ c.requires.chosen in
    let aborts = is_abort c.args.t account orderly chosen is c.in-Upload.number c.in-Upload.is in
    same_effect [] (remove_upload_at c.in-Upload.number chosen.since) (effect chosen) account c.args.counts (account_of c.remove_upload.new.bucket c.remove_upload.new.meters) c.remove_upload.result
    (is_aborting chosen account c.in-Upload.number aborts c.in-Upload.is)
    (c.remove_upload.ensures.done account stands (ready_upload c.args.t account orderly chosen is c.in-Upload.number c.in-Upload.is))
