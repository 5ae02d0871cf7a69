use Rattle.std.proofs.Common.{List, ◌∷◌, [], inr, refl, sym, ap, ◌∙◌, subst}
use Rattle.std.specs.Prelude.{Result, Ok, Err, None, is_some}
use Rattle.office_base.specs.Maps.{at_name}
use Rattle.office_base.specs.declared.version_id.VersionId.TheVariants.{Null}
use Rattle.due_core.specs.Buckets.{BucketRecord}
use Rattle.plain_office.specs.Changes.{remove_version}
use Rattle.plain_office.specs.Orderly.{IsOrderlyBucket}
use Rattle.plain_office.specs.Step.{Change, delete}
use Rattle.office_types.specs.declared.reply.Reply.TheVariants.{Deleted}
use Rattle.office_types.specs.declared.refusal.Refusal.{Refusal}
use Rattle.office_types.specs.declared.refusal.Refusal.TheVariants.{NoSuchKey}
use Rattle.office_types.specs.declared.refusal.What.{What}
use Rattle.office_types.specs.declared.refusal.What.TheVariants.{Names}
use Rattle.bucket_account.specs.declared.change.Done.{Done}
use Rattle.bucket_account.specs.Changing.{DoesTold}
use Rattle.bucket_account.specs.Counting.{account_of}
use Rattle.bucket_account.proofs.Deletes.{null_there, removes, refuses}
use Rattle.bucket_account.proofs.Doing.{ready_at, told_done, told_refused}
use Rattle.bucket_account.proofs.Handed.{err_of}
use Rattle.bucket_account.proofs.delete.remove_null.Goals as goal

pub returns-then-not-contains_key-clause-done : goal.returns-then-not-contains_key-clause-done
returns-then-not-contains_key-clause-done c = λ account stands orderly.
    let unversioned = ap (λ (b : BucketRecord). b.versioning) (sym stands.bucket) ∙ c.requires.unversioned in
    let absent =
    ap (λ (b : BucketRecord). is_some (at_name c.args.key.now b.stacks)) (sym (c.bucket.view_is ∙ stands.bucket))
    ∙ sym c.contains_key.ensures ∙ c.if-not-contains_key.true in
    let after = account_of c.args.bucket.now c.args.meters.now in
    subst (λ (told : Change). DoesTold (Names ∷ []) told account c.args.counts after (Err NoSuchKey)) (sym (refuses c.args.t c.args.key.now account unversioned absent)) (inr refl, stands)

pub remove_version-requires-clause-account : goal.remove_version-requires-clause-account
remove_version-requires-clause-account c =
    (c.requires.account.0, c.requires.account.1, ready_at c.args.key.now c.args.t c.requires.account.0 c.requires.account.2)

pub remove_version-requires-clause-there : goal.remove_version-requires-clause-there
remove_version-requires-clause-there c =
    let account = c.requires.account in
    let present = ap (λ (b : BucketRecord). is_some (at_name c.args.key.now b.stacks)) (sym c.bucket.view_is) ∙ sym c.contains_key.ensures ∙ c.if-not-contains_key.false in
    null_there c.args.bucket.now c.args.t (subst (λ (b : BucketRecord). IsOrderlyBucket c.args.t b) (sym account.1.bucket) account.2.bucket)
    c.requires.unversioned c.args.key.now present

pub returns-in_err-counts-clause-done : goal.returns-in_err-counts-clause-done
returns-in_err-counts-clause-done c = λ account stands orderly.
    let whats : List What = Names ∷ [] in
    let after = account_of c.remove_version.new.bucket c.remove_version.new.meters in
    let unversioned = ap (λ (b : BucketRecord). b.versioning) (sym stands.bucket) ∙ c.requires.unversioned in
    let present =
    ap (λ (b : BucketRecord). is_some (at_name c.args.key.now b.stacks)) (sym (c.bucket.view_is ∙ stands.bucket))
    ∙ sym c.contains_key.ensures ∙ c.if-not-contains_key.false in
    let told =
    told_refused whats (remove_version c.args.key.now Null c.args.t) account c.args.counts after (Deleted None) c.in_err-counts.field-0.0
    (c.in_err-counts.ensures.done account stands (ready_at c.args.key.now c.args.t account orderly)) in
    subst (λ (r : Result Done Refusal). DoesTold whats (delete c.args.t c.args.key.now account) account c.args.counts after r)
    (err_of c.from_residual.result c.in_err-counts.field-0.0 c.from_residual.ensures.1)
    (subst (λ (change : Change). DoesTold whats change account c.args.counts after (Err c.in_err-counts.field-0.0)) (sym (removes c.args.t c.args.key.now account unversioned present)) told)

pub returns-clause-done : goal.returns-clause-done
returns-clause-done c = λ account stands orderly.
    let whats : List What = Names ∷ [] in
    let after = account_of c.remove_version.new.bucket c.remove_version.new.meters in
    let unversioned = ap (λ (b : BucketRecord). b.versioning) (sym stands.bucket) ∙ c.requires.unversioned in
    let present =
    ap (λ (b : BucketRecord). is_some (at_name c.args.key.now b.stacks)) (sym (c.bucket.view_is ∙ stands.bucket))
    ∙ sym c.contains_key.ensures ∙ c.if-not-contains_key.false in
    let done : Done = record { counts = c.in_ok-counts.counts; reply = Deleted None } in
    let told =
    told_done whats (remove_version c.args.key.now Null c.args.t) account c.args.counts after (Deleted None) done refl
    (c.in_ok-counts.ensures.done account stands (ready_at c.args.key.now c.args.t account orderly)) in
    subst (λ (change : Change). DoesTold whats change account c.args.counts after (Ok done)) (sym (removes c.args.t c.args.key.now account unversioned present)) told
