use Rattle.std.proofs.Common.{◌≡◌, List, ◌∷◌, [], sym, ap, ◌∙◌, subst}
use Rattle.std.specs.Prelude.{Result, Ok, Err, Some}
use Rattle.due_core.specs.Buckets.{BucketRecord}
use Rattle.office_base.specs.declared.version_id.VersionId.{VersionId}
use Rattle.stacks.specs.declared.version.Kind.TheVariants.{Marker}
use Rattle.stacks.specs.declared.version.Versioning.TheVariants.{Unversioned}
use Rattle.plain_office.specs.Changes.{next_id, add_version}
use Rattle.plain_office.specs.Step.{Change, delete}
use Rattle.office_types.specs.declared.reply.Reply.TheVariants.{Deleted}
use Rattle.office_types.specs.declared.refusal.Refusal.{Refusal}
use Rattle.office_types.specs.declared.refusal.What.{What}
use Rattle.office_types.specs.declared.refusal.What.TheVariants.{Versions, Names}
use Rattle.bucket_account.specs.declared.change.Done.{Done}
use Rattle.bucket_account.specs.Changing.{DoesTold}
use Rattle.bucket_account.specs.Counting.{account_of}
use Rattle.bucket_account.proofs.Deletes.{marks}
use Rattle.bucket_account.proofs.Doing.{ready_at, told_done, told_refused}
use Rattle.bucket_account.proofs.Handed.{err_of}
use Rattle.bucket_account.proofs.delete.mark.Goals as goal

pub add_version-requires-clause-account : goal.add_version-requires-clause-account
add_version-requires-clause-account c =
    (c.requires.account.0, c.requires.account.1, ready_at c.args.key.now c.args.t c.requires.account.0 c.requires.account.2)

pub returns-in_err-counts-clause-done : goal.returns-in_err-counts-clause-done
returns-in_err-counts-clause-done c = λ account stands orderly.
    let whats : List What = Versions ∷ Names ∷ [] in
    let after = account_of c.add_version.new.bucket c.add_version.new.meters in
    let versioned = subst (λ (b : BucketRecord). b.versioning ≡ Unversioned → ⊥) stands.bucket c.requires.versioned in
    let told =
    told_refused whats (add_version c.args.key.now Marker c.args.t) account c.args.counts after (Deleted (Some (next_id account.bucket))) c.in_err-counts.field-0.0
    (c.in_err-counts.ensures.done account stands (ready_at c.args.key.now c.args.t account orderly)) in
    subst (λ (r : Result Done Refusal). DoesTold whats (delete c.args.t c.args.key.now account) account c.args.counts after r)
    (err_of c.from_residual.result c.in_err-counts.field-0.0 c.from_residual.ensures.1)
    (subst (λ (change : Change). DoesTold whats change account c.args.counts after (Err c.in_err-counts.field-0.0)) (sym (marks c.args.t c.args.key.now account versioned)) told)

pub returns-clause-done : goal.returns-clause-done
returns-clause-done c = λ account stands orderly.
    let whats : List What = Versions ∷ Names ∷ [] in
    let after = account_of c.add_version.new.bucket c.add_version.new.meters in
    let versioned = subst (λ (b : BucketRecord). b.versioning ≡ Unversioned → ⊥) stands.bucket c.requires.versioned in
    let id = c.id_of-marker.ensures ∙ ap (λ (b : BucketRecord). next_id b) (c.bucket.view_is ∙ stands.bucket) in
    let done : Done = record { counts = c.in_ok-counts.counts; reply = Deleted (Some c.id_of-marker.result) } in
    let told =
    told_done whats (add_version c.args.key.now Marker c.args.t) account c.args.counts after (Deleted (Some (next_id account.bucket))) done
    (ap (λ (i : VersionId). Deleted (Some i)) id) (c.in_ok-counts.ensures.done account stands (ready_at c.args.key.now c.args.t account orderly)) in
    subst (λ (change : Change). DoesTold whats change account c.args.counts after (Ok done)) (sym (marks c.args.t c.args.key.now account versioned)) told
