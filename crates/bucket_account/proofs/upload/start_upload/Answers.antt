use Rattle.std.proofs.Common.{[], ◌∷◌, sym, ◌∙◌, subst, arith}
use Rattle.std.specs.Prelude.{Result}
use Rattle.due_core.specs.Buckets.{BucketRecord}
use Rattle.plain_office.specs.Step.{start_upload}
use Rattle.office_types.specs.declared.refusal.Refusal.{Refusal}
use Rattle.office_types.specs.declared.refusal.What.TheVariants.{Uploads, Names}
use Rattle.bucket_account.specs.declared.change.Done.{Done}
use Rattle.bucket_account.specs.Changing.{DoesTold}
use Rattle.bucket_account.specs.Counting.{AreCountsOver, account_of}
use Rattle.bucket_account.proofs.Handed.{err_of}
use Rattle.bucket_account.proofs.Started.{start_done_for, start_refused_for}
use Rattle.bucket_account.proofs.upload.start_upload.Goals as goal

pub counted-requires-clause-uploads : goal.counted-requires-clause-uploads
counted-requires-clause-uploads c = let over = c.requires.counts Uploads in omega (arith, over.1)

pub counted-requires-clause-names : goal.counted-requires-clause-names
counted-requires-clause-names c = let over = c.requires.counts Names in omega (arith, over.1)

pub returns-in_err-counts-clause-done : goal.returns-in_err-counts-clause-done
returns-in_err-counts-clause-done c = λ account stands orderly.
    subst (λ (r : Result Done Refusal). DoesTold (Uploads ∷ Names ∷ [])
    (start_upload c.args.t c.args.key.now c.args.class c.args.tags.now account) account c.args.counts
    (account_of c.args.bucket.now c.args.meters.now) r)
    (err_of c.from_residual.result c.in_err-counts.field-0.0 c.from_residual.ensures.1)
    (start_refused_for c.args.bucket.now account stands.bucket c.args.t c.args.key.now c.args.class c.args.tags.now orderly c.args.counts c.requires.counts
    c.args.meters.now stands.meters c.in_err-counts.field-0.0 c.in_err-counts.ensures.full)

pub returns-clause-done : goal.returns-clause-done
returns-clause-done c = λ account stands orderly.
    start_done_for _ account (c.bucket.view_is ∙ stands.bucket) c.args.t c.args.key.now c.args.class c.args.tags.now orderly
    c.args.counts (subst (λ (b : BucketRecord). AreCountsOver b c.args.counts) (sym c.bucket.view_is) c.requires.counts)
    c.insert.new.self.entries c.in_ok-upload.upload
    c.in_ok-insert.ensures.entries
    c.in_ok-upload.ensures.ok c.args.meters.now stands.meters c.in_ok-counts.counts c.in_ok-counts.ensures.ok.0 c.in_ok-counts.ensures.ok.1
