use Rattle.std.proofs.Common.{◌∷◌, [], sym, ap, ◌∙◌, subst}
use Rattle.std.specs.Prelude.{Result}
use Rattle.due_core.specs.Buckets.{BucketRecord}
use Rattle.plain_office.specs.Step.{set_tags}
use Rattle.office_types.specs.declared.reply.Reply.TheVariants.{TagsSet}
use Rattle.office_types.specs.declared.refusal.Refusal.{Refusal}
use Rattle.office_types.specs.declared.refusal.What.TheVariants.{Names}
use Rattle.bucket_account.specs.declared.change.Done.{Done}
use Rattle.bucket_account.specs.Changing.{DoesTold}
use Rattle.bucket_account.specs.Counting.{AccountRecord, AreCountsOver, account_of}
use Rattle.bucket_account.proofs.Handed.{err_of}
use Rattle.bucket_account.proofs.Tagged.{later_for, taggable_for, tagged_for, refused_for}
use Rattle.bucket_account.proofs.tags.set_tags.Goals as goal

pub retag_under-requires-clause-later : goal.retag_under-requires-clause-later
retag_under-requires-clause-later c =
    let account = c.requires.account in
    later_for _ account.0 (c.bucket.view_is ∙ account.1.bucket) c.args.key.now c.args.id.now c.args.tags.now c.args.t account.2
    c.args.counts (subst (λ (b : BucketRecord). AreCountsOver b c.args.counts) (sym c.bucket.view_is) c.requires.counts)

pub retag_under-requires-clause-room : goal.retag_under-requires-clause-room
retag_under-requires-clause-room c =
    let account = c.requires.account in
    taggable_for _ account.0 (c.bucket.view_is ∙ account.1.bucket) c.args.key.now c.args.id.now c.args.tags.now c.args.t account.2
    c.args.counts (subst (λ (b : BucketRecord). AreCountsOver b c.args.counts) (sym c.bucket.view_is) c.requires.counts)

pub returns-in_err-counts-clause-done : goal.returns-in_err-counts-clause-done
returns-in_err-counts-clause-done c = λ account stands orderly.
    let after : AccountRecord =
    account_of (record {
      versioning = c.bucket.inside.versioning;
      rules = c.bucket.inside.rules;
      rules_since = c.bucket.inside.rules_since;
      stacks = c.retag_under.new.stacks.entries;
      uploads = c.bucket.inside.uploads.entries;
      next_version = c.bucket.inside.next_version;
      next_upload = c.bucket.inside.next_upload;
    }) c.args.meters.now in
    let refused =
    refused_for _ account (c.bucket.view_is ∙ stands.bucket) c.args.key.now c.args.id.now c.args.tags.now c.args.t orderly
    c.args.counts (subst (λ (b : BucketRecord). AreCountsOver b c.args.counts) (sym c.bucket.view_is) c.requires.counts)
    c.retag_under.new.stacks.entries c.args.meters.now stands.meters c.in_err-counts.field-0.0 c.in_err-counts.ensures.err c.in_err-counts.ensures.counts in
    subst (λ (r : Result Done Refusal). DoesTold (Names ∷ []) (set_tags c.args.t c.args.key.now c.args.id.now c.args.tags.now account) account c.args.counts after r)
    (err_of c.from_residual.result c.in_err-counts.field-0.0 c.from_residual.ensures.1) refused

pub returns-clause-done : goal.returns-clause-done
returns-clause-done c = λ account stands orderly.
    tagged_for _ account (c.bucket.view_is ∙ stands.bucket) c.args.key.now c.args.id.now c.args.tags.now c.args.t orderly
    c.args.counts (subst (λ (b : BucketRecord). AreCountsOver b c.args.counts) (sym c.bucket.view_is) c.requires.counts)
    c.retag_under.new.stacks.entries c.args.meters.now stands.meters
    (record { counts = c.in_ok-counts.counts; reply = TagsSet c.tag_count.result }) (ap TagsSet c.tag_count.ensures)
    c.in_ok-counts.ensures.ok c.in_ok-counts.ensures.counts
