use Rattle.std.proofs.Common.{ℕ, List, refl, sym, ap, ◌∙◌, subst}
use Rattle.std.specs.Prelude.{Result, None}
use Rattle.due_core.specs.Buckets.{BucketRecord}
use Rattle.stacks.specs.Stacks.{StackRecord, new_id}
use Rattle.due_index.proofs.Following.{follows_adding}
use Rattle.plain_office.specs.Office.{book_of}
use Rattle.plain_office.specs.Step.{complete}
use Rattle.office_types.specs.declared.refusal.Refusal.{Refusal}
use Rattle.bucket_account.specs.declared.change.Done.{Done}
use Rattle.bucket_account.specs.Booking.{stack_put, stack_under}
use Rattle.bucket_account.specs.Changing.{DoesTold}
use Rattle.bucket_account.specs.Counting.{AccountRecord, AreCountsOver, account_of}
use Rattle.bucket_account.proofs.Completed.{whats, object_ready, object_stay, object_later, object_room, completes_for, refuses_for}
use Rattle.bucket_account.proofs.Gone.{rises_for, stays_for, uploads_for, parts_for, names_for}
use Rattle.bucket_account.proofs.Handed.{err_of}
use Rattle.bucket_account.proofs.PartPut.{changed_for}
use Rattle.bucket_account.proofs.Started.{upload_ready_at}
use Rattle.bucket_account.proofs.Touches.{stands_but_written, stands_but_removed}
use Rattle.bucket_account.proofs.upload.complete.Goals as goal

pub without-left-requires-clause-uploads : goal.without-left-requires-clause-uploads
without-left-requires-clause-uploads c =
    let a = c.requires.account in
    uploads_for _ a.0 (c.bucket.view_is ∙ a.1.bucket) c.args.upload c.args.t c.in-Some.kept.now (sym c.in-Some.ensures.value) (upload_ready_at c.args.upload c.args.t a.0 a.2)
    c.args.counts (subst (λ (b : BucketRecord). AreCountsOver b c.args.counts) (sym c.bucket.view_is) c.requires.counts)

pub without-left-requires-clause-parts : goal.without-left-requires-clause-parts
without-left-requires-clause-parts c =
    let a = c.requires.account in
    parts_for _ a.0 (c.bucket.view_is ∙ a.1.bucket) c.args.upload c.args.t c.in-Some.kept.now (sym c.in-Some.ensures.value) (upload_ready_at c.args.upload c.args.t a.0 a.2)
    c.args.counts (subst (λ (b : BucketRecord). AreCountsOver b c.args.counts) (sym c.bucket.view_is) c.requires.counts)

pub without-left-requires-clause-names : goal.without-left-requires-clause-names
without-left-requires-clause-names c =
    let a = c.requires.account in
    names_for _ a.0 (c.bucket.view_is ∙ a.1.bucket) c.args.upload c.args.t c.in-Some.kept.now (sym c.in-Some.ensures.value) (upload_ready_at c.args.upload c.args.t a.0 a.2)
    c.args.counts (subst (λ (b : BucketRecord). AreCountsOver b c.args.counts) (sym c.bucket.view_is) c.requires.counts)

pub put_whole-requires-clause-ready : goal.put_whole-requires-clause-ready
put_whole-requires-clause-ready c =
    let a = c.requires.account in
    object_ready _ a.0 (c.bucket.view_is ∙ a.1.bucket) c.args.upload c.args.t c.in-Some.kept.now (sym c.in-Some.ensures.value) a.2 c.in_ok-object.object c.in_ok-object.ensures.ok

pub put_whole-requires-clause-room : goal.put_whole-requires-clause-room
put_whole-requires-clause-room c =
    let a = c.requires.account in
    object_room _ a.0 (c.bucket.view_is ∙ a.1.bucket) c.args.upload c.args.t c.in-Some.kept.now (sym c.in-Some.ensures.value) a.2 c.in_ok-object.object c.in_ok-object.ensures.ok
    c.args.counts (subst (λ (b : BucketRecord). AreCountsOver b c.args.counts) (sym c.bucket.view_is) c.requires.counts)
    c.without-left.result c.without-left.ensures

pub put_whole-requires-clause-parts : goal.put_whole-requires-clause-parts
put_whole-requires-clause-parts c =
    let a = c.requires.account in
    rises_for _ a.0 (c.bucket.view_is ∙ a.1.bucket) c.args.upload c.args.t c.in-Some.kept.now (sym c.in-Some.ensures.value) (upload_ready_at c.args.upload c.args.t a.0 a.2)

pub put_whole-requires-clause-later : goal.put_whole-requires-clause-later
put_whole-requires-clause-later c =
    let a = c.requires.account in
    let same = c.bucket.view_is ∙ a.1.bucket in
    let found = sym c.in-Some.ensures.value in
    object_later _ a.0 same c.args.upload c.args.t c.in-Some.kept.now found a.2 c.in_ok-object.object c.in_ok-object.ensures.ok
    (changed_for _ a.0 same c.args.upload 0 0 c.args.t c.in-Some.kept.now found a.2)

pub put_whole-requires-clause-open : goal.put_whole-requires-clause-open
put_whole-requires-clause-open c =
    let a = c.requires.account in
    let same = c.bucket.view_is ∙ a.1.bucket in
    let found = sym c.in-Some.ensures.value in (
      c.args.upload,
      a.0.books,
      a.1.meters,
      object_stay _ a.0 same c.args.upload c.args.t c.in-Some.kept.now found a.2 c.in_ok-object.object c.in_ok-object.ensures.ok,
      stays_for _ a.0 same c.args.upload c.args.t c.in-Some.kept.now found (upload_ready_at c.args.upload c.args.t a.0 a.2),
    )

pub returns-in_err-counts-clause-done : goal.returns-in_err-counts-clause-done
returns-in_err-counts-clause-done c = λ account stands orderly.
    let same = c.bucket.view_is ∙ stands.bucket in
    let after : AccountRecord =
    account_of (record {
      versioning = c.bucket.inside.versioning;
      rules = c.bucket.inside.rules;
      rules_since = c.bucket.inside.rules_since;
      stacks = c.put_whole.new.stacks.entries;
      uploads = c.bucket.inside.uploads.entries;
      next_version = c.bucket.inside.next_version;
      next_upload = c.bucket.inside.next_upload;
    }) c.put_whole.new.meters in
    subst (λ (r : Result Done Refusal). DoesTold whats (complete c.args.t c.args.upload account) account c.args.counts after r)
    (err_of c.from_residual-in_err-counts.result c.in_err-counts.field-0.0 c.from_residual-in_err-counts.ensures.1)
    (refuses_for _ account same c.args.upload c.args.t c.in-Some.kept.now (sym c.in-Some.ensures.value) orderly c.in_ok-object.object c.in_ok-object.ensures.ok
    c.args.counts (subst (λ (b : BucketRecord). AreCountsOver b c.args.counts) (sym c.bucket.view_is) c.requires.counts) c.in_ok-object.ensures.some
    after
    (record {
      bucket = ap (λ (l : List (List ℕ × StackRecord)). record {
        versioning = c.bucket.inside.versioning;
        rules = c.bucket.inside.rules;
        rules_since = c.bucket.inside.rules_since;
        stacks = l;
        uploads = c.bucket.inside.uploads.entries;
        next_version = c.bucket.inside.next_version;
        next_upload = c.bucket.inside.next_upload;
      }) c.in_err-counts.ensures.stacks_kept ∙ same;
      meters = c.in_err-counts.ensures.meters_kept (book_of account.books) stands.meters;
    })
    c.without-left.result c.without-left.ensures c.in_err-counts.field-0.0 c.in_err-counts.ensures.refused)

pub returns-clause-done : goal.returns-clause-done
returns-clause-done c = λ account stands orderly.
    let same = c.bucket.view_is ∙ stands.bucket in
    let found = sym c.in-Some.ensures.value in
    completes_for _ account same c.args.upload c.args.t c.in-Some.kept.now found orderly c.in_ok-object.object c.in_ok-object.ensures.ok
    c.args.counts (subst (λ (b : BucketRecord). AreCountsOver b c.args.counts) (sym c.bucket.view_is) c.requires.counts) c.in_ok-object.ensures.some
    c.put_whole.new.stacks.entries c.in_ok-counts.ensures.stacks c.remove.new.self.entries c.remove.ensures.entries
    c.next_number-bucket-inside.result c.next_number-bucket-inside.ensures
    c.put_whole.new.meters
    (c.in_ok-counts.ensures.meters c.args.upload account.books stands.meters
    (object_stay _ account same c.args.upload c.args.t c.in-Some.kept.now found orderly c.in_ok-object.object c.in_ok-object.ensures.ok)
    (stays_for _ account same c.args.upload c.args.t c.in-Some.kept.now found (upload_ready_at c.args.upload c.args.t account orderly)))
    c.without-left.result c.without-left.ensures c.in_ok-counts.counts c.in_ok-counts.ensures.counts.0 c.in_ok-counts.ensures.counts.1
    c.id_of.result c.id_of.ensures

pub renew_key_of-requires : goal.renew_key_of-requires
renew_key_of-requires c =
    let kept = c.in-Some.kept.now in
    let object = c.in_ok-object.object in
    let stack = stack_under kept.key c.bucket.inside.stacks.entries in
    let before : BucketRecord = record {
      versioning = c.bucket.inside.versioning;
      rules = c.bucket.inside.rules;
      rules_since = c.bucket.inside.rules_since;
      stacks = c.bucket.inside.stacks.entries;
      uploads = c.bucket.inside.uploads.entries;
      next_version = c.bucket.inside.next_version;
      next_upload = c.bucket.inside.next_upload;
    } in
    let after : BucketRecord = record {
      versioning = c.bucket.inside.versioning;
      rules = c.bucket.inside.rules;
      rules_since = c.bucket.inside.rules_since;
      stacks = c.put_whole.new.stacks.entries;
      uploads = c.bucket.inside.uploads.entries;
      next_version = c.next_number-bucket-inside.result;
      next_upload = c.bucket.inside.next_upload;
    } in
    record {
      rest = (
        kept,
        sym c.in-Some.ensures.value,
        stands_but_written kept.key c.args.index.now c.args.bucket.now before after c.bucket.view_is (record { rules = refl; versioning = refl; since = refl })
            (stack_put object stack) (follows_adding None (new_id object.versioning object.number) object.kind object.at stack) c.in_ok-counts.ensures.stacks refl c.requires.index,
      );
    }

pub renew_upload-requires : goal.renew_upload-requires
renew_upload-requires c =
    let before : BucketRecord = record {
      versioning = c.bucket.inside.versioning;
      rules = c.bucket.inside.rules;
      rules_since = c.bucket.inside.rules_since;
      stacks = c.put_whole.new.stacks.entries;
      uploads = c.bucket.inside.uploads.entries;
      next_version = c.next_number-bucket-inside.result;
      next_upload = c.bucket.inside.next_upload;
    } in
    let after : BucketRecord = record {
      versioning = c.bucket.inside.versioning;
      rules = c.bucket.inside.rules;
      rules_since = c.bucket.inside.rules_since;
      stacks = c.put_whole.new.stacks.entries;
      uploads = c.remove.new.self.entries;
      next_version = c.next_number-bucket-inside.result;
      next_upload = c.bucket.inside.next_upload;
    } in
    record {
      rest =
          stands_but_removed c.args.upload c.renew_key_of.new.index before after (record { rules = refl; versioning = refl; since = refl }) refl c.remove.ensures.entries c.renew_key_of.ensures.stands;
    }
