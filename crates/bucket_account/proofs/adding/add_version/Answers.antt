use Rattle.std.proofs.Common.{sym, ◌∙◌, subst}
use Rattle.std.specs.Prelude.{Result}
use Rattle.due_core.specs.Buckets.{BucketRecord}
use Rattle.plain_office.specs.Office.{Account, book_of}
use Rattle.plain_office.specs.Changes.{add_version}
use Rattle.office_types.specs.declared.refusal.Refusal.{Refusal}
use Rattle.bucket_account.specs.declared.counts.Counts.{Counts}
use Rattle.bucket_account.specs.Booking.{MayCome}
use Rattle.bucket_account.specs.Counting.{AccountRecord, AreCountsOver, account_of}
use Rattle.bucket_account.specs.Effects.{DoesEffect}
use Rattle.bucket_account.proofs.Handed.{err_of}
use Rattle.bucket_account.proofs.Putting.{ready_for, stay_for, room_for, done_for, refused_for}
use Rattle.bucket_account.proofs.adding.add_version.Goals as goal

pub put_version-requires-clause-ready : goal.put_version-requires-clause-ready
put_version-requires-clause-ready c =
    let account : Account = c.requires.account.0 in
    let comes = subst (λ (b : BucketRecord). MayCome b.versioning c.args.at c.args.kind) (sym c.bucket.view_is) c.requires.comes in
    ready_for _ account (c.bucket.view_is ∙ c.requires.account.1.bucket) c.args.key.now c.args.kind c.args.at comes c.requires.account.2

pub put_version-requires-clause-room : goal.put_version-requires-clause-room
put_version-requires-clause-room c =
    let account : Account = c.requires.account.0 in
    let comes = subst (λ (b : BucketRecord). MayCome b.versioning c.args.at c.args.kind) (sym c.bucket.view_is) c.requires.comes in
    room_for _ account (c.bucket.view_is ∙ c.requires.account.1.bucket) c.args.key.now c.args.kind c.args.at comes c.requires.account.2
    c.args.counts (subst (λ (b : BucketRecord). AreCountsOver b c.args.counts) (sym c.bucket.view_is) c.requires.counts)

pub put_version-requires-clause-open : goal.put_version-requires-clause-open
put_version-requires-clause-open c =
    let account : Account = c.requires.account.0 in
    let comes = subst (λ (b : BucketRecord). MayCome b.versioning c.args.at c.args.kind) (sym c.bucket.view_is) c.requires.comes in (
      account.books,
      c.requires.account.1.meters,
      stay_for _ account (c.bucket.view_is ∙ c.requires.account.1.bucket) c.args.key.now c.args.kind c.args.at comes c.requires.account.2,
    )

pub returns-in_err-after-clause-done : goal.returns-in_err-after-clause-done
returns-in_err-after-clause-done c = λ account stands orderly.
    let comes = subst (λ (b : BucketRecord). MayCome b.versioning c.args.at c.args.kind) (sym c.bucket.view_is) c.requires.comes in
    let after : AccountRecord =
    account_of (record {
      versioning = c.bucket.inside.versioning;
      rules = c.bucket.inside.rules;
      rules_since = c.bucket.inside.rules_since;
      stacks = c.put_version.new.stacks.entries;
      uploads = c.bucket.inside.uploads.entries;
      next_version = c.bucket.inside.next_version;
      next_upload = c.bucket.inside.next_upload;
    }) c.put_version.new.meters in
    let refused =
    refused_for _ account (c.bucket.view_is ∙ stands.bucket) c.args.key.now c.args.kind c.args.at comes orderly
    c.args.counts (subst (λ (b : BucketRecord). AreCountsOver b c.args.counts) (sym c.bucket.view_is) c.requires.counts) c.args.whats.now
    c.put_version.new.stacks.entries c.in_err-after.ensures.stacks_kept c.put_version.new.meters (c.in_err-after.ensures.meters_kept (book_of account.books) stands.meters)
    c.in_err-after.field-0.0 c.in_err-after.ensures.refused in
    subst (λ (r : Result Counts Refusal). DoesEffect c.args.whats.now (add_version c.args.key.now c.args.kind c.args.at) account c.args.counts after r)
    (err_of c.from_residual.result c.in_err-after.field-0.0 c.from_residual.ensures.1) refused

pub returns-clause-done : goal.returns-clause-done
returns-clause-done c = λ account stands orderly.
    let same = c.bucket.view_is ∙ stands.bucket in
    let comes = subst (λ (b : BucketRecord). MayCome b.versioning c.args.at c.args.kind) (sym c.bucket.view_is) c.requires.comes in
    done_for _ account same c.args.key.now c.args.kind c.args.at comes orderly
    c.args.counts (subst (λ (b : BucketRecord). AreCountsOver b c.args.counts) (sym c.bucket.view_is) c.requires.counts) c.args.whats.now
    c.put_version.new.stacks.entries c.in_ok-after.ensures.stacks c.next_number-bucket-inside.result c.next_number-bucket-inside.ensures
    c.put_version.new.meters
    (c.in_ok-after.ensures.meters account.books stands.meters (stay_for _ account same c.args.key.now c.args.kind c.args.at comes orderly))
    c.in_ok-after.after c.in_ok-after.ensures.counts.0 c.in_ok-after.ensures.counts.1
