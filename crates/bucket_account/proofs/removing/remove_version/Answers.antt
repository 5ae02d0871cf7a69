use Rattle.std.proofs.Common.{sym, ◌∙◌, subst}
use Rattle.std.specs.Prelude.{IsSome}
use Rattle.stacks.specs.Stacks.{version_at}
use Rattle.due_core.specs.Buckets.{BucketRecord}
use Rattle.plain_office.specs.Changes.{versions_of}
use Rattle.bucket_account.specs.Counting.{AreCountsOver}
use Rattle.bucket_account.proofs.Removals.{go_for, stay_for, room_for, answer_for}
use Rattle.bucket_account.proofs.removing.remove_version.Goals as goal

pub take_version-requires-clause-ready : goal.take_version-requires-clause-ready
take_version-requires-clause-ready c =
    let account = c.requires.account in
    let there = subst (λ (b : BucketRecord). IsSome (version_at c.args.id (versions_of c.args.key.now b))) (sym c.bucket.view_is) c.requires.there in
    go_for _ account.0 (c.bucket.view_is ∙ account.1.bucket) c.args.key.now c.args.id c.args.at there account.2

pub take_version-requires-clause-room : goal.take_version-requires-clause-room
take_version-requires-clause-room c =
    let account = c.requires.account in
    let there = subst (λ (b : BucketRecord). IsSome (version_at c.args.id (versions_of c.args.key.now b))) (sym c.bucket.view_is) c.requires.there in
    room_for _ account.0 (c.bucket.view_is ∙ account.1.bucket) c.args.key.now c.args.id c.args.at there account.2
    c.args.counts (subst (λ (b : BucketRecord). AreCountsOver b c.args.counts) (sym c.bucket.view_is) c.requires.counts)

pub take_version-requires-clause-open : goal.take_version-requires-clause-open
take_version-requires-clause-open c =
    let account = c.requires.account in
    let there = subst (λ (b : BucketRecord). IsSome (version_at c.args.id (versions_of c.args.key.now b))) (sym c.bucket.view_is) c.requires.there in (
      account.0.books,
      account.1.meters,
      stay_for _ account.0 (c.bucket.view_is ∙ account.1.bucket) c.args.key.now c.args.id c.args.at there account.2,
    )

pub returns-clause-done : goal.returns-clause-done
returns-clause-done c = λ account stands orderly.
    let there = subst (λ (b : BucketRecord). IsSome (version_at c.args.id (versions_of c.args.key.now b))) (sym c.bucket.view_is) c.requires.there in
    answer_for _ account (c.bucket.view_is ∙ stands.bucket) c.args.key.now c.args.id c.args.at there orderly
    c.args.counts (subst (λ (b : BucketRecord). AreCountsOver b c.args.counts) (sym c.bucket.view_is) c.requires.counts) c.args.whats.now
    c.take_version.result c.take_version.new.stacks.entries c.args.meters.now c.take_version.new.meters stands.meters
    c.take_version.ensures.stacks c.take_version.ensures.meters c.take_version.ensures.counts c.take_version.ensures.refused
    c.take_version.ensures.stacks_kept c.take_version.ensures.meters_kept
