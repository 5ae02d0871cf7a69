use Rattle.std.proofs.Common.{sym, ◌∙◌, subst}
use Rattle.stacks.specs.Stacks.{version_at}
use Rattle.due_core.specs.Buckets.{BucketRecord}
use Rattle.plain_office.specs.Changes.{versions_of}
use Rattle.bucket_account.specs.Moving.{IsAnObject}
use Rattle.bucket_account.proofs.Moves.{movable_for, stay_for, done_for}
use Rattle.bucket_account.proofs.moving.move_version.Goals as goal

pub move_under-requires-clause-ready : goal.move_under-requires-clause-ready
move_under-requires-clause-ready c =
    let account = c.requires.account in
    let there = subst (λ (b : BucketRecord). IsAnObject (version_at c.args.id (versions_of c.args.key.now b))) (sym c.bucket.view_is) c.requires.object in
    movable_for _ account.0 (c.bucket.view_is ∙ account.1.bucket) c.args.key.now c.args.id c.args.to c.args.at there account.2

pub move_under-requires-clause-open : goal.move_under-requires-clause-open
move_under-requires-clause-open c =
    let account = c.requires.account in
    let there = subst (λ (b : BucketRecord). IsAnObject (version_at c.args.id (versions_of c.args.key.now b))) (sym c.bucket.view_is) c.requires.object in (
      account.0.books,
      account.1.meters,
      stay_for _ account.0 (c.bucket.view_is ∙ account.1.bucket) c.args.key.now c.args.id c.args.to c.args.at there account.2,
    )

pub returns-clause-done : goal.returns-clause-done
returns-clause-done c = λ account stands orderly.
    let there = subst (λ (b : BucketRecord). IsAnObject (version_at c.args.id (versions_of c.args.key.now b))) (sym c.bucket.view_is) c.requires.object in
    let same = c.bucket.view_is ∙ stands.bucket in
    done_for _ account same c.args.key.now c.args.id c.args.to c.args.at there orderly
    c.move_under.new.stacks.entries c.in_ok-move_under.ensures.stacks c.move_under.new.meters
    (c.in_ok-move_under.ensures.meters account.books stands.meters (stay_for _ account same c.args.key.now c.args.id c.args.to c.args.at there orderly)) c.args.counts
