use Rattle.std.proofs.Common.{[], sym, ap, ◌∙◌, subst}
use Rattle.std.specs.Prelude.{IsSome}
use Rattle.stacks.specs.Stacks.{version_at}
use Rattle.stacks.specs.declared.version.Kind.TheVariants.{Marker}
use Rattle.due_core.specs.Buckets.{BucketRecord}
use Rattle.due_core.specs.Choice.{choice}
use Rattle.plain_office.specs.Changes.{versions_of, effect, remove_version, move_version, add_version}
use Rattle.bucket_account.specs.Booking.{MayCome}
use Rattle.bucket_account.specs.Counting.{account_of}
use Rattle.bucket_account.specs.Moving.{IsAnObject}
use Rattle.bucket_account.proofs.Acting.{ready_version, version_there, object_there, may_come, no_abort, is_removal, is_move, is_marker, same_effect}
use Rattle.bucket_account.proofs.act.do_on_version.Goals as goal

pub remove_version-requires-clause-account : goal.remove_version-requires-clause-account
remove_version-requires-clause-account c =
    let held = c.requires.account in
    let is = ap (λ (b : BucketRecord). choice b c.args.t) (sym held.1.bucket) ∙ c.requires.chosen in
    (held.0, held.1, ready_version c.args.t held.0 held.2 c.args.action.now is c.args.id c.requires.aims)

pub remove_version-requires-clause-there : goal.remove_version-requires-clause-there
remove_version-requires-clause-there c =
    let held = c.requires.account in
    let is = ap (λ (b : BucketRecord). choice b c.args.t) (sym held.1.bucket) ∙ c.requires.chosen in
    subst (λ (b : BucketRecord). IsSome (version_at c.args.id (versions_of c.args.action.now.key b))) (sym held.1.bucket)
    (version_there c.args.t held.0 held.2 c.args.action.now is c.args.id c.requires.aims)

pub move_version-requires-clause-account : goal.move_version-requires-clause-account
move_version-requires-clause-account c =
    let held = c.requires.account in
    let is = ap (λ (b : BucketRecord). choice b c.args.t) (sym held.1.bucket) ∙ c.requires.chosen in
    (held.0, held.1, ready_version c.args.t held.0 held.2 c.args.action.now is c.args.id c.requires.aims)

pub move_version-requires-clause-object : goal.move_version-requires-clause-object
move_version-requires-clause-object c =
    let held = c.requires.account in
    let is = ap (λ (b : BucketRecord). choice b c.args.t) (sym held.1.bucket) ∙ c.requires.chosen in
    subst (λ (b : BucketRecord). IsAnObject (version_at c.args.id (versions_of c.args.action.now.key b))) (sym held.1.bucket)
    (object_there c.args.t held.0 held.2 c.args.action.now is c.args.id c.requires.aims c.in-Transition.to c.in-Transition.is)

pub add_version-requires-clause-account : goal.add_version-requires-clause-account
add_version-requires-clause-account c =
    let held = c.requires.account in
    let is = ap (λ (b : BucketRecord). choice b c.args.t) (sym held.1.bucket) ∙ c.requires.chosen in
    (held.0, held.1, ready_version c.args.t held.0 held.2 c.args.action.now is c.args.id c.requires.aims)

pub add_version-requires-clause-comes : goal.add_version-requires-clause-comes
add_version-requires-clause-comes c =
    let held = c.requires.account in
    let is = ap (λ (b : BucketRecord). choice b c.args.t) (sym held.1.bucket) ∙ c.requires.chosen in
    subst (λ (b : BucketRecord). MayCome b.versioning c.args.action.now.since Marker) (sym held.1.bucket)
    (may_come c.args.t held.0 held.2 c.args.action.now is c.args.id c.requires.aims c.in-Marker.is)

pub unreachable-requires : goal.unreachable-requires
unreachable-requires c =
    let held = c.requires.account in
    let is = ap (λ (b : BucketRecord). choice b c.args.t) (sym held.1.bucket) ∙ c.requires.chosen in
    no_abort c.args.t held.0 held.2 c.args.action.now is c.args.id c.requires.aims c.in-Abort.is

pub returns-in-Remove-clause-done : goal.returns-in-Remove-clause-done
returns-in-Remove-clause-done c = λ account stands orderly.
    let chosen = c.args.action.now in
    let is = ap (λ (b : BucketRecord). choice b c.args.t) (sym stands.bucket) ∙ c.requires.chosen in
    same_effect [] (remove_version chosen.key c.args.id chosen.since) (effect chosen) account c.args.counts (account_of c.remove_version.new.bucket c.remove_version.new.meters) c.remove_version.result
    (is_removal chosen account c.args.id c.in-Remove.is c.requires.aims)
    (c.remove_version.ensures.done account stands (ready_version c.args.t account orderly chosen is c.args.id c.requires.aims))

pub returns-in-Transition-clause-done : goal.returns-in-Transition-clause-done
returns-in-Transition-clause-done c = λ account stands orderly.
    let chosen = c.args.action.now in
    let is = ap (λ (b : BucketRecord). choice b c.args.t) (sym stands.bucket) ∙ c.requires.chosen in
    same_effect [] (move_version chosen.key c.args.id c.in-Transition.to chosen.since) (effect chosen) account
    c.args.counts (account_of c.move_version.new.bucket c.move_version.new.meters) c.move_version.result
    (is_move chosen account c.args.id c.in-Transition.to c.in-Transition.is c.requires.aims)
    (c.move_version.ensures.done account stands (ready_version c.args.t account orderly chosen is c.args.id c.requires.aims))

pub returns-in-Marker-clause-done : goal.returns-in-Marker-clause-done
returns-in-Marker-clause-done c = λ account stands orderly.
    let chosen = c.args.action.now in
    let is = ap (λ (b : BucketRecord). choice b c.args.t) (sym stands.bucket) ∙ c.requires.chosen in
    same_effect [] (add_version chosen.key Marker chosen.since) (effect chosen) account c.args.counts (account_of c.add_version.new.bucket c.add_version.new.meters) c.add_version.result
    (is_marker chosen account c.args.id c.in-Marker.is c.requires.aims)
    (c.add_version.ensures.done account stands (ready_version c.args.t account orderly chosen is c.args.id c.requires.aims))
