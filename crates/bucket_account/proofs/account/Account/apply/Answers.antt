use Rattle.std.proofs.Common.{ap, sym, subst, arith}
use Rattle.due_core.specs.Buckets.{BucketRecord}
use Rattle.plain_office.specs.Counts.{version_count, rules_bytes}
use Rattle.office_types.specs.declared.refusal.What.TheVariants.{Versions, Rules}
use Rattle.bucket_account.specs.Changing.{change_of, limits_of}
use Rattle.bucket_account.specs.Counting.{AccountRecord, AreCountsOver}
use Rattle.bucket_account.specs.Standing.{StandsForAccount}
use Rattle.bucket_account.proofs.Told.{moved_told}
use Rattle.bucket_account.proofs.account.Account.apply.Goals as goal

pub moved-self-inside-requires-clause-some : goal.moved-self-inside-requires-clause-some
moved-self-inside-requires-clause-some c =
    let account = c.requires.account in
    let stands = subst (λ (r : AccountRecord). StandsForAccount r account.0) (sym c.self.view_is) account.1 in
    let moved =
    moved_told (limits_of c.args.command.now c.self.inside.bucket) account.0 c.args.counts _ c.in_ok-done.done
    (change_of c.args.t c.args.command.now account.0) (c.in_ok-done.ensures.done account.0 stands account.2)
    Versions in
    let same = ap (λ (b : BucketRecord). version_count b) stands.bucket in
    omega (arith, moved, same, c.self.invariant.0)

pub moved-self-inside-requires-clause-few : goal.moved-self-inside-requires-clause-few
moved-self-inside-requires-clause-few c =
    let over = subst (λ (r : AccountRecord). AreCountsOver r.bucket c.args.counts) (sym c.self.view_is) c.requires.counts Versions in
    omega (arith, over.0, over.1, c.self.invariant.0, c.in_ok-done.ensures.few.versions)

pub moved-self-inside-requires-2-clause-some : goal.moved-self-inside-requires-2-clause-some
moved-self-inside-requires-2-clause-some c =
    let account = c.requires.account in
    let stands = subst (λ (r : AccountRecord). StandsForAccount r account.0) (sym c.self.view_is) account.1 in
    let moved =
    moved_told (limits_of c.args.command.now c.self.inside.bucket) account.0 c.args.counts _ c.in_ok-done.done
    (change_of c.args.t c.args.command.now account.0) (c.in_ok-done.ensures.done account.0 stands account.2) Rules
    in
    let same = ap (λ (b : BucketRecord). rules_bytes b.rules) stands.bucket in
    omega (arith, moved, same, c.self.invariant.1)

pub moved-self-inside-requires-2-clause-few : goal.moved-self-inside-requires-2-clause-few
moved-self-inside-requires-2-clause-few c =
    let over = subst (λ (r : AccountRecord). AreCountsOver r.bucket c.args.counts) (sym c.self.view_is) c.requires.counts Rules in
    omega (arith, over.0, over.1, c.self.invariant.1, c.in_ok-done.ensures.few.rules)

pub invariant_of-self-2 : goal.invariant_of-self-2
invariant_of-self-2 c =
    let account = c.requires.account in
    let stands = subst (λ (r : AccountRecord). StandsForAccount r account.0) (sym c.self.view_is) account.1 in
    let moved =
    moved_told (limits_of c.args.command.now c.self.inside.bucket) account.0 c.args.counts _ c.in_ok-done.done
    (change_of c.args.t c.args.command.now account.0) (c.in_ok-done.ensures.done account.0 stands account.2) in
    let versions = moved Versions in
    let rules = moved Rules in
    let same = ap (λ (b : BucketRecord). version_count b) stands.bucket in
    let text = ap (λ (b : BucketRecord). rules_bytes b.rules) stands.bucket in
    (omega (arith, versions, same, c.self.invariant.0, c.moved-self-inside.ensures), omega (arith, rules, text, c.self.invariant.1, c.moved-self-inside-2.ensures), c.in_ok-done.ensures.index)
