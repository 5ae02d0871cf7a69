use Rattle.std.proofs.Common.{◌≡◌, rules}
use Rattle.std.specs.Map.Iter.{deref_pair}
use Rattle.std.proofs.lemmas.Map.Iter.{rest_all}
use Rattle.office_machine.proofs.Parts.{telling_begins, telling_more, telling_ends}
use Rattle.office_machine.proofs.snapshots.parts_of.Goals as goal

pub loop-name-init : goal.loop-name-init
loop-name-init c =
    let all : c.into_iter-name-iterator.result ≡ c.args.accounts.now.entries = search rules in
    telling_begins c.new-parts.result.items c.into_iter-name-iterator.result c.args.accounts.now.entries c.new-parts.ensures.items all

pub loop-name-preserved : goal.loop-name-preserved
loop-name-preserved c =
    telling_more c.loop-name.parts.items c.push_part.new.parts.items c.loop-name.name-iterator c.args.accounts.now.entries c.in_ok-part.part (c.in-Some.name.now, c.in-Some.account.now) c.next.new.self
    c.loop-name.invariant c.in-Some.ensures.steps c.in_ok-part.ensures c.in_ok-push_part.ensures

pub returns : goal.returns
returns c =
    telling_ends c.loop-name.parts.items c.loop-name.name-iterator c.args.accounts.now.entries c.loop-name.invariant
    (rest_all deref_pair c.loop-name.name-iterator c.next.new.self c.next.result c.in-None.is c.next.ensures.steps)
