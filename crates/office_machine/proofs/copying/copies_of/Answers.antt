use Rattle.std.proofs.Common.{◌≡◌, rules}
use Rattle.std.specs.Map.Iter.{deref_pair}
use Rattle.std.proofs.lemmas.Map.Iter.{rest_all}
use Rattle.office_machine.proofs.Copied.{copying_begins, copying_more, copying_ends}
use Rattle.office_machine.proofs.copying.copies_of.Goals as goal

pub loop-name-init : goal.loop-name-init
loop-name-init c =
    let all : c.into_iter-name-iterator.result ≡ c.args.accounts.now.entries = search rules in
    copying_begins c.new-copies.result.entries c.into_iter-name-iterator.result c.args.accounts.now.entries c.new-copies.ensures.empty all

pub loop-name-preserved : goal.loop-name-preserved
loop-name-preserved c =
    copying_more c.loop-name.copies.entries c.put_copy.new.copies.entries c.loop-name.name-iterator c.args.accounts.now.entries (c.in-Some.name.now, c.in-Some.account.now) c.next.new.self
    c.see_names.ensures c.loop-name.invariant c.in-Some.ensures.steps c.in_ok-put_copy.ensures

pub returns : goal.returns
returns c =
    copying_ends c.loop-name.copies.entries c.loop-name.name-iterator c.args.accounts.now.entries c.loop-name.invariant
    (rest_all deref_pair c.loop-name.name-iterator c.next.new.self c.next.result c.in-None.is c.next.ensures.steps)
