use Rattle.office_laws.proofs.Maps.{by_name}
use Rattle.bucket_account.proofs.Copied.{copied_more}
use Rattle.bucket_account.proofs.copying.copy_stacks.Goals as goal

pub loop-key-preserved : goal.loop-key-preserved
loop-key-preserved c =
    copied_more by_name c.args.stacks.now.entries c.loop-key.copies.entries c.add_copy.new.copies.entries c.loop-key.key-iterator (c.in-Some.key.now, c.in-Some.stack.now) c.next.new.self
    c.requires.rises c.loop-key.invariant c.in-Some.ensures.steps c.in_ok-add_copy.ensures
