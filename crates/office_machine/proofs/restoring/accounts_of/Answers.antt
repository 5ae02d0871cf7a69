use Rattle.office_machine.proofs.Parts.{making_begins, next_makable, making_more, making_ends}
use Rattle.office_machine.proofs.restoring.accounts_of.Goals as goal

pub account_of-requires : goal.account_of-requires
account_of-requires c =
    next_makable c.loop-part.accounts.entries c.loop-part.part-iterator.rest.items c.args.parts.items c.in-Some.part c.next.new.self.rest.items c.loop-part.invariant c.in-Some.ensures.steps.0 c.requires.makable

pub loop-part-preserved : goal.loop-part-preserved
loop-part-preserved c =
    making_more c.loop-part.accounts.entries c.loop-part.part-iterator.rest.items c.args.parts.items c.in-Some.part c.next.new.self.rest.items c.loop-part.invariant c.in-Some.ensures.steps.0 c.requires.names
    c.put.new.accounts.entries c.in_ok-name.name c.in_ok-name.account c.in_ok-put.ensures.put c.in_ok-name.ensures
