use Rattle.office_machine.proofs.Parts.{IsMaking}
use Rattle.office_machine.proofs.restoring.accounts_of.Given as goal

-- the parts that are left come after those of which the buckets were made
abbrev pub invariant-loop-part : goal.invariant-loop-part
invariant-loop-part l = IsMaking l.accounts.entries l.part-iterator.rest.items l.fn.parts.items
