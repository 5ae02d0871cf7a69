use Rattle.office_machine.proofs.Copied.{IsCopying}
use Rattle.office_machine.proofs.copying.copies_of.Given as goal

-- the buckets that are left come after those that were copied
abbrev pub invariant-loop-name : goal.invariant-loop-name
invariant-loop-name l = IsCopying l.copies.entries l.name-iterator l.accounts.entries
