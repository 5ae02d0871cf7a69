use Rattle.office_machine.proofs.Parts.{IsTelling}
use Rattle.office_machine.proofs.snapshots.parts_of.Given as goal

-- the buckets that are left come after those of the parts
abbrev pub invariant-loop-name : goal.invariant-loop-name
invariant-loop-name l = IsTelling l.parts.items l.name-iterator l.accounts.entries
