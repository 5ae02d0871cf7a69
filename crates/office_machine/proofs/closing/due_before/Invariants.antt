use Rattle.std.proofs.Common.{◌≡◌}
use Rattle.office_machine.specs.Closing.{first_due}
use Rattle.office_machine.proofs.closing.due_before.Given as goal

-- no choice of the buckets that were looked at stands before the end
abbrev pub invariant-loop-name : goal.invariant-loop-name
invariant-loop-name l = first_due l.t l.end l.name-iterator ≡ first_due l.t l.end l.accounts.entries
