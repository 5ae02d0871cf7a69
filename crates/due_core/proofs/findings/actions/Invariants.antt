use Rattle.std.proofs.Common.{◌≡◌, map, take}
use Rattle.due_core.proofs.findings.actions.Given as goal

-- the actions of those that were looked at
abbrev pub invariant-loop-candidate : goal.invariant-loop-candidate
invariant-loop-candidate l = l.actions.items ≡ map (λ candidate. candidate.action) (take l.candidate-index l.found)
