use Rattle.std.proofs.Common.{◌≡◌, drop}
use Rattle.stacks.specs.Ceasing.{cease_until}
use Rattle.stacks.proofs.orderly.do_cease_until.Given as goal

abbrev pub invariant-loop-version : goal.invariant-loop-version
invariant-loop-version l = cease_until l.last (drop l.version-index l.versions) ≡ cease_until l.fn.last l.versions
