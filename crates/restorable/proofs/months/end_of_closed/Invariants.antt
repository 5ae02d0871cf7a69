use Rattle.std.proofs.Common.{◌≡◌, drop}
use Rattle.plain_office.specs.Orderly.{last_end}
use Rattle.restorable.proofs.NameTests.{end_after}
use Rattle.restorable.proofs.months.end_of_closed.Given as goal

abbrev pub invariant-loop-month : goal.invariant-loop-month
invariant-loop-month l = end_after l.last_end (drop l.month-index l.closed) ≡ last_end l.closed
