use Rattle.std.proofs.Common.{◌≤◌}
use Rattle.std.specs.Prelude.{max}
use Rattle.class_rules.specs.Classes.{rank_of}
use Rattle.accrual.specs.Rows.{IsBefore}
use Rattle.accrual.proofs.rows.Rows.before.Given as goal

abbrev pub invariant-loop-earlier : goal.invariant-loop-earlier
invariant-loop-earlier l = IsBefore l.self l.earlier (rank_of l.class) l.sums × (l.earlier ≤ max l.self.first l.end)
