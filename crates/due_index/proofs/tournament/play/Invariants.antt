use Rattle.std.proofs.Common.{◌≤◌}
use Rattle.due_index.proofs.Tournaments.{IsTournamentFrom}
use Rattle.due_index.proofs.tournament.play.Given as goal

abbrev pub invariant-loop-i : goal.invariant-loop-i
invariant-loop-i l = record { from : IsTournamentFrom l.slots l.nodes l.half l.i; within : l.i ≤ l.half }

abbrev pub decreases-loop-i : goal.decreases-loop-i
decreases-loop-i l = l.i
