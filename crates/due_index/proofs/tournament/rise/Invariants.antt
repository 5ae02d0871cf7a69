use Rattle.std.proofs.Common.{◌/◌, ◌<◌, ◌≤◌, length}
use Rattle.due_index.specs.Tournament.{IsTournamentOff}
use Rattle.due_index.proofs.tournament.rise.Given as goal

abbrev pub invariant-loop-i : goal.invariant-loop-i
invariant-loop-i l = record {
  off : IsTournamentOff l.slots l.nodes (l.i / 2);
  from_one : 1 ≤ l.i;
  within : l.i < length l.nodes;
}

abbrev pub decreases-loop-i : goal.decreases-loop-i
decreases-loop-i l = l.i
