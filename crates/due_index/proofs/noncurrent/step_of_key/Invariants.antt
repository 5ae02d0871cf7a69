use Rattle.std.proofs.Common.{◌≤◌, length}
use Rattle.due_index.specs.Search.{on_key, IsFirstOf}
use Rattle.due_index.proofs.Oldest.{IsFrom}
use Rattle.due_index.proofs.noncurrent.step_of_key.Given as goal

-- the versions with at least this many newer ones were looked at
abbrev pub invariant-loop-i : goal.invariant-loop-i
invariant-loop-i l = record {
  within : l.i ≤ length l.of_key.versions;
  first : IsFirstOf (on_key l.key l.fn.best) (IsFrom l.setting (l.key, l.of_key) (l.number, l.rule) l.step l.i) (on_key l.key l.best);
}

abbrev pub decreases-loop-i : goal.decreases-loop-i
decreases-loop-i l = l.i
