use Rattle.std.proofs.Common.{◌≡◌, ◌-◌, ◌≤◌, ◌<◌, ℕ, length}
use Rattle.std.specs.Prelude.{Some, slice_get}
use Rattle.stacks.specs.declared.version.Version.{Version}
use Rattle.due_index.specs.Blocks.{IsPassed}
use Rattle.due_index.proofs.passing.passed.Given as goal

-- the older ones of the versions were passed over
abbrev pub invariant-loop-left : goal.invariant-loop-left
invariant-loop-left l = record {
  some : 1 ≤ l.left;
  fewer : l.left ≤ l.fn.left;
  passed : (j : ℕ) (version : Version) → l.left ≤ j → j < l.fn.left → slice_get l.of_key.versions j ≡ Some version → IsPassed l.blocks l.place l.kind version;
}

abbrev pub decreases-loop-left : goal.decreases-loop-left
decreases-loop-left l = length l.blocks - l.at
