use Rattle.std.proofs.Common.{length, ◌-◌, ◌<◌, ◌≤◌}
use Rattle.due_index.specs.Blocks.{AreClear}
use Rattle.due_index.proofs.passing.last_clear.Given as goal

-- from the first block until the last one, no version takes the step
abbrev pub invariant-loop-last : goal.invariant-loop-last
invariant-loop-last l = record {
  from : l.first ≤ l.last;
  within : l.last < length l.blocks;
  clear : AreClear l.blocks l.first l.last l.place l.kind;
}

abbrev pub decreases-loop-last : goal.decreases-loop-last
decreases-loop-last l = length l.blocks - l.last
