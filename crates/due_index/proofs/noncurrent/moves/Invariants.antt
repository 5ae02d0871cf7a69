use Rattle.std.proofs.Common.{map, take}
use Rattle.due_index.specs.Search.{on_key, IsFirstOf, IsOfSteps, move_step}
use Rattle.due_index.proofs.noncurrent.moves.Given as goal

-- the moves so far were looked for
abbrev pub invariant-loop-asked : goal.invariant-loop-asked
invariant-loop-asked l =
    IsFirstOf (on_key l.key l.fn.best) (IsOfSteps l.setting (l.key, l.of_key) (l.number, l.rule) (map move_step (take l.asked-index l.asked-items))) (on_key l.key l.best)
