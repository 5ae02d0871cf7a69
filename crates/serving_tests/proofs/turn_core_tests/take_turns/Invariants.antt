use Rattle.std.proofs.Common.{◌≡◌}
use Rattle.turn_core.specs.Passes.{IsPassOf, view}
use Rattle.serving_tests.proofs.turn_core_tests.take_turns.Given as goal

-- the pass stays one of these turns, and keeps its share
abbrev pub invariant-loop-number : goal.invariant-loop-number
invariant-loop-number g l = IsPassOf l.turns l.pass × ((view l.pass).share ≡ (view l.fn.pass).share)
