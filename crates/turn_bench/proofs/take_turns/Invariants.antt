use Rattle.std.proofs.Common.{◌≡◌}
use Rattle.turn_core.specs.Passes.{IsPassOf, view}
use Rattle.turn_bench.proofs.take_turns.Given as goal

-- the pass stays one of these turns, and keeps its share
abbrev pub invariant-loop : goal.invariant-loop
invariant-loop g l = IsPassOf l.turns l.pass × ((view l.pass).share ≡ (view l.fn.pass).share)
