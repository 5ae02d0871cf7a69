use Rattle.std.proofs.Common.{◌≡◌}
use Rattle.turn_core.proofs.steps.wait_for.Given as goal

-- nothing has changed yet
abbrev pub invariant-loop : goal.invariant-loop
invariant-loop g l =
    (goal.iterator-loop g).can_next l.iterator' × (goal.iterator-loop g).is_finite l.iterator'
    × (l.place.table_id ≡ l.fn.place.table_id) × (l.place.id ≡ l.fn.place.id) × (l.place.me ≡ l.fn.place.me)
