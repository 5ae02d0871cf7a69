use Rattle.std.proofs.Common.{◌≤◌}
use Rattle.due_index.specs.Table.{NoneBegins}
use Rattle.due_index.proofs.table.climb.Given as goal

-- no prefix from there up begins the text
abbrev pub invariant-loop-next : goal.invariant-loop-next
invariant-loop-next l = record {
  down : l.next ≤ l.from;
  none : NoneBegins l.rules l.order l.text l.next l.from;
}

abbrev pub decreases-loop-next : goal.decreases-loop-next
decreases-loop-next l = l.next
