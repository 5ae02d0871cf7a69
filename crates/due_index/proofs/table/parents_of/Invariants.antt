use Rattle.std.proofs.Common.{◌≡◌, length}
use Rattle.due_index.specs.Table.{IsLinked}
use Rattle.due_index.proofs.table.parents_of.Given as goal

-- the parents so far
abbrev pub invariant-loop-i : goal.invariant-loop-i
invariant-loop-i l = record {
  linked : IsLinked l.rules l.order l.parents.items;
  size : length l.parents.items ≡ l.i;
}
