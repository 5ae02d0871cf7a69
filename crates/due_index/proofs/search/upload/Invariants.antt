use Rattle.std.proofs.Common.{◌≤◌, length}
use Rattle.due_index.specs.Search.{on_key, IsFirstOf, asked_at, asked_of_one_upload}
use Rattle.due_index.specs.Table.{IsNotBelow}
use Rattle.due_index.proofs.Tables.{IsAskedFrom}
use Rattle.due_index.proofs.search.upload.Given as goal

-- the rules from there up were asked
abbrev pub invariant-loop-next : goal.invariant-loop-next
invariant-loop-next l = record {
  within : l.next ≤ length l.table.order;
  below : IsNotBelow l.rules l.table.order l.upload.key l.next;
  first : IsFirstOf (on_key l.upload.key l.fn.best) (IsAskedFrom (asked_at (asked_of_one_upload l.setting l.number l.upload) l.rules) l.table.order l.next) (on_key l.upload.key l.best);
}

abbrev pub decreases-loop-next : goal.decreases-loop-next
decreases-loop-next l = l.next
