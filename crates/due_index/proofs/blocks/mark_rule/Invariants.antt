use Rattle.std.proofs.Common.{◌++◌, map, take}
use Rattle.std.specs.Prelude.{option_to_list}
use Rattle.due_index.specs.Search.{removal_step, move_step}
use Rattle.due_index.specs.Blocks.{KeepsMarks}
use Rattle.due_index.proofs.Marks.{AreMarked}
use Rattle.due_index.proofs.blocks.mark_rule.Given as goal

-- the removal and the moves so far are marked
abbrev pub invariant-loop-asked : goal.invariant-loop-asked
invariant-loop-asked l = record {
  here : AreMarked l.mode l.key l.place l.rule.filter l.marks.items l.version
      (map removal_step (option_to_list l.rule.noncurrent_expiration) ++ map move_step (take l.asked-index l.asked-items));
  kept : KeepsMarks l.fn.marks.items l.marks.items;
}
