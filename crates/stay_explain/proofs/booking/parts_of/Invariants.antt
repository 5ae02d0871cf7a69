use Rattle.std.proofs.Common.{◌≡◌, ◌++◌, map}
use Rattle.stay_explain.specs.Plans.{part_items}
use Rattle.stay_explain.specs.Rows.{item_of}
use Rattle.stay_explain.proofs.booking.parts_of.Given as goal

-- the parts that are left come after those that stand there
abbrev pub invariant-loop-part : goal.invariant-loop-part
invariant-loop-part l = map item_of l.items.items ++ part_items l.number l.part-iterator ≡ part_items l.number l.upload.parts
