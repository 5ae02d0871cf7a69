use Rattle.std.proofs.Common.{◌≡◌, ◌≤◌, length, take, drop}
use Rattle.json_fields.specs.Nodes.{values_of}
use Rattle.json_fields.proofs.node.below.Given as goal

abbrev pub invariant-loop-left : goal.invariant-loop-left
invariant-loop-left l =
    (l.end ≤ length l.nodes) × (drop l.left (values_of (take l.end l.nodes)) ≡ drop l.count (values_of l.nodes))

abbrev pub decreases-loop-left : goal.decreases-loop-left
decreases-loop-left l = l.end
