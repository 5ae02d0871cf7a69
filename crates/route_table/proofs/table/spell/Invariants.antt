use Rattle.std.proofs.Common.{◌≡◌, take}
use Rattle.std.specs.String.{string_bytes}
use Rattle.route_table.specs.Patterns.{pattern_in}
use Rattle.route_table.specs.Routed.{pattern_text}
use Rattle.route_table.proofs.table.spell.Given as goal

abbrev pub invariant-loop-shape : goal.invariant-loop-shape
invariant-loop-shape l = string_bytes l.text ≡ pattern_text (pattern_in (take l.shape-index l.pattern))
