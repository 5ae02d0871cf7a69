use Rattle.std.proofs.Common.{map}
use Rattle.route_table.specs.Patterns.{pattern_in}
use Rattle.route_table.specs.Tables.{patterns_of}
use Rattle.route_table.specs.Routed.{HoldsRoutes}
use Rattle.route_table.proofs.table.Table.new.Given as goal

abbrev pub invariant-loop-place : goal.invariant-loop-place
invariant-loop-place g l = HoldsRoutes (patterns_of (map (λ row. (pattern_in row.0.now, row.1)) l.rows)) l.place l.router
