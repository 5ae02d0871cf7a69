use Rattle.std.proofs.Common.{refl}
use Rattle.http_routes.specs.Table.{rows}
use Rattle.http_routes.proofs.routes.Routes.new.Goals as goal

pub new-requires : goal.new-requires
new-requires c = record { disjoint = refl }

pub invariant_of-result : goal.invariant_of-result
unfolding rows
invariant_of-result c = c.in_ok-table.ensures
