use Rattle.toml_rows.specs.Rows.{row_of}
use Rattle.toml_rows.specs.Walking.{knows, IsLeast}
use Rattle.toml_rows.proofs.keys.Keys.first_unknown.Given as goal

abbrev pub invariant-parts : goal.invariant-parts
invariant-parts l = IsLeast (row_of l.self) l.table (knows l.known) l.part l.least
