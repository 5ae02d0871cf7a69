use Rattle.std.proofs.Common.{ℕ}
use Rattle.toml.specs.Data.{Items}
use Rattle.toml_rows.specs.Rows.{row_of}
use Rattle.toml_rows.specs.Walking.{IsArray, IsLeft}
use Rattle.toml_rows.proofs.keys.Keys.elements_of.Given as goal

abbrev pub invariant-elements : goal.invariant-elements
invariant-elements l =
    (depth : ℕ) (ds : Items) (is : IsArray depth (row_of l.self) l.last ds)
    → IsLeft depth (row_of l.self) is.tables is.elements ds l.found.items l.at l._turn
