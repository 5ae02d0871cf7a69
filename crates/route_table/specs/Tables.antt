-- What a table gives for a path. Each of its rows has a pattern and a value.
use Rattle.std.specs.Prelude.{◌≡◌, ℕ, List, map}
use Rattle.std.specs.List.{Contains}
use Rattle.route_table.specs.Patterns.{Shape, HasPattern}

-- the rows of a table: patterns, each with a value
abbrev pub Rows : Type 0 → Type 0
Rows V = List (List Shape × V)

-- the patterns of a table, in the order of its rows
abbrev pub patterns_of : {V : Type 0} → Rows V → List (List Shape)
patterns_of rows = map (λ row. row.0) rows

-- the table leads a path to a value, with these parts: a row has the value and a pattern that matches the path
pub record Leads {V : Type 0} (rows : Rows V) (path : List ℕ) (value : V) (parts : List (List ℕ)) : Type 0 where
  pub pattern : List Shape
  pub row : Contains rows (pattern, value)
  pub has : HasPattern pattern parts path

-- the table leads the path to no other value, and with no other parts
abbrev pub LeadsOnly : {V : Type 0} → Rows V → List ℕ → V → List (List ℕ) → Type 0
LeadsOnly {V} rows path value parts =
    (other : V) (more : List (List ℕ)) → Leads rows path other more → (other ≡ value) × (more ≡ parts)

-- the table leads the path to no value
abbrev pub LeadsNowhere : {V : Type 0} → Rows V → List ℕ → Type 0
LeadsNowhere {V} rows path = (value : V) (parts : List (List ℕ)) → ¬ (Leads rows path value parts)
