use Rattle.std.proofs.Common.{◌≡◌, ℕ, drop}
use Rattle.toml.specs.Data.{Items}
use Rattle.toml.specs.Tables.{Nodes}
use Rattle.toml_rows.specs.Rows.{row_of}
use Rattle.toml_rows.specs.Reading.{Holds}
use Rattle.toml_rows.specs.Walking.{items_of, tables_of}
use Rattle.office_base.proofs.Results.{joined}
use Rattle.tariff.specs.Reading.{tiers_said}
use Rattle.tariff.proofs.tier.tiers_in_tables.Given as goal

abbrev pub invariant-loop-number : goal.invariant-loop-number
invariant-loop-number l =
    (depth : ℕ) (tables : ℕ → Nodes) (before : ℕ → Items) → Holds depth (row_of l.keys) tables before
    → tiers_said l.class (items_of (tables_of tables l.numbers)) ≡ joined l.tiers.items (tiers_said l.class (items_of (tables_of tables (drop l.number-index l.numbers))))
