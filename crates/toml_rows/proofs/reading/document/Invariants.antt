use Rattle.std.proofs.Common.{◌≡◌, ℕ, List, ◌<◌, ◌≤◌, length, suc, []}
use denote.Text.{Utf8}
use denote.Shadow.{shadow}
use Rattle.toml_parser.specs.Strings.{recursion_limit}
use Rattle.toml.specs.Data.{Items}
use Rattle.toml.specs.Tables.{Nodes, no_nodes}
use Rattle.toml.specs.Parse.{lines, skip_bom}
use Rattle.toml_rows.specs.Rows.{row_of}
use Rattle.toml_rows.specs.Tables.{Leads}
use Rattle.toml_rows.specs.Reading.{Holds}
use Rattle.toml_rows.proofs.reading.document.Given as goal

abbrev pub invariant-lines : goal.invariant-lines
invariant-lines l =
    shadow (Utf8 l.rest) × (length l.rest ≤ length l.fn.s)
    × (tables : ℕ → Nodes) × (elements : ℕ → Items) × (path : List (List ℕ))
    × Holds recursion_limit (row_of l.keys) tables elements × Leads (row_of l.keys) path l.section
    × (m : ℕ) × (length l.rest < m)
    × (lines (suc (length l.fn.s)) (no_nodes, []) (skip_bom l.fn.s) ≡ lines m (tables 0, path) l.rest)

abbrev pub decreases-lines : goal.decreases-lines
decreases-lines l = length l.rest
