use Rattle.std.proofs.Common.{◌≡◌, ℕ, false}
use Rattle.toml_rows.specs.Rows.{is_key, row_of, IsFoundBy, IsTurn}
use Rattle.toml_rows.proofs.keys.Keys.find.Given as goal

abbrev pub invariant-turns : goal.invariant-turns
invariant-turns l =
    (level : ℕ → ℕ) → IsFoundBy (row_of l.self) level → is_key ((row_of l.self).what 0) ≡ false
    → IsTurn (row_of l.self) level l.table l.name l.at l.turn
