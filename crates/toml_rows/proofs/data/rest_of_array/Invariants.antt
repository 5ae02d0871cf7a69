use Rattle.std.proofs.Common.{◌≡◌, ℕ, ◌<◌, ◌≤◌, length}
use denote.Text.{Utf8}
use denote.Shadow.{shadow}
use Rattle.toml.specs.Data.{no_items}
use Rattle.toml.specs.Parse.{val, items}
use Rattle.toml_rows.specs.Walking.{items_of, data_of_all}
use Rattle.toml_rows.proofs.data.rest_of_array.Given as goal

abbrev pub invariant-items : goal.invariant-items
invariant-items l =
    shadow (Utf8 l.rest) × (length l.rest ≤ length l.fn.s)
    × ((n : ℕ) → length l.fn.s < n → (m : ℕ) × (length l.rest < m)
    × (items (val l.fn.depth) n no_items l.fn.s ≡ items (val l.fn.depth) m (items_of (data_of_all l.fn.depth l.found.items)) l.rest))

abbrev pub decreases-items : goal.decreases-items
decreases-items l = length l.rest
