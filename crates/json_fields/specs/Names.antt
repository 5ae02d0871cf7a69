-- The first of names, in byte order.
use Rattle.std.specs.Prelude.{ℕ, List, Option, Some, None, option_map, unwrap_or, length, if◌then◌else◌}
use Rattle.std.specs.Ordering.{nat_cmp, is_gt}
use Rattle.std.specs.Cmp.Lexicographic.{slice_cmp}
use Rattle.serde_json.specs.Data.{Data}
use Rattle.serde_json.specs.Find.{as_object}
use Rattle.json_fields.specs.Fields.{names_of}

-- the first of two names in byte order, either of which may be missing
abbrev pub earlier : Option (List ℕ) → Option (List ℕ) → Option (List ℕ)
earlier None name = name
earlier (Some first) None = Some first
earlier (Some first) (Some name) = if is_gt (slice_cmp nat_cmp first name) then Some name else Some first

-- how many names an object has, and 0 of another value
abbrev pub names_in : Data → ℕ
names_in value = unwrap_or (option_map (λ ms. length (names_of ms)) (as_object value)) 0
