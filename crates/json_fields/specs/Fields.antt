-- JSON (RFC 8259): the value that a text is, the names of an object's fields, and whole numbers.
use Rattle.std.specs.Prelude.{ℕ, not, List, [], ◌∷◌, Option, None, option_and_then, if◌then◌else◌}
use Rattle.std.specs.List.{find}
use Rattle.std.specs.Str.{is_utf8}
use Rattle.office_base.specs.Texts.{is_among}
use Rattle.serde_json.specs.Data.{Data, Members, no_members, member}
use Rattle.serde_json.specs.Read.{read}
use Rattle.serde_json.specs.Find.{as_object, as_number, as_u64}

-- the value of a text in UTF-8 (RFC 8259, "Character Encoding"). An object has each name once, in the byte order of the
-- names, with the last of its values (own; RFC 8259, "Objects", leaves the choice open).
unfoldable pub json_of : List ℕ → Option Data
json_of text = if is_utf8 text then read text else None

-- the names of members, in their order
abbrev pub names_of : Members → List (List ℕ)
names_of no_members = []
names_of (member name value ms) = name ∷ names_of ms

-- the first field, in the byte order of the names, whose name is not one of these
abbrev pub first_unknown : List (List ℕ) → Data → Option (List ℕ)
first_unknown known body =
    option_and_then (λ ms. find (λ name. not (is_among known name)) (names_of ms)) (as_object body)

-- a whole number from 0 to 2^64 - 1, written as an integer (own: not as 1.0 or 1e3)
abbrev pub whole_number : Data → Option ℕ
whole_number value = option_and_then as_u64 (as_number value)
