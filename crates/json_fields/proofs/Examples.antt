-- JSON texts computed on examples.
use Rattle.std.specs.Prelude.{◌≡◌, [], ◌∷◌, Some, None, option_and_then, codes, refl}
use Rattle.std.specs.Str.{is_utf8, chars}
use Rattle.serde_json.proofs.OnLiterals.{serde_json_on_literals}
use Rattle.json_fields.specs.Fields.{json_of, first_unknown, whole_number}

-- the last value of a name counts, and names are compared unescaped (RFC 8259, "Strings")
last_value : json_of (codes "{\"a\":1,\"\\u0061\":2}") ≡ json_of (codes "{\"a\":2}")
unfolding json_of is_utf8 chars serde_json_on_literals
last_value = refl

-- a text that does not end, and an empty one, are no JSON
no_end : json_of (codes "{") ≡ None
unfolding json_of is_utf8 chars serde_json_on_literals
no_end = refl

no_text : json_of [] ≡ None
unfolding json_of is_utf8 chars serde_json_on_literals
no_text = refl

-- of two unexpected fields the first by the bytes of its name, wherever it stands
first_by_bytes :
    option_and_then (first_unknown (codes "a" ∷ [])) (json_of (codes "{\"c\":0,\"b\":0,\"a\":0}")) ≡ Some (codes "b")
unfolding json_of is_utf8 chars serde_json_on_literals
first_by_bytes = refl

all_expected : option_and_then (first_unknown (codes "a" ∷ codes "b" ∷ [])) (json_of (codes "{\"b\":0}")) ≡ None
unfolding json_of is_utf8 chars serde_json_on_literals
all_expected = refl

-- a number with a point is no whole number, nor is one above 2^64 - 1
with_point : option_and_then whole_number (json_of (codes "1.0")) ≡ None
unfolding json_of is_utf8 chars serde_json_on_literals
with_point = refl

largest : option_and_then whole_number (json_of (codes "18446744073709551615")) ≡ Some 18446744073709551615
unfolding json_of is_utf8 chars serde_json_on_literals
largest = refl

above : option_and_then whole_number (json_of (codes "18446744073709551616")) ≡ None
unfolding json_of is_utf8 chars serde_json_on_literals
above = refl
