-- Bodies computed on examples.
use Rattle.std.specs.Prelude.{◌≡◌, [], ◌∷◌, Ok, Err, codes, refl}
use Rattle.std.specs.Str.{is_utf8, chars}
use Rattle.serde_json.proofs.OnLiterals.{serde_json_on_literals}
use Rattle.office_base.specs.Tags.{is_tag, are_tags, by_key}
use Rattle.class_rules.specs.declared.class.Class.TheVariants.{Standard, Glacier}
use Rattle.json_fields.specs.Fields.{json_of}
use Rattle.http_bodies.specs.Bodies.{body_object}
use Rattle.http_bodies.specs.Flaws.{bad_body, bad_size, unsupported_class, bad_tags}
use Rattle.http_bodies.specs.Puts.{put_of, put_in_range}

-- an empty body counts as {}
empty : put_of [] ≡ put_of (codes "{}")
unfolding put_of put_in_range body_object json_of are_tags is_tag by_key is_utf8 chars serde_json_on_literals
empty = refl

-- white space alone is no body
spaces_alone : put_of (codes " ") ≡ Err (bad_body [])
unfolding put_of put_in_range body_object json_of are_tags is_tag by_key is_utf8 chars serde_json_on_literals
spaces_alone = refl

-- a text of another kind is no body
another_kind : put_of (codes "[]") ≡ Err (bad_body [])
unfolding put_of put_in_range body_object json_of are_tags is_tag by_key is_utf8 chars serde_json_on_literals
another_kind = refl

-- the last value of a name counts
last_size : put_of (codes "{\"size\":1,\"size\":2}") ≡ Ok (record { size = 2; class = Standard; tags = [] })
unfolding put_of put_in_range body_object json_of are_tags is_tag by_key is_utf8 chars serde_json_on_literals
last_size = refl

-- the first unknown field in the order of the names' bytes
first_unknown_field : put_of (codes "{\"size\":1,\"b\":0,\"a\":0}") ≡ Err (bad_body (codes "a"))
unfolding put_of put_in_range body_object json_of are_tags is_tag by_key is_utf8 chars serde_json_on_literals
first_unknown_field = refl

-- an unknown field is told of before a missing size
unknown_before_missing : put_of (codes "{\"a\":0}") ≡ Err (bad_body (codes "a"))
unfolding put_of put_in_range body_object json_of are_tags is_tag by_key is_utf8 chars serde_json_on_literals
unknown_before_missing = refl

-- a size with a point is no whole number
size_as_a_float : put_of (codes "{\"size\":1.0}") ≡ Err (bad_body (codes "size"))
unfolding put_of put_in_range body_object json_of are_tags is_tag by_key is_utf8 chars serde_json_on_literals
size_as_a_float = refl

-- nor is 2^64 one
size_past_64_bits : put_of (codes "{\"size\":18446744073709551616}") ≡ Err (bad_body (codes "size"))
unfolding put_of put_in_range body_object json_of are_tags is_tag by_key is_utf8 chars serde_json_on_literals
size_past_64_bits = refl

-- 2^64 - 1 is one, and out of range
largest_u64 : put_of (codes "{\"size\":18446744073709551615}") ≡ Err bad_size
unfolding put_of put_in_range body_object json_of are_tags is_tag by_key is_utf8 chars serde_json_on_literals
largest_u64 = refl

-- null is another kind
null_class : put_of (codes "{\"size\":1,\"class\":null}") ≡ Err (bad_body (codes "class"))
unfolding put_of put_in_range body_object json_of are_tags is_tag by_key is_utf8 chars serde_json_on_literals
null_class = refl

-- a kind is told of before a range
kind_before_range : put_of (codes "{\"size\":5497558138881,\"class\":1}") ≡ Err (bad_body (codes "class"))
unfolding put_of put_in_range body_object json_of are_tags is_tag by_key is_utf8 chars serde_json_on_literals
kind_before_range = refl

-- a size out of range is told of before a class
size_before_class : put_of (codes "{\"size\":5497558138881,\"class\":\"FOO\"}") ≡ Err bad_size
unfolding put_of put_in_range body_object json_of are_tags is_tag by_key is_utf8 chars serde_json_on_literals
size_before_class = refl

-- the names of classes are in upper case
lower_case_class : put_of (codes "{\"size\":1,\"class\":\"standard\"}") ≡ Err (unsupported_class (codes "standard"))
unfolding put_of put_in_range body_object json_of are_tags is_tag by_key is_utf8 chars serde_json_on_literals
lower_case_class = refl

-- tags in the order of their keys
tags_by_key : put_of (codes "{\"size\":3,\"class\":\"GLACIER\",\"tags\":{\"b\":\"x\",\"a\":\"\"}}") ≡ Ok (record { size = 3; class = Glacier; tags = (codes "a", []) ∷ (codes "b", codes "x") ∷ [] })
unfolding put_of put_in_range body_object json_of are_tags is_tag by_key is_utf8 chars serde_json_on_literals
tags_by_key = refl

-- a tag's value is a text
number_in_tags : put_of (codes "{\"size\":1,\"tags\":{\"a\":1}}") ≡ Err (bad_body (codes "tags"))
unfolding put_of put_in_range body_object json_of are_tags is_tag by_key is_utf8 chars serde_json_on_literals
number_in_tags = refl

-- a tag's key has a character
empty_key : put_of (codes "{\"size\":1,\"tags\":{\"\":\"x\"}}") ≡ Err bad_tags
unfolding put_of put_in_range body_object json_of are_tags is_tag by_key is_utf8 chars serde_json_on_literals
empty_key = refl
