-- Values as JSON (RFC 8259).
use Rattle.std.specs.Prelude.{ℕ, List, [], ◌∷◌, decimal}
use Rattle.serde_json.specs.Data.{Data, string, array, object, Members, no_members, put}
use Rattle.serde_json.specs.View.{items_of}
use Rattle.serde_json.specs.Written.{compact_text}
use Rattle.moments.specs.Texts.{moment_text}
pub use Rattle.rules_json.specs.Printing.{whole_data}
use Rattle.office_base.specs.Tags.{Tag}
use Rattle.office_base.specs.Versions.{id_text}
use Rattle.office_base.specs.declared.version_id.VersionId.{VersionId}

-- an object with these members, in any order; they are written in byte order of their names
abbrev pub members : List (List ℕ × Data) → Members
members [] = no_members
members ((name, value) ∷ rest) = put name value (members rest)

-- an object with these members, as a value
abbrev pub json_object : List (List ℕ × Data) → Data
json_object fields = object (members fields)

-- a list of these values, in their order
abbrev pub array_of : List Data → Data
array_of values = array (items_of values)

-- a number as a text of digits
abbrev pub digits_of : ℕ → Data
digits_of n = string (decimal n)

-- ---- values of the office (own)

-- a moment as 2024-01-01T00:00:00.000Z
abbrev pub moment_data : ℕ → Data
moment_data m = string (moment_text m)

-- the id of a version is a text, because it may be null
abbrev pub id_data : VersionId → Data
id_data id = string (id_text id)

-- a member for each tag
abbrev pub tag_members : List Tag → List (List ℕ × Data)
tag_members [] = []
tag_members (tag ∷ tags) = (tag.0, string tag.1) ∷ tag_members tags

-- the tags of an object or of an upload, as one object
abbrev pub tags_data : List Tag → Data
tags_data tags = json_object (tag_members tags)

-- ---- objects with one member

-- an object with one member, a text, as written
unfoldable pub text_object : List ℕ → List ℕ → List ℕ
text_object name text = compact_text (json_object ((name, string text) ∷ []))

-- an object with one member, a number, as written
unfoldable pub number_object : List ℕ → ℕ → List ℕ
number_object name n = compact_text (json_object ((name, whole_data n) ∷ []))
