-- The JSON body of a request (RFC 8259) and its fields.
use Rattle.std.specs.Prelude.{ℕ, List, [], ◌∷◌, if◌then◌else◌}
use Rattle.std.specs.Prelude.{Option, Some, None, option_map, option_and_then, is_some}
use Rattle.serde_json.specs.Data.{Data, object, Members, no_members, member}
use Rattle.serde_json.specs.Find.{get, as_object, as_str}
use Rattle.office_base.specs.Tags.{Tag}
use Rattle.json_fields.specs.Fields.{json_of}

-- this value, if it is an object
abbrev pub if_object : Data → Option Data
if_object value = if is_some (as_object value) then Some value else None

-- the object that a body is; an empty body is one without fields (own)
unfoldable pub body_object : List ℕ → Option Data
body_object [] = Some (object no_members)
body_object (byte ∷ bytes) = option_and_then if_object (json_of (byte ∷ bytes))

-- the pairs of an object, if all its values are texts
abbrev pub text_members : Members → Option (List Tag)
text_members no_members = Some []
text_members (member name value ms) =
    option_and_then (λ text. option_map (λ pairs. (name, text) ∷ pairs) (text_members ms)) (as_str value)

-- the same of a JSON value, if it is an object
abbrev pub text_pairs : Data → Option (List Tag)
text_pairs value = option_and_then text_members (as_object value)

-- what a value that may be missing holds: Some None if it is missing, and None if it is of another kind
abbrev pub if_there : {T : Type 0} → (Data → Option T) → Option Data → Option (Option T)
if_there kind None = Some None
if_there kind (Some value) = option_map Some (kind value)

-- what a required field holds; none if it is missing or of another kind
abbrev pub held : {T : Type 0} → (Data → Option T) → List ℕ → Data → Option T
held kind name body = option_and_then kind (get name body)

-- what an optional field holds; a null is not missing (own)
abbrev pub if_held : {T : Type 0} → (Data → Option T) → List ℕ → Data → Option (Option T)
if_held kind name body = if_there kind (get name body)
