-- What the body of a PUT of an object says. First the kinds of all fields are checked in order, then their ranges (own
-- order).
use Rattle.std.specs.Prelude.{ℕ, List, [], ◌∷◌, Option, Result, Ok, ok_or, codes}
use Rattle.serde_json.specs.Find.{as_str}
use Rattle.office_base.specs.Results.{◌>>=◌}
use Rattle.office_base.specs.Tags.{Tag}
use Rattle.http_bodies.specs.declared.put.PutBody.{PutBody}
use Rattle.json_fields.specs.Fields.{whole_number}
use Rattle.http_bodies.specs.Bodies.{text_pairs, held, if_held}
use Rattle.http_bodies.specs.Flaws.{BodyFlaw, bad_body, body_with}
use Rattle.http_bodies.specs.Ranges.{size_in_range, class_in_range, tags_in_range}

-- the names of the fields (own)
abbrev pub put_fields : List (List ℕ)
put_fields = codes "size" ∷ codes "class" ∷ codes "tags" ∷ []

-- this size, the class of this name and these tags, if they are in range; the class and the tags may be missing
unfoldable pub put_in_range : ℕ → Option (List ℕ) → Option (List Tag) → Result PutBody BodyFlaw
put_in_range bytes name pairs = do
  size ← size_in_range bytes
  class ← class_in_range name
  tags ← tags_in_range pairs
  Ok (record { size = size; class = class; tags = tags })

-- what the bytes of a body say, or the first rule that they break
unfoldable pub put_of : List ℕ → Result PutBody BodyFlaw
put_of bytes = do
  body ← body_with put_fields bytes
  size ← ok_or (held whole_number (codes "size") body) (bad_body (codes "size"))
  class ← ok_or (if_held as_str (codes "class") body) (bad_body (codes "class"))
  tags ← ok_or (if_held text_pairs (codes "tags") body) (bad_body (codes "tags"))
  put_in_range size class tags
