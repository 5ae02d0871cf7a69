-- What the bodies of a multipart upload say (S3 User Guide, "Uploading and copying objects using multipart upload").
use Rattle.std.specs.Prelude.{ℕ, List, [], ◌∷◌, Option, Result, Ok, ok_or, codes}
use Rattle.serde_json.specs.Find.{as_str}
use Rattle.office_base.specs.Results.{◌>>=◌}
use Rattle.office_base.specs.Tags.{Tag}
use Rattle.http_bodies.specs.declared.multipart.UploadBody.{UploadBody}
use Rattle.json_fields.specs.Fields.{whole_number}
use Rattle.http_bodies.specs.Bodies.{text_pairs, held, if_held}
use Rattle.http_bodies.specs.Flaws.{BodyFlaw, bad_body, body_with}
use Rattle.http_bodies.specs.Ranges.{class_in_range, tags_in_range}

-- the class of this name and these tags, either of which may be missing, if they are in range
unfoldable pub upload_in_range : Option (List ℕ) → Option (List Tag) → Result UploadBody BodyFlaw
upload_in_range name pairs = do
  class ← class_in_range name
  tags ← tags_in_range pairs
  Ok (record { class = class; tags = tags })

-- what the bytes of the body that starts an upload say, or the first rule that they break
unfoldable pub upload_said : List ℕ → Result UploadBody BodyFlaw
upload_said bytes = do
  body ← body_with (codes "class" ∷ codes "tags" ∷ []) bytes
  class ← ok_or (if_held as_str (codes "class") body) (bad_body (codes "class"))
  tags ← ok_or (if_held text_pairs (codes "tags") body) (bad_body (codes "tags"))
  upload_in_range class tags

-- the size that the body of a part says, in bytes, or the first rule that it breaks; this body limits no size
unfoldable pub part_of : List ℕ → Result ℕ BodyFlaw
part_of bytes = do
  body ← body_with (codes "size" ∷ []) bytes
  ok_or (held whole_number (codes "size") body) (bad_body (codes "size"))
