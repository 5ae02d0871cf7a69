-- What a body says that sets the versioning of a bucket or the tags of a version.
use Rattle.std.specs.Prelude.{ℕ, List, [], ◌∷◌, Bool, true, false, if◌then◌else◌}
use Rattle.std.specs.Prelude.{Option, Some, None, option_and_then, Result, ok_or, codes}
use Rattle.std.specs.Str.{bytes_eq}
use Rattle.serde_json.specs.Data.{Data}
use Rattle.serde_json.specs.Find.{as_str}
use Rattle.office_base.specs.Results.{◌>>=◌}
use Rattle.office_base.specs.Tags.{Tag}
use Rattle.http_bodies.specs.Bodies.{text_pairs, held}
use Rattle.http_bodies.specs.Flaws.{BodyFlaw, bad_body, body_with}
use Rattle.http_bodies.specs.Ranges.{tags_in_range}

-- whether versioning is enabled, by the word for it (S3 User Guide, "Enabling versioning on buckets")
abbrev pub status_named : List ℕ → Option Bool
status_named word =
    if bytes_eq word (codes "Enabled") then Some true
    else if bytes_eq word (codes "Suspended") then Some false
    else None

-- the same of a JSON value, if it is a text
abbrev pub versioning_status : Data → Option Bool
versioning_status value = option_and_then status_named (as_str value)

-- the versioning that the bytes of a body set, or the first rule that they break
unfoldable pub versioning_of : List ℕ → Result Bool BodyFlaw
versioning_of bytes = do
  body ← body_with (codes "Status" ∷ []) bytes
  ok_or (held versioning_status (codes "Status") body) (bad_body (codes "Status"))

-- the tags that the bytes of a body set, or the first rule that they break (S3 User Guide, "Categorizing your objects
-- using tags")
unfoldable pub tagging_of : List ℕ → Result (List Tag) BodyFlaw
tagging_of bytes = do
  body ← body_with (codes "tags" ∷ []) bytes
  pairs ← ok_or (held text_pairs (codes "tags") body) (bad_body (codes "tags"))
  tags_in_range (Some pairs)
