-- What is wrong with a body.
use Rattle.std.specs.Prelude.{ℕ, List, [], Option, Some, None, Result, Ok, Err, ok_or, string_bytes}
use Rattle.serde_json.specs.Data.{Data}
use Rattle.office_base.specs.Results.{◌>>=◌, GivesBy}
use Rattle.json_fields.specs.Fields.{first_unknown}
use Rattle.http_bodies.specs.Bodies.{body_object}
use Rattle.http_bodies.specs.declared.fault.BodyFault.{BodyFault}
use Rattle.http_bodies.specs.declared.fault.BodyFault.TheVariants.{BadBody, BadSize, UnsupportedClass}
use Rattle.http_bodies.specs.declared.fault.BodyFault.TheVariants.{BadTags, NoMemory}

-- the faults of a body, with their texts as bytes
pub data BodyFlaw : Type 0 where
  bad_body : List ℕ → BodyFlaw
  bad_size : BodyFlaw
  unsupported_class : List ℕ → BodyFlaw
  bad_tags : BodyFlaw

-- the flaw that a fault reports; none if memory ran out
abbrev pub body_flaw_of : BodyFault → Option BodyFlaw
body_flaw_of (BadBody field) = Some (bad_body (string_bytes field))
body_flaw_of BadSize = Some bad_size
body_flaw_of (UnsupportedClass name) = Some (unsupported_class (string_bytes name))
body_flaw_of BadTags = Some bad_tags
body_flaw_of NoMemory = None

-- an answer, seen by view, is the result of reading, unless memory ran out
abbrev pub BodySays : {X Y : Type 0} → (X → Y) → Result X BodyFault → Result Y BodyFlaw → Type 0
BodySays view answer read = GivesBy body_flaw_of view answer read

-- the body, or the flaw of its unknown field if there is one
abbrev pub if_known : Data → Option (List ℕ) → Result Data BodyFlaw
if_known body None = Ok body
if_known body (Some name) = Err (bad_body name)

-- the body, if it has no other fields than these
abbrev pub with_fields : List (List ℕ) → Data → Result Data BodyFlaw
with_fields known body = if_known body (first_unknown known body)

-- the object that the bytes of a body are, if it has no other fields than these
abbrev pub body_with : List (List ℕ) → List ℕ → Result Data BodyFlaw
body_with known bytes = ok_or (body_object bytes) (bad_body []) >>= with_fields known
