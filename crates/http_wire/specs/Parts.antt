-- What a message is to its callers.
use Rattle.std.specs.Prelude.{◌≡◌, ℕ, Bool, List, [], ◌∷◌, slice_range, unwrap_or, Option, ⊤}
use Rattle.httparse.specs.Grammar.{Field, field_value}
use Rattle.httparse.specs.Spans.{span_bytes, IsWithin}
use Rattle.httparse.specs.declared.spans.RequestSpans.{RequestSpans}
use Rattle.http_wire.specs.declared.fields.Found.{Found}
use Rattle.http_wire.specs.declared.fields.Found.TheVariants.{Absent, Once, Repeated}

-- there is none of these fields, or exactly one, whose value is at that span of the bytes, or there are several
abbrev pub IsFound : List ℕ → Found → List Field → Type 0
IsFound bytes Absent fields = fields ≡ []
IsFound bytes (Once value) fields =
    (field : Field) × (fields ≡ field ∷ []) × (span_bytes bytes value ≡ field_value field)
IsFound bytes Repeated fields = (first second : Field) × (more : List Field) × (fields ≡ first ∷ second ∷ more)

-- the value that was found is within the first n bytes
abbrev pub LiesIn : ℕ → Found → Type 0
LiesIn n Absent = ⊤
LiesIn n (Once value) = IsWithin n value
LiesIn n Repeated = ⊤

-- a message: the parts of its head, how many bytes of the buffer it uses, and whether it is the last of its session;
-- its fields that carry a token, and its body if that is not in the buffer
pub record MessageParts : Type 0 where
  pub head : RequestSpans
  pub used : ℕ
  pub last : Bool
  pub token : Found
  pub apart : Option (List ℕ)

-- the body, if the buffer holds these bytes
abbrev pub body_of : MessageParts → List ℕ → List ℕ
body_of m bytes = unwrap_or m.apart (slice_range bytes m.head.len m.used)
