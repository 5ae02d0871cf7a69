-- The fields of a head as spans, and what they say of its body.
use Rattle.std.specs.Prelude.{◌≡◌, ℕ, Bool, ◌≤◌, List, [], ◌∷◌, map, codes, Some, Result, Ok, Err}
use Rattle.std.specs.List.{filter}
use Rattle.httparse.specs.Grammar.{RequestHead}
use Rattle.httparse.specs.Spans.{span_bytes, IsRequestAt, IsRequestWithin}
use Rattle.httparse.specs.declared.spans.HeaderSpan.{HeaderSpan}
use Rattle.httparse.specs.declared.spans.RequestSpans.{RequestSpans}
use Rattle.httparse.specs.declared.spans.Span.{Span}
use Rattle.http_wire.specs.Held.{head_room}
use Rattle.http_wire.specs.Messages.{same_word, fields_named, token_fields, body_length, body_room}
use Rattle.http_wire.specs.Messages.{refused, after_coding, is_last}
use Rattle.http_wire.specs.Parts.{IsFound, LiesIn}
use Rattle.http_wire.specs.declared.fields.Found.{Found}
use Rattle.http_wire.specs.declared.fields.Found.TheVariants.{Absent, Once, Repeated}
use Rattle.http_wire.specs.declared.framing.FramingRefusal.{FramingRefusal}

-- the spans of the values of all fields of this name
abbrev pub values_named : List ℕ → List ℕ → List HeaderSpan → List Span
values_named bytes name headers =
    map (λ (h : HeaderSpan). h.value) (filter (λ (h : HeaderSpan). same_word (span_bytes bytes h.name) name) headers)

-- whether there is no such field, one, or several
abbrev pub found_of : List Span → Found
found_of [] = Absent
found_of (s ∷ []) = Once s
found_of (s ∷ t ∷ spans) = Repeated

-- the body after a head has this many bytes, or the head is refused whatever follows
abbrev pub Frames : RequestHead → Result ℕ FramingRefusal → Type 0
Frames h (Ok size) =
    (fields_named (codes "Transfer-Encoding") h.fields ≡ [])
    × (body_length (fields_named (codes "Content-Length") h.fields) ≡ Some size) × (size ≤ body_room)
Frames h (Err bad) =
    (after rest : List ℕ) → after_coding h after (fields_named (codes "Transfer-Encoding") h.fields) (refused bad) rest

-- The bytes begin with a head whose body has size bytes. found is the head's fields that carry a token.
pub record HasFrame (bytes : List ℕ) (headers : List HeaderSpan) (spans : RequestSpans) (size : ℕ) (last : Bool)
    (found : Found) : Type 0 where
  pub head : RequestHead
  pub at : IsRequestAt bytes headers spans head
  pub within : IsRequestWithin bytes headers spans
  pub short : spans.len ≤ head_room
  pub frames : Frames head (Ok size)
  pub ends : last ≡ is_last head
  pub token : IsFound bytes found (token_fields head)
  pub lies : LiesIn spans.len found
