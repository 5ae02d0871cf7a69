-- The messages of a byte stream (RFC 9112, "Message Format" and "Message Body Length").
use Rattle.std.specs.Prelude.{◌≡◌, ◌⊎◌, ℕ, ◌<◌, ◌≤◌, Bool, true, false, ◌||◌, ◌==◌, List, [], ◌∷◌, ◌++◌, length, take}
use Rattle.std.specs.Prelude.{drop, map, codes, bytes_eq, Option, Some, None, if◌then◌else◌}
use Rattle.std.specs.List.{list_any, list_all, filter}
use Rattle.std.specs.Char.{to_ascii_lowercase, is_ascii_digit}
use Rattle.std.specs.Str.Parse.{digits_value}
use Rattle.httparse.specs.Grammar.{RequestHead, Field, field_value, print_request, ReadsRequest, HasNoRequest}
use Rattle.http_wire.specs.Heads.{HasHopelessFront}
use Rattle.http_wire.specs.Held.{head_room}
use Rattle.http_wire.specs.declared.framing.FramingRefusal.{FramingRefusal}
use Rattle.http_wire.specs.declared.framing.FramingRefusal.TheVariants.{BadHead, BodyTooLarge, ChunkedBody}
use Rattle.http_wire.specs.declared.framing.FramingRefusal.TheVariants.{HeadTooLarge, CutShort}

-- the most bytes that a body has (own)
abbrev pub body_room : ℕ
body_room = 1048576

-- the two texts are the same, regardless of ASCII case
abbrev pub same_word : List ℕ → List ℕ → Bool
same_word a b = bytes_eq (map to_ascii_lowercase a) (map to_ascii_lowercase b)

-- the fields of this name
abbrev pub fields_named : List ℕ → List Field → List Field
fields_named name fields = filter (λ f. same_word f.name name) fields

-- the fields that carry a token (own)
abbrev pub token_fields : RequestHead → List Field
token_fields head = fields_named (codes "Office-Token") head.fields

-- the number that one or more digits spell; none for anything else
abbrev pub number_of : List ℕ → Option ℕ
number_of [] = None
number_of (b ∷ bytes) = if list_all is_ascii_digit (b ∷ bytes) then Some (digits_value 10 (b ∷ bytes)) else None

-- how many bytes the body has: 0 without a field; none if there are two fields, or the one is not a number
abbrev pub body_length : List Field → Option ℕ
body_length [] = Some 0
body_length (f ∷ []) = number_of (field_value f)
body_length (f ∷ g ∷ fields) = None

-- the message is the last of its session
abbrev pub is_last : RequestHead → Bool
is_last h = (h.minor == 0)
    || list_any (λ f. same_word (field_value f) (codes "close")) (fields_named (codes "Connection") h.fields)

-- a request: its head, its body, and whether it is the last message of its session
pub record Request : Type 0 where
  pub head : RequestHead
  pub body : List ℕ
  pub last : Bool

-- one message of a stream: a request, or a refusal, which ends the session
pub data Framed : Type 0 where
  request : Request → Framed
  refused : FramingRefusal → Framed

-- what a head and the bytes after it make, and what follows; with fewer bytes than the body's length nothing is settled
abbrev pub after_length : RequestHead → List ℕ → Option ℕ → Framed → List ℕ → Type 0
after_length h bytes None found rest = found ≡ refused BadHead
after_length h bytes (Some n) found rest =
    ((body_room < n) × (found ≡ refused BodyTooLarge))
    ⊎ ((n ≤ body_room) × (n ≤ length bytes) × (rest ≡ drop n bytes)
    × (found ≡ request (record { head = h; body = take n bytes; last = is_last h })))

-- the same, given the fields that name a transfer coding: a message with any of them is refused
abbrev pub after_coding : RequestHead → List ℕ → List Field → Framed → List ℕ → Type 0
after_coding h bytes [] found rest =
    after_length h bytes (body_length (fields_named (codes "Content-Length") h.fields)) found rest
after_coding h bytes (f ∷ fields) found rest = found ≡ refused ChunkedBody

-- the bytes begin with a head of at most head_room bytes
pub record HasHead (bytes : List ℕ) (h : RequestHead) (after : List ℕ) : Type 0 where
  pub reads : ReadsRequest bytes h after
  pub fits : length (print_request h) ≤ head_room

-- the first head_room bytes contain neither a head nor a hopeless front
pub record HasNoHead (bytes : List ℕ) : Type 0 where
  pub none : HasNoRequest (take head_room bytes)
  pub hopeful : ¬ (HasHopelessFront head_room bytes)

-- What the bytes begin with, whatever follows them, and the bytes after it.
abbrev pub Stands : List ℕ → Framed → List ℕ → Type 0
Stands bytes found rest =
    (HasHopelessFront head_room bytes × (found ≡ refused BadHead))
    ⊎ ((HasNoHead bytes × (head_room ≤ length bytes) × (found ≡ refused HeadTooLarge))
    ⊎ ((h : RequestHead) × (after : List ℕ) × HasHead bytes h after
    × after_coding h after (fields_named (codes "Transfer-Encoding") h.fields) found rest))

-- these bytes do not settle what they begin with
abbrev pub IsUnsettled : List ℕ → Type 0
IsUnsettled bytes = (found : Framed) (rest : List ℕ) → ¬ (Stands bytes found rest)

-- The stream ends inside a message: it has bytes, and they settle nothing.
pub record IsCutShort (bytes : List ℕ) : Type 0 where
  pub some : 0 < length bytes
  pub unsettled : IsUnsettled bytes

-- whether this message ends its session
abbrev pub ends_session : Framed → Bool
ends_session (request r) = r.last
ends_session (refused bad) = true

-- The stream is these messages, up to its end or to the last one of its session.
abbrev pub Messages : List ℕ → List Framed → Type 0
Messages bytes [] = bytes ≡ []
Messages bytes (found ∷ later) =
    ((rest : List ℕ) × Stands bytes found rest
    × (((ends_session found ≡ true) × (later ≡ [])) ⊎ ((ends_session found ≡ false) × Messages rest later)))
    ⊎ (IsCutShort bytes × (found ≡ refused CutShort) × (later ≡ []))

-- ---- laws

-- a stream is one list of messages
abbrev pub MessagesAreUnique : Type 0
MessagesAreUnique =
    (bytes : List ℕ) (first second : List Framed) → Messages bytes first → Messages bytes second → first ≡ second

-- the same bytes do not begin with two different things
abbrev pub StandsAlone : Type 0
StandsAlone =
    (bytes : List ℕ) (first second : Framed) (rest other : List ℕ) → Stands bytes first rest → Stands bytes second other
    → first ≡ second

-- the bytes after a request are determined
abbrev pub HasOneRest : Type 0
HasOneRest = (bytes : List ℕ) (first second : Request) (rest other : List ℕ) → Stands bytes (request first) rest
    → Stands bytes (request second) other → rest ≡ other

-- what some bytes begin with, they begin with whatever follows
abbrev pub StandsBeforeMore : Type 0
StandsBeforeMore =
    (bytes more : List ℕ) (found : Framed) (rest : List ℕ) → Stands bytes found rest
    → Stands (bytes ++ more) found (rest ++ more)
