-- What the answer of a read says of the bytes held before and the bytes that the source gave.
use Rattle.std.specs.Prelude.{◌≡◌, ℕ, ◌+◌, ◌<◌, ◌≤◌, List, [], ◌++◌, length, drop, codes, Option, Some, Result, Ok, Err}
use Rattle.std.specs.Prelude.{⊤}
use Rattle.std.specs.Io.KnownBytes.{Consumes, IsAtEnd}
use Rattle.httparse.specs.Grammar.{RequestHead, print_request}
use Rattle.httparse.specs.Spans.{IsRequestAt, IsRequestWithin}
use Rattle.http_wire.specs.Held.{Held, head_room, take_limit}
use Rattle.http_wire.specs.Messages.{Request, request, refused, Stands, HasHead, IsUnsettled, IsCutShort}
use Rattle.http_wire.specs.Messages.{fields_named, token_fields, body_length, body_room}
use Rattle.http_wire.specs.Parts.{MessageParts, IsFound, body_of}
use Rattle.http_wire.specs.declared.framing.FramingRefusal.{FramingRefusal}
use Rattle.http_wire.specs.declared.framing.FramingRefusal.TheVariants.{BadHead, BodyTooLarge, ChunkedBody}
use Rattle.http_wire.specs.declared.framing.FramingRefusal.TheVariants.{HeadTooLarge, CutShort}
use Rattle.http_wire.specs.declared.message.Next.{Next}
use Rattle.http_wire.specs.declared.message.Next.TheVariants as next
use Rattle.http_wire.specs.declared.message.MessageStop.{MessageStop}
use Rattle.http_wire.specs.declared.message.MessageStop.TheVariants.{ReadFault, Spent, NoMemory}

-- The source gave bytes. All of them are counted, and P holds of the bytes held before followed by them.
pub record Gave (old new : Held) (left_old left_new : Option (List ℕ)) (P : List ℕ → Type 0) : Type 0 where
  pub given : List ℕ
  pub counted : new.taken ≡ old.taken + length given
  pub left : Consumes left_old left_new given
  pub so : P (old.bytes ++ given)

-- the bytes held and the bytes taken since fit in the room for one head and one body (own)
abbrev pub TakesFew : Held → Held → Type 0
TakesFew old new = length old.bytes + new.taken ≤ old.taken + (head_room + body_room)

-- The bytes begin with a request, and the buffer holds what follows it. The message gives the request's parts.
pub record HasRequest (bytes : List ℕ) (held : Held) (m : MessageParts) : Type 0 where
  pub found : Request
  pub stands : Stands bytes (request found) (drop m.used held.bytes)
  pub head : IsRequestAt held.bytes held.spans m.head found.head
  pub within : IsRequestWithin held.bytes held.spans m.head
  pub ends : m.head.len ≤ m.used
  pub fits : m.used ≤ length held.bytes
  pub body : body_of m held.bytes ≡ found.body
  pub last : m.last ≡ found.last
  pub token : IsFound held.bytes m.token (token_fields found.head)

-- the bytes begin with what this refusal names, or the stream ends inside a message
abbrev pub Refuses : Option (List ℕ) → FramingRefusal → List ℕ → Type 0
Refuses left BadHead bytes = Stands bytes (refused BadHead) []
Refuses left BodyTooLarge bytes = Stands bytes (refused BodyTooLarge) []
Refuses left ChunkedBody bytes = Stands bytes (refused ChunkedBody) []
Refuses left HeadTooLarge bytes = Stands bytes (refused HeadTooLarge) []
Refuses left CutShort bytes = IsCutShort bytes × IsAtEnd left

-- The bytes begin with a head, and the head and its body together are longer than the buffer.
pub record AwaitsLongBody (bytes : List ℕ) : Type 0 where
  pub head : RequestHead
  pub after : List ℕ
  pub size : ℕ
  pub stands : HasHead bytes head after
  pub plain : fields_named (codes "Transfer-Encoding") head.fields ≡ []
  pub sized : body_length (fields_named (codes "Content-Length") head.fields) ≡ Some size
  pub small : size ≤ body_room
  pub long : head_room < length (print_request head) + size

-- P of the message, if the answer is a request
abbrev pub OnRequest : {E : Type 0} → Result Next E → (MessageParts → Type 0) → Type 0
OnRequest (Ok (next.Request m)) P = P m
OnRequest (Ok (next.Refused bad)) P = ⊤
OnRequest (Ok next.End) P = ⊤
OnRequest (Err e) P = ⊤

-- P of the refusal, if the answer is one
abbrev pub OnRefused : {E : Type 0} → Result Next E → (FramingRefusal → Type 0) → Type 0
OnRefused (Ok (next.Request m)) P = ⊤
OnRefused (Ok (next.Refused bad)) P = P bad
OnRefused (Ok next.End) P = ⊤
OnRefused (Err e) P = ⊤

-- what an answer says of the bytes, given what the buffer then holds and what the source has left; only a read finds
-- the end, so fewer bytes than the limit were taken
abbrev pub Tells : Held → Option (List ℕ) → Result Next MessageStop → List ℕ → Type 0
Tells held left (Ok (next.Request m)) bytes = HasRequest bytes held m
Tells held left (Ok (next.Refused bad)) bytes = Refuses left bad bytes × (bad ≡ CutShort → held.taken < take_limit)
Tells held left (Ok next.End) bytes = (bytes ≡ []) × IsAtEnd left × (held.taken < take_limit)
Tells held left (Err ReadFault) bytes = IsUnsettled bytes
Tells held left (Err Spent) bytes = IsUnsettled bytes × (held.taken ≡ take_limit)
Tells held left (Err NoMemory) bytes = AwaitsLongBody bytes
