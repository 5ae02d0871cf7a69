-- What a heading says of the bytes that were read.
use Rattle.std.specs.Prelude.{◌≡◌, ℕ, ◌<◌, ◌≤◌, List, [], length, Option, Result, Ok, Err, ⊤}
use Rattle.std.specs.Io.KnownBytes.{IsAtEnd}
use Rattle.httparse.specs.Spans.{IsRequestOf, IsRequestWithin}
use Rattle.http_wire.specs.Heads.{IsHopeless, IsOpen}
use Rattle.http_wire.specs.Held.{Held, head_room, take_limit}
use Rattle.httparse.specs.declared.spans.RequestSpans.{RequestSpans}
use Rattle.http_wire.specs.declared.reading.Heading.{Heading}
use Rattle.http_wire.specs.declared.reading.Heading.TheVariants.{Whole, Hopeless, TooLarge, CutShort, End}

-- P of the spans, if a whole head was found
abbrev pub OnHead : {E : Type 0} → Result Heading E → (RequestSpans → Type 0) → Type 0
OnHead (Ok (Whole spans)) P = P spans
OnHead (Ok Hopeless) P = ⊤
OnHead (Ok TooLarge) P = ⊤
OnHead (Ok CutShort) P = ⊤
OnHead (Ok End) P = ⊤
OnHead (Err e) P = ⊤

-- what the bytes held begin with, given what the source has left
abbrev pub HasHeading : Held → Option (List ℕ) → Heading → Type 0
HasHeading held left (Whole spans) =
    IsRequestOf held.bytes held.spans spans × IsRequestWithin held.bytes held.spans spans
HasHeading held left Hopeless = IsHopeless held.bytes × (length held.bytes ≤ head_room)
HasHeading held left TooLarge = IsOpen held.bytes × (length held.bytes ≡ head_room)
HasHeading held left CutShort =
    IsOpen held.bytes × (0 < length held.bytes) × (length held.bytes < head_room) × IsAtEnd left
    × (held.taken < take_limit)
HasHeading held left End = (held.bytes ≡ []) × IsAtEnd left × (held.taken < take_limit)
