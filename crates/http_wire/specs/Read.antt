-- What successive reads say of the messages of a stream.
use Rattle.std.specs.Prelude.{◌≡◌, ◌⊎◌, ℕ, true, false, List, [], ◌∷◌, ◌++◌, drop, Some}
use Rattle.http_wire.specs.Held.{Held}
use Rattle.http_wire.specs.Messages.{Framed, request, refused, Messages}
use Rattle.http_wire.specs.Parts.{MessageParts}
use Rattle.http_wire.specs.Answers.{Gave, HasRequest, Refuses}
use Rattle.http_wire.specs.declared.framing.FramingRefusal.{FramingRefusal}

-- an answered request is the first message of the stream, in whatever pieces the stream comes; the bytes left have the
-- others
abbrev pub AnswersTheFirst : Type 0
AnswersTheFirst = (old new : Held) (xs ys : List ℕ) (m : MessageParts) (messages : List Framed)
    → (told : Gave old new (Some xs) (Some ys) (λ bytes. HasRequest bytes new m)) → Messages (old.bytes ++ xs) messages
    → (later : List Framed) × (messages ≡ request told.so.found ∷ later)
    × (((m.last ≡ true) × (later ≡ [])) ⊎ ((m.last ≡ false) × Messages (drop m.used new.bytes ++ ys) later))

-- an answered refusal is the only message of the stream
abbrev pub RefusesTheFirst : Type 0
RefusesTheFirst = (old new : Held) (xs ys : List ℕ) (bad : FramingRefusal) (messages : List Framed)
    → Gave old new (Some xs) (Some ys) (Refuses (Some ys) bad) → Messages (old.bytes ++ xs) messages
    → messages ≡ refused bad ∷ []

-- if the end is answered, the stream has no message
abbrev pub EndsWithNone : Type 0
EndsWithNone = (old new : Held) (xs ys : List ℕ) (messages : List Framed)
    → Gave old new (Some xs) (Some ys) (λ bytes. bytes ≡ []) → ys ≡ [] → Messages (old.bytes ++ xs) messages
    → messages ≡ []
