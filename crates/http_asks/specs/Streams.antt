-- What the messages of a stream mean.
use Rattle.std.specs.Prelude.{◌≡◌, ◌⊎◌, ℕ, Bool, true, false, List, [], ◌∷◌, Option, Some, None, ⊤}
use Rattle.http_wire.specs.Answers.{AwaitsLongBody}
use Rattle.http_wire.specs.Messages.{Framed, request, refused, Request, Stands, IsCutShort, ends_session, Messages}
use Rattle.http_wire.specs.declared.framing.FramingRefusal.TheVariants.{CutShort}
use Rattle.http_asks.specs.Meaning.{Meant, refuses, in_framing, IsMeant}

-- a message of a stream means this: what its request asks or breaks, or why its framing is refused
abbrev pub IsMeantBy : Framed → Meant → Type 0
IsMeantBy (request r) meant = IsMeant r meant
IsMeantBy (refused bad) meant = meant ≡ refuses (in_framing bad)

-- A whole stream begins with this message, and rest follows. A message with refused framing has no end, so the stream
-- stays.
abbrev pub IsFirst : List ℕ → Framed → List ℕ → Type 0
IsFirst stream (request r) rest = Stands stream (request r) rest
IsFirst stream (refused bad) rest =
    (Stands stream (refused bad) [] ⊎ (IsCutShort stream × (bad ≡ CutShort))) × (rest ≡ stream)

-- The stream begins with a message of this meaning, last is whether it is the last of its session, and rest follows.
pub record IsItem (stream : List ℕ) (meant : Meant) (last : Bool) (rest : List ℕ) : Type 0 where
  pub found : Framed
  pub first : IsFirst stream found rest
  pub means : IsMeantBy found meant
  pub ends : last ≡ ends_session found

-- The bytes begin with something that takes memory: a request, or a head that together with its body is longer than the
-- buffer.
abbrev pub WantsMemory : List ℕ → Type 0
WantsMemory bytes = AwaitsLongBody bytes ⊎ ((found : Request) × (rest : List ℕ) × Stands bytes (request found) rest)

-- the stream begins with a message of this meaning; nothing is claimed of a stream whose bytes are unknown
abbrev pub StandsItem : Option (List ℕ) → Meant → Bool → Option (List ℕ) → Type 0
StandsItem None meant last after = ⊤
StandsItem (Some stream) meant last None = ⊥
StandsItem (Some stream) meant last (Some rest) = IsItem stream meant last rest

-- ---- the messages of a whole stream

-- The messages of a whole stream begin with one of this meaning. It is the last of its session, or the others are the
-- messages of the rest.
abbrev pub BeginWith : List Framed → Meant → Bool → List ℕ → Type 0
BeginWith [] meant last rest = ⊥
BeginWith (found ∷ later) meant last rest =
    IsMeantBy found meant
    × (((last ≡ true) × (later ≡ [])) ⊎ ((last ≡ false) × Messages rest later))

-- ---- laws

-- a stream begins with one message only, and one rest follows it
abbrev pub HasOneItem : Type 0
HasOneItem = (stream : List ℕ) (first second : Meant) (last other : Bool) (rest after : List ℕ)
    → IsItem stream first last rest → IsItem stream second other after
    → (first ≡ second) × (last ≡ other) × (rest ≡ after)

-- that message is the first of the whole stream's messages, and the others follow it
abbrev pub ItemsAreMessages : Type 0
ItemsAreMessages = (stream : List ℕ) (meant : Meant) (last : Bool) (rest : List ℕ) (messages : List Framed)
    → IsItem stream meant last rest → Messages stream messages → BeginWith messages meant last rest
