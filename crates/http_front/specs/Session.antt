-- What a session does: its exchanges are the messages of the stream in order, and what was said are their texts.
use Rattle.std.specs.Prelude.{◌≡◌, ◌⊎◌, ℕ, Bool, true, false, List, [], ◌∷◌, ◌++◌, take, All}
use Rattle.std.specs.Prelude.{Option, Some, None, Result, Ok, Err, ⊤}
use Rattle.std.specs.Io.KnownBytes.{Appends, IsAtEnd}
use Rattle.office_types.specs.declared.command.Ask.{Ask}
use Rattle.desk_core.specs.Answers.{Answer, Call}
use Rattle.desk_core.specs.Turns.{Moves}
use Rattle.desk_core.specs.declared.fault.DeskFault.{DeskFault}
use Rattle.desk_core.specs.declared.fault.DeskFault.TheVariants.{NoMemory}
use Rattle.http_text.specs.Shorts.{IsShort}
use Rattle.http_wire.specs.Messages.{Framed, Messages}
use Rattle.http_front.specs.declared.answering.SessionEnd.{SessionEnd}
use Rattle.http_front.specs.declared.answering.SessionEnd.TheVariants as ends
use Rattle.http_front.specs.declared.replies.Replies as sinks
use Rattle.http_front.specs.Counts.{IsUnder, IsSpent, IsUnspent, StreamEnds, IsHeldBack, IsTakenAhead, SettlesNothing}
use Rattle.http_front.specs.Exchanges.{Exchange, answered, calls_of, moments_of, ends_unframed, Hears, AreThen}
use Rattle.http_front.specs.Texts.{exchange_text, texts, no_memory_text}

-- ---- what the calls were told

-- no call was told that memory ran out
abbrev pub NoneLacks : List Call → Type 0
NoneLacks calls = All (λ (c : Call). c.said ≡ Err NoMemory → ⊥) calls

-- the last exchange is the one call that was told so
pub record LastLacks (exchanges : List Exchange) : Type 0 where
  pub most : List Exchange
  pub last : Call
  pub are : exchanges ≡ most ++ answered last ∷ []
  pub before : NoneLacks (calls_of most)
  pub is : last.said ≡ Err NoMemory

-- the session ends because memory ran out, if that can be said
abbrev pub LacksBy : SessionEnd → List Exchange → Type 0
LacksBy ends.NoMemory exchanges = NoneLacks (calls_of exchanges) ⊎ LastLacks exchanges
LacksBy ends.WriteFault exchanges = NoneLacks (calls_of exchanges) ⊎ LastLacks exchanges
LacksBy ends.Ended exchanges = NoneLacks (calls_of exchanges)
LacksBy ends.ReadFault exchanges = NoneLacks (calls_of exchanges)
LacksBy ends.Spent exchanges = NoneLacks (calls_of exchanges)

-- ---- what was heard and said

-- What a session heard and said: the messages that it heard, each with what was answered or as a refusal; what is left
-- of the stream behind them; whether the last of them closed the session; those whose texts were written whole; and all
-- that was written.
pub record Spoken : Type 0 where
  pub exchanges : List Exchange
  pub rest : Option (List ℕ)
  pub closed : Bool
  pub whole : List Exchange
  pub written : List ℕ

-- the texts of all exchanges were said whole, and nothing else
pub record IsSaidWhole (spoken : Spoken) : Type 0 where
  pub whole : spoken.whole ≡ spoken.exchanges
  pub written : spoken.written ≡ texts spoken.exchanges

-- none of the exchanges closed the session; their texts were said whole, and this text behind them
pub record AddsText (spoken : Spoken) (text : List ℕ) : Type 0 where
  pub whole : spoken.whole ≡ spoken.exchanges
  pub unclosed : spoken.closed ≡ false
  pub written : spoken.written ≡ texts spoken.exchanges ++ text

-- an answer whose text takes memory
abbrev pub IsLong : Result Answer DeskFault → Type 0
IsLong (Ok answer) = IsShort answer.reply → ⊥
IsLong (Err fault) = ⊥

-- ---- the ways in which a session ends

-- the last exchange closed the session
abbrev pub EndsClosed : Spoken → Type 0
EndsClosed spoken = (spoken.closed ≡ true) × IsSaidWhole spoken

-- the stream ended after the exchanges, before the limit was reached
abbrev pub EndsWithStream : Option ℕ → Spoken → Type 0
EndsWithStream total spoken = (spoken.closed ≡ false) × IsAtEnd spoken.rest × IsUnder total × IsSaidWhole spoken

-- a further message was sought and not read, and nothing was said of it
abbrev pub StopsUnread : Spoken → Type 0
StopsUnread spoken = (spoken.closed ≡ false) × IsSaidWhole spoken

-- the limit was reached, and the bytes taken after the exchanges settle nothing
abbrev pub StopsSpent : Option ℕ → Spoken → Type 0
StopsSpent total spoken = (spoken.closed ≡ false) × IsSpent total spoken.rest × IsSaidWhole spoken

-- the exchanges before the last one were said whole, and the text of the last one is missing its rest
pub record CutsLast (spoken : Spoken) : Type 0 where
  pub last : Exchange
  pub n : ℕ
  pub are : spoken.exchanges ≡ spoken.whole ++ last ∷ []
  pub is : spoken.written ≡ texts spoken.whole ++ take n (exchange_text last)

-- All exchanges but the last were said whole. The last is an answer; memory ran out for its text, and this was said
-- in its place.
pub record IsUnsaid (spoken : Spoken) (instead : List ℕ) : Type 0 where
  pub last : Call
  pub are : spoken.exchanges ≡ spoken.whole ++ answered last ∷ []
  pub long : IsLong last.said
  pub is : spoken.written ≡ texts spoken.whole ++ instead

-- the text that memory ran out was said in part, in place of the last exchange, an answer
abbrev pub CutsUnsaid : Spoken → Type 0
CutsUnsaid spoken = (n : ℕ) × IsUnsaid spoken (take n no_memory_text)

-- memory ran out for a further message, and a front of the text that says so was said
abbrev pub CutsLack : Spoken → Type 0
CutsLack spoken = (n : ℕ) × AddsText spoken (take n no_memory_text)

-- the last exchange is the one call that was told that memory ran out, and its text says so
abbrev pub LacksAtAnswer : Spoken → Type 0
LacksAtAnswer spoken = LastLacks spoken.exchanges × IsSaidWhole spoken

-- no call was told that memory ran out: it did for a further message, and this was said
abbrev pub LacksAtMessage : Spoken → Type 0
LacksAtMessage spoken = NoneLacks (calls_of spoken.exchanges) × AddsText spoken no_memory_text

-- What was said by the end of a session whose source has this length: the texts of all exchanges, except a last one
-- that is cut or lacks memory for its text. A closed session hears and says nothing after its last exchange.
abbrev pub IsWritten : Option ℕ → SessionEnd → Spoken → Type 0
IsWritten total ends.Ended spoken = EndsClosed spoken ⊎ EndsWithStream total spoken
IsWritten total ends.ReadFault spoken = StopsUnread spoken
IsWritten total ends.Spent spoken = StopsSpent total spoken
IsWritten total ends.WriteFault spoken = CutsLast spoken ⊎ (CutsUnsaid spoken ⊎ CutsLack spoken)
IsWritten total ends.NoMemory spoken =
    IsUnsaid spoken no_memory_text ⊎ (LacksAtAnswer spoken ⊎ LacksAtMessage spoken)

-- ---- a session

-- The session ends with its last exchange, a request: that closes it, or not all exchanges were said whole, or memory
-- ran out for an answer. Else it ends where a further message is sought, or with one whose end is not known.
abbrev pub EndsWithRequest : Spoken → Type 0
EndsWithRequest spoken =
    (ends_unframed spoken.exchanges ≡ false)
    × ((spoken.closed ≡ true)
    ⊎ ((spoken.whole ≡ spoken.exchanges → ⊥) ⊎ (NoneLacks (calls_of spoken.exchanges) → ⊥)))

-- The exchanges are the first messages of the whole stream, in order. Where the session is Ended, they are all, and the
-- stream has them.
pub record AreOfStream (stream : List ℕ) (exchanges : List Exchange) (end : SessionEnd) : Type 0 where
  pub first : (messages : List Framed) → Messages stream messages
      → (others : List Framed) × AreThen messages exchanges others × (end ≡ ends.Ended → others ≡ [])
  pub has : end ≡ ends.Ended
      → (messages : List Framed) × Messages stream messages × AreThen messages exchanges []

-- the same of a stream whose bytes may be unknown
abbrev pub AreOfWhole : Option (List ℕ) → List Exchange → SessionEnd → Type 0
AreOfWhole None exchanges end = ⊤
AreOfWhole (Some stream) exchanges end = AreOfStream stream exchanges end

-- The transcript of a session over what was read, of a source with this length: what was spoken, and that it was heard
-- in the stream and written.
pub record Transcript (total : Option ℕ) (read : StreamEnds) (end : SessionEnd) : Type 0 where
  pub spoken : Spoken
  pub heard : Hears read.stream spoken.exchanges spoken.rest spoken.closed
  pub is_written : IsWritten total end spoken
  pub lacked : LacksBy end spoken.exchanges
  -- after the last exchange at most one message is read, with what is held after it
  pub ahead : IsTakenAhead spoken.rest read.left
  -- after a request with which the session ends, only bytes held with it were read
  pub behind : EndsWithRequest spoken → IsHeldBack spoken.rest read.left
  -- if a framing was refused, the limit was not reached, or the bytes taken settle the refusal
  pub unframed : ends_unframed spoken.exchanges ≡ true → IsUnspent total spoken.rest
  -- in the messages of the whole stream
  pub of_whole : AreOfWhole read.stream spoken.exchanges end
  -- if the source failed, each message that came whole is an exchange
  pub begun : end ≡ ends.ReadFault → SettlesNothing spoken.rest read.left

-- the two sides of a session beside its source: who answers, and where the replies go
pub record Sides (T W : Type 0) : Type 0 where
  pub teller : T
  pub out : W

-- the sides that this teller and this sink are
abbrev pub sides : {T W : Type 0} → T → W → Sides T W
sides teller out = record { teller = teller; out = out }

module _ {T W : Type 0} (moves : T → Ask → Result Answer DeskFault → T → Type 0) (w : sinks.Ghosts W) where
  -- A session from some message on up to its end, over what was read of a source with so many bytes in all: the teller
  -- moved by the calls of its transcript, in order, and what was written was said, with the disk's moments of the
  -- answers that were said whole.
  pub record Session (old new : Sides T W) (read : StreamEnds) (total : Option ℕ) (end : SessionEnd) : Type 0 where
    pub talk : Transcript total read end
    pub moved : Moves moves old.teller (calls_of talk.spoken.exchanges) new.teller
    pub said : Appends (w.said old.out) (w.said new.out) talk.spoken.written
    pub stamped : Appends (w.moments old.out) (w.moments new.out) (moments_of talk.spoken.whole)
