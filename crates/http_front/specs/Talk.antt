-- Parts of a session: what was said of a message, and messages that were answered one after another.
use Rattle.std.specs.Prelude.{◌≡◌, ◌⊎◌, ℕ, false, List, Option, Result, Ok, Err}
use Rattle.std.specs.Io.KnownBytes.{Appends}
use Rattle.office_types.specs.declared.command.Ask.{Ask}
use Rattle.desk_core.specs.Answers.{Answer}
use Rattle.desk_core.specs.Turns.{Moves}
use Rattle.desk_core.specs.declared.fault.DeskFault.{DeskFault}
use Rattle.desk_core.specs.declared.fault.DeskFault.TheVariants as faults
use Rattle.http_asks.specs.Meaning.{Refused}
use Rattle.http_front.specs.declared.answering.SessionEnd.{SessionEnd}
use Rattle.http_front.specs.declared.answering.SessionEnd.TheVariants as ends
use Rattle.http_front.specs.declared.replies.Replies as sinks
use Rattle.http_front.specs.Counts.{StreamEnds}
use Rattle.http_front.specs.Exchanges.{Exchange, calls_of, moment_of, moments_of, ends_unframed, Hears}
use Rattle.http_front.specs.Saying.{Says, SaysFront}
use Rattle.http_front.specs.Session.{IsLong, NoneLacks, Sides, Session}
use Rattle.http_front.specs.Texts.{text_of, bad_text, no_memory_text, texts}

module _ {W : Type 0} (w : sinks.Ghosts W) where
  -- it was said that memory ran out, as the last text of the session that ends so
  abbrev pub SaysNoMemory : W → W → SessionEnd → Type 0
  SaysNoMemory old new ends.NoMemory = Says w old new no_memory_text
  SaysNoMemory old new ends.WriteFault = SaysFront w old new no_memory_text
  SaysNoMemory old new ends.Ended = ⊥
  SaysNoMemory old new ends.ReadFault = ⊥
  SaysNoMemory old new ends.Spent = ⊥

  -- what was said of an answer, with its moment, and how the session goes on: it ends where memory ran out, also for
  -- the text of a long one
  abbrev pub IsSaid : W → W → Result Answer DeskFault → Result Unit SessionEnd → Type 0
  IsSaid old new told (Ok x) =
      Appends (w.said old) (w.said new) (text_of told) × Appends (w.moments old) (w.moments new) (moment_of told)
      × (told ≡ Err faults.NoMemory → ⊥)
  IsSaid old new told (Err ends.WriteFault) =
      SaysFront w old new (text_of told) ⊎ (IsLong told × SaysFront w old new no_memory_text)
  IsSaid old new told (Err ends.NoMemory) =
      ((told ≡ Err faults.NoMemory) × Says w old new (text_of told))
      ⊎ (IsLong told × Says w old new no_memory_text)
  IsSaid old new told (Err ends.Ended) = ⊥
  IsSaid old new told (Err ends.ReadFault) = ⊥
  IsSaid old new told (Err ends.Spent) = ⊥

  -- what was said of a refusal, and how the session goes on: it ends where there was no memory for the text, and this
  -- is said
  abbrev pub IsRefusedBy : W → W → Refused → Result Unit SessionEnd → Type 0
  IsRefusedBy old new broken (Ok x) = Says w old new (bad_text broken)
  IsRefusedBy old new broken (Err ends.WriteFault) =
      SaysFront w old new (bad_text broken) ⊎ SaysFront w old new no_memory_text
  IsRefusedBy old new broken (Err ends.NoMemory) = Says w old new no_memory_text
  IsRefusedBy old new broken (Err ends.Ended) = ⊥
  IsRefusedBy old new broken (Err ends.ReadFault) = ⊥
  IsRefusedBy old new broken (Err ends.Spent) = ⊥

module _ {T W : Type 0} (moves : T → Ask → Result Answer DeskFault → T → Type 0) (w : sinks.Ghosts W) where
  -- One ask was answered.
  pub record AnswersOne (old new : Sides T W) (ask : Ask) (result : Result Unit SessionEnd) : Type 0 where
    pub told : Result Answer DeskFault
    pub moved : moves old.teller ask told new.teller
    pub said : IsSaid w old.out new.out told result

  -- Messages that were answered, one after another, of which none is the last of the session.
  pub record Talked (old new : Sides T W) (stream rest : Option (List ℕ)) : Type 0 where
    pub exchanges : List Exchange
    pub moved : Moves moves old.teller (calls_of exchanges) new.teller
    pub heard : Hears stream exchanges rest false
    pub said : Appends (w.said old.out) (w.said new.out) (texts exchanges)
    pub stamped : Appends (w.moments old.out) (w.moments new.out) (moments_of exchanges)
    pub enough : NoneLacks (calls_of exchanges)
    pub framed : ends_unframed exchanges ≡ false

  -- how a message went: the session goes on, or it ends
  abbrev pub Went : Sides T W → Sides T W → StreamEnds → Option (List ℕ) → Option ℕ → Result Unit SessionEnd → Type 0
  Went old new read rest total (Ok x) = Talked old new read.stream rest
  Went old new read rest total (Err end) = Session moves w old new read total end
