-- What a crash at any moment of a command leaves: the claim of the program.
use Rattle.std.specs.Prelude.{◌≡◌, ◌⊎◌, ℕ, ◌≤◌, List, length, Option, Some, option_map, IsTrue}
use Rattle.std.specs.Io.KnownBytes.{Appends}
use Rattle.disk_core.specs.Files.{State, IsImage}
use Rattle.disk_core.specs.Fronts.{Narrower}
use Rattle.disk_core.specs.Moments.{KeepsTo}
use Rattle.office_types.specs.declared.command.Entry.{Entry}
use Rattle.command_line.specs.Lines.{Line, run, serve}
use Rattle.desk_core.specs.Answers.{Answer, Call}
use Rattle.desk_core.specs.Histories.{HasAcceptedHistory, IsSound}
use Rattle.desk_core.specs.Runs.{MovesBy, outside}
use Rattle.desk_core.specs.Serving.{Opened, IsAckedAt, LegalOn, Recoverable, Recovers}
use Rattle.http_front.specs.Counts.{stream_ends}
use Rattle.http_front.specs.Exchanges.{calls_of, moments_of}
use Rattle.http_front.specs.Session.{Transcript}
use Rattle.http_front.specs.declared.answering.SessionEnd.{SessionEnd}
use Rattle.serving.specs.declared.worker.WorkerEnd.{WorkerEnd}
use Rattle.serving.specs.Serving.{Log, log_calls}
use Rattle.office_commands.specs.Running.{journal_limit}
use Rattle.office_program.specs.Workers.{Connects}
use Rattle.office_program.specs.Worlds.{World, Parts}

module _ {S D C W P Source Replies K : Type 0} (g : Parts S D C W P Source Replies K) where
  -- a run made these calls for the messages of the input, in order, and the output has the replies
  pub record AreOfInput (old new : World S D C W P K) (calls : List Call) : Type 0 where
    pub end : SessionEnd
    pub talk : Transcript (option_map length (g.input.left old.input))
        (stream_ends (g.input.left old.input) (g.input.left new.input)) end
    pub asked : calls_of talk.spoken.exchanges ≡ calls
    pub said : Appends (g.out.said old.out) (g.out.said new.out) talk.spoken.written
    pub stamped : Appends (g.out.moments old.out) (g.out.moments new.out) (moments_of talk.spoken.whole)

  -- workers made these calls for the connections of the port
  pub record AreOfPort (listen : List ℕ) (workers connections : ℕ) (old new : World S D C W P K) (calls : List Call)
      : Type 0 where
    pub end : WorkerEnd
    pub log : Log
    pub asked : log_calls log ≡ calls
    pub connects : Connects g.port g.gate listen workers connections old.port new.port end log

  -- for whom the calls were made; other command lines make none
  abbrev pub AreAsked : Option Line → World S D C W P K → World S D C W P K → List Call → Type 0
  AreAsked (Some run) old new calls = AreOfInput old new calls
  AreAsked (Some (serve listen workers connections)) old new calls =
      AreOfPort listen workers connections old new calls
  AreAsked line old new calls = ⊥

  -- An office was opened and answered these calls, and a crash at any moment loses none that was acknowledged.
  pub record AnswersSafely (line : Option Line) (old new : World S D C W P K) : Type 0 where
    pub calls : List Call
    pub are_asked : AreAsked line old new calls
    -- one office was opened, made the calls in order, stamped each answer with the moment of the disk, and was closed
    pub clock : C
    pub made : MovesBy g.disk g.clock journal_limit (outside old.disk clock) (outside new.disk new.clock) calls
    -- it began from the history of what the disk read at the entry
    pub opened : Opened
    pub limit_is : opened.limit ≡ journal_limit
    pub faults : opened.faults ≡ g.disk.fault_count old.disk
    pub read : HasAcceptedHistory opened.history (g.disk.state old.disk).journal.seen
    -- the plain office allows the calls with their answers, and has this history after them
    pub history : List Entry
    pub legal : LegalOn g.disk.honest opened calls history
    -- a crash before the opening leaves what it would have left at the entry
    pub opening : D
    pub begun : opened.moment ≡ g.disk.moment opening
    pub before : KeepsTo g.disk old.disk opening (Narrower (g.disk.state old.disk))
    -- from the opening on, each image has the history after some number of the first calls
    pub since : KeepsTo g.disk opening new.disk (Recoverable opened calls)
    -- and each call that was acknowledged by then is among them; no answer is stamped with a moment to come
    pub told : (place : ℕ) (answer : Answer) → IsAckedAt calls place answer
        → (opened.moment ≤ answer.disk_moment) × (answer.disk_moment ≤ g.disk.moment new.disk)
    pub recovers : (t : ℕ) (s : State) (image : List ℕ) → opened.moment ≤ t → t ≤ g.disk.moment new.disk
        → g.disk.had_since new.disk t s → IsImage s.journal image → Recovers opened calls t image

  -- No call was answered: no reply was said, `run` read nothing, the port was not used, and a crash at any moment leaves
  -- what it would have left at the entry.
  pub record AnswersNothing (line : Option Line) (old new : World S D C W P K) : Type 0 where
    pub kept : KeepsTo g.disk old.disk new.disk (Narrower (g.disk.state old.disk))
    pub unsaid : g.out.said new.out ≡ g.out.said old.out
    pub unread : line ≡ Some run → new.input ≡ old.input
    pub unused : new.port ≡ old.port

  -- over an honest and sound disk, no call was answered, or an office answered calls and a crash at any moment loses none
  -- that was acknowledged
  abbrev pub Survives : Option Line → World S D C W P K → World S D C W P K → Type 0
  Survives line old new = IsTrue g.disk.honest → IsSound (g.disk.state old.disk)
      → AnswersNothing line old new ⊎ AnswersSafely line old new
