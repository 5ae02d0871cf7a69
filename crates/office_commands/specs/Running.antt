-- What the commands of the program do.
use Rattle.std.specs.Prelude.{◌≡◌, ◌⊎◌, ℕ, ◌-◌, ◌^◌, ◌<◌, ◌≤◌, ◌+◌, min, false, List, [], ◌∷◌, length, take, option_map, IsTrue}
use Rattle.std.specs.Io.KnownBytes.{Appends}
use Rattle.moments.specs.Time.{end_of_time}
use Rattle.office_base.specs.Faults.{Rose}
use Rattle.disk_core.specs.declared.disk.Disk as disks
use Rattle.disk_core.specs.Fronts.{Narrower}
use Rattle.disk_core.specs.Moments.{KeepsTo, WritesNothing}
use Rattle.meter_journal.specs.declared.fault.OpenFault.{OpenFault}
use Rattle.meter_journal.specs.declared.fault.OpenFault.TheVariants.{StoreFault}
use Rattle.desk_core.specs.declared.clock.Clock as clocks
use Rattle.desk_core.specs.Damage.{OpenFailsOn}
use Rattle.desk_core.specs.Runs.{Outside, outside, AnswersCalls, stale_by}
use Rattle.http_wire.specs.Held.{take_limit}
use Rattle.http_front.specs.declared.replies.Replies as sinks
use Rattle.http_front.specs.Counts.{GaveBytes, StreamEnds}
use Rattle.http_front.specs.Puts.{NotesLine}
use Rattle.http_front.specs.Exchanges.{calls_of, moments_of}
use Rattle.http_front.specs.Session.{Transcript}
use Rattle.http_front.specs.declared.answering.SessionEnd.{SessionEnd}
use Rattle.http_front.specs.declared.answering.SessionEnd.TheVariants.{NoMemory, WriteFault}
use Rattle.office_commands.specs.Lines.{session_exit, end_after, store_after, fault_exit, clock_note, end_note, fault_note}

-- the most bytes of the program's journal: 2^30 (own)
abbrev pub journal_limit : ℕ
journal_limit = 1_073_741_824

-- what a command works on and may change: a disk, a clock, and a sink of replies, other texts and notes
pub record Surroundings (D C W : Type 0) : Type 0 where
  pub disk : D
  pub clock : C
  pub out : W

module _ {D C W : Type 0} where
  -- this disk with this clock and this sink
  abbrev pub around : D → C → W → Surroundings D C W
  around disk clock out = record { disk = disk; clock = clock; out = out }

  -- the disk and the clock under an office that is opened there
  abbrev pub under : Surroundings D C W → Outside D C
  under s = outside s.disk s.clock

module _ {W : Type 0} (w : sinks.Ghosts W) where
  -- the line was noted, or only a front of it and the count of faults rose; for an empty line no call was made
  abbrev pub IsNoted : W → W → List ℕ → Type 0
  IsNoted old new text =
      (text ≡ [] → new ≡ old) × NotesLine (w.noted old) (w.noted new) text (w.faults old) (w.faults new)

  -- no reply was said
  abbrev pub SaysNoReply : W → W → Type 0
  SaysNoReply old new = (w.said new ≡ w.said old) × (w.moments new ≡ w.moments old)

  -- nothing was noted, and no text was lost
  abbrev pub NotesNothing : W → W → Type 0
  NotesNothing old new = (w.noted new ≡ w.noted old) × (w.faults new ≡ w.faults old)

  -- no reply was said, and no other text was printed
  abbrev pub IsSilent : W → W → Type 0
  IsSilent old new = (w.said new ≡ w.said old) × (w.moments new ≡ w.moments old) × (w.texts new ≡ w.texts old)

  -- The line comes after everything else that was said: nothing was noted before it. The count of faults rose before it
  -- if and only if a text was lost (status 4).
  pub record EndsWithNote (old new : W) (status : ℕ) (text : List ℕ) : Type 0 where
    -- the sink after everything else was said
    pub behind : W
    pub unnoted : w.noted behind ≡ w.noted old
    pub lost : status ≡ 4 → Rose (w.faults old) (w.faults behind)
    pub kept : (status ≡ 4 → ⊥) → w.faults behind ≡ w.faults old
    pub silent : IsSilent behind new
    pub note : IsNoted behind new text

module _ {W : Type 0} (w : sinks.Ghosts W) where
  -- this text was printed; or only a front of it was, and the rest was lost
  abbrev pub IsPutOut : List ℕ → W → W → ℕ → Type 0
  IsPutOut text old new status =
      ((status ≡ 0) × Appends (w.texts old) (w.texts new) text × NotesNothing w old new)
      ⊎ ((status ≡ 4) × ((n : ℕ) × Appends (w.texts old) (w.texts new) (take n text))
      × EndsWithNote w old new status (end_note WriteFault false))

  -- memory ran out, and nothing was printed
  pub record RunsOut (old new : W) (status : ℕ) : Type 0 where
    pub status_is : status ≡ 6
    pub silent : IsSilent w old new
    pub note : IsNoted w old new (end_note NoMemory false)

module _ {D C W : Type 0} (d : disks.Ghosts D) (k : clocks.Ghosts C) (w : sinks.Ghosts W) where
  -- ---- run

  -- The office was opened. The messages of the stream were asked or refused, in order. The office answered the calls
  -- that asked them, and what was said are their texts, with the disk's moments of the answers said whole.
  pub record AnswersStream (read : StreamEnds) (old new : Surroundings D C W) (status : ℕ) : Type 0 where
    pub end : SessionEnd
    pub talk : Transcript (option_map length read.stream) read end
    pub answers : AnswersCalls d k journal_limit (under old) (under new) (calls_of talk.spoken.exchanges)
    pub said_all : Appends (w.said old.out) (w.said new.out) talk.spoken.written
    pub stamped : Appends (w.moments old.out) (w.moments new.out) (moments_of talk.spoken.whole)
    -- at most 2^40 bytes of the input are taken
    pub taken : (n : ℕ) × (n ≤ take_limit) × GaveBytes read.stream read.left n
    pub no_text : w.texts new.out ≡ w.texts old.out
    -- the exit code follows from the end of the session and from closing the office
    pub status_is : status ≡ session_exit (end_after end answers.calls_are.saved)
        (store_after (stale_by false (calls_of talk.spoken.exchanges)) answers.calls_are.saved)
    pub note : EndsWithNote w old.out new.out status (end_note (end_after end answers.calls_are.saved)
        (store_after (stale_by false (calls_of talk.spoken.exchanges)) answers.calls_are.saved))

  -- ---- run and serve

  -- The command ends with this fault: nothing was said or written, the clock gave no further number, and each image
  -- existed before. With any fault but a store fault, the disk did not fail.
  pub record IsRefused (fault : OpenFault) (old new : Surroundings D C W) (status : ℕ) : Type 0 where
    pub quiet : (fault ≡ StoreFault → ⊥) → d.fault_count new.disk ≡ d.fault_count old.disk
    pub writes : WritesNothing d old.disk new.disk
    pub any_moment : IsTrue d.honest → KeepsTo d old.disk new.disk (Narrower (d.state old.disk))
    pub clock : new.clock ≡ old.clock
    pub silent : IsSilent w old.out new.out
    pub status_is : status ≡ fault_exit fault
    pub note : IsNoted w old.out new.out (fault_note fault)

  -- The office was not opened, and the files, as read, show why.
  pub record FailsToOpen (old new : Surroundings D C W) (status : ℕ) : Type 0 where
    pub fault : OpenFault
    pub why : IsTrue d.tells → OpenFailsOn fault (d.state old.disk)
    pub refused : IsRefused fault old new status

  -- The clock is at its end: nothing was said, and the disk was not touched.
  pub record Ends (old new : Surroundings D C W) (status : ℕ) : Type 0 where
    pub status_is : status ≡ 8
    pub untouched : new.disk ≡ old.disk
    pub clock : new.clock ≡ old.clock
    pub silent : IsSilent w old.out new.out
    pub note : IsNoted w old.out new.out clock_note

  -- The clock gives one number before the disk is touched. If it is below the end of time, the office is opened and
  -- answers, or it is not opened. If it is not opened, or the clock is at its end, this part of the program, given before
  -- and after, is unchanged.
  pub record Starts {X : Type 0} (part_old part_new : X)
      (answers : ℕ → Surroundings D C W → Surroundings D C W → ℕ → Type 0)
      (old new : Surroundings D C W) (status : ℕ) : Type 0 where
    pub first : ℕ
    pub clock : C
    pub once : k.count clock ≡ min (k.count old.clock + 1) (2 ^ 64 - 1)
    pub is_last : k.last clock ≡ first
    pub told_first : k.count clock < 2 ^ 64 - 1 → Appends (k.told old.clock) (k.told clock) (first ∷ [])
    pub does : ((first < end_of_time) × (answers first (around old.disk clock old.out) new status
        ⊎ (FailsToOpen (around old.disk clock old.out) new status × (part_new ≡ part_old))))
        ⊎ ((end_of_time ≤ first) × Ends (around old.disk clock old.out) new status × (part_new ≡ part_old))

  -- what `run` does with the messages of a stream; it reads none if the office is not opened
  abbrev pub Runs : {S : Type 0} → S → S → StreamEnds → Surroundings D C W → Surroundings D C W → ℕ → Type 0
  Runs input_old input_new read = Starts input_old input_new (λ first. AnswersStream read)
