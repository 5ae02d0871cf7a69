-- A disk without a journal is sound from `init` on, and after each crash.
use Rattle.std.proofs.Common.{◌≡◌, ◌⊎◌, ⊎_elim, arith, inl, inr, ℕ, List, [], Option, Some, None, subst}
use Rattle.std.specs.Prelude.{IsTrue}
use Rattle.std.proofs.lemmas.Option.{same_Some}
use Rattle.disk_core.specs.declared.disk.Disk as disks
use Rattle.disk_core.specs.Files.{File, State, IsImage}
use Rattle.meter_journal.specs.Created.{BeforeOrEmpty}
use Rattle.meter_journal.specs.Reading.{IsNotMade}
use Rattle.meter_journal.specs.declared.fault.OpenFault.{OpenFault}
use Rattle.meter_journal.specs.declared.fault.OpenFault.TheVariants as faults
use Rattle.meter_journal.specs.declared.making.Made.{Made}
use Rattle.meter_journal.specs.declared.making.Made.TheVariants as mades
use Rattle.meter_journal.proofs.Heads.{made_not_none}
use Rattle.disk_core.specs.Moments.{KeepsTo}
use Rattle.disk_core.proofs.Time.{weakened}
use Rattle.desk_core.specs.Histories.{HasAcceptedHistory, IsSound, RestartsSound, SlotsFit}
use Rattle.desk_core.proofs.Staying.{restarts_sound}
use Rattle.http_front.specs.declared.replies.Replies as sinks
use Rattle.command_line.specs.Lines.{Line, init}
use Rattle.office_commands.specs.Lines.{fault_exit}
use Rattle.office_commands.specs.Making.{IsMadeSo, Inits}
use Rattle.office_program.specs.Program.{Does, Obeys, StaysSound, LeavesSound, BeginsSound}
use Rattle.office_program.specs.Worlds.{World, Parts}

-- a journal without entries, beside slots that fit it
empty_sound : (first s : State) → ((image : List ℕ) → IsImage s.journal image → HasAcceptedHistory [] image)
    → SlotsFit [] first → BeforeOrEmpty first s → IsSound s
empty_sound first s journal fit kept images are = (
  [],
  record {
    journal = journal images.journal are.journal;
    slot0 = fit.slot0 images.slot0 (subst (λ (file : File). IsImage file images.slot0) kept.slot0 are.slot0);
    slot1 = fit.slot1 images.slot1 (subst (λ (file : File). IsImage file images.slot1) kept.slot1 are.slot1);
  },
)

-- what was not made is made now
made_sound : (made : Made) (first s : State) → IsMadeSo made first s → IsNotMade first.journal.seen → SlotsFit [] first
    → BeforeOrEmpty first s → IsSound s
made_sound mades.Now first s is none fit kept = empty_sound first s is.1 fit kept
made_sound mades.Before first s is none fit kept = absurd (made_not_none first.journal.seen is.0 none)

-- a refusal has another exit code
not_done : (fault : OpenFault) (status : ℕ) → status ≡ fault_exit fault → (status ≡ 0) ⊎ (status ≡ 4) → ⊥
not_done faults.StoreFault status is done = absurd (omega (arith, is, done))
not_done faults.NotMade status is done = absurd (omega (arith, is, done))
not_done faults.Foreign status is done = absurd (omega (arith, is, done))
not_done (faults.Damaged at) status is done = absurd (omega (arith, is, done))
not_done faults.NoMemory status is done = absurd (omega (arith, is, done))

init_begins : {D W : Type 0} (d : disks.Ghosts D) (w : sinks.Ghosts W) (old new : D) (out_old out_new : W) (status : ℕ)
    → Inits d w old new out_old out_new status → IsTrue d.honest → IsNotMade (d.state old).journal.seen
    → SlotsFit [] (d.state old) → (status ≡ 0) ⊎ (status ≡ 4) → IsSound (d.state new)
init_begins d w old new out_old out_new status inits honest none fit done =
    ⊎_elim
    (λ makes. made_sound makes.made (d.state old) (d.state new) (makes.is_made honest) none fit (inits.any_moment honest).now)
    (λ fails. absurd (not_done fails.fault status fails.status_is done)) inits.ends

with_restart : (s : State) → IsSound s → IsSound s × RestartsSound s
with_restart s sound = (sound, restarts_sound s sound)

module _ {S D C W P Source Replies K : Type 0} (g : Parts S D C W P Source Replies K) where
  pub leaves_sound : (old new : World S D C W P K) (status : ℕ) → StaysSound g old new status → LeavesSound g old new
  leaves_sound old new status stays honest sound = weakened RestartsSound (stays honest sound).1 restarts_sound

  pub begins : (line : Option Line) (old new : World S D C W P K) (status : ℕ) → Obeys g line old new status → BeginsSound g line old new status
  begins (Some line) old new status (inl does) honest is none fit done =
      with_restart _ (init_begins g.disk g.out old.disk new.disk old.out new.out status
      (subst (λ (l : Line). Does g l old new status) (same_Some line init is) does).0 honest none fit done)
  begins (Some line) old new status (inr unread) honest is none fit done =
      absurd (omega (arith, unread.runs_out.status_is, done))
  begins None old new status obeys honest is none fit done = absurd cc
