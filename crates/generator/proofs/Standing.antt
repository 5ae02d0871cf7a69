-- A desk that holds a history answers one call.
use Rattle.std.proofs.Common.{◌≡◌, ℕ, ◌+◌, ◌-◌, ◌^◌, ◌≤◌, min, Bool, false, List, [], ◌∷◌, ◌++◌, Ok, refl, sym, ap, ◌∙◌, subst, arith, inl, inr, ⊎_elim}
use Rattle.std.specs.Prelude.{◌⊎◌, IsTrue, IsSomeAnd}
use Rattle.std.proofs.lemmas.Bool.{both_ways}
use Rattle.disk_core.specs.declared.disk.Disk as disks
use Rattle.disk_core.specs.declared.disk.FileNo.TheVariants.{Journal}
use Rattle.disk_core.specs.Files.{State, empty_disk}
use Rattle.disk_core.proofs.Crash.{synced_image}
use Rattle.disk_core.proofs.Laws.{DiskLaws}
use Rattle.plain_office.specs.Office.{empty_office}
use Rattle.plain_office.proofs.Runs.{run_none}
use Rattle.slots.specs.Slots.{text_of}
use Rattle.desk_core.specs.Histories.{FitsHistory, SlotsFit, IsSound}
use Rattle.office_types.specs.declared.command.Ask.{Ask}
use Rattle.office_types.specs.declared.command.Entry.{Entry}
use Rattle.plain_office.specs.Run.{run}
use Rattle.meter_journal.specs.History.{header, end_gate, IsAtRest}
use Rattle.meter_journal.proofs.History.{each_image, end_gate-none}
use Rattle.desk_core.specs.declared.clock.Clock as clocks
use Rattle.desk_core.specs.Answers.{Answer, Call}
use Rattle.desk_core.specs.Submitting.{IsOffice, HasCauses, Unopened}
use Rattle.desk_core.specs.Calls.{IsAnswered, AreLegal}
use Rattle.desk_core.specs.Desk.{DeskView, HoldsHistory, StandsFor, GoesOn}
use Rattle.desk_core.specs.Opening.{Opens, opened_with}
use Rattle.desk_core.specs.Serving.{Opened}
use Rattle.desk_core.proofs.Offices.{run_is}
use Rattle.desk_core.proofs.Serving.{rest_image, unique}
use Rattle.desk_core.proofs.OneCallMore.{starts, calls_grow}
use Rattle.desk_core.proofs.Reopened.{slots_longer}
use Rattle.generator.specs.Working.{HoldsSoundly}

-- no empty file decodes
none_kept : (history : List Entry) (image : List ℕ) → image ≡ [] → FitsHistory history image
none_kept history image none snapshot position keeps =
    let same : 0xA7 ∷ (text_of position keeps.body ++ keeps.holds.rest) ≡ [] = sym keeps.holds.parts ∙ none in
    absurd cc

-- so the slots of a new disk fit
pub empty_fits : (s : State) → s ≡ empty_disk → SlotsFit [] s
empty_fits s is = subst (SlotsFit []) (sym is) (record {
  slot0 = λ image own. none_kept [] image (synced_image [] image own);
  slot1 = λ image own. none_kept [] image (synced_image [] image own);
})

-- the end gate of a journal that is held
pub gate_small : (history : List Entry) (gate : ℕ) → gate ≡ end_gate header history → (history ≡ []) ⊎ (gate ≤ 2 ^ 45) → gate ≤ 2 ^ 45
gate_small history gate end (inl none) = omega (arith, end, ap (end_gate header) none, end_gate-none header)
gate_small history gate end (inr small) = small

-- a disk with a journal without entries, whose slots fit it, is sound
empty_sound : (s : State) → IsAtRest header s 10 [] → SlotsFit [] s → IsSound s
empty_sound s rest fit images are = (
  [],
  record {
    journal = rest_image s 10 [] empty_office rest run_none images.journal are.journal;
    slot0 = fit.slot0 images.slot0 are.slot0;
    slot1 = fit.slot1 images.slot1 are.slot1;
  },
)

module _ {D C : Type 0} {d : disks.Ghosts D} (laws : DiskLaws d) where
  -- it stands for no call since now
  stands_now : (history : List Entry) (desk : DeskView D C) → IsTrue d.honest → HoldsSoundly d history desk
      → StandsFor d (opened_with d history desk) [] desk
  stands_now history desk tells sound =
      let holds = sound.journal in
      record {
        tells = tells;
        limit = refl;
        faults = (omega arith, tt);
        holds = λ _. (history, refl, holds);
        serves = starts laws (opened_with d history desk) desk.disk
            (λ image is. (history, rest_image (d.state desk.disk) desk.gate history holds.office.plain (holds.at_rest tells) (run_is history holds.office.is_run) image is))
            (λ image other is has. unique other history image has (each_image header (d.state desk.disk) desk.gate history (holds.at_rest tells) image is)) refl refl;
        slots = sound.slots;
      }

  -- the office of its history answers, and it holds the history after the call
  pub asked : (tells : IsTrue d.honest) (history : List Entry) (desk new : DeskView D C) (question : Ask) (said : Answer) → desk.stale ≡ false → new.stale ≡ false → HoldsSoundly d history desk
      → ((opened : Opened) (calls : List Call) → StandsFor d opened calls desk
      → GoesOn d opened (calls ++ record { ask = question; said = Ok said } ∷ []) desk.disk new)
      → (after : List Entry) × IsSomeAnd (run history) (λ office. IsAnswered desk.limit question office said history after) × HoldsSoundly d after new
  asked tells history desk new question said fresh fresh_new holds stands =
      let goes = stands (opened_with d history desk) [] (stands_now history desk tells holds) in
      let found = goes.stands.holds fresh_new in
      let legal = found.1 in
      let rule = subst (λ (b : Bool). AreLegal b desk.limit (d.fault_count desk.disk) (record { ask = question; said = Ok said } ∷ []) history found.0) tells legal in
      let grown = calls_grow desk.limit (d.fault_count desk.disk) (record { ask = question; said = Ok said } ∷ []) history found.0 rule in (
        found.0,
        subst (λ (after : List Entry). IsSomeAnd (run history) (λ office. IsAnswered desk.limit question office said history after)) (sym legal.2) legal.1,
        record {
          journal = found.2;
          slots = subst (λ (h : List Entry). SlotsFit h (d.state new.disk)) (sym grown.1) (slots_longer history grown.0 (d.state new.disk) goes.stands.slots);
        },
      )

  -- and asks its clock once
  pub asked_once : (k : clocks.Ghosts C) (desk new : DeskView D C) (question : Ask) (said : Answer) → desk.stale ≡ false
      → Unopened d desk new (Ok said)
      ⊎ ((office : DeskView D C) × IsOffice d desk office × HasCauses d k office question (Ok said) new)
      → k.count new.clock ≡ min (k.count desk.clock + 1) (2 ^ 64 - 1)
  asked_once k desk new question said fresh (inl unopened) = absurd (both_ways desk.stale fresh unopened.is_stale)
  asked_once k desk new question said fresh (inr (office, is, causes)) =
      ⊎_elim
      (λ own. causes.once ∙ ap (λ (parts : DeskView D C). min (k.count parts.clock + 1) (2 ^ 64 - 1)) own.1)
      (λ again. absurd (both_ways desk.stale fresh again.0)) is

  -- a desk that was opened over it holds none
  pub opened_empty : (disk : D) (clock : C) (limit : ℕ) (desk : DeskView D C) → IsTrue d.honest → IsAtRest header (d.state disk) 10 [] → SlotsFit [] (d.state disk)
      → Opens d disk clock limit desk → HoldsSoundly d [] desk
  opened_empty disk clock limit desk tells rest fit opens =
      let known = opens.sound tells (empty_sound (d.state disk) rest fit) in
      let found = known.stands.holds opens.fresh in
      let seen = (d.state disk).journal.seen in
      let none : known.history ≡ [] = unique known.history [] seen known.read (each_image header (d.state disk) 10 [] rest seen (laws.reads_image tells disk Journal)) in
      record {
        journal = subst (λ (history : List Entry). HoldsHistory d history desk) (found.1 ∙ none) found.2;
        slots = subst (λ (history : List Entry). SlotsFit history (d.state desk.disk)) none known.stands.slots;
      }
