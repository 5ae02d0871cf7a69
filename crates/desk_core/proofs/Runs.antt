-- What an office did from its opening to its closing, whose calls its desk followed.
use Rattle.std.proofs.Common.{◌≡◌, ℕ, ◌-◌, ◌^◌, ◌<◌, Bool, true, false, List, [], take, Result, refl, sym, ap, ◌∙◌, subst, arith}
use Rattle.std.specs.Prelude.{IsTrue}
use Rattle.std.specs.Io.KnownBytes.{Appends}
use Rattle.std.proofs.lemmas.Bool.{both_ways}
use Rattle.disk_core.specs.declared.disk.Disk as disks
use Rattle.disk_core.specs.declared.disk.FileNo.TheVariants.{Journal}
use Rattle.disk_core.specs.Files.{State, File, IsImage}
use Rattle.disk_core.specs.Moments.{KeepsTo}
use Rattle.disk_core.proofs.Laws.{DiskLaws}
use Rattle.disk_core.proofs.Time.{joined, weakened}
use Rattle.meter_journal.specs.History.{header}
use Rattle.meter_journal.proofs.Unique.{entries_unique}
use Rattle.office_types.specs.declared.command.Entry.{Entry}
use Rattle.desk_core.specs.declared.clock.Clock as clocks
use Rattle.desk_core.specs.Answers.{Call}
use Rattle.slots.specs.Causes.{HasSaveCause}
use Rattle.slots.specs.declared.fault.SaveFault.{SaveFault}
use Rattle.desk_core.specs.Calls.{AreLegal}
use Rattle.desk_core.specs.Closing.{Closes}
use Rattle.desk_core.specs.Desk.{DeskView, HoldsHistory, StandsFor}
use Rattle.desk_core.specs.Histories.{HasAcceptedHistory, IsSound}
use Rattle.desk_core.specs.Numbers.{AreNumbers}
use Rattle.desk_core.specs.Opening.{Opens, OpensWith, opened_with}
use Rattle.desk_core.specs.Runs.{KeepsHistories, KeepsCalls, AnswersLegally, AnswersCalls, outside, stale_by}
use Rattle.desk_core.specs.Serving.{Opened, Recoverable, KeepsSlots, DiskServes}
use Rattle.desk_core.specs.TurnLaws.{honest_legal}
use Rattle.desk_core.proofs.Following.{Path, Followed, follow, disk_later, told_by, numbers_told, stale_is}
use Rattle.desk_core.proofs.Narrowing.{HasFewer, narrowed, told_all}
use Rattle.desk_core.proofs.Offices.{run_is}
use Rattle.desk_core.proofs.Running.{since_entry}
use Rattle.desk_core.proofs.Serving.{rest_image}
use Rattle.desk_core.proofs.OneCallMore.{calls_grow}

module _ {D C : Type 0} {d : disks.Ghosts D} (laws : DiskLaws d) (k : clocks.Ghosts C) where
  -- a history to which the calls lead, and which the desk holds if it is not stale
  abbrev Led : Opened → List Call → DeskView D C → Type 0
  Led opened calls desk = (history : List Entry) × AreLegal d.honest opened.limit opened.faults calls opened.history history × (desk.stale ≡ false → HoldsHistory d history desk)

  led_stale : (opened : Opened) (calls : List Call) (desk : DeskView D C) → StandsFor d opened calls desk → desk.stale ≡ true → Led opened calls desk
  led_stale opened calls desk s stale =
      let seen = (d.state desk.disk).journal.seen in
      let own = laws.reads_image s.tells desk.disk Journal in
      let serves = s.serves in
      let recovers = serves.left (d.moment desk.disk) (d.state desk.disk) seen serves.later (omega arith) (laws.counts_now desk.disk (d.moment desk.disk) (omega arith)) own in (
        recovers.history,
        honest_legal d.honest opened.limit opened.faults calls opened.history recovers.history s.tells
            (serves.whole seen recovers.history own recovers.has),
        λ fresh. absurd (both_ways desk.stale fresh stale),
      )

  led : (opened : Opened) (calls : List Call) (desk : DeskView D C) → StandsFor d opened calls desk → Led opened calls desk
  led opened calls desk s = by_bool desk.stale (λ stale. led_stale opened calls desk s stale) (λ fresh. let h = s.holds fresh in (h.0, h.1, λ _. h.2))
    where
      by_bool : {P : Type 0} (b : Bool) → (b ≡ true → P) → (b ≡ false → P) → P
      by_bool true is_true is_false = is_true refl
      by_bool false is_true is_false = is_false refl

  keeps_histories : (opened : Opened) (calls : List Call) (disk : D) → DiskServes d opened disk calls → KeepsHistories d opened disk
  keeps_histories opened calls disk serves t s image from to had is =
      let r = serves.left t s image from to had is in (
        r.history,
        r.has,
        calls_grow opened.limit opened.faults (take r.count calls) opened.history r.history r.legal,
        λ at_end last is_now has. serves.steady t s image r.history from to had is r.has at_end last is_now has,
      )

  module _ (disk : D) (clock : C) (limit : ℕ) (old new : DeskView D C) (calls : List Call) (opens : Opens d disk clock limit old) (path : Path d k old calls new)
      (end : D) (saved : Result (Unit {0}) SaveFault) (closes : Closes d new end saved) (cause : HasSaveCause (d.fault_count new.disk) (d.fault_count end) saved)
      (tells : IsTrue d.honest) (sound : IsSound (d.state disk)) where
    known : OpensWith d disk old
    known = opens.sound tells sound

    abbrev opened : Opened
    opened = opened_with d known.history old

    followed : Followed d k old.disk opened calls new
    followed = follow d k laws opened old new calls known.stands path

    -- while it is closed each image of the journal is one that there was
    abbrev stayed : KeepsTo d new.disk end (λ s. s.journal ≡ (d.state new.disk).journal)
    stayed = closes.journal tells

    image_of : (s : State) → s.journal ≡ (d.state new.disk).journal → HasFewer (d.state new.disk) s
    image_of s same image is = subst (λ (f : File). IsImage f image) same is

    served : DiskServes d opened end calls
    served = narrowed laws opened new.disk end calls followed.stands.serves (weakened (HasFewer (d.state new.disk)) stayed image_of) cause.later

    until : KeepsTo d disk new.disk IsSound
    until = since_entry laws tells opened calls disk old.disk new.disk sound
        (subst (λ (l : List ℕ). HasAcceptedHistory known.history l) (sym (ap (λ (f : File). f.seen) (opens.reads.on_disk tells))) known.read)
        (opens.reads.any_moment tells) followed.ran followed.slots

    keeps_calls : (history : List Entry) → (new.stale ≡ false → HoldsHistory d history new) → KeepsCalls d disk end opened calls history
    keeps_calls history holds =
        let first = opens.reads.any_moment tells in
        record {
          read = known.read;
          only = λ before each. entries_unique header known.history before (d.state disk).journal.seen known.read.entries
              (each (d.state disk).journal.seen (laws.reads_image tells disk Journal)).entries;
          opening = old.disk;
          begun = refl;
          before = first;
          since = joined (Recoverable opened calls) followed.ran stayed (λ s p. p) (λ s same image is. followed.ran.now image (image_of s same image is));
          serves = served;
          steady = keeps_histories opened calls end served;
          all = λ fresh image is.
              let h = holds (stale_is d k old new calls path ∙ ap (λ (b : Bool). stale_by b calls) opens.fresh ∙ fresh) in
              rest_image (d.state new.disk) new.gate history h.office.plain (h.at_rest tells) (run_is history h.office.is_run) image (image_of (d.state end) stayed.now image is);
          closing = new.disk;
          slots = joined (KeepsSlots (d.state disk)) first followed.slots (λ s narrow. (narrow.slot0, narrow.slot1)) (λ s keeps. (keeps.0 ∙ first.now.slot0, keeps.1 ∙ first.now.slot1));
          closed = stayed;
          sound = joined IsSound until (closes.sound opened calls followed.stands until.now) (λ s p. p) (λ s p. p);
        }

    pub answers_legally : (ending : C) → AnswersLegally d k limit (outside disk clock) (outside end ending) calls
    answers_legally ending =
        let lead = led opened calls new followed.stands in
        record {
          opened = opened;
          limit_is = opens.limit_is;
          faults = opens.reads.quiet;
          history = lead.0;
          legal = lead.1;
          disk = keeps_calls lead.0 lead.2;
        }

  -- an office that was opened answers the calls by which its desk moved
  pub answers_calls : (disk : D) (clock : C) (limit : ℕ) (old new : DeskView D C) (calls : List Call)
      → Opens d disk clock limit old → Path d k old calls new
      → (end : D) (saved : Result (Unit {0}) SaveFault) → Closes d new end saved → HasSaveCause (d.fault_count new.disk) (d.fault_count end) saved
      → (ending : C) → ending ≡ new.clock
      → AnswersCalls d k limit (outside disk clock) (outside end ending) calls
  answers_calls disk clock limit old new calls opens path end saved closes cause ending same = record {
    calls_are = record { first = old; opens = opens; last = new; moved = path; saved = saved; closes = closes; cause = cause; clock = same };
    sound = λ tells sound. answers_legally disk clock limit old new calls opens path end saved closes cause tells sound ending;
    faults = (
      omega (arith, opens.reads.quiet, disk_later d k old new calls path, cause.later),
      told_all calls (d.fault_count new.disk) (d.fault_count end) cause.later (told_by d k old new calls path),
    );
    numbers = subst (λ (last : C). k.count last < 2 ^ 64 - 1 → (list : List ℕ) × AreNumbers calls list × Appends (k.told clock) (k.told last) list) (sym same)
        (λ few. subst (λ (c : C). (list : List ℕ) × AreNumbers calls list × Appends (k.told c) (k.told new.clock) list) opens.clock_is (numbers_told d k old new calls path few));
  }

  -- which is stale at its end where the calls left it so
  pub ends_stale : (disk : D) (clock : C) (limit : ℕ) (old new : DeskView D C) (calls : List Call)
      → Opens d disk clock limit old → Path d k old calls new → new.stale ≡ stale_by false calls
  ends_stale disk clock limit old new calls opens path = stale_is d k old new calls path ∙ ap (λ (b : Bool). stale_by b calls) opens.fresh
