-- A journal that was opened and read on, and the desk over it.
use Rattle.std.proofs.Common.{◌≡◌, ◌⊎◌, inl, inr, ⊎_elim, ℕ, ◌≤◌, ◌^◌, false, List, length, take, Option, Some, None, Result, Ok, Err, refl, sym, ap, ◌∙◌, subst, arith}
use Rattle.std.specs.Prelude.{IsTrue, IfSome, OnOk, IfErr, IsErrOf}
use Rattle.disk_core.specs.declared.disk.Disk as disks
use Rattle.disk_core.specs.declared.disk.FileNo.TheVariants.{Journal}
use Rattle.disk_core.specs.Files.{State, File, IsImage, synced_file}
use Rattle.disk_core.specs.Fronts.{Narrower}
use Rattle.disk_core.specs.Moments.{KeepsTo, OnlyReads, Untouched, WritesNothing}
use Rattle.disk_core.specs.Tallies.{Tally}
use Rattle.disk_core.proofs.Laws.{DiskLaws}
use Rattle.disk_core.proofs.Time.{joined, then_untouched, weakened}
use Rattle.plain_office.specs.Office.{Office}
use Rattle.meter_journal.specs.History.{header, HasEntries, IsAtRest}
use Rattle.meter_journal.specs.Reading.{IsMade, HeadGives, from_or_first}
use Rattle.meter_journal.proofs.History.{each_image}
use Rattle.meter_journal.specs.declared.fault.OpenFault.{OpenFault}
use Rattle.meter_journal.specs.declared.fault.OpenFault.TheVariants as faults
use Rattle.office_machine.specs.Once.{OfficeView}
use Rattle.desk_core.specs.Damage.{HasReplayed, ReplayFails, OpenFailsOn, IsDamagedFrom}
use Rattle.desk_core.specs.Histories.{HasAcceptedHistory, IsSound}
use Rattle.desk_core.specs.Desk.{DeskView, IsReady, StandsFor}
use Rattle.desk_core.specs.Submitting.{Reopens}
use Rattle.desk_core.specs.Opening.{Opens, OpensWith, opened_with}
use Rattle.desk_core.specs.Reading.{Loaded, IsLoadedIn, Begins, place_of}
use Rattle.desk_core.specs.Rereading.{ReadsOn, BeginsOn}
use Rattle.desk_core.proofs.Offices.{run_is}
use Rattle.desk_core.proofs.OneCallMore.{starts}
use Rattle.desk_core.proofs.Rereading.{sound_reads, sound_fits, holds_all}
use Rattle.desk_core.proofs.Serving.{rest_image, unique}

pub on_done : {P Q : Type 0} (r : Result Unit OpenFault) → (P → Q) → OnOk r P → OnOk r Q
on_done (Ok x) f p = f p
on_done (Err e) f p = p

-- and of an answer that is done it is known that it is no fault of the store
pub on_quiet : {P Q : Type 0} (r : Result Unit OpenFault) → ((IsErrOf r faults.StoreFault → ⊥) → P → Q) → OnOk r P → OnOk r Q
on_quiet (Ok x) f p = f (λ is. absurd cc) p
on_quiet (Err e) f p = p

pub on_fault : {P Q : OpenFault → Type 0} (r : Result Unit OpenFault) → ((e : OpenFault) → P e → Q e) → IfErr r P → IfErr r Q
on_fault (Ok x) f p = p
on_fault (Err e) f p = f e p

-- ---- the disk, while a journal is opened

narrower_same : (s : State) → Narrower s s
narrower_same s = record { journal = λ image is. is; slot0 = refl; slot1 = refl }

module _ {D : Type 0} {d : disks.Ghosts D} where
  -- the slots are read, and the journal is opened
  pub narrowed_on : (disk mid begun : D) → Untouched d disk mid → KeepsTo d mid begun (Narrower (d.state mid)) → KeepsTo d disk begun (Narrower (d.state disk))
  narrowed_on disk mid begun still narrow = joined (Narrower (d.state disk)) still narrow
      (λ s is. subst (Narrower (d.state disk)) (sym is) (narrower_same (d.state disk)))
      (λ s less. subst (λ (first : State). Narrower first s) still.now less)

  pub narrowed_still : (disk mid : D) → Untouched d disk mid → KeepsTo d disk mid (Narrower (d.state disk))
  narrowed_still disk mid still =
      weakened (Narrower (d.state disk)) still (λ s is. subst (Narrower (d.state disk)) (sym is) (narrower_same (d.state disk)))

-- the head of a journal tells why it is not opened
pub head_fails : (fault : OpenFault) (s : State) → HeadGives {T = ℕ} (Err fault) s.journal.seen → OpenFailsOn fault s
head_fails faults.NotMade s gives = gives
head_fails faults.Foreign s gives = gives
head_fails faults.StoreFault s gives = tt
head_fails (faults.Damaged at) s gives = absurd gives
head_fails faults.NoMemory s gives = absurd gives

-- and so does a fault of the disk, or that memory ran out
pub other_fails : (fault : OpenFault) (s : State) → (fault ≡ faults.StoreFault) ⊎ (fault ≡ faults.NoMemory) → OpenFailsOn fault s
other_fails fault s (inl is) = subst (λ (f : OpenFault). OpenFailsOn f s) (sym is) tt
other_fails fault s (inr is) = subst (λ (f : OpenFault). OpenFailsOn f s) (sym is) tt

module _ {D : Type 0} {d : disks.Ghosts D} (disk : D) (first : OfficeView) (from : Option ℕ) (begins : BeginsOn d disk first from) (tells : IsTrue d.tells) where
  pub replay_fails : (fault : OpenFault) (file : List ℕ) → file ≡ (d.state disk).journal.seen → IsMade file → ReplayFails fault first (from_or_first from) file → OpenFailsOn fault (d.state disk)
  replay_fails faults.NotMade file same made fails = absurd fails
  replay_fails faults.Foreign file same made fails = absurd fails
  replay_fails (faults.Damaged at) file same made fails =
      let seen = (d.state disk).journal.seen in (
        begins.loaded,
        begins.gives tells,
        record {
          made = subst IsMade same made;
          damaged = λ office shown.
              subst (λ (k : ℕ). IsDamagedFrom (record { office = office; place = k }) at seen) begins.place
              (subst (λ (l : List ℕ). IsDamagedFrom (record { office = office; place = from_or_first from }) at l) same (fails office (begins.stands office shown)));
        },
      )
  replay_fails faults.StoreFault file same made fails = tt
  replay_fails faults.NoMemory file same made fails = tt

low_place : (from : Option ℕ) (place : ℕ) → from_or_first from ≡ place → IfSome from (λ p. 10 ≤ p) → 10 ≤ place
low_place (Some p) place is low = omega (arith, is, low)
low_place None place is low = omega (arith, is)

-- all entries of the journal were read
module _ {D C : Type 0} {d : disks.Ghosts D} (honest_tells : IsTrue d.honest → IsTrue d.tells) (disk mid begun : D) (office : DeskView D C)
    (loads : OnlyReads d disk mid) (untouched : OnlyReads d begun office.disk) (writes : WritesNothing d mid begun) where
  pub reads_on : (first : OfficeView) (from : Option ℕ) → BeginsOn d disk first from
      → HasReplayed d first (from_or_first from) begun office.gate office.office → office.limit ≤ 2 ^ 45
      → (IsTrue d.tells → IsMade (d.state mid).journal.seen × ((d.state begun).journal.seen ≡ (d.state mid).journal.seen))
      → (IsTrue d.honest → (d.state begun).journal ≡ synced_file (d.state mid).journal.seen)
      → (IsTrue d.honest → KeepsTo d mid begun (Narrower (d.state mid)))
      → d.fault_count office.disk ≡ d.fault_count disk
      → ReadsOn d disk office
  reads_on first from begins read small begin synced run quiet = record {
    loaded = begins.loaded;
    gives = begins.gives;
    entries = read.entries;
    each = read.each;
    stands = λ start shown. read.stands start (begins.stands start shown);
    shown = begins.shown;
    takes = begins.takes;
    head = read.head;
    place = read.place_is ∙ begins.place;
    low = low_place from (place_of begins.loaded) begins.place begins.low;
    end = read.end;
    small = read.small;
    limit_low = small;
    made = made_is;
    front = λ tells. (rests tells).0 ∙ ap (λ (k : ℕ). take k (d.state disk).journal.seen) begins.place;
    tail = λ tells. (rests tells).1;
    on_disk = λ honest.
        ap (λ (s : State). s.journal) (untouched.files (honest_tells honest)).now ∙ synced honest
        ∙ ap (λ (s : State). synced_file s.journal.seen) (loads.files (honest_tells honest)).now;
    writes = ap (λ (t : Tally). t.writes) untouched.tally ∙ writes ∙ ap (λ (t : Tally). t.writes) loads.tally;
    any_moment = λ honest.
        then_untouched (narrowed_on disk mid begun (loads.files (honest_tells honest)) (run honest)) (untouched.files (honest_tells honest));
    quiet = quiet;
  }
    where
      made_is : IsTrue d.tells → IsMade (d.state disk).journal.seen
      made_is tells = subst (λ (s : State). IsMade s.journal.seen) (loads.files tells).now (begin tells).0

      rests : IsTrue d.tells → (read.head ≡ take (from_or_first from) (d.state disk).journal.seen) × HasEntries read.head read.entries (d.state disk).journal.seen
      rests tells = read.reads tells (d.state disk).journal.seen
          ((begin tells).1 ∙ ap (λ (s : State). s.journal.seen) (loads.files tells).now) (made_is tells)

-- on a sound disk the desk over them stands for no call yet
module _ {D C : Type 0} {d : disks.Ghosts D} (laws : DiskLaws d) where
  pub opens_with : (disk : D) (desk : DeskView D C) → ReadsOn d disk desk → IsTrue d.honest → IsSound (d.state disk) → OpensWith d disk desk
  opens_with disk desk reads tells sound =
      let found = sound_reads laws disk tells sound in
      let fit = sound_fits laws found.0 disk tells sound found.1 in
      let holds = holds_all laws found.0 disk desk tells reads found.1 fit in
      let narrow = (reads.any_moment tells).now in
      record {
        history = found.0;
        read = found.1;
        stands = record {
          tells = tells;
          limit = refl;
          faults = (omega arith, tt);
          holds = λ _. (found.0, refl, holds);
          serves = starts laws (opened_with d found.0 desk) desk.disk
              (λ image is. (found.0, rest_image (d.state desk.disk) desk.gate found.0 holds.office.plain (holds.at_rest tells) (run_is found.0 holds.office.is_run) image is))
              (λ image history is other. unique history found.0 image other (each_image header (d.state desk.disk) desk.gate found.0 (holds.at_rest tells) image is)) refl refl;
          slots = record {
            slot0 = λ image is. fit.slot0 image (subst (λ (f : File). IsImage f image) narrow.slot0 is);
            slot1 = λ image is. fit.slot1 image (subst (λ (f : File). IsImage f image) narrow.slot1 is);
          };
        };
      }

-- ---- the desk that notes where it was opened

noted_reads : {D C : Type 0} (d : disks.Ghosts D) (disk : D) (desk : DeskView D C) (at : ℕ) → ReadsOn d disk desk → ReadsOn d disk (record desk { opened_at = at })
noted_reads d disk desk at r = record {
  loaded = r.loaded;
  gives = r.gives;
  entries = r.entries;
  each = r.each;
  stands = r.stands;
  shown = r.shown;
  takes = r.takes;
  head = r.head;
  place = r.place;
  low = r.low;
  end = r.end;
  small = r.small;
  limit_low = r.limit_low;
  made = r.made;
  front = r.front;
  tail = r.tail;
  on_disk = r.on_disk;
  writes = r.writes;
  any_moment = r.any_moment;
  quiet = r.quiet;
}

pub noted_ready : {D C : Type 0} (d : disks.Ghosts D) (desk : DeskView D C) (at : ℕ) → IsReady d desk → IsReady d (record desk { opened_at = at })
noted_ready d desk at ready =
    let h = ready.holds in
    record { tail = ready.tail; holds = record { office = h.office; end = h.end; each = h.each; small = h.small; limit = h.limit; at_rest = h.at_rest }; takes = ready.takes; starts = ready.starts }

pub opened : {D C : Type 0} {d : disks.Ghosts D} (laws : DiskLaws d) (old office desk : DeskView D C) → desk ≡ record office { opened_at = office.gate } → office.stale ≡ false → Reopens d old office
    → Opens d old.disk old.clock old.limit desk
opened {D} {C} {d} laws old office desk is fresh again =
    let noted : DeskView D C = record office { opened_at = office.gate } in
    let reads = noted_reads d old.disk office office.gate again.reads in
    subst (λ (x : DeskView D C). Opens d old.disk old.clock old.limit x) (sym is) (record {
      reads = reads;
      sound = opens_with laws old.disk noted reads;
      fresh = fresh;
      opened_at = refl;
      limit_is = again.limit;
      clock_is = again.clock;
    })
