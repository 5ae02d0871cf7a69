-- A disk whose journal can be opened again.
use Rattle.std.proofs.Common.{◌≡◌, ◌⊎◌, inl, inr, ⊎_elim, ℕ, ◌<◌, ◌≤◌, List, [], ◌∷◌, ◌++◌, length, take, drop, Option, Some, None, refl, sym, ◌∙◌, ap, subst, arith, append_assoc, length-append, take-append-drop}
use Rattle.std.specs.Prelude.{IsTrue, IsSome}
use Rattle.std.specs.List.{flat_map}
use Rattle.std.proofs.lemmas.List.{take_at, take-take}
use Rattle.disk_core.specs.declared.disk.Disk as disks
use Rattle.disk_core.specs.declared.disk.FileNo.TheVariants.{Journal}
use Rattle.disk_core.proofs.Laws.{DiskLaws}
use Rattle.disk_core.specs.Files.{State, File, IsImage, synced_file}
use Rattle.disk_core.specs.Fronts.{Narrower}
use Rattle.slots.specs.Slots.{HoldsBody, Keeps}
use Rattle.slots.specs.Loading.{LoadGives, Pair, pair_in}
use Rattle.slots.proofs.Texts.{one_position, one_body}
use Rattle.office_snapshot.specs.Snapshots.{SnapshotRecord}
use Rattle.checkpoint.specs.Bodies.{Spells}
use Rattle.office_types.specs.declared.command.Entry.{Entry}
use Rattle.plain_office.specs.Office.{Office}
use Rattle.plain_office.specs.Run.{run_from}
use Rattle.entry_codec.specs.Spelling.{spelling}
use Rattle.meter_journal.specs.declared.fault.OpenFault.{OpenFault}
use Rattle.meter_journal.specs.declared.fault.OpenFault.TheVariants as faults
use Rattle.meter_journal.specs.History.{header, mark, framed, journal_bytes, end_gate, HasEntries, IsAtRest}
use Rattle.meter_journal.specs.Reading.{IsMade, HasPrefix}
use Rattle.meter_journal.proofs.Heads.{made_head, made_not_none, made_not_foreign}
use Rattle.meter_journal.proofs.History.{each_image}
use Rattle.desk_core.specs.Damage.{IsBroken, OpenFailsOn, Start, IsDamagedFrom, IsDamagedBehind}
use Rattle.desk_core.specs.Desk.{DeskView, HoldsTail, IsReady}
use Rattle.desk_core.specs.Offices.{Tail}
use Rattle.desk_core.specs.Reading.{Loaded, IsLoadedIn, Begins, place_of, StartsOn, IsOpenable}
use Rattle.desk_core.specs.Rereading.{ReadsOn}
use Rattle.desk_core.proofs.FromSlot.{unbroken, accepted_at}

-- ---- one snapshot is loaded

abbrev loaded_at : SnapshotRecord → ℕ → Loaded
loaded_at snapshot position = Some (snapshot, position)

module _ (one_value : (bytes : List ℕ) (a b : SnapshotRecord) → Spells bytes a → Spells bytes b → a ≡ b) where
  one_kept : (a b : SnapshotRecord) (p q : ℕ) (file : List ℕ) → Keeps Spells a p file → Keeps Spells b q file → loaded_at a p ≡ loaded_at b q
  one_kept a b p q file first second =
      let place : p ≡ q = one_position p q first.body second.body file first.holds second.holds in
      let text : first.body ≡ second.body = one_body p q first.body second.body file first.holds second.holds in
      let value : a ≡ b = one_value second.body a b (subst (λ (l : List ℕ). Spells l a) text first.spelled) second.spelled in
      ap (λ (v : SnapshotRecord). loaded_at v p) value ∙ ap (λ (k : ℕ). loaded_at b k) place

  pub one_loaded : (a b : Loaded) (slots : Pair) → LoadGives Spells a slots → LoadGives Spells b slots → a ≡ b
  one_loaded None None slots first second = refl
  one_loaded None (Some (v, p)) slots none (inl kept) = absurd (none.slot0 v p kept.kept)
  one_loaded None (Some (v, p)) slots none (inr kept) = absurd (none.slot1 v p kept.kept)
  one_loaded (Some (v, p)) None slots (inl kept) none = absurd (none.slot0 v p kept.kept)
  one_loaded (Some (v, p)) None slots (inr kept) none = absurd (none.slot1 v p kept.kept)
  one_loaded (Some (a, p)) (Some (b, q)) slots (inl first) (inl second) = one_kept a b p q slots.slot0 first.kept second.kept
  one_loaded (Some (a, p)) (Some (b, q)) slots (inr first) (inr second) = one_kept a b p q slots.slot1 first.kept second.kept
  one_loaded (Some (a, p)) (Some (b, q)) slots (inl first) (inr second) = absurd (omega (arith, first.greatest b q second.kept, second.greatest a p first.kept))
  one_loaded (Some (a, p)) (Some (b, q)) slots (inr first) (inl second) = absurd (omega (arith, first.greatest b q second.kept, second.greatest a p first.kept))

-- ---- files that begin as a made journal does

-- behind a head of this form
pub made_behind : (head rest file : List ℕ) (entries : List Entry) → head ≡ header ++ rest → HasEntries head entries file → IsMade file
unfolding journal_bytes
made_behind head rest file entries is has =
    let frames = flat_map (λ (e : Entry). 0xA5 ∷ framed (spelling e)) entries in
    let more = rest ++ (frames ++ has.gate ∷ has.rest) in
    let parts : file ≡ header ++ more =
    has.parts
    ∙ append_assoc head frames (has.gate ∷ has.rest)
    ∙ ap (λ (l : List ℕ). l ++ (frames ++ has.gate ∷ has.rest)) is
    ∙ append_assoc header rest (frames ++ has.gate ∷ has.rest) in
    subst IsMade (sym parts) (omega (arith, length-append rest (frames ++ has.gate ∷ has.rest), length-append frames (has.gate ∷ has.rest)), refl, refl)

-- the bytes of a made file up to a place behind its mark
pub front_made : (file : List ℕ) (place : ℕ) → IsMade file → 10 ≤ place → (rest : List ℕ) × (take place file ≡ header ++ rest)
front_made file place made low =
    let head = take place file in (
      drop 10 head,
      sym (take-append-drop 10 head)
          ∙ ap (λ (l : List ℕ). l ++ drop 10 head) (take-take 10 place file low ∙ sym (made_head file made)),
    )

-- a file behind whose head some entries stand begins with that head
pub head_of : (head file : List ℕ) (entries : List Entry) → HasEntries head entries file → take (length head) file ≡ head
unfolding journal_bytes
head_of head file entries has =
    let frames = flat_map (λ (e : Entry). 0xA5 ∷ framed (spelling e)) entries in
    ap (λ (l : List ℕ). take (length head) l) (has.parts ∙ append_assoc head frames (has.gate ∷ has.rest))
    ∙ take_at head (frames ++ has.gate ∷ has.rest) (length head) refl

pub head_inside : (head file : List ℕ) (entries : List Entry) → HasEntries head entries file → length head < length file
unfolding journal_bytes
head_inside head file entries has =
    let frames = flat_map (λ (e : Entry). 0xA5 ∷ framed (spelling e)) entries in
    omega (arith, ap length has.parts, length-append (head ++ frames) (has.gate ∷ has.rest), length-append head frames)

-- ---- where reading starts

abbrev pair_of : File → File → Pair
pair_of a b = record { slot0 = a.seen; slot1 = b.seen }

-- it starts there too where the slots read the same
pub starts_same : (first s : State) (office : Office) (head : List ℕ) → s.slot0 ≡ first.slot0 → s.slot1 ≡ first.slot1 → StartsOn first office head → StartsOn s office head
starts_same first s office head same0 same1 starts = record {
  loaded = starts.loaded;
  gives = subst (λ (x : Pair). LoadGives Spells starts.loaded x)
      (ap (λ (f : File). pair_of f first.slot1) (sym same0) ∙ ap (λ (f : File). pair_of s.slot0 f) (sym same1))
      starts.gives;
  begins = starts.begins;
  place = starts.place;
  made = starts.made;
}

pub narrower_openable : (first s : State) → IsOpenable first → Narrower first s → IsOpenable s
narrower_openable first s opens narrow = record {
  office = opens.office;
  head = opens.head;
  starts = starts_same first s opens.office opens.head narrow.slot0 narrow.slot1 opens.starts;
  tails = λ image is. opens.tails image (narrow.journal image is);
}

-- a desk that holds the tail from there
pub holds_openable : {D C : Type 0} (d : disks.Ghosts D) (desk : DeskView D C) → IsTrue d.honest → (tail : Tail) → HoldsTail d tail desk
    → StartsOn (d.state desk.disk) tail.office tail.head → IsOpenable (d.state desk.disk)
holds_openable d desk tells tail holds starts = record {
  office = tail.office;
  head = tail.head;
  starts = starts;
  tails = λ image is. (
    tail.entries,
    each_image tail.head (d.state desk.disk) desk.gate tail.entries (holds.at_rest tells) image is,
    (holds.office.plain, holds.office.is_run),
  );
}

pub ready_openable : {D C : Type 0} (d : disks.Ghosts D) (desk : DeskView D C) → IsTrue d.honest → IsReady d desk → IsOpenable (d.state desk.disk)
ready_openable d desk tells ready = holds_openable d desk tells ready.tail ready.holds (ready.starts tells)

-- ---- it is opened

some_after : (o : Option Office) (p : Office) → o ≡ Some p → IsSome o
some_after o p is = subst IsSome (sym is) refl

module _ (one_value : (bytes : List ℕ) (a b : SnapshotRecord) → Spells bytes a → Spells bytes b → a ≡ b) where
  not_damaged : (s : State) (opens : IsOpenable s) (at : ℕ) (entries : List Entry) (after : Office) → HasEntries opens.head entries s.journal.seen
      → run_from (Some opens.office) entries ≡ Some after
      → IsDamagedFrom (record { office = opens.office; place = length opens.head }) at s.journal.seen → ⊥
  not_damaged s opens at entries after has is (inl short) = absurd (omega (arith, short.0, head_inside opens.head s.journal.seen entries has))
  not_damaged s opens at entries after has is (inr broken) =
      let file = s.journal.seen in
      let head = take (length opens.head) file in
      let here : HasEntries head entries file = subst (λ (h : List ℕ). HasEntries h entries file) (sym (head_of opens.head file entries has)) has in
      let some : IsSome (run_from (Some opens.office) entries) = some_after (run_from (Some opens.office) entries) after is in
      ⊎_elim (unbroken head file opens.office entries broken.entries broken.office at here some broken.before broken.is_run)
      (λ found. accepted_at head file opens.office entries broken.entries broken.office at here some broken.before broken.is_run found.0 found.1 found.2 found.3) broken.breaks

  damaged_from : (s : State) (opens : IsOpenable s) (at : ℕ) (loaded : Loaded) → IsLoadedIn s loaded → IsDamagedBehind loaded at s.journal.seen
      → IsDamagedFrom (record { office = opens.office; place = length opens.head }) at s.journal.seen
  damaged_from s opens at loaded gives behind =
      let same : opens.starts.loaded ≡ loaded = one_loaded one_value opens.starts.loaded loaded (pair_in s) opens.starts.gives gives in
      let place : place_of loaded ≡ length opens.head = ap place_of (sym same) ∙ sym opens.starts.place in
      subst (λ (k : ℕ). IsDamagedFrom (record { office = opens.office; place = k }) at s.journal.seen) place
      (behind.damaged opens.office (subst (λ (l : Loaded). Begins l opens.office) same opens.starts.begins))

  -- so its journal is not broken
  pub never_fails : (s : State) (fault : OpenFault) → IsOpenable s → IsImage s.journal s.journal.seen → OpenFailsOn fault s → (fault ≡ faults.StoreFault) ⊎ (fault ≡ faults.NoMemory)
  never_fails s faults.NotMade opens own fails =
      let tail = opens.tails s.journal.seen own in
      absurd (made_not_none s.journal.seen (made_behind opens.head opens.starts.made.0 s.journal.seen tail.0 opens.starts.made.1 tail.1) fails)
  never_fails s faults.Foreign opens own fails =
      let tail = opens.tails s.journal.seen own in
      absurd (made_not_foreign s.journal.seen (made_behind opens.head opens.starts.made.0 s.journal.seen tail.0 opens.starts.made.1 tail.1) fails)
  never_fails s (faults.Damaged at) opens own fails =
      let tail = opens.tails s.journal.seen own in
      absurd (not_damaged s opens at tail.0 tail.2.0 tail.1 tail.2.1 (damaged_from s opens at fails.0 fails.1 fails.2))
  never_fails s faults.StoreFault opens own fails = inl refl
  never_fails s faults.NoMemory opens own fails = inr refl

-- ---- a desk that read its journal on

pub reads_ready : {D C : Type 0} (d : disks.Ghosts D) (honest_tells : IsTrue d.honest → IsTrue d.tells) (disk : D) (desk : DeskView D C) → ReadsOn d disk desk → IsReady d desk
reads_ready d honest_tells disk desk reads = record {
  tail = record { office = reads.shown.0; head = reads.head; entries = reads.entries };
  holds = record {
    office = reads.stands reads.shown.0 reads.shown.1;
    end = reads.end;
    each = reads.each;
    small = reads.small;
    limit = reads.limit_low;
    at_rest = λ tells. record { bytes = (d.state disk).journal.seen; on_disk = reads.on_disk tells; history = reads.tail (honest_tells tells); end = reads.end };
  };
  takes = reads.takes reads.shown.0 reads.shown.1;
  starts = λ tells.
      let narrow = (reads.any_moment tells).now in
      let made = front_made (d.state disk).journal.seen (place_of reads.loaded) (reads.made (honest_tells tells)) reads.low in
      starts_same (d.state disk) (d.state desk.disk) reads.shown.0 reads.head narrow.slot0 narrow.slot1
      (record { loaded = reads.loaded; gives = reads.gives (honest_tells tells); begins = reads.shown.1; place = reads.place; made = (made.0, reads.front (honest_tells tells) ∙ made.1) });
}
