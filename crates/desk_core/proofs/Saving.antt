-- Saving a checkpoint of the journal's end keeps a disk sound, and the new slot is loaded.
use Rattle.std.proofs.Common.{◌≡◌, ◌⊎◌, inl, inr, ⊎_elim, ℕ, ◌<◌, ◌≤◌, List, ◌++◌, refl, sym, ◌∙◌, ap, subst, arith}
use Rattle.disk_core.specs.Files.{File, State, IsImage}
use Rattle.office_types.specs.declared.command.Entry.{Entry}
use Rattle.plain_office.specs.Office.{Office}
use Rattle.meter_journal.specs.History.{header, end_gate}
use Rattle.slots.specs.Slots.{HoldsBody, Keeps}
use Rattle.office_snapshot.specs.Snapshots.{SnapshotRecord}
use Rattle.checkpoint.specs.Bodies.{Spells}
use Rattle.slots.specs.Loading.{IsLoaded}
use Rattle.slots.proofs.Texts.{one_position}
use Rattle.slots.specs.Saving.{Kept, Holds, WasHeld, OldOrNew, IsSaved}
use Rattle.desk_core.specs.Histories.{HasAcceptedHistory, Images, AreImages, IsOfHistory, FitsHistory, Stands, IsSound}
use Rattle.desk_core.proofs.Parting.{gate_low}
use Rattle.desk_core.proofs.Staying.{one_history}

-- a slot keeps what it is open for
keeps_held : (slot image : List ℕ) (snapshot : SnapshotRecord) (position : ℕ) (keeps : Keeps Spells snapshot position slot) → HoldsBody position keeps.body image → Keeps Spells snapshot position image
keeps_held slot image snapshot position keeps holds =
    record { body = keeps.body; holds = holds; placed = keeps.placed; spelled = keeps.spelled }

module _ (one_value : (bytes : List ℕ) (a b : SnapshotRecord) → Spells bytes a → Spells bytes b → a ≡ b) where
  module _ (first s : State) (new : Kept) (history : List Entry) (snapshot : SnapshotRecord) (sound : IsSound first)
      (own0 : IsImage first.slot0 first.slot0.seen) (own1 : IsImage first.slot1 first.slot1.seen)
      (at_rest : (image : List ℕ) → IsImage first.journal image → HasAcceptedHistory history image)
      (spelled : Spells new.body snapshot) (of_history : IsOfHistory history snapshot new.position) where
    -- what is the new one is of the history
    new_fits : (other : SnapshotRecord) (position : ℕ) (body : List ℕ) → Spells body other → record { position = position; body = body } ≡ new → IsOfHistory history other position
    new_fits other position body reads same =
        let place : position ≡ new.position = ap (λ (k : Kept). k.position) same in
        let text : body ≡ new.body = ap (λ (k : Kept). k.body) same in
        let is : other ≡ snapshot = one_value new.body other snapshot (subst (λ (l : List ℕ). Spells l other) text reads) spelled in
        subst (λ (v : SnapshotRecord). IsOfHistory history v position) (sym is)
        (subst (λ (p : ℕ). IsOfHistory history snapshot p) (sym place) of_history)

    -- the images of the journal with an old image of each slot stand for the history
    old_stands : (journal image0 image1 : List ℕ) → IsImage first.journal journal → IsImage first.slot0 image0 → IsImage first.slot1 image1
        → Stands history (record { journal = journal; slot0 = image0; slot1 = image1 })
    old_stands journal image0 image1 is is0 is1 =
        let was = sound (record { journal = journal; slot0 = image0; slot1 = image1 }) (record { journal = is; slot0 = is0; slot1 = is1 }) in
        let same : was.0 ≡ history = one_history was.0 history journal was.1.journal (at_rest journal is) in
        subst (λ (h : List Entry). Stands h (record { journal = journal; slot0 = image0; slot1 = image1 })) same was.1

    pub saved_sound : OldOrNew new first s → IsSound s
    saved_sound run images are =
        let is_journal : IsImage first.journal images.journal = subst (λ (f : File). IsImage f images.journal) run.journal are.journal in (
          history,
          record {
            journal = at_rest images.journal is_journal;
            slot0 = λ other position keeps. ⊎_elim
                (λ was. (old_stands images.journal was.0 first.slot1.seen is_journal was.1 own1).slot0 other position
                (keeps_held images.slot0 was.0 other position keeps was.2))
                (new_fits other position keeps.body keeps.spelled)
                (run.slot0 images.slot0 (record { position = position; body = keeps.body }) are.slot0 keeps.holds);
            slot1 = λ other position keeps. ⊎_elim
                (λ was. (old_stands images.journal first.slot0.seen was.0 is_journal own0 was.1).slot1 other position
                (keeps_held images.slot1 was.0 other position keeps was.2))
                (new_fits other position keeps.body keeps.spelled)
                (run.slot1 images.slot1 (record { position = position; body = keeps.body }) are.slot1 keeps.holds);
          },
        )

  -- ---- the new slot is loaded

  low : (history : List Entry) (snapshot : SnapshotRecord) (position : ℕ) → IsOfHistory history snapshot position → position ≤ end_gate header history
  low history snapshot position is =
      let same : end_gate header history ≡ end_gate header (is.before ++ is.after) = ap (end_gate header) is.parts in
      omega (arith, is.place, same, gate_low header is.before is.after)

  -- where one of the slots is open for the end of the journal, what is loaded has that position
  pub loaded_at_end : (history : List Entry) (images : Images) (new : Kept) (snapshot loaded : SnapshotRecord) (position : ℕ) → Stands history images
      → 10 ≤ new.position → Spells new.body snapshot → new.position ≡ end_gate header history → Holds new images.slot0 ⊎ Holds new images.slot1
      → IsLoaded Spells loaded position (record { slot0 = images.slot0; slot1 = images.slot1 }) → position ≡ end_gate header history
  loaded_at_end history images new snapshot loaded position stands placed spelled end saved (inl first) =
      let most = low history loaded position (stands.slot0 loaded position first.kept) in
      ⊎_elim
      (λ here. one_position position new.position first.kept.body new.body images.slot0 first.kept.holds here ∙ end)
      (λ there.
      let other : Keeps Spells snapshot new.position images.slot1 = record { body = new.body; holds = there; placed = placed; spelled = spelled } in
      omega (arith, most, end, first.greatest snapshot new.position other))
      saved
  loaded_at_end history images new snapshot loaded position stands placed spelled end saved (inr second) =
      let most = low history loaded position (stands.slot1 loaded position second.kept) in
      ⊎_elim
      (λ here.
      let other : Keeps Spells snapshot new.position images.slot0 = record { body = new.body; holds = here; placed = placed; spelled = spelled } in
      omega (arith, most, end, second.greatest snapshot new.position other))
      (λ there. one_position position new.position second.kept.body new.body images.slot1 second.kept.holds there ∙ end)
      saved
