-- What a crash leaves of both slots while one is written.
use Rattle.std.proofs.Common.{◌≡◌, inl, inr, ⊎_elim, ℕ, List, Result, Ok, Err, false, refl, sym, ◌∙◌, ap, subst}
use Rattle.std.specs.Prelude.{OnOk, OnErr}
use Rattle.std.specs.Result.{is_err}
use Rattle.std.proofs.lemmas.Bool.{false≢true}
use Rattle.disk_core.specs.declared.disk.FileNo.{FileNo}
use Rattle.disk_core.specs.declared.disk.FileNo.TheVariants.{Journal, Slot0, Slot1}
use Rattle.disk_core.specs.Files.{File, State, IsImage, Synced, Unsynced, file_in, with_file, synced_file}
use Rattle.disk_core.proofs.Crash.{synced_image, reread_image}
use Rattle.slots.specs.Slots.{Keeps}
use Rattle.slots.specs.Loading.{IsLoaded, SparesLoaded, pair_in}
use Rattle.slots.specs.Saving.{OnlyIn, IsNarrower, NarrowerSlots, SyncedSlots, Kept, Holds, HasOldOrNew, HasEarlierOrNew, OldOrNew, EachKeeps, IsSaved, IsWritten}

-- what holds of Ok, if it is not Err
pub not_err : {T E : Type 0} (result : Result T E) (P : Type 0) → false ≡ is_err result → OnOk result P → P
not_err (Ok x) P is holds = holds
not_err (Err e) P is holds = absurd (false≢true is)

-- ---- both syncs

pub narrower_start : (s : State) → NarrowerSlots s s
narrower_start s = record { slot0 = λ image is. is; slot1 = λ image is. is; journal = refl }

pub narrower_still : (first s : State) → s ≡ first → NarrowerSlots first s
narrower_still first s is = subst (NarrowerSlots first) (sym is) (narrower_start first)

narrower_synced : (f : File) → IsImage f f.seen → IsNarrower f (synced_file f.seen)
narrower_synced f own image is = subst (IsImage f) (sym (synced_image f.seen image is)) own

unsynced0 : (first old new : State) → NarrowerSlots first old → Unsynced Slot0 old new → NarrowerSlots first new
unsynced0 first old new keeps (inl same) = subst (NarrowerSlots first) (sym same) keeps
unsynced0 first old new keeps (inr (seen, own, is)) = subst (NarrowerSlots first) (sym is) (record {
  slot0 = λ image is_image. keeps.slot0 image (reread_image old.slot0 seen image is_image);
  slot1 = keeps.slot1;
  journal = keeps.journal;
})

unsynced1 : (first old new : State) → NarrowerSlots first old → Unsynced Slot1 old new → NarrowerSlots first new
unsynced1 first old new keeps (inl same) = subst (NarrowerSlots first) (sym same) keeps
unsynced1 first old new keeps (inr (seen, own, is)) = subst (NarrowerSlots first) (sym is) (record {
  slot0 = keeps.slot0;
  slot1 = λ image is_image. keeps.slot1 image (reread_image old.slot1 seen image is_image);
  journal = keeps.journal;
})

pub narrower_after0 : {T E : Type 0} (result : Result T E) (first old new : State) → NarrowerSlots first old → IsImage old.slot0 old.slot0.seen
    → OnOk result (Synced Slot0 old new) → OnErr result (Unsynced Slot0 old new) → NarrowerSlots first new
narrower_after0 (Ok x) first old new keeps own ok err = subst (NarrowerSlots first) (sym ok) (record {
  slot0 = λ image is. keeps.slot0 image (narrower_synced old.slot0 own image is);
  slot1 = keeps.slot1;
  journal = keeps.journal;
})
narrower_after0 (Err e) first old new keeps own ok err = unsynced0 first old new keeps err

pub narrower_after1 : {T E : Type 0} (result : Result T E) (first old new : State) → NarrowerSlots first old → IsImage old.slot1 old.slot1.seen
    → OnOk result (Synced Slot1 old new) → OnErr result (Unsynced Slot1 old new) → NarrowerSlots first new
narrower_after1 (Ok x) first old new keeps own ok err = subst (NarrowerSlots first) (sym ok) (record {
  slot0 = keeps.slot0;
  slot1 = λ image is. keeps.slot1 image (narrower_synced old.slot1 own image is);
  journal = keeps.journal;
})
narrower_after1 (Err e) first old new keeps own ok err = unsynced1 first old new keeps err

-- ---- old or new

pub narrower_old : (new : Kept) (first s : State) → NarrowerSlots first s → OldOrNew new first s
narrower_old new first s keeps = record {
  slot0 = λ image held is holds. inl (image, keeps.slot0 image is, holds);
  slot1 = λ image held is holds. inl (image, keeps.slot1 image is, holds);
  journal = keeps.journal;
}

-- what these bytes have, an image had, where they are one
earlier : (new : Kept) (first f : File) (bytes : List ℕ) → IsImage first bytes → HasOldOrNew bytes new f → HasEarlierOrNew first new f
earlier new first f bytes own each image held is holds = ⊎_elim (λ was. inl (bytes, own, was)) inr (each image held is holds)

-- the other file is synced
untouched : (new : Kept) (first f : File) (bytes : List ℕ) → IsImage first bytes → f ≡ synced_file bytes → HasEarlierOrNew first new f
untouched new first f bytes own is image held is_image holds =
    let same : image ≡ bytes = synced_image bytes image (subst (λ (x : File). IsImage x image) is is_image) in
    inl (bytes, own, subst (Holds held) same holds)

-- the bytes of the slot that is written
abbrev pub old_bytes : FileNo → State → List ℕ
old_bytes file s = (file_in file s).seen

-- the slot of these is written while the other one stays
module _ (new : Kept) (first mid s : State) (synced : SyncedSlots first mid)
    (own0 : IsImage first.slot0 first.slot0.seen) (own1 : IsImage first.slot1 first.slot1.seen) where
  write0 : OnlyIn Slot0 (HasOldOrNew first.slot0.seen new) mid s → OldOrNew new first s
  write0 keeps = record {
    slot0 = earlier new first.slot0 s.slot0 first.slot0.seen own0 keeps.here;
    slot1 = untouched new first.slot1 s.slot1 first.slot1.seen own1 (ap (λ (x : State). x.slot1) (keeps.others ∙ ap (with_file Slot0 s.slot0) synced));
    journal = ap (λ (x : State). x.journal) (keeps.others ∙ ap (with_file Slot0 s.slot0) synced);
  }

  write1 : OnlyIn Slot1 (HasOldOrNew first.slot1.seen new) mid s → OldOrNew new first s
  write1 keeps = record {
    slot0 = untouched new first.slot0 s.slot0 first.slot0.seen own0 (ap (λ (x : State). x.slot0) (keeps.others ∙ ap (with_file Slot1 s.slot1) synced));
    slot1 = earlier new first.slot1 s.slot1 first.slot1.seen own1 keeps.here;
    journal = ap (λ (x : State). x.journal) (keeps.others ∙ ap (with_file Slot1 s.slot1) synced);
  }

  pub write_old : {V : Type 0} (spells : List ℕ → V → Type 0) (file : FileNo) → SparesLoaded spells file (pair_in first)
      → OnlyIn file (HasOldOrNew (old_bytes file first) new) mid s → OldOrNew new first s
  write_old spells Slot0 spares keeps = write0 keeps
  write_old spells Slot1 spares keeps = write1 keeps
  write_old spells Journal spares keeps = absurd spares

-- the slot to be written is synced
pub is_synced : {V : Type 0} (spells : List ℕ → V → Type 0) (file : FileNo) (first mid : State) → SparesLoaded spells file (pair_in first)
    → SyncedSlots first mid → file_in file mid ≡ synced_file (old_bytes file first)
is_synced spells Slot0 first mid spares is = ap (λ (x : State). x.slot0) is
is_synced spells Slot1 first mid spares is = ap (λ (x : State). x.slot1) is
is_synced spells Journal first mid spares is = absurd spares

-- ---- what is loaded stays

pub narrower_keeps : {V : Type 0} (spells : List ℕ → V → Type 0) (value : V) (position : ℕ) (first s : State)
    → EachKeeps spells value position first → NarrowerSlots first s → EachKeeps spells value position s
narrower_keeps spells value position first s each keeps image0 image1 is0 is1 =
    each image0 image1 (keeps.slot0 image0 is0) (keeps.slot1 image1 is1)

-- an image of a synced file keeps what it keeps
same_kept : {V : Type 0} (spells : List ℕ → V → Type 0) (value : V) (position : ℕ) (f : File) (bytes image : List ℕ) → f ≡ synced_file bytes
    → IsImage f image → Keeps spells value position bytes → Keeps spells value position image
same_kept spells value position f bytes image is is_image keeps =
    subst (Keeps spells value position) (sym (synced_image bytes image (subst (λ (x : File). IsImage x image) is is_image))) keeps

pub write_keeps : {V : Type 0} (spells : List ℕ → V → Type 0) (value : V) (position : ℕ) (P : File → Type 0) (file : FileNo) (first mid s : State)
    → SparesLoaded spells file (pair_in first) → IsLoaded spells value position (pair_in first) → SyncedSlots first mid
    → OnlyIn file P mid s → EachKeeps spells value position s
write_keeps spells value position P Slot0 first mid s spares loaded synced keeps image0 image1 is0 is1 =
    let still : s.slot1 ≡ synced_file first.slot1.seen = ap (λ (x : State). x.slot1) (keeps.others ∙ ap (with_file Slot0 s.slot0) synced) in
    inr (same_kept spells value position s.slot1 first.slot1.seen image1 still is1 (spares value position loaded))
write_keeps spells value position P Slot1 first mid s spares loaded synced keeps image0 image1 is0 is1 =
    let still : s.slot0 ≡ synced_file first.slot0.seen = ap (λ (x : State). x.slot0) (keeps.others ∙ ap (with_file Slot1 s.slot1) synced) in
    inl (same_kept spells value position s.slot0 first.slot0.seen image0 still is0 (spares value position loaded))
write_keeps spells value position P Journal first mid s spares loaded synced keeps image0 image1 is0 is1 = absurd spares

-- ---- the new one is there

has_new : (new : Kept) (f : File) (bytes image : List ℕ) → f ≡ synced_file bytes → IsImage f image → Holds new bytes → Holds new image
has_new new f bytes image is is_image holds =
    subst (Holds new) (sym (synced_image bytes image (subst (λ (x : File). IsImage x image) is is_image))) holds

pub written_saved : {V : Type 0} (spells : List ℕ → V → Type 0) (new : Kept) (file : FileNo) (first mid s : State)
    → SparesLoaded spells file (pair_in first) → IsWritten file new mid s → IsSaved new s
written_saved spells new Slot0 first mid s spares is image0 image1 is0 is1 =
    inl (has_new new s.slot0 is.bytes image0 (ap (λ (x : State). x.slot0) is.state) is0 is.holds)
written_saved spells new Slot1 first mid s spares is image0 image1 is0 is1 =
    inr (has_new new s.slot1 is.bytes image1 (ap (λ (x : State). x.slot1) is.state) is1 is.holds)
written_saved spells new Journal first mid s spares is image0 image1 is0 is1 = absurd spares
