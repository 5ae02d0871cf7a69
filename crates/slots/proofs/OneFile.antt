-- One of the three files goes on, and the others stay.
use Rattle.std.proofs.Common.{◌≡◌, inl, inr, ℕ, List, Result, Ok, Err, refl, sym, ◌∙◌, ap, subst}
use Rattle.std.specs.Prelude.{OnOk, OnErr}
use Rattle.disk_core.specs.declared.disk.FileNo.{FileNo}
use Rattle.disk_core.specs.declared.disk.FileNo.TheVariants.{Journal, Slot0, Slot1}
use Rattle.disk_core.specs.Files.{File, State, IsImage, Part, Wrote, Synced, Unsynced, file_in, seen_in, with_file, wrote, reread, synced_file}
use Rattle.slots.specs.Saving.{OnlyIn}

pub in-with : (file : FileNo) (f : File) (s : State) → file_in file (with_file file f s) ≡ f
in-with Journal f s = refl
in-with Slot0 f s = refl
in-with Slot1 f s = refl

pub with-with : (file : FileNo) (f g : File) (s : State) → with_file file f (with_file file g s) ≡ with_file file f s
with-with Journal f g s = refl
with-with Slot0 f g s = refl
with-with Slot1 f g s = refl

pub with-in : (file : FileNo) (s : State) → with_file file (file_in file s) s ≡ s
with-in Journal s = refl
with-in Slot0 s = refl
with-in Slot1 s = refl

pub only_start : (P : File → Type 0) (file : FileNo) (s : State) → P (file_in file s) → OnlyIn file P s s
only_start P file s p = record { here = p; others = sym (with-in file s) }

-- a state that is the first one
pub only_same : (P : File → Type 0) (file : FileNo) (first s : State) → s ≡ first → P (file_in file first) → OnlyIn file P first s
only_same P file first s same p = subst (OnlyIn file P first) (sym same) (only_start P file first p)

pub only_with : (P Q : File → Type 0) (file : FileNo) (first old new : State) (f : File) → OnlyIn file P first old → Q f
    → new ≡ with_file file f old → OnlyIn file Q first new
only_with P Q file first old new f keeps q is =
    let here : file_in file new ≡ f = ap (file_in file) is ∙ in-with file f old in
    record {
      here = subst Q (sym here) q;
      others = is
          ∙ ap (with_file file f) keeps.others
          ∙ with-with file f (file_in file old) first
          ∙ ap (λ (g : File). with_file file g first) (sym here);
    }

pub only_wrote : (P : File → Type 0) (file : FileNo) (at n : ℕ) (first old new : State) → OnlyIn file P first old
    → Wrote file at n old new → ((seen : List ℕ) → Part at n (seen_in file old) seen → P (wrote at n seen (file_in file old)))
    → OnlyIn file P first new
only_wrote P file at n first old new keeps (inl same) step = subst (OnlyIn file P first) (sym same) keeps
only_wrote P file at n first old new keeps (inr (seen, part, is)) step =
    only_with P P file first old new (wrote at n seen (file_in file old)) keeps (step seen part) is

only_unsynced : (P : File → Type 0) (file : FileNo) (first old new : State) → OnlyIn file P first old
    → Unsynced file old new → ((seen : List ℕ) → IsImage (file_in file old) seen → P (reread seen (file_in file old)))
    → OnlyIn file P first new
only_unsynced P file first old new keeps (inl same) step = subst (OnlyIn file P first) (sym same) keeps
only_unsynced P file first old new keeps (inr (seen, own, is)) step =
    only_with P P file first old new (reread seen (file_in file old)) keeps (step seen own) is

pub only_after_sync : {T E : Type 0} (result : Result T E) (P : File → Type 0) (file : FileNo) (first old new : State)
    → OnlyIn file P first old → P (synced_file (seen_in file old))
    → ((seen : List ℕ) → IsImage (file_in file old) seen → P (reread seen (file_in file old)))
    → OnOk result (Synced file old new) → OnErr result (Unsynced file old new) → OnlyIn file P first new
only_after_sync (Ok x) P file first old new keeps synced step ok err =
    only_with P P file first old new (synced_file (seen_in file old)) keeps synced ok
only_after_sync (Err e) P file first old new keeps synced step ok err = only_unsynced P file first old new keeps err step

pub only_weaker : (P Q : File → Type 0) (file : FileNo) (first s : State) → ((f : File) → P f → Q f) → OnlyIn file P first s → OnlyIn file Q first s
only_weaker P Q file first s weaker keeps = record { here = weaker (file_in file s) keeps.here; others = keeps.others }

-- what began where one file alone was another
pub only_from : (P : File → Type 0) (file : FileNo) (f : File) (first mid s : State) → mid ≡ with_file file f first
    → OnlyIn file P mid s → OnlyIn file P first s
only_from P file f first mid s is keeps = record {
  here = keeps.here;
  others = keeps.others ∙ ap (with_file file (file_in file s)) is ∙ with-with file (file_in file s) f first;
}

-- a sync of one file, in terms of the first state
pub synced_from : {T E : Type 0} (result : Result T E) (P : File → Type 0) (file : FileNo) (first old new : State) (bytes : List ℕ)
    → OnlyIn file P first old → seen_in file old ≡ bytes → OnOk result (Synced file old new)
    → OnOk result (new ≡ with_file file (synced_file bytes) first)
synced_from (Ok x) P file first old new bytes keeps seen is =
    is
    ∙ ap (with_file file (synced_file (seen_in file old))) keeps.others
    ∙ with-with file (synced_file (seen_in file old)) (file_in file old) first
    ∙ ap (λ (l : List ℕ). with_file file (synced_file l) first) seen
synced_from (Err e) P file first old new bytes keeps seen is = tt

-- whatever the file is, the others stay
pub any_file : (file : FileNo) (s : State) → OnlyIn file (λ f. Unit {0}) s s
any_file file s = only_start (λ f. Unit {0}) file s tt

pub only_any : {file : FileNo} {at n : ℕ} {first old new : State} → OnlyIn file (λ f. Unit {0}) first old → Wrote file at n old new
    → OnlyIn file (λ f. Unit {0}) first new
only_any {file} {at} {n} {first} {old} {new} keeps wrote = only_wrote (λ f. Unit {0}) file at n first old new keeps wrote (λ seen part. tt)
