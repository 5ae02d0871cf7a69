-- A sound disk stays sound while its slots stay and its journal grows.
use Rattle.std.proofs.Common.{◌≡◌, inl, inr, ℕ, List, [], ◌∷◌, ◌++◌, refl, sym, ◌∙◌, ap, subst, append_assoc}
use Rattle.disk_core.specs.Files.{File, State, IsImage}
use Rattle.disk_core.specs.Fronts.{Narrower}
use Rattle.disk_core.proofs.Crash.{synced_image}
use Rattle.office_types.specs.declared.command.Entry.{Entry}
use Rattle.plain_office.specs.Office.{Office}
use Rattle.meter_journal.specs.History.{header}
use Rattle.meter_journal.proofs.Unique.{entries_unique}
use Rattle.desk_core.specs.Histories.{HasAcceptedHistory, Images, AreImages, IsOfHistory, FitsHistory, Stands, IsSound}
use Rattle.desk_core.specs.Histories.{started_from, RestartsSound}

pub one_history : (a b : List Entry) (file : List ℕ) → HasAcceptedHistory a file → HasAcceptedHistory b file → a ≡ b
one_history a b file first second = entries_unique header a b file first.entries second.entries

pub fits_longer : (history more : List Entry) (slot : List ℕ) → FitsHistory history slot → FitsHistory (history ++ more) slot
fits_longer history more slot fits snapshot position keeps =
    let was = fits snapshot position keeps in
    record {
      before = was.before;
      after = was.after ++ more;
      parts = ap (λ (l : List Entry). l ++ more) was.parts ∙ append_assoc was.before was.after more;
      place = was.place;
      office = was.office;
      is_run = was.is_run;
      shows_it = was.shows_it;
    }

-- the slots are as they were, and each image of the journal has the history of one from before, with more entries or none
pub still_sound : (first s : State) → IsSound first → s.slot0 ≡ first.slot0 → s.slot1 ≡ first.slot1
    → ((image : List ℕ) → IsImage s.journal image → (old : List ℕ) × IsImage first.journal old
    × ((history : List Entry) → HasAcceptedHistory history old → (more : List Entry) × HasAcceptedHistory (history ++ more) image))
    → IsSound s
still_sound first s sound same0 same1 grows images are =
    let grown = grows images.journal are.journal in
    let was = sound (record { journal = grown.0; slot0 = images.slot0; slot1 = images.slot1 }) (record {
      journal = grown.1;
      slot0 = subst (λ (f : File). IsImage f images.slot0) same0 are.slot0;
      slot1 = subst (λ (f : File). IsImage f images.slot1) same1 are.slot1;
    }) in
    let now = grown.2 was.0 was.1.journal in (
      was.0 ++ now.0,
      record {
        journal = now.1;
        slot0 = fits_longer was.0 now.0 images.slot0 was.1.slot0;
        slot1 = fits_longer was.0 now.0 images.slot1 was.1.slot1;
      },
    )

-- so it is where the journal lost images, as by a sync
pub narrower_sound : (first s : State) → IsSound first → Narrower first s → IsSound s
narrower_sound first s sound narrow images are = sound images (record {
  journal = narrow.journal images.journal are.journal;
  slot0 = subst (λ (f : File). IsImage f images.slot0) narrow.slot0 are.slot0;
  slot1 = subst (λ (f : File). IsImage f images.slot1) narrow.slot1 are.slot1;
})

-- and so it is after a crash, which leaves one image of each file
pub restarts_sound : (s : State) → IsSound s → RestartsSound s
restarts_sound s sound left are images is = sound images (record {
  journal = subst (λ (file : List ℕ). IsImage s.journal file) (sym (synced_image left.journal images.journal is.journal)) are.journal;
  slot0 = subst (λ (file : List ℕ). IsImage s.slot0 file) (sym (synced_image left.slot0 images.slot0 is.slot0)) are.slot0;
  slot1 = subst (λ (file : List ℕ). IsImage s.slot1 file) (sym (synced_image left.slot1 images.slot1 is.slot1)) are.slot1;
})

-- and where each image of the journal begins with the history that all of them had at first
pub since_sound : (first s : State) (history : List Entry) → IsSound first → s.slot0 ≡ first.slot0 → s.slot1 ≡ first.slot1
    → IsImage first.journal first.journal.seen → HasAcceptedHistory history first.journal.seen
    → ((image : List ℕ) → IsImage s.journal image → (more : List Entry) × HasAcceptedHistory (history ++ more) image)
    → IsSound s
since_sound first s history sound same0 same1 own has begins = still_sound first s sound same0 same1 (λ image is. (
  first.journal.seen,
  own,
  λ other stands.
      let found = begins image is in
      (found.0, subst (λ (h : List Entry). HasAcceptedHistory (h ++ found.0) image) (one_history history other first.journal.seen has stands) found.1),
))
