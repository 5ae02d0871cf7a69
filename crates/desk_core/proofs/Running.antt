-- A sound disk stays sound at every moment from the entry to the last call, with its slots as they were.
use Rattle.std.proofs.Common.{◌≡◌, inl, inr, ⊎_elim, ℕ, ◌≤◌, true, List, ◌++◌, take, refl, sym, ◌∙◌, ap, subst}
use Rattle.std.specs.Prelude.{IsTrue}
use Rattle.disk_core.specs.declared.disk.Disk as disks
use Rattle.disk_core.specs.declared.disk.FileNo.TheVariants.{Journal}
use Rattle.disk_core.specs.Files.{State, IsImage}
use Rattle.disk_core.specs.Fronts.{Narrower}
use Rattle.disk_core.specs.Moments.{KeepsTo}
use Rattle.disk_core.proofs.Laws.{DiskLaws}
use Rattle.disk_core.proofs.Time.{joined, weakened}
use Rattle.office_snapshot.specs.Snapshots.{SnapshotRecord, Shows}
use Rattle.checkpoint.specs.Bodies.{Spells}
use Rattle.office_types.specs.declared.command.Entry.{Entry}
use Rattle.desk_core.specs.Answers.{Call}
use Rattle.desk_core.specs.Serving.{Opened, Recoverable, KeepsSlots}
use Rattle.desk_core.proofs.OneCallMore.{calls_grow}
use Rattle.desk_core.specs.Histories.{HasAcceptedHistory, IsSound}
use Rattle.desk_core.proofs.Staying.{since_sound, narrower_sound}

-- two runs that are one keep to both
pub both_kept : {D : Type 0} (d : disks.Ghosts D) (old new : D) (P Q : State → Type 0) → KeepsTo d old new P → KeepsTo d old new Q → KeepsTo d old new (λ s. P s × Q s)
both_kept d old new P Q first second = record {
  later = first.later;
  now = (first.now, second.now);
  each = λ s had. (first.each s had, second.each s had);
  before = λ t s le had. ⊎_elim inl (λ p. ⊎_elim inl (λ q. inr (p, q)) (second.before t s le had)) (first.before t s le had);
  keeps = first.keeps;
}

module _ {D : Type 0} {d : disks.Ghosts D} (laws : DiskLaws d) (tells : IsTrue d.honest) where
  -- from the opening on
  pub since_opening : (opened : Opened) (calls : List Call) (opening new : D) → IsSound (d.state opening)
      → HasAcceptedHistory opened.history (d.state opening).journal.seen
      → KeepsTo d opening new (Recoverable opened calls) → KeepsTo d opening new (KeepsSlots (d.state opening))
      → KeepsTo d opening new IsSound
  since_opening opened calls opening new sound has ran slots =
      let first = d.state opening in
      weakened IsSound (both_kept d opening new (Recoverable opened calls) (KeepsSlots first) ran slots)
      (λ s kept. since_sound first s opened.history sound kept.1.0 kept.1.1 (laws.reads_image tells opening Journal)
      has
      (λ image is.
      let front = kept.0 image is in
      let grown = calls_grow opened.limit opened.faults (take front.1 calls) opened.history front.0 front.4 in
      (grown.0, subst (λ (h : List Entry). HasAcceptedHistory h image) grown.1 front.2)))

  -- and from the entry on
  pub since_entry : (opened : Opened) (calls : List Call) (old opening new : D) → IsSound (d.state old)
      → HasAcceptedHistory opened.history (d.state opening).journal.seen
      → KeepsTo d old opening (Narrower (d.state old))
      → KeepsTo d opening new (Recoverable opened calls) → KeepsTo d opening new (KeepsSlots (d.state opening))
      → KeepsTo d old new IsSound
  since_entry opened calls old opening new sound has narrow ran slots =
      let begun = narrower_sound (d.state old) (d.state opening) sound narrow.now in
      joined IsSound narrow (since_opening opened calls opening new begun has ran slots)
      (λ s keeps. narrower_sound (d.state old) s sound keeps) (λ s keeps. keeps)
