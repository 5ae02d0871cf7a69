-- What calls of a disk leave of its tally.
use Rattle.std.proofs.Common.{◌≡◌, ◌≢◌, ◌≤◌, ℕ, ◌+◌, false, Result, Ok, Err, refl, ◌∙◌, ap, subst, sym, arith}
use Rattle.std.specs.Prelude.{OnOk, OnErr}
use Rattle.disk_core.specs.declared.disk.FileNo.{FileNo}
use Rattle.disk_core.specs.declared.disk.FileNo.TheVariants.{Journal, Slot0, Slot1}
use Rattle.disk_core.specs.Tallies.{Tally, IsWritten, IsSynced, SyncedTimes}
use Rattle.slots.specs.Synced.{LeavesSynced, KeepsSynced, mark_of}

-- whether a file but this one is to be synced is as before; the syncs are not fewer
pub record LeavesOthers (file : FileNo) (old new : Tally) : Type 0 where
  pub syncs : old.syncs ≤ new.syncs
  pub others : (other : FileNo) → other ≢ file → mark_of other new ≡ mark_of other old

others_then : {file : FileNo} {old mid new : Tally} → LeavesOthers file old mid → LeavesOthers file mid new
    → LeavesOthers file old new
others_then first second = record {
  syncs = omega (arith, first.syncs, second.syncs);
  others = λ other not. second.others other not ∙ first.others other not;
}

-- ---- a write

written_others : (file other : FileNo) (old new : Tally) → IsWritten file old new → other ≢ file
    → mark_of other new ≡ mark_of other old
written_others Journal Journal old new is not = absurd (not refl)
written_others Journal Slot0 old new is not = ap (mark_of Slot0) is.2
written_others Journal Slot1 old new is not = ap (mark_of Slot1) is.2
written_others Slot0 Journal old new is not = ap (mark_of Journal) is.2
written_others Slot0 Slot0 old new is not = absurd (not refl)
written_others Slot0 Slot1 old new is not = ap (mark_of Slot1) is.2
written_others Slot1 Journal old new is not = ap (mark_of Journal) is.2
written_others Slot1 Slot0 old new is not = ap (mark_of Slot0) is.2
written_others Slot1 Slot1 old new is not = absurd (not refl)

written_syncs : (file : FileNo) (old new : Tally) → IsWritten file old new → new.syncs ≡ old.syncs
written_syncs Journal old new is = ap (λ (t : Tally). t.syncs) is.2
written_syncs Slot0 old new is = ap (λ (t : Tally). t.syncs) is.2
written_syncs Slot1 old new is = ap (λ (t : Tally). t.syncs) is.2

pub wrote_one : {file : FileNo} {old new : Tally} → IsWritten file old new → LeavesOthers file old new
wrote_one {file} {old} {new} is = record {
  syncs = omega (arith, written_syncs file old new is);
  others = λ other not. written_others file other old new is not;
}

pub wrote_more : {file : FileNo} {old mid new : Tally} → LeavesOthers file old mid → IsWritten file mid new
    → LeavesOthers file old new
wrote_more first is = others_then first (wrote_one is)

-- ---- a sync

synced_others : (file other : FileNo) (old new : Tally) → IsSynced file old new → other ≢ file
    → mark_of other new ≡ mark_of other old
synced_others Journal Journal old new is not = absurd (not refl)
synced_others Journal Slot0 old new is not = ap (mark_of Slot0) is.2
synced_others Journal Slot1 old new is not = ap (mark_of Slot1) is.2
synced_others Slot0 Journal old new is not = ap (mark_of Journal) is.2
synced_others Slot0 Slot0 old new is not = absurd (not refl)
synced_others Slot0 Slot1 old new is not = ap (mark_of Slot1) is.2
synced_others Slot1 Journal old new is not = ap (mark_of Journal) is.2
synced_others Slot1 Slot0 old new is not = ap (mark_of Slot0) is.2
synced_others Slot1 Slot1 old new is not = absurd (not refl)

synced_own : (file : FileNo) (old new : Tally) → IsSynced file old new → mark_of file new ≡ false
synced_own Journal old new is = ap (mark_of Journal) is.2
synced_own Slot0 old new is = ap (mark_of Slot0) is.2
synced_own Slot1 old new is = ap (mark_of Slot1) is.2

synced_syncs : (file : FileNo) (old new : Tally) → IsSynced file old new → SyncedTimes 1 old new
synced_syncs Journal old new is = omega (arith, is.1, ap (λ (t : Tally). t.syncs) is.2)
synced_syncs Slot0 old new is = omega (arith, is.1, ap (λ (t : Tally). t.syncs) is.2)
synced_syncs Slot1 old new is = omega (arith, is.1, ap (λ (t : Tally). t.syncs) is.2)

synced_writes : (file : FileNo) (old new : Tally) → IsSynced file old new → new.writes ≡ old.writes
synced_writes Journal old new is = ap (λ (t : Tally). t.writes) is.2
synced_writes Slot0 old new is = ap (λ (t : Tally). t.writes) is.2
synced_writes Slot1 old new is = ap (λ (t : Tally). t.writes) is.2

-- a sync writes nothing, whether it was done or not
pub sync_writes : {T E : Type 0} (result : Result T E) (file : FileNo) (old new : Tally)
    → OnOk result (IsSynced file old new)
    → OnErr result (new ≡ old) → new.writes ≡ old.writes
sync_writes (Ok x) file old new ok err = synced_writes file old new ok
sync_writes (Err e) file old new ok err = ap (λ (t : Tally). t.writes) err

-- a file is synced after it was written
pub synced_last : {file : FileNo} {old mid new : Tally} → LeavesOthers file old mid → IsSynced file mid new
    → KeepsSynced file 1 old new
synced_last {file} {old} {mid} {new} wrote is = record {
  syncs = omega (arith, wrote.syncs, synced_syncs file mid new is);
  own = λ was. synced_own file mid new is;
  others = λ other not. synced_others file other mid new is not ∙ wrote.others other not;
}

-- ---- runs

-- nothing was written or synced
pub keeps_same : {file : FileNo} {old new : Tally} → new ≡ old → KeepsSynced file 0 old new
keeps_same {file} {old} {new} same = subst (KeepsSynced file 0 old) (sym same) (record {
  syncs = omega arith;
  own = λ was. was;
  others = λ other not. refl;
})

pub keeps_then : {file : FileNo} {old mid new : Tally} (m n : ℕ) → KeepsSynced file m old mid
    → KeepsSynced file n mid new
    → KeepsSynced file (m + n) old new
keeps_then m n first second = record {
  syncs = omega (arith, first.syncs, second.syncs);
  own = λ was. second.own (first.own was);
  others = λ other not. second.others other not ∙ first.others other not;
}

-- with fewer syncs
pub keeps_fewer : {file : FileNo} {old new : Tally} (m n : ℕ) → m ≤ n → KeepsSynced file n old new
    → KeepsSynced file m old new
keeps_fewer m n le keeps = record { syncs = omega (arith, le, keeps.syncs); own = keeps.own; others = keeps.others }

-- both slots are synced
pub both_synced : {old mid new : Tally} → IsSynced Slot0 old mid → IsSynced Slot1 mid new → LeavesSynced 2 old new
both_synced {old} {mid} {new} first second = record {
  syncs = omega (arith, synced_syncs Slot0 old mid first, synced_syncs Slot1 mid new second);
  slot0 = ap (mark_of Slot0) second.2 ∙ ap (mark_of Slot0) first.2;
  slot1 = ap (mark_of Slot1) second.2;
  journal = ap (mark_of Journal) second.2 ∙ ap (mark_of Journal) first.2;
}

-- then one of them is written and synced
pub slot_synced : {old mid new : Tally} (file : FileNo) (m n : ℕ) → file ≢ Journal → LeavesSynced m old mid
    → KeepsSynced file n mid new
    → LeavesSynced (m + n) old new
slot_synced Journal m n is_slot both keeps = absurd (is_slot refl)
slot_synced Slot0 m n is_slot both keeps = record {
  syncs = omega (arith, both.syncs, keeps.syncs);
  slot0 = keeps.own both.slot0;
  slot1 = keeps.others Slot1 (λ same. absurd cc) ∙ both.slot1;
  journal = keeps.others Journal (λ same. absurd cc) ∙ both.journal;
}
slot_synced Slot1 m n is_slot both keeps = record {
  syncs = omega (arith, both.syncs, keeps.syncs);
  slot0 = keeps.others Slot0 (λ same. absurd cc) ∙ both.slot0;
  slot1 = keeps.own both.slot1;
  journal = keeps.others Journal (λ same. absurd cc) ∙ both.journal;
}
