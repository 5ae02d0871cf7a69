-- How writes of a journal and syncs of it add up.
use Rattle.std.proofs.Common.{◌≡◌, sym, ◌∙◌, ap, refl, subst, ◌≤◌, Result, Ok, Err, arith}
use Rattle.std.specs.Prelude.{OnOk, OnErr}
use Rattle.disk_core.specs.declared.disk.FileNo.TheVariants.{Journal}
use Rattle.disk_core.specs.Tallies.{Tally, IsWritten, IsSynced, EndsSynced, IsDurable}

-- only the journal was called
pub record AsksJournal (old new : Tally) : Type 0 where
  pub syncs : old.syncs ≤ new.syncs
  pub slot0 : new.slot0 ≡ old.slot0
  pub slot1 : new.slot1 ≡ old.slot1

pub none_yet : (t : Tally) → AsksJournal t t
none_yet t = record { syncs = omega arith; slot0 = refl; slot1 = refl }

module _ {old mid new : Tally} where
  pub and_written : AsksJournal old mid → IsWritten Journal mid new → AsksJournal old new
  and_written so_far (n, rose, is) = subst (AsksJournal old) (sym is) (record {
    syncs = so_far.syncs;
    slot0 = so_far.slot0;
    slot1 = so_far.slot1;
  })

  pub and_synced : AsksJournal old mid → IsSynced Journal mid new → EndsSynced 1 old new
  and_synced so_far (n, rose, is) = subst (EndsSynced 1 old) (sym is) (record {
    syncs = omega (arith, rose, so_far.syncs);
    journal = refl;
    slot0 = so_far.slot0;
    slot1 = so_far.slot1;
  })

  -- two syncs
  pub twice : EndsSynced 1 old mid → EndsSynced 1 mid new → IsDurable old new
  twice first second = record {
    syncs = omega (arith, first.syncs, second.syncs);
    journal = second.journal;
    slot0 = second.slot0 ∙ first.slot0;
    slot1 = second.slot1 ∙ first.slot1;
  }

-- a sync is no write
pub sync_writes : {T E : Type 0} (result : Result T E) (old new : Tally) → OnOk result (IsSynced Journal old new) → OnErr result (new ≡ old)
    → new.writes ≡ old.writes
sync_writes (Ok x) old new ok err = ap (λ (t : Tally). t.writes) ok.2
sync_writes (Err e) old new ok err = ap (λ (t : Tally). t.writes) err
