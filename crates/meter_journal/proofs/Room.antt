-- How long a journal file gets.
use Rattle.std.proofs.Common.{◌≡◌, ◌⊎◌, inl, inr, ℕ, zero, suc, ◌+◌, ◌≤◌, min, List, [], ◌∷◌, length, take, Result, Ok, Err, sym, subst, arith}
use Rattle.std.specs.Prelude.{OnOk, OnErr}
use Rattle.std.specs.List.{Contains}
use Rattle.std.proofs.lemmas.List.{length-take}
use Rattle.disk_core.specs.declared.disk.Disk as disks
use Rattle.disk_core.specs.declared.disk.FileNo.TheVariants.{Journal}
use Rattle.disk_core.specs.Calls.{Elapses}
use Rattle.disk_core.specs.Files.{State, IsImage, Wrote, Shortened, Synced, Unsynced}
use Rattle.disk_core.specs.Moments.{KeepsTo}
use Rattle.disk_core.proofs.Time.{goes_on}
use Rattle.meter_journal.specs.History.{IsNoLonger}

pub one_length_more : (m new : ℕ) (lengths : List ℕ) → new ≤ m → ((n : ℕ) → Contains lengths n → n ≤ m) → (n : ℕ) → Contains (new ∷ lengths) n → n ≤ m
one_length_more m new lengths le old n (zero, lt, is) = subst (λ (k : ℕ). k ≤ m) is le
one_length_more m new lengths le old n (suc k, lt, is) = old n (k, omega (arith, lt), is)

pub no_length : (m n : ℕ) → Contains [] n → n ≤ m
no_length m n (k, lt, is) = absurd (omega (arith, lt))

module _ (n : ℕ) (old new : State) (own : IsImage old.journal old.journal.seen) (room : IsNoLonger n old) where
  after_write : (at k : ℕ) → at + k ≤ n → Wrote Journal at k old new → IsNoLonger n new
  after_write at k le (inl same) = subst (IsNoLonger n) (sym same) room
  after_write at k le (inr (seen, part, is)) = subst (IsNoLonger n) (sym is)
      (one_length_more n (length seen) old.journal.lengths (omega (arith, part.no_longer, room (length old.journal.seen) own.one_length, le)) room)

  after_cut : (to : ℕ) → Shortened Journal to old new → IsNoLonger n new
  after_cut to (inl same) = subst (IsNoLonger n) (sym same) room
  after_cut to (inr (k, ge, le, is)) = subst (IsNoLonger n) (sym is)
      (one_length_more n (length (take k old.journal.seen)) old.journal.lengths
      (omega (arith, length-take k old.journal.seen, room (length old.journal.seen) own.one_length)) room)

  after_sync : {T E : Type 0} (result : Result T E) → OnOk result (Synced Journal old new) → OnErr result (Unsynced Journal old new) → IsNoLonger n new
  after_sync (Ok x) ok err = subst (IsNoLonger n) (sym ok) (one_length_more n (length old.journal.seen) [] (room (length old.journal.seen) own.one_length) (no_length n))
  after_sync (Err e) ok (inl same) = subst (IsNoLonger n) (sym same) room
  after_sync (Err e) ok (inr (seen, image, is)) = subst (IsNoLonger n) (sym is) room

-- so it is at every moment of a run of calls, with one call more
module _ {D : Type 0} {d : disks.Ghosts D} {old mid new : D} {n : ℕ} (so_far : KeepsTo d old mid (IsNoLonger n))
    (time : Elapses d.state d.moment d.had_since mid new) (own : IsImage (d.state mid).journal (d.state mid).journal.seen) where
  pub wrote_within : (at k : ℕ) → at + k ≤ n → Wrote Journal at k (d.state mid) (d.state new) → KeepsTo d old new (IsNoLonger n)
  wrote_within at k le is = goes_on so_far time (after_write n (d.state mid) (d.state new) own so_far.now at k le is)

  pub cut_within : (to : ℕ) → Shortened Journal to (d.state mid) (d.state new) → KeepsTo d old new (IsNoLonger n)
  cut_within to is = goes_on so_far time (after_cut n (d.state mid) (d.state new) own so_far.now to is)

  pub synced_within : {T E : Type 0} (result : Result T E) → OnOk result (Synced Journal (d.state mid) (d.state new))
      → OnErr result (Unsynced Journal (d.state mid) (d.state new)) → KeepsTo d old new (IsNoLonger n)
  synced_within result ok err = goes_on so_far time (after_sync n (d.state mid) (d.state new) own so_far.now result ok err)

-- the end of a frame, and of the zeros after it
pub ends_within : (gate size limit n : ℕ) → gate + 6 + size ≤ limit → min limit (gate + 6 + size + 4095) ≤ n → gate + 6 + size ≤ n
ends_within gate size limit n fits le = omega (arith, fits, le)

pub closes_within : (gate size limit n k : ℕ) → gate + 6 + size ≤ limit → min limit (gate + 6 + size + 4095) ≤ n → k ≤ 4096
    → (k ≡ 1) ⊎ (gate + 5 + size + k ≤ limit) → gate + 5 + size + k ≤ n
closes_within gate size limit n k fits le most (inl one) = omega (arith, one, fits, le)
closes_within gate size limit n k fits le most (inr within) = omega (arith, within, fits, le, most)
