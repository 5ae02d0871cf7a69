-- What a call says to a sink of replies, and that it leaves all else of it alone.
use Rattle.std.specs.Prelude.{◌≡◌, ◌≤◌, ℕ, List, take}
use Rattle.std.specs.Io.KnownBytes.{Appends}
use Rattle.office_base.specs.Faults.{Rose}
use Rattle.http_front.specs.declared.replies.Replies as sinks

module _ {W : Type 0} (w : sinks.Ghosts W) where
  -- Nothing but replies was said: the other texts and the notes stay. The count of faults rose where the call failed,
  -- and stands still where it did not.
  pub record OnlySays (old new : W) (failed : Type 0) : Type 0 where
    pub texts : w.texts new ≡ w.texts old
    pub noted : w.noted new ≡ w.noted old
    pub later : w.faults old ≤ w.faults new
    pub fault : failed → Rose (w.faults old) (w.faults new)
    pub quiet : (failed → ⊥) → w.faults new ≡ w.faults old

  -- these bytes were said, and no answer with them
  pub record Says (old new : W) (bytes : List ℕ) : Type 0 where
    pub said : Appends (w.said old) (w.said new) bytes
    pub moments : w.moments new ≡ w.moments old

  -- a front of these bytes was said so
  abbrev pub SaysFront : W → W → List ℕ → Type 0
  SaysFront old new bytes = (n : ℕ) × Says old new (take n bytes)
