-- What a call does to a source.
use Rattle.std.specs.Prelude.{◌≡◌, ◌≤◌}
use Rattle.office_base.specs.Faults.{Rose}
use Rattle.http_wire.specs.declared.source.Source as sources

module _ {R : Type 0} (r : sources.Ghosts R) where
  -- The source was only read: its stream is the same. Its count of faults rose if the call failed, and is unchanged if
  -- not.
  pub record OnlyReads (old new : R) (failed : Type 0) : Type 0 where
    pub stream : r.stream new ≡ r.stream old
    pub later : r.faults old ≤ r.faults new
    pub fault : failed → Rose (r.faults old) (r.faults new)
    pub quiet : (failed → ⊥) → r.faults new ≡ r.faults old
