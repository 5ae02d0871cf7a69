use Rattle.std.proofs.Common.{length, ◌-◌, ◌≤◌, ◌≡◌}
use Rattle.http_wire.specs.Heads.{IsOpen}
use Rattle.http_wire.specs.Held.{Took, head_room}
use Rattle.http_wire.proofs.reading.read_head.Given as goal

abbrev pub invariant-reading : goal.invariant-reading
invariant-reading g l = record {
  took : Took l.fn.buffer l.buffer (g.R.Source.left l.fn.source) (g.R.Source.left l.source);
  unread : (IsOpen l.fn.buffer.bytes → ⊥) → (l.source ≡ l.fn.source) × (l.buffer.bytes ≡ l.fn.buffer.bytes);
  full : head_room ≤ length l.fn.buffer.bytes → l.source ≡ l.fn.source;
  stream : g.R.Source.stream l.source ≡ g.R.Source.stream l.fn.source;
  faults : g.R.Source.faults l.source ≡ g.R.Source.faults l.fn.source;
}

abbrev pub decreases-reading : goal.decreases-reading
decreases-reading g l = 8192 - length l.buffer.bytes
