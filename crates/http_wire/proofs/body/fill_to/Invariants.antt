use Rattle.std.proofs.Common.{length, ◌-◌, ◌≤◌, ◌≡◌}
use Rattle.http_wire.specs.Held.{Took}
use Rattle.http_wire.proofs.body.fill_to.Given as goal

abbrev pub invariant-filling : goal.invariant-filling
invariant-filling g l = record {
  took : Took l.fn.buffer l.buffer (g.R.Source.left l.fn.source) (g.R.Source.left l.source);
  spans : l.buffer.spans ≡ l.fn.buffer.spans;
  unread : l.count ≤ length l.fn.buffer.bytes → (l.source ≡ l.fn.source) × (l.buffer.bytes ≡ l.fn.buffer.bytes);
  stream : g.R.Source.stream l.source ≡ g.R.Source.stream l.fn.source;
  faults : g.R.Source.faults l.source ≡ g.R.Source.faults l.fn.source;
}

abbrev pub decreases-filling : goal.decreases-filling
decreases-filling g l = l.count - length l.buffer.bytes
