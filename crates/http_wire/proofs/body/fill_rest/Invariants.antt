use Rattle.std.proofs.Common.{length, take, ◌++◌, ◌+◌, ◌-◌, ◌≤◌, ◌≡◌}
use Rattle.http_wire.specs.Held.{TookPast, take_limit}
use Rattle.http_wire.proofs.body.fill_rest.Given as goal

abbrev pub invariant-filling : goal.invariant-filling
invariant-filling g l = record {
  took : TookPast l.fn.buffer l.buffer (g.R.Source.left l.fn.source) (g.R.Source.left l.source)
      (λ given. (l.at ≡ l.from + length given) × (take l.at l.body ≡ take l.from l.fn.body ++ given));
  limit : l.buffer.taken ≤ take_limit;
  inside : l.at ≤ length l.body;
  stream : g.R.Source.stream l.source ≡ g.R.Source.stream l.fn.source;
  faults : g.R.Source.faults l.source ≡ g.R.Source.faults l.fn.source;
}

abbrev pub decreases-filling : goal.decreases-filling
decreases-filling g l = length l.body - l.at
