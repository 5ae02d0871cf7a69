use Rattle.std.proofs.Common.{◌≡◌, ◌-◌}
use Rattle.entry_codec.specs.Formats.{front_items}
use Rattle.entry_codec.proofs.Items.{with_front}
use Rattle.checkpoint.proofs.spelled.items_in.Given as goal

abbrev pub invariant-loop : goal.invariant-loop
invariant-loop g l = with_front l.items.items (front_items g.T.Spelled.format (l.count - l.counter) l.rest) ≡ front_items g.T.Spelled.format l.count l.bytes
