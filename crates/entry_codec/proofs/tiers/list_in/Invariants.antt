use Rattle.std.proofs.Common.{◌≡◌, ◌-◌, take}
use Rattle.entry_codec.specs.Formats.{front_items}
use Rattle.entry_codec.specs.Fields.{tier_format}
use Rattle.entry_codec.proofs.Items.{with_front}
use Rattle.entry_codec.proofs.tiers.list_in.Given as goal

abbrev pub invariant-loop-i : goal.invariant-loop-i
invariant-loop-i l = with_front (take l.i l.room) (front_items tier_format (l.count - l.i) l.rest) ≡ front_items tier_format l.count l.bytes
