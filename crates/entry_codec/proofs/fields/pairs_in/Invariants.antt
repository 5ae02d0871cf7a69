use Rattle.std.proofs.Common.{◌≡◌, ◌-◌}
use Rattle.office_base.specs.Tags.{tags_of}
use Rattle.entry_codec.specs.Formats.{front_items}
use Rattle.entry_codec.specs.Fields.{tag_format}
use Rattle.entry_codec.proofs.Items.{with_front}
use Rattle.entry_codec.proofs.fields.pairs_in.Given as goal

abbrev pub invariant-loop : goal.invariant-loop
invariant-loop l = with_front (tags_of l.pairs.items) (front_items tag_format (l.count - l.counter) l.rest) ≡ front_items tag_format l.count l.bytes
