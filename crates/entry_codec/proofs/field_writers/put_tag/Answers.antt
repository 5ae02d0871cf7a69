use Rattle.std.proofs.Common.{ap, length, arith}
use Rattle.office_base.specs.Tags.{tag_of}
use Rattle.entry_codec.proofs.Sizes.{tag_parts_small}
use Rattle.entry_codec.proofs.field_writers.put_tag.Goals as goal

pub put_text-requires : goal.put_text-requires
put_text-requires c = omega (arith, tag_parts_small (tag_of c.args.pair.now) c.requires, ap length c.as_bytes.ensures.value)

pub put_text-requires-2 : goal.put_text-requires-2
put_text-requires-2 c = omega (arith, tag_parts_small (tag_of c.args.pair.now) c.requires, ap length c.as_bytes-2.ensures.value)
