use Rattle.std.proofs.Common.{◌≡◌, ◌++◌, length, take}
use Rattle.std.specs.Int.{w8, to_be_bytes}
use Rattle.std.specs.List.{flat_map}
use Rattle.office_base.specs.Tags.{tags_of}
use Rattle.entry_codec.specs.Fields.{tag_format}
use Rattle.entry_codec.proofs.field_writers.put_tags.Given as goal

abbrev pub invariant-loop-pair : goal.invariant-loop-pair
invariant-loop-pair l = l.out.items ≡ l.fn.out.items ++ (to_be_bytes w8 (length l.pairs) ++ flat_map tag_format.written (tags_of (take l.pair-index l.pairs)))
