use Rattle.std.proofs.Common.{◌≡◌, ◌++◌, length, take}
use Rattle.std.specs.Int.{w8, to_be_bytes}
use Rattle.std.specs.List.{flat_map}
use Rattle.entry_codec.specs.Fields.{tier_format}
use Rattle.entry_codec.proofs.tiers.put_tiers.Given as goal

abbrev pub invariant-loop-tier : goal.invariant-loop-tier
invariant-loop-tier l = l.out.items ≡ l.fn.out.items ++ (to_be_bytes w8 (length l.list) ++ flat_map tier_format.written (take l.tier-index l.list))
