use Rattle.std.proofs.Common.{◌≡◌, ◌++◌, take, true}
use Rattle.std.specs.List.{flat_map, list_all}
use Rattle.tariff.specs.Prices.{are_tiers}
use Rattle.entry_codec.specs.Fields.{Tiers, format}
use Rattle.entry_codec.proofs.tiers.put_storage.Given as goal

abbrev pub invariant-loop-tiers : goal.invariant-loop-tiers
invariant-loop-tiers l = record {
  bytes : l.out.items ≡ l.fn.out.items ++ flat_map (format Tiers).written (take l.tiers-index l.storage);
  are : list_all are_tiers (take l.tiers-index l.storage) ≡ true;
}
