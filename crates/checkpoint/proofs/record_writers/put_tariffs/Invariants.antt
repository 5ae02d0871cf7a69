use Rattle.std.proofs.Common.{◌≡◌, ◌++◌, length, take, true}
use Rattle.std.specs.Int.{w8, to_be_bytes}
use Rattle.std.specs.List.{flat_map, list_all}
use Rattle.checkpoint.specs.Parts.{tariff_format}
use Rattle.checkpoint.proofs.record_writers.put_tariffs.Given as goal

abbrev pub invariant-loop-tariff : goal.invariant-loop-tariff
invariant-loop-tariff l = record {
  bytes : l.out.items ≡ l.fn.out.items ++ (to_be_bytes w8 (length l.tariffs) ++ flat_map (tariff_format).written (take l.tariff-index l.tariffs));
  has : list_all (tariff_format).has (take l.tariff-index l.tariffs) ≡ true;
}
