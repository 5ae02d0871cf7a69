use Rattle.std.proofs.Common.{◌≡◌, ◌++◌, take}
use Rattle.std.specs.List.{flat_map}
use Rattle.entry_codec.specs.Fields.{Price, format}
use Rattle.entry_codec.proofs.prices.put_prices.Given as goal

abbrev pub invariant-loop-price : goal.invariant-loop-price
invariant-loop-price l = l.out.items ≡ l.fn.out.items ++ flat_map (format Price).written (take l.price-index l.prices)
