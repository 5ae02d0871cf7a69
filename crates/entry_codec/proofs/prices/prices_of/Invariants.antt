use Rattle.std.proofs.Common.{◌≡◌, true, ◌-◌, length, take}
use Rattle.std.specs.List.{list_all}
use Rattle.tariff.specs.Prices.{is_price}
use Rattle.entry_codec.specs.Fields.{Price, format}
use Rattle.entry_codec.specs.Reading.{items_at}
use Rattle.entry_codec.proofs.Repeated.{with_front}
use Rattle.entry_codec.proofs.prices.prices_of.Given as goal

abbrev pub invariant-loop-i : goal.invariant-loop-i
invariant-loop-i l = record {
  read : with_front (format Price) (take l.i l.room) (items_at (format Price) (length l.room - l.i) l.total l.rest) ≡ items_at (format Price) (length l.fn.room) l.total l.bytes;
  prices : list_all is_price (take l.i l.room) ≡ true;
}
