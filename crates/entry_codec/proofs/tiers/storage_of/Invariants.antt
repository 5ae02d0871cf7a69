use Rattle.std.proofs.Common.{◌≡◌, ◌-◌, length, take}
use Rattle.entry_codec.specs.Fields.{Tiers, format}
use Rattle.entry_codec.specs.Reading.{items_at}
use Rattle.entry_codec.proofs.Repeated.{with_front}
use Rattle.entry_codec.proofs.tiers.storage_of.Given as goal

abbrev pub invariant-loop-i : goal.invariant-loop-i
invariant-loop-i l = with_front (format Tiers) (take l.i l.room) (items_at (format Tiers) (length l.room - l.i) l.total l.rest) ≡ items_at (format Tiers) (length l.fn.room) l.total l.bytes
