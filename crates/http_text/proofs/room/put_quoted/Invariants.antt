use Rattle.std.proofs.Common.{take}
use Rattle.std.specs.List.{flat_map}
use Rattle.json.specs.Print.{escape_byte}
use Rattle.http_text.specs.Room.{Puts}
use Rattle.http_text.proofs.room.put_quoted.Given as goal

abbrev pub invariant-loop-byte : goal.invariant-loop-byte
invariant-loop-byte l = Puts l.initial.room l.initial.at l.room l.at (flat_map escape_byte (take l.byte-index l.text))
