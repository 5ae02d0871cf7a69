use Rattle.std.proofs.Common.{◌≡◌, take}
use Rattle.http_wire.specs.Framing.{found_of, values_named}
use Rattle.http_wire.proofs.fields.named.Given as goal

abbrev pub invariant-loop-header : goal.invariant-loop-header
invariant-loop-header l = l.found ≡ found_of (values_named l.bytes l.name (take l.header-index l.headers))
