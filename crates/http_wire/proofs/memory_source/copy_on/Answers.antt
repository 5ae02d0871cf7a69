use Rattle.std.proofs.Common.{arith, drop}
use Rattle.http_wire.proofs.Given.{given_part}
use Rattle.http_wire.proofs.memory_source.copy_on.Goals as goal

pub returns-clause-parts : goal.returns-clause-parts
returns-clause-parts c =
    given_part c.args.bytes.now c.copy_from_slice.new.self (drop c.min-count.result c.args.room.now) c.args.given c.min-count.result
    (omega (arith, c.requires.inside, c.min-count.ensures)) c.copy_from_slice.ensures.after
