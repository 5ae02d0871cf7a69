use Rattle.std.proofs.Common.{arith}
use Rattle.bill_posting.proofs.Tallies.{total_room, count_room}
use Rattle.bill_posting.proofs.tally.tally_lines.Goals as goal

pub add_line-requires-clause-total : goal.add_line-requires-clause-total
add_line-requires-clause-total c =
    omega (arith, total_room c.args.lines.now c.loop-line.line-index c.line-item.result c.loop-line.tallies.entries c.loop-line-test.true c.line-item.is c.loop-line.invariant)

pub add_line-requires-clause-lines : goal.add_line-requires-clause-lines
add_line-requires-clause-lines c =
    omega (arith, count_room c.args.lines.now c.loop-line.line-index c.loop-line.tallies.entries c.loop-line-test.true c.loop-line.invariant)
