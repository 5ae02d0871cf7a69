use Rattle.std.proofs.Common.{◌≡◌, take}
use Rattle.bill_posting.specs.Bills.{tallies_of}
use Rattle.bill_posting.proofs.tally.tally_lines.Given as goal

-- the tallies of the lines so far
abbrev pub invariant-loop-line : goal.invariant-loop-line
invariant-loop-line l = l.tallies.entries ≡ tallies_of (take l.line-index l.lines)
