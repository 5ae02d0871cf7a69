use Rattle.std.proofs.Common.{◌≡◌, ◌++◌, map}
use Rattle.bill_posting.specs.Bills.{tallies_of, bill_of}
use Rattle.bill_posting.proofs.tally.bills_of.Given as goal

-- the bills so far, with those of the tallies that are left
abbrev pub invariant-loop-bucket : goal.invariant-loop-bucket
invariant-loop-bucket l = l.bills.items ++ map bill_of l.bucket-iterator ≡ map bill_of (tallies_of l.lines)
