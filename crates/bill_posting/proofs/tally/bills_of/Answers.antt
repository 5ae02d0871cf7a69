use Rattle.std.proofs.Common.{◌≡◌, map, rules}
use Rattle.std.proofs.lemmas.Grind.{common_steps}
use Rattle.bill_posting.specs.Bills.{bill_of, tallies_of}
use Rattle.bill_posting.proofs.Tallies.{are_of_lines}
use Rattle.bill_posting.proofs.tally.bills_of.Goals as goal

pub returns-clause-adds_up : goal.returns-clause-adds_up
returns-clause-adds_up c =
    let is : c.loop-bucket.bills.items ≡ map bill_of (tallies_of c.args.lines.now) = search (rules, common_steps) in
    (are_of_lines c.loop-bucket.bills.items c.args.lines.now is).0

pub returns-clause-rise : goal.returns-clause-rise
returns-clause-rise c =
    let is : c.loop-bucket.bills.items ≡ map bill_of (tallies_of c.args.lines.now) = search (rules, common_steps) in
    (are_of_lines c.loop-bucket.bills.items c.args.lines.now is).1
