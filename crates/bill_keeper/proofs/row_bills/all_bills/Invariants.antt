use Rattle.std.proofs.Common.{◌≡◌, map, take}
use Rattle.std.specs.List.{AllByRecursion}
use Rattle.bill_rows.specs.Answers.{answer_bill, NamesBucket}
use Rattle.bill_keeper.specs.Reading.{IsWritten}
use Rattle.bill_keeper.proofs.row_bills.all_bills.Given as goal

-- the bills of the rows so far
abbrev pub invariant-loop-row : goal.invariant-loop-row
invariant-loop-row l = (l.bills.items ≡ map answer_bill (take l.row-index l.rows)) × AllByRecursion NamesBucket (take l.row-index l.rows)
    × AllByRecursion IsWritten (take l.row-index l.rows)
