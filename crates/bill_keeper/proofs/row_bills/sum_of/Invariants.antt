use Rattle.std.proofs.Common.{◌≡◌, take}
use Rattle.bill_book.specs.Bills.{total_of}
use Rattle.bill_keeper.proofs.row_bills.sum_of.Given as goal

-- what the bills so far come to
abbrev pub invariant-loop-bill : goal.invariant-loop-bill
invariant-loop-bill l = l.sum ≡ total_of (take l.bill-index l.bills)
