use Rattle.std.proofs.Common.{◌≡◌, take}
use Rattle.bill_book.proofs.bill.copies.Given as goal

-- those copied so far, in their order
abbrev pub invariant-loop-bill : goal.invariant-loop-bill
invariant-loop-bill l = l.copies.items ≡ take l.bill-index l.bills
