-- What posting a month does.
use Rattle.std.specs.Prelude.{◌≡◌, ◌⊎◌, ◌≤◌, ℕ, true, false, List, [], Some, Result, Ok, Err, length, IsErrOf, OnOk}
use Rattle.std.specs.Prelude.{unwrap_or}
use Rattle.office_base.specs.Faults.{Rose}
use Rattle.std.specs.Global.{Vec}
use Rattle.bill_book.specs.declared.bill.Bill.{Bill}
use Rattle.bill_book.specs.Bills.{total_of}
use Rattle.bill_book.specs.Books.{Book, IsSameBook, AddsMonth}
use Rattle.bill_book.specs.declared.keeper.KeeperFault as keepers
use Rattle.bill_book.specs.declared.keeper.KeeperFault.TheVariants as keeper_fault
use Rattle.bill_posting.specs.declared.posting.Receipt.{Receipt}
use Rattle.bill_posting.specs.declared.posting.PostFault.{PostFault}
use Rattle.bill_posting.specs.declared.posting.PostFault.TheVariants.{OtherBills, KeeperFault, NoMemory}
use Rattle.bill_posting.specs.Differences.{first_difference}

-- the receipt counts the bills and adds them up
pub record IsReceiptOf (bills : List Bill) (receipt : Receipt) : Type 0 where
  pub count : receipt.bills ≡ length bills
  pub total : receipt.total ≡ total_of bills

-- What posting these bills for a month does to the book, by its answer. If the month was not posted, it is posted. If
-- it has these bills, nothing changes. If it has others, they stay, and the first difference is reported.
abbrev pub DoesPost : ℕ → List Bill → Book → Book → Result Receipt PostFault → Type 0
DoesPost month bills old new (Ok receipt) =
    ((receipt.before ≡ false) × AddsMonth month bills old new)
    ⊎ ((receipt.before ≡ true) × (old month ≡ Some bills) × IsSameBook old new)
DoesPost month bills old new (Err (OtherBills kept asked)) =
    (others : List Bill) × (old month ≡ Some others) × (first_difference others bills ≡ Some (kept, asked))
    × IsSameBook old new
DoesPost month bills old new (Err KeeperFault) = IsSameBook old new ⊎ AddsMonth month bills old new
DoesPost month bills old new (Err NoMemory) = IsSameBook old new

-- the fault of posting that a fault of the keeper becomes
abbrev pub post_fault : keepers.KeeperFault → PostFault
post_fault keeper_fault.Failed = KeeperFault
post_fault keeper_fault.NoMemory = NoMemory

-- the count never falls; a fault of the keeper is reported only if it rose; if a month was posted, it is as before
pub record HasPostCause {T : Type 0} (before now : ℕ) (result : Result T PostFault) : Type 0 where
  pub later : before ≤ now
  pub failed : IsErrOf result KeeperFault → Rose before now
  pub quiet : OnOk result (now ≡ before)

-- the bills that the book has of the month are read, none if the month was not posted; the book stays
abbrev pub ReadsKept : {E : Type 0} → ℕ → Book → Book → Result (Vec Bill) E → Type 0
ReadsKept month old new (Ok bills) = (bills.items ≡ unwrap_or (old month) []) × IsSameBook old new
ReadsKept month old new (Err _) = IsSameBook old new

-- the bills are equal, or the first difference is reported
abbrev pub Compares : List Bill → List Bill → Result (Unit {0}) PostFault → Type 0
Compares kept asked (Ok _) = kept ≡ asked
Compares kept asked (Err (OtherBills one other)) = first_difference kept asked ≡ Some (one, other)
Compares kept asked (Err _) = ⊥

-- the bills that the book has of the month are compared with those asked for, unless they cannot be read; the book
-- stays
abbrev pub FindsKept : ℕ → List Bill → Book → Book → Result (Unit {0}) PostFault → Type 0
FindsKept month asked old new (Ok _) = (unwrap_or (old month) [] ≡ asked) × IsSameBook old new
FindsKept month asked old new (Err (OtherBills one other)) =
    (first_difference (unwrap_or (old month) []) asked ≡ Some (one, other)) × IsSameBook old new
FindsKept month asked old new (Err _) = IsSameBook old new
