-- What a keeper of bills has of each month, and what its calls do to that.
use Rattle.std.specs.Prelude.{◌≡◌, ◌⊎◌, ℕ, List, Option, Some, None, option_map, IsSome, Result, Ok, Err}
use Rattle.std.specs.Global.{Vec}
use Rattle.bill_book.specs.declared.bill.Bill.{Bill}
use Rattle.bill_book.specs.declared.keeper.Posted.{Posted}
use Rattle.bill_book.specs.declared.keeper.Posted.TheVariants.{Now, Before}
use Rattle.bill_book.specs.declared.keeper.KeeperFault.{KeeperFault}
use Rattle.bill_book.specs.declared.keeper.KeeperFault.TheVariants.{Failed, NoMemory}

-- the bills of each month, by its number; none if it was not posted
abbrev pub Book : Type 0
Book = ℕ → Option (List Bill)

-- each month has what it had
abbrev pub IsSameBook : Book → Book → Type 0
IsSameBook old new = (month : ℕ) → new month ≡ old month

-- the month had no bills and has these now, and every other month has what it had
pub record AddsMonth (month : ℕ) (bills : List Bill) (old new : Book) : Type 0 where
  pub absent : old month ≡ None
  pub posted : new month ≡ Some bills
  pub others : (other : ℕ) → (other ≡ month → ⊥) → new other ≡ old other

-- what posting bills does to the book, by its answer
abbrev pub Posts : ℕ → List Bill → Book → Book → Result Posted KeeperFault → Type 0
Posts month bills old new (Ok Now) = AddsMonth month bills old new
Posts month bills old new (Ok Before) = IsSome (old month) × IsSameBook old new
Posts month bills old new (Err Failed) = IsSameBook old new ⊎ AddsMonth month bills old new
Posts month bills old new (Err NoMemory) = IsSameBook old new

-- reading a month returns what the book has of it, and the book stays
abbrev pub Shows : ℕ → Book → Book → Result (Option (Vec Bill)) KeeperFault → Type 0
Shows month old new (Ok bills) = (option_map (λ (v : Vec Bill). v.items) bills ≡ old month) × IsSameBook old new
Shows month old new (Err _) = IsSameBook old new

-- If a keeper shows its book after a call, it showed it before, and this holds between the two. If it does not show its
-- book after the call, nothing is said.
abbrev pub Told : Option Book → Option Book → (Book → Book → Type 0) → Type 0
Told (Some old) (Some new) P = P old new
Told None (Some new) P = ⊥
Told _ None P = Unit {0}
