-- What a keeper in memory has of each month, and which of its calls fail.
use Rattle.std.specs.Prelude.{◌≡◌, ◌↔◌, ℕ, ◌+◌, ◌-◌, ◌^◌, min, List, Result, IsErrOf, OnErr}
use Rattle.std.specs.List.{Contains}
use Rattle.std.specs.Ordering.{nat_cmp}
use Rattle.std.specs.BTreeMap.{get}
use Rattle.bill_book.specs.declared.map_keeper.MapKeeper.{MapKeeper}
use Rattle.bill_book.specs.declared.keeper.KeeperFault.{KeeperFault}
use Rattle.bill_book.specs.declared.keeper.KeeperFault.TheVariants.{Failed}
use Rattle.bill_book.specs.Books.{Book, IsSameBook}

-- the bills of each month
abbrev pub map_book : MapKeeper → Book
map_book k = λ month. get nat_cmp k.months month

-- how often it failed
abbrev pub map_faults : MapKeeper → ℕ
map_faults k = k.faults

-- the numbers of the calls that are to fail, counted from 1
abbrev pub map_failing : MapKeeper → List ℕ
map_failing k = k.failing.items

-- how many calls were made, up to the greatest u64
abbrev pub map_calls : MapKeeper → ℕ
map_calls k = k.calls

-- one call: it is counted, it fails if and only if its number is among those that are to fail, and the book stays
-- unless the call was done
pub record IsKeeperCall {T : Type 0} (old new : MapKeeper) (result : Result T KeeperFault) : Type 0 where
  pub failing : map_failing new ≡ map_failing old
  pub counted : map_calls new ≡ min (map_calls old + 1) (2 ^ 64 - 1)
  pub fails : IsErrOf result Failed ↔ Contains (map_failing old) (map_calls new)
  pub undone : OnErr result (IsSameBook (map_book old) (map_book new))
