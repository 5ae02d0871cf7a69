-- Lists of bills.
use Rattle.std.specs.Prelude.{ℕ, ◌≤◌, ◌<◌, ◌^◌, List, [], ◌∷◌, length, sum_by, IsTrue}
use Rattle.std.specs.List.{AllByRecursion}
use Rattle.std.specs.Ordering.{is_lt}
use Rattle.office_base.specs.Maps.{bytes_cmp}
use Rattle.bill_book.specs.declared.bill.Bill.{Bill}

-- what the bills charge together, in units
abbrev pub total_of : List Bill → ℕ
total_of bills = sum_by (λ (bill : Bill). bill.total) bills

-- each bucket has one bill, and the bills are in byte order of the buckets
abbrev pub RiseByBucket : List Bill → Type 0
RiseByBucket [] = Unit {0}
RiseByBucket (bill ∷ bills) =
    AllByRecursion (λ (other : Bill). IsTrue (is_lt (bytes_cmp bill.bucket other.bucket))) bills × RiseByBucket bills

-- the bills of a month: in order, at most one for each bucket that an office may have, and together below 2^128 units
pub record AreBills (bills : List Bill) : Type 0 where
  pub rise : RiseByBucket bills
  pub few : length bills ≤ 1_000
  pub small : total_of bills < 2 ^ 128
