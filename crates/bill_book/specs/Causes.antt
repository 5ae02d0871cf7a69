-- What a keeper's count of faults says of an answer.
use Rattle.std.specs.Prelude.{◌≡◌, ◌≤◌, ℕ, Result, OnOk, IsErrOf}
use Rattle.office_base.specs.Faults.{Rose}
use Rattle.bill_book.specs.declared.keeper.KeeperFault.{KeeperFault}
use Rattle.bill_book.specs.declared.keeper.KeeperFault.TheVariants.{Failed}

-- the count never falls; in a call that failed it rose, and in a call that was done it stayed
pub record HasKeeperCause {T : Type 0} (before now : ℕ) (result : Result T KeeperFault) : Type 0 where
  pub later : before ≤ now
  pub failed : IsErrOf result Failed → Rose before now
  pub quiet : OnOk result (now ≡ before)
