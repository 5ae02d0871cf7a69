-- Why a checkpoint is not saved or loaded.
use Rattle.std.specs.Prelude.{◌≡◌, ℕ, ◌≤◌, Result, IsErrOf}
use Rattle.office_base.specs.Faults.{Rose}
use Rattle.slots.specs.declared.fault.SaveFault.{SaveFault}
use Rattle.slots.specs.declared.fault.SaveFault.TheVariants as faults

-- the count of faults never falls; with StoreFault it rose, and with any other answer it is as before
pub record HasSaveCause {T : Type 0} (before now : ℕ) (result : Result T SaveFault) : Type 0 where
  pub later : before ≤ now
  pub failed : IsErrOf result faults.StoreFault → Rose before now
  pub quiet : (IsErrOf result faults.StoreFault → ⊥) → now ≡ before
