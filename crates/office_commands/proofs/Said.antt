-- The statuses of commands that said a text, or could not open the office.
use Rattle.std.proofs.Common.{◌≡◌, ◌⊎◌, inl, inr, arith, ℕ, false}
use Rattle.meter_journal.specs.declared.fault.OpenFault.{OpenFault}
use Rattle.meter_journal.specs.declared.fault.OpenFault.TheVariants as faults
use Rattle.http_front.specs.declared.answering.SessionEnd.TheVariants as ends
use Rattle.office_commands.specs.Lines.{fault_exit, IsRunExit, IsReportExit}

-- a fault that the bytes do not tell of is not status 5
pub not_five : (fault : OpenFault) (status : ℕ) → (fault ≡ faults.StoreFault) ⊎ (fault ≡ faults.NoMemory) → status ≡ fault_exit fault → status ≡ 5 → ⊥
not_five faults.StoreFault status other is five = omega (arith, is, five)
not_five faults.NoMemory status other is five = omega (arith, is, five)
not_five faults.NotMade status (inl store) is five = absurd cc
not_five faults.NotMade status (inr memory) is five = absurd cc
not_five faults.Foreign status (inl store) is five = absurd cc
not_five faults.Foreign status (inr memory) is five = absurd cc
not_five (faults.Damaged at) status (inl store) is five = absurd cc
not_five (faults.Damaged at) status (inr memory) is five = absurd cc

-- where a text was said, or not
pub said_is_run : (status : ℕ) → (status ≡ 0) ⊎ ((status ≡ 4) ⊎ (status ≡ 6)) → IsRunExit status
said_is_run status (inl is) = inl (ends.Ended, false, is)
said_is_run status (inr (inl is)) = inl (ends.WriteFault, false, is)
said_is_run status (inr (inr is)) = inl (ends.NoMemory, false, is)

pub said_is_report : (status : ℕ) → (status ≡ 10) ⊎ ((status ≡ 0) ⊎ ((status ≡ 4) ⊎ (status ≡ 6))) → IsReportExit status
said_is_report status (inl ten) = inl ten
said_is_report status (inr said) = inr (said_is_run status said)
