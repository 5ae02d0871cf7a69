-- The statuses of the program, and the lines that it prints.
use Rattle.std.specs.Prelude.{◌≡◌, ◌⊎◌, ℕ, Bool, true, false, List, [], ◌∷◌, ◌++◌, Result, Err, codes, decimal}
use Rattle.meter_journal.specs.declared.fault.OpenFault.{OpenFault}
use Rattle.meter_journal.specs.declared.fault.OpenFault.TheVariants as faults
use Rattle.meter_journal.specs.declared.making.Made.{Made}
use Rattle.meter_journal.specs.declared.making.Made.TheVariants as mades
use Rattle.slots.specs.declared.fault.SaveFault.{SaveFault}
use Rattle.slots.specs.declared.fault.SaveFault.TheVariants as saves
use Rattle.http_front.specs.declared.answering.SessionEnd.{SessionEnd}
use Rattle.http_front.specs.declared.answering.SessionEnd.TheVariants as ends

-- ---- statuses (own)

-- the exit code of a session with this end, and whether the store failed; if two hold, the first of 4, 3, 9, 2 and 6
-- (own)
abbrev pub session_exit : SessionEnd → Bool → ℕ
session_exit ends.WriteFault failed = 4
session_exit ends.ReadFault failed = 3
session_exit ends.Spent failed = 9
session_exit ends.NoMemory true = 2
session_exit ends.NoMemory false = 6
session_exit ends.Ended true = 2
session_exit ends.Ended false = 0

-- how a session ended after its office was closed: out of memory if there was none for the checkpoint (own)
abbrev pub end_after : SessionEnd → Result (Unit {0}) SaveFault → SessionEnd
end_after ends.Ended (Err saves.NoMemory) = ends.NoMemory
end_after end saved = end

-- whether the store failed: the desk is stale, or the disk failed while the checkpoint was saved
abbrev pub store_after : Bool → Result (Unit {0}) SaveFault → Bool
store_after stale (Err saves.StoreFault) = true
store_after stale saved = stale

-- the exit code if a journal was not opened, or not made
abbrev pub fault_exit : OpenFault → ℕ
fault_exit faults.StoreFault = 2
fault_exit faults.NotMade = 5
fault_exit faults.Foreign = 5
fault_exit (faults.Damaged at) = 5
fault_exit faults.NoMemory = 6

-- the exit codes of a session, for any end
abbrev pub IsSessionExit : ℕ → Type 0
IsSessionExit status = (end : SessionEnd) × (failed : Bool) × (status ≡ session_exit end failed)

-- the exit codes of a command that opens the office for a session, or cannot open it
abbrev pub IsRunExit : ℕ → Type 0
IsRunExit status = IsSessionExit status ⊎ ((fault : OpenFault) × (status ≡ fault_exit fault))

-- the exit codes of a report: those of a run, or 10 without a tariff
abbrev pub IsReportExit : ℕ → Type 0
IsReportExit status = (status ≡ 10) ⊎ IsRunExit status

-- the exit codes of billing: those of a run, 11 if the keeper failed, 12 if the month is not closed, or 13 if other
-- bills are kept
abbrev pub IsBillExit : ℕ → Type 0
IsBillExit status = (status ≡ 11) ⊎ ((status ≡ 12) ⊎ ((status ≡ 13) ⊎ IsRunExit status))

-- the exit codes of a forecast: those of a run, or 14 if the proposal has none
abbrev pub IsForecastExit : ℕ → Type 0
IsForecastExit status = (status ≡ 14) ⊎ IsRunExit status

-- the exit codes of a command that was done, including out of memory, too long an input, and a report without a tariff
abbrev pub IsDoneExit : ℕ → Type 0
IsDoneExit status = (status ≡ 0) ⊎ ((status ≡ 6) ⊎ ((status ≡ 9) ⊎ (status ≡ 10)))

-- ---- lines

-- a text with a newline after it
abbrev pub line : List ℕ → List ℕ
line text = text ++ 10 ∷ []

-- what is printed after a journal is made, now or before
abbrev pub made_line : Made → List ℕ
made_line mades.Now = line (codes "made")
made_line mades.Before = line (codes "already made")

-- the note on words that are not a command line
unfoldable pub usage_note : List ℕ
usage_note = line (codes
    "usage: office init; run; serve --listen A [--workers N] [--connections K]; report MONTH [--text]; explain [--workers N]; gen NUMBER COUNT; bill MONTH; forecast BUCKET DATE")

-- the note if the clock is at its end
unfoldable pub clock_note : List ℕ
clock_note = line (codes "clock: at its end")

-- the note on a report without a tariff
unfoldable pub tariff_note : List ℕ
tariff_note = line (codes "report: no tariff")

-- the note on billing a month that is not closed
unfoldable pub open_month_note : List ℕ
open_month_note = line (codes "bill: month not closed")

-- the note on billing a month for which other bills are kept
unfoldable pub other_bills_note : List ℕ
other_bills_note = line (codes "bill: other bills kept")

-- the note on a keeper of bills that failed
unfoldable pub keeper_note : List ℕ
keeper_note = line (codes "bills: failed")

-- the note on a refused forecast, with the number of the reason
unfoldable pub refused_note : ℕ → List ℕ
refused_note number = line (codes "forecast: refused " ++ decimal number)

-- the note on a session with this end, and whether the store failed; empty if all was done
unfoldable pub end_note : SessionEnd → Bool → List ℕ
end_note ends.WriteFault failed = line (codes "output: failed")
end_note ends.ReadFault failed = line (codes "input: failed")
end_note ends.Spent failed = line (codes "input: too long")
end_note ends.NoMemory true = line (codes "store: failed")
end_note ends.NoMemory false = line (codes "memory: refused")
end_note ends.Ended true = line (codes "store: failed")
end_note ends.Ended false = []

-- of a journal that was not opened, or not made
unfoldable pub fault_note : OpenFault → List ℕ
fault_note faults.StoreFault = line (codes "store: failed")
fault_note faults.NotMade = line (codes "journal: not made")
fault_note faults.Foreign = line (codes "journal: foreign")
fault_note (faults.Damaged at) = line (codes "journal: damaged at " ++ decimal at)
fault_note faults.NoMemory = line (codes "memory: refused")
