use Rattle.std.proofs.Common.{◌≡◌, drop, map}
use Rattle.stay_explain.specs.Rows.{booked_of}
use Rattle.csv_sheet.specs.Sheets.{IsAtRowStart, bytes_written}
use Rattle.stay_explain.proofs.Texts.{and_stays}
use Rattle.stay_explain.proofs.printing.put_stays.Given as goal

-- the stays that are left come after those that stand there
abbrev pub invariant-loop-row : goal.invariant-loop-row
invariant-loop-row l =
    IsAtRowStart l.sheet × (and_stays (bytes_written l.sheet) l.bucket (map booked_of (drop l.row-index l.rows)) ≡ and_stays (bytes_written l.initial.sheet) l.bucket (map booked_of l.rows))
