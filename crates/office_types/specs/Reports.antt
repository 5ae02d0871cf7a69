-- The sum of a report's charges.
use Rattle.std.specs.Prelude.{ℕ, List, sum_by}
use Rattle.office_types.specs.declared.reply.ReportLine.{ReportLine}

-- the sum of the charges of all lines, in units
abbrev pub charges : List ReportLine → ℕ
charges lines = sum_by (λ (line : ReportLine). line.charge) lines
