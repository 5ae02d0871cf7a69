use Rattle.std.proofs.Common.{◌≡◌, ◌+◌, take, drop}
use Rattle.std.specs.List.{flat_map}
use Rattle.office_types.specs.Reports.{charges}
use Rattle.usage_report.specs.Tables.{line_text}
use Rattle.usage_report.proofs.table.put_report.Given as goal

abbrev pub invariant-loop-line : goal.invariant-loop-line
invariant-loop-line l =
    (l.out.items ≡ flat_map line_text (take l.line-index l.lines)) × (l.total + charges (drop l.line-index l.lines) ≡ charges l.lines)
