use Rattle.std.proofs.Common.{◌+◌, ◌*◌, ◌^◌, ◌≤◌, length}
use Rattle.office_types.specs.Reports.{charges}
use Rattle.office_machine.proofs.Rows.{IsListing}
use Rattle.office_machine.proofs.reports.lines_of.Given as goal

-- the lines of the buckets that are left come after those that stand there
abbrev pub invariant-loop-name : goal.invariant-loop-name
invariant-loop-name l =
    IsListing l.tariff l.month l.t l.accounts.entries l.name-iterator l.lines.items
    × (charges l.lines.items + 18 * 2 ^ 100 * length l.name-iterator ≤ 18 * 2 ^ 100 * length l.accounts.entries)
