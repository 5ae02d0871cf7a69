use Rattle.std.proofs.Common.{◌≡◌, ◌+◌, ◌*◌, ◌^◌, ◌≤◌, ◌++◌, drop, flat_map}
use Rattle.office_types.specs.Reports.{charges}
use Rattle.plain_office.specs.Charges.{metered_lines}
use Rattle.office_machine.proofs.reports.push_bucket.Given as goal

-- the lines of the classes that are left come after those that stand there
abbrev pub invariant-loop-one : goal.invariant-loop-one
invariant-loop-one l =
    (l.lines.items ++ flat_map (metered_lines l.tariff l.month l.name) (drop l.one-index l.used) ≡ l.initial.lines.items ++ flat_map (metered_lines l.tariff l.month l.name) l.used)
    × (charges l.lines.items ≤ charges l.initial.lines.items + l.one-index * (3 * 2 ^ 100))
