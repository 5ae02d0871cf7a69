-- A line of a report, from its parts.
use Rattle.std.specs.Prelude.{ℕ, List}
use Rattle.class_rules.specs.declared.class.Class.{Class}
use Rattle.office_types.specs.declared.reply.ReportLine.{ReportLine}
use Rattle.office_machine.specs.declared.reports.Line.{Line}

-- the line of a bucket and a class with this kind, quantity, price and charge
abbrev pub report_line : List ℕ → Class → Line → ReportLine
report_line name class line = record {
  bucket = name;
  kind = line.kind;
  class = class;
  quantity = line.quantity;
  price = line.price;
  charge = line.charge;
}
