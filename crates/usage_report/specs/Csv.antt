-- The report of a month as CSV (RFC 4180, but lines end in a line feed).
use Rattle.std.specs.Prelude.{ℕ, List, [], ◌∷◌, ◌++◌, map, codes, decimal}
use Rattle.std.specs.List.{flat_map}
use Rattle.csv.specs.Writing.{row_text, default_writer}
use Rattle.class_rules.specs.Classes.{class_name}
use Rattle.office_types.specs.declared.reply.ReportLine.{ReportLine}
use Rattle.office_types.specs.Reports.{charges}
use Rattle.usage_report.specs.Lines.{line_name, price_text}

-- the names of the columns
abbrev pub report_header : List (List ℕ)
report_header = codes "bucket" ∷ codes "line" ∷ codes "class" ∷ codes "quantity" ∷ codes "price" ∷ codes "charge" ∷ []

-- a line of the report: the bucket, what is charged, the class, the quantity, the price and the charge
abbrev pub report_row : ReportLine → List (List ℕ)
report_row line =
    line.bucket ∷ line_name line.kind ∷ class_name line.class
    ∷ decimal line.quantity ∷ price_text line.price ∷ decimal line.charge ∷ []

-- the sum of the charges, in a row without a bucket
abbrev pub total_row : ℕ → List (List ℕ)
total_row total = [] ∷ codes "total" ∷ [] ∷ [] ∷ [] ∷ decimal total ∷ []

-- the header, a row for each line, and the total
unfoldable pub report_csv : List ReportLine → List ℕ
report_csv lines =
    flat_map (row_text default_writer) (report_header ∷ map report_row lines ++ total_row (charges lines) ∷ [])
