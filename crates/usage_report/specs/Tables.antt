-- The report of a month as a table to read (own): a line of text for each line of the report, and one for the total.
use Rattle.std.specs.Prelude.{ℕ, ◌-◌, List, [], ◌∷◌, ◌++◌, length, replicate, codes, decimal}
use Rattle.std.specs.List.{flat_map}
use Rattle.class_rules.specs.Classes.{class_name}
use Rattle.office_types.specs.declared.reply.ReportLine.{ReportLine}
use Rattle.office_types.specs.Reports.{charges}
use Rattle.usage_report.specs.Lines.{line_name}

-- a text at the left of a column of this width; a longer text is unchanged
abbrev pub left_aligned : ℕ → List ℕ → List ℕ
left_aligned width text = text ++ replicate (width - length text) 32

-- a text at the right of a column of this width; used for numbers, so that their last digits are aligned
abbrev pub right_aligned : ℕ → List ℕ → List ℕ
right_aligned width text = replicate (width - length text) 32 ++ text

-- a line of five columns, with a space between two
unfoldable pub table_line : List ℕ → List ℕ → List ℕ → List ℕ → ℕ → List ℕ
table_line bucket kind class quantity charge =
    left_aligned 24 bucket ++ 32 ∷ left_aligned 12 kind ++ 32 ∷ left_aligned 14 class ++ 32 ∷ right_aligned 28 quantity
    ++ 32 ∷ right_aligned 16 (decimal charge) ++ 10 ∷ []

-- a line of the report, without its price
abbrev pub line_text : ReportLine → List ℕ
line_text line =
    table_line line.bucket (line_name line.kind) (class_name line.class) (decimal line.quantity) line.charge

-- the sum of the charges, in a line without a bucket
abbrev pub total_text : ℕ → List ℕ
total_text total = table_line [] (codes "total") [] [] total

-- the lines of the report, and the total below them
unfoldable pub report_text : List ReportLine → List ℕ
report_text lines = flat_map line_text lines ++ total_text (charges lines)
