-- The lines of a table, one after another.
use Rattle.std.proofs.Common.{◌≡◌, ◌∙◌, decimal, ℕ, ◌+◌, ◌<◌, List, [], ◌∷◌, ◌++◌, length, take, replicate, arith, refl, get_or, sym, ap, append-nil}
use Rattle.std.specs.List.{flat_map}
use Rattle.std.proofs.lemmas.Grind.{flat_map-append}
use Rattle.std.proofs.lemmas.List.{append_assoc, take_more, take-replicate}
use Rattle.office_types.specs.declared.reply.ReportLine.{ReportLine}
use Rattle.office_types.specs.Reports.{charges}
use Rattle.usage_report.specs.Tables.{left_aligned, right_aligned, table_line, line_text, total_text, report_text}

pub more_lines : (lines : List ReportLine) (i : ℕ) (d : ReportLine) → i < length lines
    → flat_map line_text (take (i + 1) lines) ≡ flat_map line_text (take i lines) ++ line_text (get_or lines i d)
more_lines lines i d inside =
    ap (flat_map line_text) (take_more lines i d inside)
    ∙ flat_map-append line_text (take i lines) (get_or lines i d ∷ [])
    ∙ ap (λ (t : List ℕ). flat_map line_text (take i lines) ++ t) (append-nil (line_text (get_or lines i d)))

-- the first of some spaces
pub first_spaces : (n : ℕ) → n < 29 → take {A = ℕ} n (replicate 28 32) ≡ replicate n 32
first_spaces n few = take-replicate n 28 32 (omega arith)

-- all lines and the total are the table
pub whole_table : (lines : List ReportLine) → flat_map line_text lines ++ total_text (charges lines) ≡ report_text lines
unfolding report_text
whole_table lines = refl

-- texts around a space, put in two steps
joined : (base names quantity charge end : List ℕ)
    → base ++ (names ++ 32 ∷ []) ++ (quantity ++ charge ++ end) ≡ base ++ (names ++ 32 ∷ quantity ++ charge ++ end)
joined base names quantity charge end =
    append_assoc base (names ++ 32 ∷ []) (quantity ++ charge ++ end)
    ∙ ap (λ (t : List ℕ). base ++ t) (
    append_assoc names (32 ∷ []) (quantity ++ charge ++ end)
    ∙ ap (λ (t : List ℕ). names ++ 32 ∷ t) (append_assoc quantity charge end)
    ∙ sym (append_assoc names (32 ∷ quantity) (charge ++ end))
    ∙ sym (append_assoc (names ++ 32 ∷ quantity) charge end))

-- the columns of a line, put in two steps
pub two_steps : (base bucket kind class quantity : List ℕ) (charge : ℕ)
    → base ++ (left_aligned 24 bucket ++ 32 ∷ left_aligned 12 kind ++ 32 ∷ left_aligned 14 class ++ 32 ∷ []) ++ (right_aligned 28 quantity ++ 32 ∷ right_aligned 16 (decimal charge) ++ 10 ∷ [])
    ≡ base ++ table_line bucket kind class quantity charge
unfolding table_line
two_steps base bucket kind class quantity charge =
    joined base (left_aligned 24 bucket ++ 32 ∷ left_aligned 12 kind ++ 32 ∷ left_aligned 14 class) (right_aligned 28 quantity) (32 ∷ right_aligned 16 (decimal charge)) (10 ∷ [])
