-- The rows of a report, one after another.
use Rattle.std.proofs.Common.{◌≡◌, ◌∙◌, ℕ, ◌+◌, ◌<◌, List, [], ◌∷◌, ◌++◌, length, map, take, get_or, sym, ap, append-nil, Option, Some, Result, Ok, Err, IfOk}
use Rattle.std.specs.Global.{Vec}
use Rattle.std.specs.List.{flat_map}
use Rattle.std.proofs.lemmas.Grind.{flat_map-append}
use Rattle.std.proofs.lemmas.List.{map_more}
use Rattle.csv.specs.Writing.{default_writer, row_text}
use Rattle.office_types.specs.declared.reply.ReportLine.{ReportLine}
use Rattle.office_types.specs.Reports.{charges}
use Rattle.usage_report.specs.Csv.{report_header, report_row, total_row, report_csv}

-- the header and these lines
pub rows_of : List ReportLine → List ℕ
rows_of lines = flat_map (row_text default_writer) (report_header ∷ map report_row lines)

pub no_rows : row_text default_writer report_header ≡ rows_of []
unfolding rows_of
no_rows = sym (append-nil _)

one_more : (rows : List (List (List ℕ))) (row : List (List ℕ))
    → flat_map (row_text default_writer) (rows ++ row ∷ []) ≡ flat_map (row_text default_writer) rows ++ row_text default_writer row
one_more rows row =
    flat_map-append (row_text default_writer) rows (row ∷ []) ∙ ap (λ (t : List ℕ). flat_map (row_text default_writer) rows ++ t) (append-nil (row_text default_writer row))

pub more_rows : (lines : List ReportLine) (i : ℕ) (d : ReportLine) → i < length lines
    → rows_of (take (i + 1) lines) ≡ rows_of (take i lines) ++ row_text default_writer (report_row (get_or lines i d))
unfolding rows_of
more_rows lines i d inside =
    ap (λ rows. flat_map (row_text default_writer) (report_header ∷ rows)) (map_more report_row lines i d inside)
    ∙ one_more (report_header ∷ map report_row (take i lines)) (report_row (get_or lines i d))

pub all_rows : (lines : List ReportLine) → rows_of lines ++ row_text default_writer (total_row (charges lines)) ≡ report_csv lines
unfolding rows_of report_csv
all_rows lines = sym (one_more (report_header ∷ map report_row lines) (total_row (charges lines)))

some_injective : {a b : List ℕ} → Some a ≡ Some b → a ≡ b
some_injective is = cc

-- what a writer of CSV held is what it gives
pub written_text : {E : Type 0} (result : Result (Vec ℕ) E) {held : Option (List ℕ)} {text : List ℕ} → held ≡ Some text → IfOk result (λ v. held ≡ Some v.items) → IfOk result (λ v. v.items ≡ text)
written_text (Ok v) is ok = some_injective (sym ok ∙ is)
written_text (Err e) is ok = tt
