-- The rows of a table, one after another.
use Rattle.std.proofs.Common.{◌≡◌, ℕ, List, [], Option, Some, refl}
use Rattle.std.specs.List.{flat_map}
use Rattle.std.specs.Io.KnownBytes.{append_known}
use Rattle.csv.specs.Writing.{default_writer, row_text}
use Rattle.plain_office.specs.Office.{Booked}
use Rattle.stay_explain.specs.Table.{stays_header, table_rows, tables_csv}

abbrev pub text_of : List (List (List ℕ)) → List ℕ
text_of rows = flat_map (row_text default_writer) rows

-- what stands there, and then the rows of these stays, or of these tables
abbrev pub and_stays : Option (List ℕ) → List ℕ → List Booked → Option (List ℕ)
and_stays text bucket stays = append_known text (text_of (table_rows (bucket, stays)))

abbrev pub and_tables : Option (List ℕ) → List (List ℕ × List Booked) → Option (List ℕ)
and_tables text tables = append_known text (text_of (flat_map table_rows tables))

pub first_table : (tables : List (List ℕ × List Booked)) → and_tables (append_known (Some []) (row_text default_writer stays_header)) tables ≡ Some (tables_csv tables)
unfolding tables_csv
first_table tables = refl
