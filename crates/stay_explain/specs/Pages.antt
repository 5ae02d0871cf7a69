-- The pages into which the table is divided.
use Rattle.std.specs.Prelude.{ℕ, List}
use Rattle.std.specs.List.{flat_map}
use Rattle.csv.specs.Writing.{row_text, default_writer}
use Rattle.plain_office.specs.Office.{Booked}
use Rattle.stay_explain.specs.Table.{table_rows}

-- the rows of these buckets, one after another, with no header
unfoldable pub rows_csv : List (List ℕ × List Booked) → List ℕ
rows_csv tables = flat_map (row_text default_writer) (flat_map table_rows tables)

-- the buckets of all pages, in the order of the pages
abbrev pub tables_of : List (List (List ℕ × List Booked)) → List (List ℕ × List Booked)
tables_of pages = flat_map (λ page. page) pages
