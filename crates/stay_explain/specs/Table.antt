-- The table of stays: every interval in which something was billed, as CSV (RFC 4180, but lines end in a line feed).
-- The form is this project's own.
use Rattle.std.specs.Prelude.{ℕ, List, [], ◌∷◌, ◌++◌, map, codes, decimal, Option, Some, None}
use Rattle.std.specs.List.{flat_map}
use Rattle.csv.specs.Writing.{row_text, default_writer}
use Rattle.moments.specs.Texts.{moment_text}
use Rattle.class_rules.specs.Classes.{class_name}
use Rattle.class_rules.specs.declared.class.Class.{Class}
use Rattle.office_base.specs.Versions.{id_text}
use Rattle.plain_office.specs.Office.{Item, of_version, of_part, Booked, Account, Office}

-- the names of the columns
abbrev pub stays_header : List (List ℕ)
stays_header =
    codes "bucket" ∷ codes "key" ∷ codes "item" ∷ codes "class" ∷ codes "bytes" ∷ codes "from" ∷ codes "to" ∷ []

-- a version as v:null or v:3, a part as u:1/2, the second of the first upload
abbrev pub item_text : Item → List ℕ
item_text (of_version id) = codes "v:" ++ id_text id
item_text (of_part upload part) = codes "u:" ++ decimal upload ++ codes "/" ++ decimal part

-- the end of a stay, or that it is still open
abbrev pub end_text : Option ℕ → List ℕ
end_text None = codes "open"
end_text (Some at) = moment_text at

-- a row for a line of a stay in a bucket
abbrev pub stay_row : List ℕ → Booked → Class × ℕ → List (List ℕ)
stay_row bucket booked line =
    bucket ∷ booked.0.key ∷ item_text booked.0.item ∷ class_name line.0 ∷ decimal line.1 ∷ moment_text booked.1.from
    ∷ end_text booked.1.to ∷ []

-- the lines of a stay: its own line first, and then the one in STANDARD
abbrev pub stay_rows : List ℕ → Booked → List (List (List ℕ))
stay_rows bucket booked = map (stay_row bucket booked) booked.1.lines

-- the stays of a bucket in the order in which they were opened
abbrev pub table_rows : List ℕ × List Booked → List (List (List ℕ))
table_rows table = flat_map (stay_rows table.0) table.1

-- the stays of each bucket, under its name
abbrev pub stays_of : List ℕ × Account → List ℕ × List Booked
stays_of entry = (entry.0, entry.1.books.stays)

-- the header, and the rows of the buckets in the byte order of their names
unfoldable pub tables_csv : List (List ℕ × List Booked) → List ℕ
tables_csv tables = flat_map (row_text default_writer) (stays_header ∷ flat_map table_rows tables)

-- the table of all stays that are booked in the office
abbrev pub table_csv : Office → List ℕ
table_csv office = tables_csv (map stays_of office.accounts)
