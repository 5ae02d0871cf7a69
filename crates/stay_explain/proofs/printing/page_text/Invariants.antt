use Rattle.std.proofs.Common.{◌≡◌, drop, Some}
use Rattle.stay_explain.specs.Table.{tables_csv}
use Rattle.csv_sheet.specs.Sheets.{IsAtRowStart, bytes_written}
use Rattle.stay_explain.proofs.Texts.{and_tables}
use Rattle.stay_explain.proofs.printing.page_text.Given as goal

-- the buckets that are left come after those that stand there
abbrev pub invariant-loop-table : goal.invariant-loop-table
invariant-loop-table l = IsAtRowStart l.sheet × (and_tables (bytes_written l.sheet) (drop l.table-index l.tables) ≡ Some (tables_csv l.tables))
