use Rattle.std.proofs.Common.{◌≡◌, ◌++◌, drop}
use Rattle.stay_explain.specs.Pages.{rows_csv, tables_of}
use Rattle.stay_explain.proofs.working.add_rows.Given as goal

-- the pages that are left come after those that are bound
abbrev pub invariant-loop-page : goal.invariant-loop-page
invariant-loop-page l =
    l.text.items ++ rows_csv (tables_of (drop l.page-index l.pages)) ≡ l.initial.text.items ++ rows_csv (tables_of l.pages)
