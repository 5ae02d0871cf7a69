-- The rows of tables that are on several pages.
use Rattle.std.proofs.Common.{◌≡◌, ◌∙◌, ℕ, ◌+◌, ◌<◌, ◌≤◌, List, [], ◌∷◌, ◌++◌, length, drop, get_or, ap, sym, refl, append_assoc, append-nil, drop-cons, length-append, arith}
use Rattle.std.specs.List.{flat_map, remove}
use Rattle.std.proofs.lemmas.Grind.{flat_map-append}
use Rattle.std.proofs.lemmas.List.{drop_all, drop_at}
use Rattle.csv.specs.Writing.{default_writer, row_text}
use Rattle.stay_explain.specs.Ledgers.{Tables}
use Rattle.stay_explain.specs.Pages.{rows_csv, tables_of}
use Rattle.stay_explain.specs.Table.{stays_header, table_rows, tables_csv}

pub no_rows : rows_csv [] ≡ []
unfolding rows_csv
no_rows = refl

pub rows_more : (a b : Tables) → rows_csv (a ++ b) ≡ rows_csv a ++ rows_csv b
unfolding rows_csv
rows_more a b =
    ap (flat_map (row_text default_writer)) (flat_map-append table_rows a b)
    ∙ flat_map-append (row_text default_writer) (flat_map table_rows a) (flat_map table_rows b)

pub header_first : (tables : Tables) → tables_csv tables ≡ row_text default_writer stays_header ++ rows_csv tables
unfolding rows_csv tables_csv
header_first tables = refl

-- the first page is bound as it is
pub first_bound : (page : Tables) (pages : List Tables) → tables_csv page ++ rows_csv (tables_of pages) ≡ tables_csv (tables_of (page ∷ pages))
first_bound page pages =
    ap (λ t. t ++ rows_csv (tables_of pages)) (header_first page)
    ∙ append_assoc (row_text default_writer stays_header) (rows_csv page) (rows_csv (tables_of pages))
    ∙ ap (λ rest. row_text default_writer stays_header ++ rest) (sym (rows_more page (tables_of pages)))
    ∙ sym (header_first (tables_of (page ∷ pages)))

-- a page with no header is bound under the one that is there
pub without_header : (header table : List ℕ) (page : Tables) → header ≡ row_text default_writer stays_header → table ≡ tables_csv page
    → (length header ≤ length table) × (drop (length header) table ≡ rows_csv page)
without_header header table page is printed =
    let parts : table ≡ header ++ rows_csv page = printed ∙ header_first page ∙ ap (λ t. t ++ rows_csv page) (sym is) in
    (omega (arith, ap length parts, length-append header (rows_csv page)), ap (λ t. drop (length header) t) parts ∙ drop_at header (rows_csv page) (length header) refl)

-- no page is bound
pub none_bound : (pages : List Tables) (text : List ℕ) → length pages ≡ 0 → text ≡ row_text default_writer stays_header → text ≡ tables_csv (tables_of pages)
none_bound [] text none is =
    is ∙ sym (append-nil (row_text default_writer stays_header)) ∙ ap (λ rest. row_text default_writer stays_header ++ rest) (sym no_rows) ∙ sym (header_first [])
none_bound (page ∷ pages) text none is = absurd (omega (arith, none))

-- the first page is bound, and then the rows of the others
pub some_bound : (pages others : List Tables) (first : Tables) (text after : List ℕ) → 0 < length pages → first ≡ get_or pages 0 first → others ≡ remove pages 0
    → text ≡ tables_csv first → after ≡ text ++ rows_csv (tables_of others) → after ≡ tables_csv (tables_of pages)
some_bound [] others first text after some is left printed grows = absurd (omega (arith, some))
some_bound (page ∷ pages) others first text after some is left printed grows =
    grows ∙ ap (λ t. t ++ rows_csv (tables_of others)) printed ∙ first_bound first others ∙ (λ i. tables_csv (tables_of (is i ∷ left i)))

next_page : (text : List ℕ) (page : Tables) (pages : List Tables)
    → (text ++ rows_csv page) ++ rows_csv (tables_of pages) ≡ text ++ rows_csv (tables_of (page ∷ pages))
next_page text page pages =
    append_assoc text (rows_csv page) (rows_csv (tables_of pages)) ∙ ap (λ rest. text ++ rest) (sym (rows_more page (tables_of pages)))

-- a page is bound after those before it
pub page_bound : (all text after : List ℕ) (pages : List Tables) (i : ℕ) (page : Tables) → i < length pages → page ≡ get_or pages i page
    → after ≡ text ++ rows_csv page → text ++ rows_csv (tables_of (drop i pages)) ≡ all → after ++ rows_csv (tables_of (drop (i + 1) pages)) ≡ all
page_bound all text after pages i page within is grows before =
    let next : drop i pages ≡ page ∷ drop (i + 1) pages = let e = drop-cons pages i page within in grind arith in
    ap (λ t. t ++ rows_csv (tables_of (drop (i + 1) pages))) grows
    ∙ next_page text page (drop (i + 1) pages)
    ∙ ap (λ (rest : List Tables). text ++ rows_csv (tables_of rest)) (sym next)
    ∙ before

-- all pages are bound
pub all_bound : (all text : List ℕ) (pages : List Tables) (i : ℕ) → length pages ≤ i → text ++ rows_csv (tables_of (drop i pages)) ≡ all → text ≡ all
all_bound all text pages i past before =
    let none : drop i pages ≡ [] = drop_all i pages past in
    sym (append-nil text) ∙ ap (λ rest. text ++ rest) (sym no_rows) ∙ ap (λ (rest : List Tables). text ++ rows_csv (tables_of rest)) (sym none) ∙ before
