-- What the calls that walk over a row find, in the data of the document.
use Rattle.std.specs.Prelude.{◌≡◌, ℕ, ◌+◌, ◌-◌, ◌<◌, List, [], ◌∷◌, map, reverse, get_or, Bool, true, false, if◌then◌else◌, Option, Some, None, option_map, Result, MatchResult, Vec}
use Rattle.std.specs.Borrow.{Bor}
use Rattle.std.specs.List.{list_any}
use Rattle.std.specs.Str.{bytes_eq}
use Rattle.std.specs.declared.cmp.Ordering.TheVariants.{Less}
use Rattle.toml.specs.Data.{Data, as_table, as_array, table, array, Items, no_items, item, push_item, Members, no_members, member}
use Rattle.toml.specs.Tables.{Nodes, close}
use Rattle.toml_rows.specs.declared.row.What.{What}
use Rattle.toml_rows.specs.declared.row.What.TheVariants.{Value, Tables}
use Rattle.std.specs.declared.alloc.Global.{Global}
use Rattle.toml_parser.specs.declared.error.ParseError.{ParseError}
use Rattle.toml_parser.specs.declared.error.ParseError.TheVariants.{OutOfMemory}
use Rattle.toml_parser.specs.Lexical.{Read}
use Rattle.toml_rows.specs.declared.keys.Keys.{Keys}
use Rattle.toml_rows.specs.declared.walk.Found.{Found}
use Rattle.toml_rows.specs.declared.walk.Found.TheVariants as found
use Rattle.toml_rows.specs.Search.{none}
use Rattle.toml_rows.specs.Rows.{is_key, is_table, Row, row_of, HasKey}
use Rattle.toml_rows.specs.Tables.{order, done_of}
use Rattle.toml_rows.specs.Reading.{data_at, datum_of, Holds}
use Rattle.toml_rows.specs.Documents.{IsTable}

-- an array of tables of the row, by its last element, has these items
pub record IsArray (depth : ℕ) (row : Row) (last : ℕ) (ds : Items) : Type 0 where
  pub tables : ℕ → Nodes
  pub elements : ℕ → Items
  pub holds : Holds depth row tables elements
  pub owner : ℕ
  pub within : owner < row.count
  pub owns : row.what owner ≡ Tables last
  pub items : push_item (elements last) (table (close (tables last))) ≡ ds

-- what was found is this value
abbrev pub Says : ℕ → Row → Found → Data → Type 0
Says depth row (found.Value text) d = d ≡ data_at depth text.now
Says depth row (found.Table t) d = (ms : Members) × IsTable depth row t ms × (d ≡ table ms)
Says depth row (found.Tables last) d = (ds : Items) × IsArray depth row last ds × (d ≡ array ds)

-- what was found is the value that is expected, or neither is there
abbrev pub Finds : ℕ → Row → Option Found → Option Data → Type 0
Finds depth row None expected = expected ≡ None
Finds depth row (Some what) expected = (d : Data) × Says depth row what d × (expected ≡ Some d)

-- a list as items
abbrev pub items_of : List Data → Items
items_of [] = no_items
items_of (d ∷ ds) = item d (items_of ds)

-- the first name, in the order of the members, that is not known
abbrev pub first_unknown : (List ℕ → Bool) → Members → Option (List ℕ)
first_unknown known no_members = None
first_unknown known (member name d ms) = if known name then first_unknown known ms else Some name

-- the name is one of these
abbrev pub knows : List (Bor (List ℕ)) → List ℕ → Bool
knows known name = list_any (λ (k : Bor (List ℕ)). bytes_eq name k.now) known

-- a name comes before another one
abbrev pub IsBefore : List ℕ → List ℕ → Type 0
IsBefore a b = order a b ≡ Less

-- a key of the table whose name is not known
pub record IsUnknown (row : Row) (t : ℕ) (known : List ℕ → Bool) (i : ℕ) : Type 0 where
  pub has : HasKey row i t (row.name i)
  pub unknown : known (row.name i) ≡ false

-- the first in the order of the names, of those with a smaller number
abbrev pub IsLeast : Row → ℕ → (List ℕ → Bool) → ℕ → Option ℕ → Type 0
IsLeast row t known count None = (j : ℕ) → j < count → ¬ IsUnknown row t known j
IsLeast row t known count (Some i) =
    (i < count) × IsUnknown row t known i × ((j : ℕ) → j < count → IsUnknown row t known j → ¬ IsBefore (row.name j) (row.name i))

-- what a part holds is what the caller sees
abbrev pub SeenAs : Row → ℕ → What → Option Found → Type 0
SeenAs row i w None = is_key w ≡ false
SeenAs row i w (Some (found.Value text)) = (v : ℕ) × (w ≡ Value v) × (text.now ≡ get_or row.values v [])
SeenAs row i w (Some (found.Table t)) = (t ≡ i) × (is_table w ≡ true)
SeenAs row i w (Some (found.Tables last)) = w ≡ Tables last

-- the inline table that a text begins with
abbrev pub IsInline : ℕ → List ℕ → Option Keys → Type 0
IsInline depth text None = as_table (data_at depth text) ≡ None
IsInline depth text (Some keys) = (ms : Members) × IsTable (depth - 1) (row_of keys) 0 ms × (as_table (data_at depth text) ≡ Some ms)

-- the data of each text
abbrev pub data_of_all : ℕ → List (Bor (List ℕ)) → List Data
data_of_all depth texts = map (λ (text : Bor (List ℕ)). data_at depth text.now) texts

-- the elements of the array that a text begins with
abbrev pub IsList : ℕ → List ℕ → Option (Vec (Bor (List ℕ)) Global) → Type 0
IsList depth text None = as_array (data_at depth text) ≡ None
IsList depth text (Some texts) = as_array (data_at depth text) ≡ Some (items_of (data_of_all (depth - 1) texts.items))

-- the elements up to the end of an array
abbrev pub ReadsItems : ℕ → Result (Vec (Bor (List ℕ)) Global) ParseError → Read Items → Type 0
ReadsItems depth r expected =
    MatchResult r (λ texts. option_map (λ p. p.0) expected ≡ Some (items_of (data_of_all depth texts.items)))
    (λ e. ¬ (e ≡ OutOfMemory) → expected ≡ None)

-- the tables of these numbers
abbrev pub tables_of : (ℕ → Nodes) → List ℕ → List Data
tables_of tables ts = map (λ t. table (close (tables t))) ts

-- an array of tables by headers has these elements, in their order
abbrev pub AreElements : ℕ → Row → List ℕ → Items → Type 0
AreElements depth row ts ds =
    (tables : ℕ → Nodes) × (elements : ℕ → Items) × Holds depth row tables elements × (ds ≡ items_of (tables_of tables ts))

-- the items, and these after them
abbrev pub items_onto : Items → List Data → Items
items_onto base [] = base
items_onto base (d ∷ ds) = items_onto (push_item base d) ds

-- the elements found so far, the last one first, and the one before them
pub record IsLeft (depth : ℕ) (row : Row) (tables : ℕ → Nodes) (elements : ℕ → Items) (ds : Items) (ts : List ℕ) (at turn : ℕ) : Type 0 where
  pub near : ¬ (at ≡ none) → (at < row.count) × (is_key (row.what at) ≡ false) × (at + turn < row.count)
  pub whole : ds ≡ items_onto (done_of (datum_of depth row.values) tables elements at) (tables_of tables (reverse ts))
