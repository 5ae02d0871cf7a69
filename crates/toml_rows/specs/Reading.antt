-- What the functions that change a row do to the tables that it stands for.
use Rattle.std.specs.Prelude.{◌≡◌, ℕ, ◌<◌, Bool, true, false, List, [], ◌∷◌, ◌++◌, length, get_or, Option, Some, None, Result, MatchResult, ◌⊎◌}
use Rattle.toml_parser.specs.declared.error.ParseError.{ParseError}
use Rattle.toml_parser.specs.declared.error.ParseError.TheVariants.{OutOfMemory}
use Rattle.toml_parser.specs.Lexical.{Read}
use Rattle.toml_parser.specs.Strings.{Key}
use Rattle.toml.specs.Data.{Data, boolean, Items}
use Rattle.toml.specs.Tables.{Node, Nodes, no_nodes, value, open_table, implicit, dotted, get_node, insert, replace, Edit, along_header, at_key, Definition}
use Rattle.toml.specs.Parse.{val}
use Rattle.toml_rows.specs.declared.row.What.{What}
use Rattle.toml_rows.specs.declared.row.What.TheVariants.{Value, Implicit, Dotted}
use Rattle.toml_rows.specs.Rows.{is_open, inside, Row, IsFound, Puts}
use Rattle.toml_rows.specs.Tables.{IsTree, IsTold, Leads}

-- the data of a value that was read; false if there is none
abbrev pub data_in : Read Data → Data
data_in None = boolean false
data_in (Some read) = read.0

-- the data of the value that a text begins with, in which arrays and inline tables nest at most this deep; false if it
-- begins with no such value
abbrev pub data_at : ℕ → List ℕ → Data
data_at depth text = data_in (val depth text)

-- the data of each value of a row
abbrev pub datum_of : ℕ → List (List ℕ) → ℕ → Data
datum_of depth values v = data_at depth (get_or values v [])

-- the row stands for these tables
pub record Holds (depth : ℕ) (row : Row) (tables : ℕ → Nodes) (elements : ℕ → Items) : Type 0 where
  pub tree : IsTree row
  pub told : IsTold (datum_of depth row.values) row tables tables elements
  pub found : IsFound row
  pub values : (i v : ℕ) → i < row.count → row.what i ≡ Value v → v < length row.values

-- a header passes through this key, and makes what is missing
abbrev pub pass_header : List ℕ → Nodes → Option Node → Option Nodes
pass_header k ns None = Some (insert k (open_table implicit no_nodes) ns)
pass_header k ns (Some (value d)) = None
pass_header k ns (Some node) = Some ns

unfoldable pub mark_header : List ℕ → Edit
mark_header k ns = pass_header k ns (get_node k ns)

-- the same of a dotted key
abbrev pub pass_dots : List ℕ → Nodes → Option Node → Option Nodes
pass_dots k ns None = Some (insert k (open_table dotted no_nodes) ns)
pass_dots k ns (Some (open_table implicit inner)) = Some (replace k (open_table dotted inner) ns)
pass_dots k ns (Some (open_table dotted inner)) = Some ns
pass_dots k ns (Some node) = None

unfoldable pub mark_dots : List ℕ → Edit
mark_dots k ns = pass_dots k ns (get_node k ns)

-- the new row stands for tables with this property, and the path leads to this table
pub record Entered (depth : ℕ) (new : Row) (p : List (List ℕ)) (s : ℕ) (Q : Nodes → Type 0) : Type 0 where
  pub tables : ℕ → Nodes
  pub elements : ℕ → Items
  pub holds : Holds depth new tables elements
  pub leads : Leads new p s
  pub is : Q (tables 0)

-- paths lead where they led
abbrev pub Keeps : Row → Row → Type 0
Keeps old new = (p : List (List ℕ)) (s : ℕ) → Leads old p s → Leads new p s

-- the answer at a table of the old row; `done` is what an Ok means, `refused` what a fault means
abbrev pub At : {A : Type 0} → ℕ → Row → ℕ → Result A ParseError → ((tables : ℕ → Nodes) → List (List ℕ) → A → Type 0) → ((tables : ℕ → Nodes) → List (List ℕ) → Type 0) → Type 0
At depth old t r done refused =
    (tables : ℕ → Nodes) (elements : ℕ → Items) (p : List (List ℕ)) → Holds depth old tables elements → Leads old p t
    → MatchResult r (λ a. done tables p a) (λ e. ¬ (e ≡ OutOfMemory) → refused tables p)

-- one step into the table of a name, by a mark
abbrev pub Enters : ℕ → Row → Row → ℕ → List ℕ → Edit → Result ℕ ParseError → Type 0
Enters depth old new t k mark r =
    At depth old t r
    (λ tables p s. Keeps old new × Entered depth new (p ++ k ∷ []) s (λ top. along_header p mark (tables 0) ≡ Some top))
    (λ tables p. mark (tables t) ≡ None)

-- all steps of a path
abbrev pub Follows : ℕ → Row → Row → ℕ → List (List ℕ) → (Edit → Edit) → Result ℕ ParseError → Type 0
Follows depth old new t path walk r =
    At depth old t r
    (λ tables p s. Keeps old new
    × Entered depth new (p ++ path) s (λ top. (edit : Edit) → along_header p (walk edit) (tables 0) ≡ along_header (p ++ path) edit top))
    (λ tables p. (edit : Edit) → along_header p (walk edit) (tables 0) ≡ None)

-- an edit of the table at the end of a path
abbrev pub Edits : {A : Type 0} → ℕ → Row → Row → ℕ → Edit → Result A ParseError → Type 0
Edits depth old new t edit r =
    At depth old t r
    (λ tables p a. Keeps old new × Entered depth new p t (λ top. along_header p edit (tables 0) ≡ Some top))
    (λ tables p. along_header p edit (tables 0) ≡ None)

-- a header: the new row's path leads to the table that was opened
abbrev pub Opens : ℕ → Row → Row → ℕ → List ℕ → Edit → Result ℕ ParseError → Type 0
Opens depth old new t k edit r =
    At depth old t r
    (λ tables p s. Entered depth new (p ++ k ∷ []) s (λ top. along_header p edit (tables 0) ≡ Some top))
    (λ tables p. along_header p edit (tables 0) ≡ None)

-- a dotted key passes through this
abbrev pub is_dots : What → Bool
is_dots Implicit = true
is_dots Dotted = true
is_dots what = false

-- a header goes through what a part holds, unless it holds a value
abbrev pub Passes : Row → ℕ → Result ℕ ParseError → Type 0
Passes row i r =
    MatchResult r (λ s. (is_open (row.what i) ≡ true) × (s ≡ inside i (row.what i)))
    (λ e. ¬ (e ≡ OutOfMemory) → is_open (row.what i) ≡ false)

-- a dotted key goes through what a part holds, and marks it
abbrev pub Marks : Row → Row → ℕ → Result ℕ ParseError → Type 0
Marks old new i r =
    MatchResult r
    (λ s. (s ≡ i) × (((old.what i ≡ Dotted) × (new ≡ old)) ⊎ ((old.what i ≡ Implicit) × Puts old new i Dotted)))
    (λ e. ¬ (e ≡ OutOfMemory) → is_dots (old.what i) ≡ false)

-- a header, from the root
abbrev pub OpensAt : ℕ → Row → Row → Key → Definition → Result ℕ ParseError → Type 0
OpensAt depth old new key what r =
    (tables : ℕ → Nodes) (elements : ℕ → Items) → Holds depth old tables elements
    → MatchResult r
    (λ s. Entered depth new (key.0 ++ key.1 ∷ []) s (λ top. along_header key.0 (at_key key.1 what) (tables 0) ≡ Some top))
    (λ e. ¬ (e ≡ OutOfMemory) → along_header key.0 (at_key key.1 what) (tables 0) ≡ None)
