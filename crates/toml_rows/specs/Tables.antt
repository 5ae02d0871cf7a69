-- The tables that a row of parts stands for.
use Rattle.std.specs.Prelude.{◌≡◌, ℕ, ◌<◌, ◌==◌, true, false, if◌then◌else◌, List, [], ◌∷◌, ◌++◌, Some, None}
use Rattle.std.specs.Ordering.{nat_cmp}
use Rattle.std.specs.declared.cmp.Ordering.{Ordering}
use Rattle.std.specs.declared.cmp.Ordering.TheVariants.{Less}
use Rattle.std.specs.Cmp.Lexicographic.{slice_cmp}
use Rattle.toml.specs.Data.{Data, boolean, table, Items, no_items, push_item}
use Rattle.toml.specs.Tables.{Node, Nodes, no_nodes, node, value, open_table, open_array, implicit, dotted, header, get_node, close}
use Rattle.toml_rows.specs.declared.row.What.{What}
use Rattle.toml_rows.specs.declared.row.What.TheVariants.{Value, Implicit, Dotted, Header, Tables, Element}
use Rattle.toml_rows.specs.Search.{none}
use Rattle.toml_rows.specs.Rows.{is_key, is_open, inside, Row, HasKey}

-- the order of names, by their bytes
abbrev pub order : List ℕ → List ℕ → Ordering
order = slice_cmp nat_cmp

-- all keys come after this name
abbrev pub AreAfter : List ℕ → Nodes → Type 0
AreAfter name no_nodes = Unit {0}
AreAfter name (node k x ns) = (order name k ≡ Less) × AreAfter name ns

-- the keys are in order
abbrev pub IsOrdered : Nodes → Type 0
IsOrdered no_nodes = Unit {0}
IsOrdered (node k x ns) = AreAfter k ns × IsOrdered ns

-- the parts have the form of a document
pub record IsTree (row : Row) : Type 0 where
  pub some : 0 < row.count
  pub small : row.count < none
  pub named : row.named ≡ row.count
  pub root : is_key (row.what 0) ≡ false
  pub root_table : row.table 0 ≡ none
  pub tables : (i : ℕ) → i < row.count → is_key (row.what i) ≡ true → row.table i < i
  pub only : (i j t : ℕ) (k : List ℕ) → HasKey row i t k → HasKey row j t k → i ≡ j
  pub last : (i l : ℕ) → i < row.count → row.what i ≡ Tables l
      → (l < row.count) × (is_key (row.what l) ≡ false) × (row.table l ≡ i) × (i < l)
  pub before : (e b : ℕ) → e < row.count → row.what e ≡ Element b → ¬ (b ≡ none)
      → (b < row.count) × (is_key (row.what b) ≡ false) × (¬ (b ≡ 0))
      × ((i : ℕ) → i < row.count → row.what i ≡ Tables b → ⊥) × (b < e)

module _ (datum : ℕ → Data) (tables : ℕ → Nodes) (elements : ℕ → Items) where
  -- what a key holds, given the values, the tables, and the elements before each element of an array
  abbrev pub node_of : ℕ → What → Node
  node_of i (Value v) = value (datum v)
  node_of i Implicit = open_table implicit (tables i)
  node_of i Dotted = open_table dotted (tables i)
  node_of i Header = open_table header (tables i)
  node_of i (Tables last) = open_array (elements last) (tables last)
  node_of i (Element before) = value (boolean false)

  -- the elements up to this one
  abbrev pub done_of : ℕ → Items
  done_of b = if b == none then no_items else push_item (elements b) (table (close (tables b)))

-- The tables are those that the row says, where a key holds what `inner` says.
pub record IsTold (datum : ℕ → Data) (row : Row) (tables inner : ℕ → Nodes) (elements : ℕ → Items) : Type 0 where
  pub there : (i t : ℕ) (k : List ℕ) → HasKey row i t k → get_node k (tables t) ≡ Some (node_of datum inner elements i (row.what i))
  pub gone : (t : ℕ) (k : List ℕ) → ((i : ℕ) → ¬ HasKey row i t k) → get_node k (tables t) ≡ None
  pub sorted : (t : ℕ) → IsOrdered (tables t)
  pub done : (e b : ℕ) → e < row.count → row.what e ≡ Element b → elements e ≡ done_of datum inner elements b

-- a path of names leads from the root to a table, as headers go
pub data Leads (row : Row) : List (List ℕ) → ℕ → Type 0 where
  at_root : Leads row [] 0
  step : {p : List (List ℕ)} {t : ℕ} → (i : ℕ) (k : List ℕ) → Leads row p t → HasKey row i t k → is_open (row.what i) ≡ true
      → Leads row (p ++ k ∷ []) (inside i (row.what i))
