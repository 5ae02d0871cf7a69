-- The parts of the keys of a document, in one row.
use Rattle.std.specs.Prelude.{◌≡◌, ℕ, ◌+◌, ◌-◌, ◌/◌, ◌%◌, ◌^◌, ◌<◌, ◌≤◌, ◌==◌, nat_lt, Bool, true, false, ◌||◌, if◌then◌else◌, List, [], ◌∷◌, ◌++◌, length, map, get_or, slice_index}
use Rattle.std.specs.Borrow.{Bor}
use Rattle.toml_rows.specs.declared.keys.Keys.{Keys}
use Rattle.toml_rows.specs.declared.row.Part.{Part}
use Rattle.toml_rows.specs.declared.row.Seat.{Seat}
use Rattle.toml_rows.specs.declared.row.Seat.TheVariants.{Found, Free}
use Rattle.toml_rows.specs.declared.row.What.{What}
use Rattle.toml_rows.specs.declared.row.What.TheVariants.{Value, Implicit, Dotted, Header, Tables, Element}
use Rattle.toml_rows.specs.Search.{none, IsSearch, IsAt}

-- a part is found by its name, but an element of an array is not
abbrev pub is_key : What → Bool
is_key (Element before) = false
is_key what = true

-- a key may lead further
abbrev pub is_open : What → Bool
is_open (Value v) = false
is_open (Element before) = false
is_open what = true

-- the number of the table that a key leads to
abbrev pub inside : ℕ → What → ℕ
inside i (Tables last) = last
inside i what = i

-- the parts by their numbers: the table that has the key, the key's name, what it holds, and the next parts
-- in a search; how many names there are; the text from each value on
pub record Row : Type 0 where
  pub count : ℕ
  pub table : ℕ → ℕ
  pub name : ℕ → List ℕ
  pub what : ℕ → What
  pub link : ℕ → Bool → ℕ
  pub named : ℕ
  pub values : List (List ℕ)

-- a part is the key of this name in this table
pub record HasKey (row : Row) (i t : ℕ) (k : List ℕ) : Type 0 where
  pub within : i < row.count
  pub key : is_key (row.what i) ≡ true
  pub table : row.table i ≡ t
  pub name : row.name i ≡ k

-- the new row has one part more
pub record Grows (old new : Row) (t : ℕ) (k : List ℕ) (w : What) : Type 0 where
  pub count : new.count ≡ old.count + 1
  pub named : new.named ≡ old.named + 1
  pub values : new.values ≡ old.values
  pub tables : (i : ℕ) → i < old.count → new.table i ≡ old.table i
  pub names : (i : ℕ) → i < old.count → new.name i ≡ old.name i
  pub whats : (i : ℕ) → i < old.count → new.what i ≡ old.what i
  pub table : new.table old.count ≡ t
  pub name : new.name old.count ≡ k
  pub what : new.what old.count ≡ w

-- the new row has something else at a part
pub record Sets (old new : Row) (at : ℕ) (w : What) : Type 0 where
  pub count : new.count ≡ old.count
  pub named : new.named ≡ old.named
  pub values : new.values ≡ old.values
  pub tables : (i : ℕ) → i < old.count → new.table i ≡ old.table i
  pub names : (i : ℕ) → i < old.count → new.name i ≡ old.name i
  pub whats : (i : ℕ) → i < old.count → ¬ (i ≡ at) → new.what i ≡ old.what i
  pub what : new.what at ≡ w

-- a key holds a table that a key or a header made
abbrev pub is_table : What → Bool
is_table Implicit = true
is_table Dotted = true
is_table Header = true
is_table what = false

-- a value or such a table
abbrev pub is_plain : What → Bool
is_plain (Value v) = true
is_plain what = is_table what

-- the new row has one element more in the array at a part; `before` is the element before it
pub record Nexts (old new : Row) (at before : ℕ) : Type 0 where
  pub count : new.count ≡ old.count + 1
  pub named : new.named ≡ old.named + 1
  pub values : new.values ≡ old.values
  pub tables : (i : ℕ) → i < old.count → new.table i ≡ old.table i
  pub names : (i : ℕ) → i < old.count → new.name i ≡ old.name i
  pub whats : (i : ℕ) → i < old.count → ¬ (i ≡ at) → new.what i ≡ old.what i
  pub what : new.what at ≡ Tables old.count
  pub table : new.table old.count ≡ at
  pub element : new.what old.count ≡ Element before

-- ---- rows in lists

-- what counts as a part past the last one
abbrev pub no_part : Part
no_part = record { table = none; low = none; high = none; what = Element none }

-- the part of this number
abbrev pub part_at : List Part → ℕ → Part
part_at parts i = get_or parts i no_part

-- the part that a search looks at next, after a bit 1 (high) or a bit 0
abbrev pub side_of : Part → Bool → ℕ
side_of part high = if high then part.high else part.low

-- the row of these parts, their names and the texts from the values on
abbrev pub row_by : List Part → List (List ℕ) → List (List ℕ) → Row
row_by parts names values = record {
  count = length parts;
  table = λ i. (part_at parts i).table;
  name = λ i. get_or names i [];
  what = λ i. (part_at parts i).what;
  link = λ i high. side_of (part_at parts i) high;
  named = length names;
  values = values;
}

-- the row of the keys of a document
abbrev pub row_of : Keys → Row
row_of keys = row_by keys.parts.items keys.names (map (λ (text : Bor (List ℕ)). text.now) keys.values.items)

-- ---- the search

-- a bit of a key: the 21 lowest bits of the table's number, the lowest first, and then those of the name
abbrev pub key_bit : ℕ → List ℕ → ℕ → Bool
key_bit t k turn =
    if nat_lt turn 21 then t / 2 ^ turn % 2 == 1 else slice_index k ((turn - 21) / 8) / 2 ^ ((turn - 21) % 8) % 2 == 1

-- a bit of a part's key
abbrev pub bit_of : Row → ℕ → ℕ → Bool
bit_of row i turn = key_bit (row.table i) (row.name i) turn

-- the root is in the tree of the search, and so is each key
abbrev pub on_of : Row → ℕ → Bool
on_of row i = is_key (row.what i) || i == 0

-- the links make a tree in which a search finds each key; the level is how many bits come before a part
abbrev pub IsFoundBy : Row → (ℕ → ℕ) → Type 0
IsFoundBy row level = IsSearch row.count (bit_of row) (on_of row) row.link level

-- the links make a tree in which a search finds each key
abbrev pub IsFound : Row → Type 0
IsFound row = (level : ℕ → ℕ) × IsFoundBy row level

-- no key has this name in this table, and it would hang on this side of this part
pub record IsFree (row : Row) (level : ℕ → ℕ) (t : ℕ) (k : List ℕ) (at : ℕ) (high : Bool) : Type 0 where
  pub nothing : (i : ℕ) → ¬ HasKey row i t k
  pub turn : ℕ
  pub at_it : IsAt row.count (bit_of row) (on_of row) row.link level (key_bit t k) at turn
  pub side : high ≡ key_bit t k turn
  pub free : row.link at high ≡ none

-- the key is at this part, or no part has it and it would hang on this side of this part
abbrev pub IsSeat : Row → (ℕ → ℕ) → ℕ → List ℕ → Seat → Type 0
IsSeat row level t k (Found i) = HasKey row i t k
IsSeat row level t k (Free at high) = IsFree row level t k at high

-- one part more, without links; the links of the others are as before
pub record Pushes (old new : Row) (t : ℕ) (k : List ℕ) (w : What) (n : ℕ) : Type 0 where
  pub number : n ≡ old.count
  pub small : new.count < none
  pub grows : Grows old new t k w
  pub links : (i : ℕ) (high : Bool) → i < old.count → new.link i high ≡ old.link i high
  pub ends : (high : Bool) → new.link old.count high ≡ none

-- another link from one part
pub record Relinks (old new : Row) (at : ℕ) (high : Bool) (n : ℕ) : Type 0 where
  pub count : new.count ≡ old.count
  pub named : new.named ≡ old.named
  pub values : new.values ≡ old.values
  pub tables : (i : ℕ) → new.table i ≡ old.table i
  pub names : (i : ℕ) → new.name i ≡ old.name i
  pub whats : (i : ℕ) → new.what i ≡ old.what i
  pub link : new.link at high ≡ n
  pub links : (i : ℕ) (other : Bool) → ¬ ((i ≡ at) × (other ≡ high)) → new.link i other ≡ old.link i other

-- one key more, which is found
pub record Adds (old new : Row) (t : ℕ) (k : List ℕ) (w : What) (n : ℕ) : Type 0 where
  pub number : n ≡ old.count
  pub small : new.count < none
  pub grows : Grows old new t k w
  pub found : IsFound new

-- something else at a part, with the same links
pub record Puts (old new : Row) (at : ℕ) (w : What) : Type 0 where
  pub sets : Sets old new at w
  pub links : (i : ℕ) (high : Bool) → new.link i high ≡ old.link i high

-- a row of the root alone
pub record IsEmpty (row : Row) : Type 0 where
  pub count : row.count ≡ 1
  pub named : row.named ≡ 1
  pub values : row.values ≡ []
  pub what : row.what 0 ≡ Element none
  pub table : row.table 0 ≡ none
  pub links : (high : Bool) → row.link 0 high ≡ none

-- the row with one value more
abbrev pub with_value : Row → List ℕ → Row
with_value row text = record {
  count = row.count;
  table = row.table;
  name = row.name;
  what = row.what;
  link = row.link;
  named = row.named;
  values = row.values ++ text ∷ [];
}

-- the search has come to this part after so many bits, and the key comes after it if it is there
pub record IsTurn (row : Row) (level : ℕ → ℕ) (t : ℕ) (k : List ℕ) (at turn : ℕ) : Type 0 where
  pub at_it : IsAt row.count (bit_of row) (on_of row) row.link level (key_bit t k) at turn
  pub rises : turn ≤ at
  pub passed : (j : ℕ) → HasKey row j t k → at < j

-- an array at a part has one element more, which no search finds
pub record NextOf (old new : Row) (at before n : ℕ) : Type 0 where
  pub number : n ≡ old.count
  pub small : new.count < none
  pub nexts : Nexts old new at before
  pub found : IsFound old → IsFound new
