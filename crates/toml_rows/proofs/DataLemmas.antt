-- What the value that a text begins with says.
use Rattle.std.proofs.Common.{◌≡◌, ℕ, zero, suc, ◌-◌, ◌<◌, ◌==◌, ◌||◌, true, false, List, [], ◌∷◌, ◌++◌, length, drop, Option, Some, None, option_map, refl, ap, ◌∙◌, inl, inr, arith}
use Rattle.std.proofs.lemmas.Bool.{cases_Bool}
use Rattle.std.proofs.lemmas.Bool.Decides.{nat_tests}
use Rattle.std.specs.Borrow.{Bor}
use Rattle.toml_parser.specs.Lexical.{Read, first}
use Rattle.toml_parser.specs.Strings.{quoted, starts_string}
use Rattle.toml_parser.specs.Numbers.{unquoted}
use Rattle.toml_parser.specs.declared.scalar.Scalar.{Scalar}
use Rattle.toml_parser.specs.declared.scalar.Scalar.TheVariants.{Boolean, Integer, Float, Datetime}
use Rattle.toml.specs.Data.{Data, string, array, table, as_integer, as_str, as_table, as_array, Items, no_items, item, push_item, Members}
use Rattle.toml.specs.Tables.{no_nodes}
use Rattle.toml.specs.Parse.{read_map, scalar_data, atom, val, items, members}
use Rattle.toml.proofs.Turns.{val_atom, val_deep, val_open_array, val_open_table}
use Rattle.toml_rows.specs.Reading.{data_in, data_at}
use Rattle.toml_rows.specs.Walking.{items_of, data_of_all}

-- the parts of what was read
abbrev pub what_of : {A : Type 0} → Read A → Option A
what_of read = option_map (λ p. p.0) read

table_none : (o : Read Items) → as_table (data_in (read_map array o)) ≡ None
table_none None = refl
table_none (Some p) = refl

array_none : (o : Read Members) → as_array (data_in (read_map table o)) ≡ None
array_none None = refl
array_none (Some p) = refl

table_some : (o : Read Members) → as_table (data_in (read_map table o)) ≡ what_of o
table_some None = refl
table_some (Some p) = refl

array_some : (o : Read Items) → as_array (data_in (read_map array o)) ≡ what_of o
array_some None = refl
array_some (Some p) = refl

module _ (X : Type 0) (see : Data → Option X) (no_string : (s : List ℕ) → see (string s) ≡ None) (no_scalar : (s : Scalar) → see (scalar_data s) ≡ None) (no_default : see (data_in None) ≡ None) where
  string_none : (o : Read (List ℕ)) → see (data_in (read_map string o)) ≡ None
  string_none None = no_default
  string_none (Some p) = no_string p.0

  scalar_none : (o : Read Scalar) → see (data_in (read_map scalar_data o)) ≡ None
  scalar_none None = no_default
  scalar_none (Some p) = no_scalar p.0

  atom_none : (text : List ℕ) → see (data_in (atom text)) ≡ None
  unfolding atom
  atom_none text = elim (cases_Bool (starts_string text)) [
    | inl yes_string ↦ rw yes_string (string_none (quoted text))
    | inr other ↦ rw other (scalar_none (unquoted text))
  ]

scalar_no_table : (s : Scalar) → as_table (scalar_data s) ≡ None
scalar_no_table (Boolean b) = refl
scalar_no_table (Integer z) = refl
scalar_no_table (Float x) = refl
scalar_no_table (Datetime d) = refl

scalar_no_array : (s : Scalar) → as_array (scalar_data s) ≡ None
scalar_no_array (Boolean b) = refl
scalar_no_array (Integer z) = refl
scalar_no_array (Float x) = refl
scalar_no_array (Datetime d) = refl

scalar_no_string : (s : Scalar) → as_str (scalar_data s) ≡ None
scalar_no_string (Boolean b) = refl
scalar_no_string (Integer z) = refl
scalar_no_string (Float x) = refl
scalar_no_string (Datetime d) = refl

-- ---- tables and arrays

pub no_inline : (depth : ℕ) (text : List ℕ) → (first text == 123) ≡ false → as_table (data_at depth text) ≡ None
unfolding val
no_inline zero text other = atom_none Members as_table (λ s. refl) scalar_no_table refl text
no_inline (suc depth) text other = elim (cases_Bool (first text == 91)) [
  | inl bracket ↦ rw bracket (table_none (items (val depth) (length text) no_items (drop 1 text)))
  | inr none_open ↦ rw (none_open, other) (atom_none Members as_table (λ s. refl) scalar_no_table refl text)
]

pub no_inline_deep : (text : List ℕ) → as_table (data_at 0 text) ≡ None
unfolding val
no_inline_deep text = atom_none Members as_table (λ s. refl) scalar_no_table refl text

pub inline_is : (depth : ℕ) (text : List ℕ) → 0 < depth → (first text == 123) ≡ true
    → as_table (data_at depth text) ≡ what_of (members (val (depth - 1)) (length text) no_nodes (drop 1 text))
inline_is depth text some brace =
    let other : (first text == 91) ≡ false = grind (arith, nat_tests) in
    ap (λ o. as_table (data_in o)) (val_open_table depth text some other brace) ∙ table_some (members (val (depth - 1)) (length text) no_nodes (drop 1 text))

pub no_list : (depth : ℕ) (text : List ℕ) → (first text == 91) ≡ false → as_array (data_at depth text) ≡ None
unfolding val
no_list zero text other = atom_none Items as_array (λ s. refl) scalar_no_array refl text
no_list (suc depth) text other = elim (cases_Bool (first text == 123)) [
  | inl brace ↦ rw (other, brace) (array_none (members (val depth) (length text) no_nodes (drop 1 text)))
  | inr none_open ↦ rw (other, none_open) (atom_none Items as_array (λ s. refl) scalar_no_array refl text)
]

pub no_list_deep : (text : List ℕ) → as_array (data_at 0 text) ≡ None
unfolding val
no_list_deep text = atom_none Items as_array (λ s. refl) scalar_no_array refl text

pub list_is : (depth : ℕ) (text : List ℕ) → 0 < depth → (first text == 91) ≡ true
    → as_array (data_at depth text) ≡ what_of (items (val (depth - 1)) (length text) no_items (drop 1 text))
list_is depth text some bracket =
    ap (λ o. as_array (data_in o)) (val_open_array depth text some bracket) ∙ array_some (items (val (depth - 1)) (length text) no_items (drop 1 text))

-- ---- scalars

bracket_data : (X : Type 0) (see : Data → Option X) → ((ds : Items) → see (array ds) ≡ None) → ((ms : Members) → see (table ms) ≡ None) → see (data_in None) ≡ None
    → (depth : ℕ) (text : List ℕ) → ((first text == 91) || (first text == 123)) ≡ true → see (data_at depth text) ≡ None
unfolding val
bracket_data X see no_array no_table no_default zero text h = ap (λ o. see (data_in o)) (val_deep text h) ∙ no_default
bracket_data X see no_array no_table no_default (suc depth) text h = elim (cases_Bool (first text == 91)) [
  | inl bracket ↦ rw bracket (arrays (items (val depth) (length text) no_items (drop 1 text)))
  | inr other ↦
      let brace : (first text == 123) ≡ true = rw other at h in
      rw (other, brace) (tables (members (val depth) (length text) no_nodes (drop 1 text)))
]
  where
    arrays : (o : Read Items) → see (data_in (read_map array o)) ≡ None
    arrays None = no_default
    arrays (Some p) = no_array p.0

    tables : (o : Read Members) → see (data_in (read_map table o)) ≡ None
    tables None = no_default
    tables (Some p) = no_table p.0

pub no_integer_in_bracket : (depth : ℕ) (text : List ℕ) → ((first text == 91) || (first text == 123)) ≡ true → as_integer (data_at depth text) ≡ None
no_integer_in_bracket depth text h = bracket_data _ as_integer (λ ds. refl) (λ ms. refl) refl depth text h

string_data : (X : Type 0) (see : Data → Option X) → ((s : List ℕ) → see (string s) ≡ None) → see (data_in None) ≡ None → (o : Read (List ℕ)) → see (data_in (read_map string o)) ≡ None
string_data X see no_string no_default None = no_default
string_data X see no_string no_default (Some p) = no_string p.0

string_first : (text : List ℕ) → starts_string text ≡ true → ((first text == 91) ≡ false) × ((first text == 123) ≡ false)
string_first text h = (grind (arith, nat_tests), grind (arith, nat_tests))

pub no_integer_in_string : (depth : ℕ) (text : List ℕ) → starts_string text ≡ true → as_integer (data_at depth text) ≡ None
unfolding atom
no_integer_in_string depth text h =
    let f = string_first text h in
    ap (λ o. as_integer (data_in o)) (val_atom depth text f.0 f.1) ∙ rw h (string_data _ as_integer (λ s. refl) refl (quoted text))

abbrev pub integer_read : Read Scalar → Data
integer_read o = data_in (read_map scalar_data o)

pub integer_at : (depth : ℕ) (text : List ℕ) → (first text == 91) ≡ false → (first text == 123) ≡ false → starts_string text ≡ false
    → as_integer (data_at depth text) ≡ as_integer (integer_read (unquoted text))
unfolding atom
integer_at depth text a b h = ap (λ o. as_integer (data_in o)) (val_atom depth text a b) ∙ rw h refl

pub no_string_at : (depth : ℕ) (text : List ℕ) → starts_string text ≡ false → as_str (data_at depth text) ≡ None
unfolding atom
no_string_at depth text h = elim (cases_Bool ((first text == 91) || (first text == 123))) [
  | inl bracket ↦ bracket_data _ as_str (λ ds. refl) (λ ms. refl) refl depth text bracket
  | inr other ↦
      let a : (first text == 91) ≡ false = grind (arith, nat_tests) in
      let b : (first text == 123) ≡ false = grind (arith, nat_tests) in
      ap (λ o. as_str (data_in o)) (val_atom depth text a b) ∙ rw h (scalars (unquoted text))
]
  where
    scalars : (o : Read Scalar) → as_str (data_in (read_map scalar_data o)) ≡ None
    scalars None = refl
    scalars (Some p) = scalar_no_string p.0

pub string_at : (depth : ℕ) (text : List ℕ) → starts_string text ≡ true → as_str (data_at depth text) ≡ what_of (quoted text)
unfolding atom
string_at depth text h =
    let f = string_first text h in
    ap (λ o. as_str (data_in o)) (val_atom depth text f.0 f.1) ∙ rw h (strings (quoted text))
  where
    strings : (o : Read (List ℕ)) → as_str (data_in (read_map string o)) ≡ what_of o
    strings None = refl
    strings (Some p) = refl

-- ---- lists

pub items_push : (ds : List Data) (d : Data) → items_of (ds ++ d ∷ []) ≡ push_item (items_of ds) d
items_push [] d = refl
items_push (x ∷ ds) d = ap (item x) (items_push ds d)

pub data_push : (depth : ℕ) (texts : List (Bor (List ℕ))) (text : Bor (List ℕ))
    → items_of (data_of_all depth (texts ++ text ∷ [])) ≡ push_item (items_of (data_of_all depth texts)) (data_at depth text.now)
data_push depth [] text = refl
data_push depth (x ∷ texts) text = ap (item (data_at depth x.now)) (data_push depth texts text)
