-- The root alone, and what follows a value.
use Rattle.std.proofs.Common.{◌≡◌, ℕ, ◌<◌, ◌==◌, true, false, List, [], Option, Some, None, refl, sym, ap, ◌∙◌, arith}
use Rattle.toml_parser.specs.Lexical.{Read}
use Rattle.toml.specs.Data.{Data, no_items, no_members}
use Rattle.toml.specs.Tables.{Nodes, no_nodes, Edit, along_header}
use Rattle.toml.specs.Parse.{read_map}
use Rattle.toml_rows.specs.declared.row.What.TheVariants.{Value, Tables, Element}
use Rattle.toml_rows.specs.Search.{none}
use Rattle.toml_rows.specs.Rows.{is_key, Row, HasKey, IsEmpty}
use Rattle.toml_rows.specs.Tables.{done_of}
use Rattle.toml_rows.specs.Reading.{data_in, datum_of, Holds}
use Rattle.toml_rows.specs.Documents.{rest_of, IsTable}
use Rattle.toml_rows.proofs.RowLemmas.{found_empty}

pub holds_empty : (depth : ℕ) (row : Row) → IsEmpty row → Holds depth row (λ i. no_nodes) (λ i. no_items)
holds_empty depth row empty =
    let count : row.count ≡ 1 = empty.count in
    let what : (i : ℕ) → i < row.count → row.what i ≡ Element none = λ i low. let e : i ≡ 0 = omega arith in ap row.what e ∙ empty.what in
    let no_key : (i t : ℕ) (k : List ℕ) → ¬ HasKey row i t k = λ i t k has. let e : is_key (row.what i) ≡ false = ap is_key (what i has.within) in let yes = has.key in cc in
    let none_is : (none == none) ≡ true = refl in
    record {
      tree = record {
        some = omega arith;
        small = rw count (omega arith);
        named = empty.named ∙ sym count;
        root = ap is_key empty.what;
        root_table = empty.table;
        tables = λ i low key. let e : is_key (row.what i) ≡ false = ap is_key (what i low) in absurd cc;
        only = λ i j t k has has'. absurd (no_key i t k has);
        last = λ i l low is. let e : Tables l ≡ Element none = sym is ∙ what i low in absurd cc;
        before = λ e b low is some. absurd (some (let same : Element b ≡ Element none = sym is ∙ what e low in cc));
      };
      told = record {
        there = λ i t k has. absurd (no_key i t k has);
        gone = λ t k nothing. refl;
        sorted = λ t. tt;
        done = λ e b low is. let same : b ≡ none = (let both : Element b ≡ Element none = sym is ∙ what e low in cc) in
            ap (done_of (datum_of depth row.values) (λ i. no_nodes) (λ i. no_items)) (sym same);
      };
      found = found_empty row empty;
      values = λ i v low is. let e : Value v ≡ Element none = sym is ∙ what i low in absurd cc;
    }

-- what was read, by the text after it
pub read_is : (o : Read Data) (rest : List ℕ) → rest_of o ≡ Some rest → o ≡ Some (data_in o, rest)
read_is None rest h = absurd cc
read_is (Some (d, r)) rest h = let same : r ≡ rest = cc in ap (λ x. Some (d, x)) same

pub unread_is : {A : Type 0} (o : Read A) → rest_of o ≡ None → o ≡ None
unread_is None h = refl
unread_is (Some p) h = absurd cc

-- the same after a map
pub rest_map : {A B : Type 0} (f : A → B) (o : Read A) → rest_of (read_map f o) ≡ rest_of o
rest_map f None = refl
rest_map f (Some p) = refl

-- an edit of the root
pub at_top : (edit : Edit) (ns : Nodes) (o : Option Nodes) → along_header [] edit ns ≡ o → edit ns ≡ o
unfolding along_header
at_top edit ns o h = h

-- an empty row has no members
pub empty_table : (depth : ℕ) (row : Row) → IsEmpty row → IsTable depth row 0 no_members
empty_table depth row empty = record { tables = λ i. no_nodes; elements = λ i. no_items; holds = holds_empty depth row empty; members = refl }
