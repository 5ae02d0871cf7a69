-- What is defined at the last part of a key.
use Rattle.std.proofs.Common.{◌≡◌, ℕ, ◌<◌, ◌==◌, true, false, List, [], ◌∷◌, ◌++◌, length, length-append, get_or, Some, None, option_and_then, refl, sym, ap, ap₂, ◌∙◌, subst, arith, inl, inr}
use Rattle.std.proofs.lemmas.Bool.{cases_eq}
use Rattle.std.proofs.lemmas.Bool.Decides.{nat_tests}
use Rattle.std.proofs.lemmas.List.{get_or_append_left, get_or_at}
use Rattle.toml.specs.Data.{Data, table, Items, no_items, push_item}
use Rattle.toml.specs.Tables.{Definition, key_value, std_table, array_table, redefine, at_key, close, Nodes, no_nodes, value, open_table, open_array, header, insert, replace, Edit, along_header, along_dots, put}
use Rattle.toml.proofs.NodeLaws.{seq, along_seq, replace-insert}
use Rattle.toml.proofs.Turns.{at_key_ok, at_key_err, at_key_new}
use Rattle.toml_rows.specs.declared.row.What.{What}
use Rattle.toml_rows.specs.declared.row.What.TheVariants.{Value, Implicit, Dotted, Header, Tables, Element}
use Rattle.toml_rows.specs.Search.{none}
use Rattle.toml_rows.specs.Rows.{is_key, is_table, Row, HasKey, Nexts, Pushes, Adds, Puts, NextOf, with_value}
use Rattle.toml_rows.specs.Tables.{node_of, done_of, IsTold, Leads, at_root, step}
use Rattle.toml_rows.specs.Reading.{data_at, datum_of, Holds, Entered, Keeps}
use Rattle.toml_rows.proofs.ChangeLemmas.{next_added, next_last, new_key}
use Rattle.toml_rows.proofs.RowLemmas.{found_put, found_push}
use Rattle.toml_rows.proofs.EnterLemmas.{told_at, gone_at, refused_at, agree_at, keeps_add, inserted, leads_new, put_there, leads_put}

-- ---- one more value

module _ (old : Row) (text : List ℕ) where
  with_key : (i t : ℕ) (k : List ℕ) → HasKey old i t k → HasKey (with_value old text) i t k
  with_key i t k has = record { within = has.within; key = has.key; table = has.table; name = has.name }

  without_key : (i t : ℕ) (k : List ℕ) → HasKey (with_value old text) i t k → HasKey old i t k
  without_key i t k has = record { within = has.within; key = has.key; table = has.table; name = has.name }

  keeps_value : {p : List (List ℕ)} {s : ℕ} → Leads old p s → Leads (with_value old text) p s
  keeps_value at_root = at_root
  keeps_value (step {p} {t} i k leads has opens) = step i k (keeps_value leads) (with_key i t k has) opens

  holds_value : (depth : ℕ) (f : ℕ → Nodes) (d : ℕ → Items) → Holds depth old f d → Holds depth (with_value old text) f d
  holds_value depth f d holds =
      let tree = holds.tree in
      let told = holds.told in
      let same : (i v : ℕ) → i < old.count → old.what i ≡ Value v → datum_of depth (old.values ++ text ∷ []) v ≡ datum_of depth old.values v
      = λ i v low is. ap (data_at depth) (get_or_append_left old.values (text ∷ []) [] v (holds.values i v low is)) in
      let nodes : (i : ℕ) (w : What) → i < old.count → old.what i ≡ w → node_of (datum_of depth old.values) f d i w ≡ node_of (datum_of depth (old.values ++ text ∷ [])) f d i w
      = λ i w low is. same_node i w (λ v e. sym (same i v low (is ∙ e))) in
      record {
        tree = record {
          some = tree.some;
          small = tree.small;
          named = tree.named;
          root = tree.root;
          root_table = tree.root_table;
          tables = tree.tables;
          only = λ i j t k has has'. tree.only i j t k (without_key i t k has) (without_key j t k has');
          last = tree.last;
          before = tree.before;
        };
        told = record {
          there = λ i t k has. told.there i t k (without_key i t k has) ∙ ap Some (nodes i (old.what i) has.within refl);
          gone = λ t k nothing. told.gone t k (λ i has. nothing i (with_key i t k has));
          sorted = told.sorted;
          done = told.done;
        };
        found = holds.found;
        values = λ i v low is. let less = holds.values i v low is in omega (arith, length-append old.values (text ∷ []));
      }
    where
      same_node : (i : ℕ) (w : What) → ((v : ℕ) → w ≡ Value v → datum_of depth old.values v ≡ datum_of depth (old.values ++ text ∷ []) v)
          → node_of (datum_of depth old.values) f d i w ≡ node_of (datum_of depth (old.values ++ text ∷ [])) f d i w
      same_node i (Value v) h = ap value (h v refl)
      same_node i Implicit h = refl
      same_node i Dotted h = refl
      same_node i Header h = refl
      same_node i (Tables l) h = refl
      same_node i (Element b) h = refl

pub value_holds : (depth : ℕ) (old mid : Row) (text : List ℕ) (f : ℕ → Nodes) (d : ℕ → Items) → mid ≡ with_value old text → Holds depth old f d
    → Holds depth mid f d × Keeps old mid
value_holds depth old mid text f d is holds =
    let P : Row → Type 0 = λ row. Holds depth row f d × Keeps old row in
    subst P (sym is) (holds_value old text depth f d holds, λ p s there. keeps_value old text there)

module _ (depth : ℕ) (mid : Row) (f : ℕ → Nodes) (d : ℕ → Items) (p : List (List ℕ)) (t : ℕ) (holds : Holds depth mid f d) (leads : Leads mid p t) (k : List ℕ) where
  pub value_refused : (i : ℕ) (datum : Data) → HasKey mid i t k → along_header p (at_key k (key_value datum)) (f 0) ≡ None
  value_refused i datum has =
      refused_at depth mid f d p t holds leads (at_key k (key_value datum))
      (at_key_err k (key_value datum) (f t) _ (told_at depth mid f d p t holds leads i k has) refl)

  pub value_put : (new old : Row) (text : List ℕ) (v n : ℕ) → mid ≡ with_value old text → v ≡ length old.values → Adds mid new t k (Value v) n → ((i : ℕ) → ¬ HasKey mid i t k)
      → Keeps mid new × Entered depth new p t (λ top. along_header p (at_key k (key_value (data_at depth text))) (f 0) ≡ Some top)
  value_put new old text v n is number adds nothing =
      let keeps = keeps_add depth mid f d p t holds leads new k (Value v) n adds nothing refl in
      let values : mid.values ≡ old.values ++ text ∷ [] = ap (λ (row : Row). row.values) is in
      let at_v : get_or mid.values v [] ≡ text = ap (λ xs. get_or xs v []) values ∙ get_or_at old.values text [] [] v (sym number) in
      let less : v < length mid.values = rw values (omega (arith, length-append old.values (text ∷ []))) in (
        keeps,
        inserted depth mid f d p t holds leads new k (Value v) n adds nothing refl
            (λ u same. let e : v ≡ u = cc in rw e at less)
            (at_key k (key_value (data_at depth text)))
            (at_key_new k (key_value (data_at depth text)) (f t) (gone_at depth mid f d p t holds leads k nothing)
            ∙ ap (λ x. Some (insert k (value (data_at depth x)) (f t))) (sym at_v))
            p t (keeps p t leads),
      )

  -- ---- the table of a header

  pub table_new : (new : Row) (n : ℕ) → Adds mid new t k Header n → ((i : ℕ) → ¬ HasKey mid i t k)
      → Entered depth new (p ++ k ∷ []) n (λ top. along_header p (at_key k std_table) (f 0) ≡ Some top)
  table_new new n adds nothing =
      inserted depth mid f d p t holds leads new k Header n adds nothing refl (λ v is. absurd cc) (at_key k std_table)
      (at_key_new k std_table (f t) (gone_at depth mid f d p t holds leads k nothing))
      (p ++ k ∷ []) n (leads_new depth mid f d p t holds leads new k Header n adds nothing refl refl refl)

  pub table_found : (new : Row) (i : ℕ) → HasKey mid i t k → mid.what i ≡ Implicit → Puts mid new i Header
      → Entered depth new (p ++ k ∷ []) i (λ top. along_header p (at_key k std_table) (f 0) ≡ Some top)
  table_found new i has was puts =
      let table : is_table (mid.what i) ≡ true = ap is_table was in
      let key : is_key (mid.what i) ≡ true = ap is_key was in
      let there = told_at depth mid f d p t holds leads i k has ∙ ap (λ w. Some (node_of (datum_of depth mid.values) f d i w)) was in
      put_there depth mid f d p t holds leads new i k Header puts has table refl key (at_key k std_table)
      (at_key_ok k std_table (f t) _ _ _ there refl refl)
      (p ++ k ∷ []) i (leads_put depth mid f d p t holds leads new i k Header puts has table refl key)

  no_table : (datum : ℕ → Data) (i : ℕ) (w : What) → ¬ (w ≡ Implicit) → redefine std_table (node_of datum f d i w) ≡ None
  no_table datum i (Value v) other = refl
  no_table datum i Implicit other = absurd (other refl)
  no_table datum i Dotted other = refl
  no_table datum i Header other = refl
  no_table datum i (Tables l) other = refl
  no_table datum i (Element b) other = refl

  pub table_refused : (i : ℕ) → HasKey mid i t k → ¬ (mid.what i ≡ Implicit) → along_header p (at_key k std_table) (f 0) ≡ None
  table_refused i has other =
      refused_at depth mid f d p t holds leads (at_key k std_table)
      (at_key_err k std_table (f t) _ (told_at depth mid f d p t holds leads i k has) (no_table (datum_of depth mid.values) i (mid.what i) other))

  -- ---- an element of an array of tables

  no_array : (datum : ℕ → Data) (i : ℕ) (w : What) → ((l : ℕ) → ¬ (w ≡ Tables l)) → redefine array_table (node_of datum f d i w) ≡ None
  no_array datum i (Value v) other = refl
  no_array datum i Implicit other = refl
  no_array datum i Dotted other = refl
  no_array datum i Header other = refl
  no_array datum i (Tables l) other = absurd (other l refl)
  no_array datum i (Element b) other = refl

  pub element_refused : (i : ℕ) → HasKey mid i t k → ((l : ℕ) → ¬ (mid.what i ≡ Tables l)) → along_header p (at_key k array_table) (f 0) ≡ None
  element_refused i has other =
      refused_at depth mid f d p t holds leads (at_key k array_table)
      (at_key_err k array_table (f t) _ (told_at depth mid f d p t holds leads i k has) (no_array (datum_of depth mid.values) i (mid.what i) other))

  values_next : (new : Row) (i b : ℕ) → Nexts mid new i b → (j v : ℕ) → j < new.count → new.what j ≡ Value v → v < length new.values
  values_next new i b nexts j v low is = elim (cases_eq j i) [
    | inl here ↦ let wrong : Value v ≡ Tables mid.count = sym is ∙ ap new.what here ∙ nexts.what in absurd cc
    | inr other ↦ elim (cases_eq j mid.count) [
      | inl last ↦ let wrong : Value v ≡ Element b = sym is ∙ ap new.what last ∙ nexts.element in absurd cc
      | inr older ↦
          let low' : j < mid.count = omega (arith, nexts.count) in
          rw nexts.values (holds.values j v low' (sym (nexts.whats j low' other) ∙ is))
    ]
  ]

  -- an edit that adds an element
  next : (new : Row) (i b n : ℕ) → HasKey mid i t k → NextOf mid new i b n → (¬ (b ≡ none) → mid.what i ≡ Tables b) → (edit : Edit)
      → edit (f t) ≡ Some (replace k (open_array (done_of (datum_of depth mid.values) f d b) no_nodes) (f t))
      → Entered depth new (p ++ k ∷ []) n (λ top. along_header p edit (f 0) ≡ Some top)
  next new i b n has after follows edit h =
      let nexts = after.nexts in
      let datum = datum_of depth mid.values in
      let c = next_added mid new i t k b nexts has holds.tree after.small follows datum f d holds.told leads in
      let e = c.climbed in
      let last = next_last mid new i t k b nexts has holds.tree after.small follows datum f d holds.told leads in
      let same : datum_of depth new.values ≡ datum = ap (datum_of depth) nexts.values in
      let P : (ℕ → Data) → Type 0 = λ x. IsTold x new e.tables e.tables c.elements in
      let Q : ℕ → Type 0 = λ m. Leads new (p ++ k ∷ []) m in
      record {
        tables = e.tables;
        elements = c.elements;
        holds = record { tree = c.tree; told = subst P (sym same) e.told; found = after.found holds.found; values = values_next new i b nexts };
        leads = subst Q (sym after.number) last;
        is = e.edits edit h;
      }

  pub element_found : (new : Row) (i l n : ℕ) → HasKey mid i t k → mid.what i ≡ Tables l → NextOf mid new i l n
      → Entered depth new (p ++ k ∷ []) n (λ top. along_header p (at_key k array_table) (f 0) ≡ Some top)
  element_found new i l n has was after =
      let tree = holds.tree in
      let low = (tree.last i l has.within was).0 in
      let small = tree.small in
      let some : (l == none) ≡ false = let apart : ¬ (l ≡ none) = λ is. absurd (omega arith) in grind (arith, nat_tests) in
      let there = told_at depth mid f d p t holds leads i k has ∙ ap (λ w. Some (node_of (datum_of depth mid.values) f d i w)) was in
      let done : done_of (datum_of depth mid.values) f d l ≡ push_item (d l) (table (close (f l))) = rw some in
      next new i l n has after (λ some. was) (at_key k array_table)
      (at_key_ok k array_table (f t) _ _ _ there refl refl ∙ ap (λ x. Some (replace k (open_array x no_nodes) (f t))) (sym done))

-- a new array: a table, and in its place an array with one element
pub element_new : (depth : ℕ) (old mid new : Row) (f : ℕ → Nodes) (d : ℕ → Items) (p : List (List ℕ)) (t : ℕ) (holds : Holds depth old f d) (leads : Leads old p t) (k : List ℕ)
    → (i n : ℕ) → Adds old mid t k Header i → ((j : ℕ) → ¬ HasKey old j t k) → NextOf mid new i none n
    → Entered depth new (p ++ k ∷ []) n (λ top. along_header p (at_key k array_table) (f 0) ≡ Some top)
element_new depth old mid new f d p t holds leads k i n adds nothing after =
    let made : Edit = λ ns. Some (insert k (open_table header no_nodes) ns) in
    let turned : Edit = λ ns. Some (replace k (open_array no_items no_nodes) ns) in
    let keeps = keeps_add depth old f d p t holds leads mid k Header i adds nothing refl in
    let one = inserted depth old f d p t holds leads mid k Header i adds nothing refl (λ v is. absurd cc) made refl p t (keeps p t leads) in
    let grows = adds.grows in
    let here : HasKey mid i t k = let number : i ≡ old.count = adds.number in rw number (new_key old mid t k Header grows refl) in
    let two = next depth mid one.tables one.elements p t one.holds one.leads k new i none n here after (λ some. absurd (some refl)) turned refl in
    let both = along_seq p made turned (f 0) ∙ ap (option_and_then (along_header p turned)) one.is ∙ two.is in
    let same : at_key k array_table (f t) ≡ seq made turned (f t) =
    at_key_new k array_table (f t) (gone_at depth old f d p t holds leads k nothing) ∙ ap Some (sym (replace-insert k (open_table header no_nodes) (open_array no_items no_nodes) (f t))) in
    record {
      tables = two.tables;
      elements = two.elements;
      holds = two.holds;
      leads = two.leads;
      is = agree_at depth old f d p t holds leads (at_key k array_table) (seq made turned) same ∙ both;
    }

-- an element in the lists
pub row_next : (old mid new : Row) (i b n t : ℕ) (k : List ℕ) → HasKey old i t k → Pushes old mid i [] (Element b) n → Puts mid new i (Tables n) → 0 < old.count → NextOf old new i b n
row_next old mid new i b n t k has pushes puts some =
    let g = pushes.grows in
    let s = puts.sets in
    let number : n ≡ old.count = pushes.number in
    let low = has.within in
    let in_mid : (j : ℕ) → j < old.count → j < mid.count = λ j less. omega (arith, g.count) in
    let last_in : old.count < mid.count = omega (arith, g.count) in
    let apart : ¬ (old.count ≡ i) = λ is. absurd (omega arith) in
    record {
      number = number;
      small = rw s.count pushes.small;
      nexts = record {
        count = s.count ∙ g.count;
        named = s.named ∙ g.named;
        values = s.values ∙ g.values;
        tables = λ j less. s.tables j (in_mid j less) ∙ g.tables j less;
        names = λ j less. s.names j (in_mid j less) ∙ g.names j less;
        whats = λ j less other. s.whats j (in_mid j less) other ∙ g.whats j less;
        what = s.what ∙ ap Tables number;
        table = s.tables old.count last_in ∙ g.table;
        element = s.whats old.count last_in apart ∙ g.what;
      };
      found = λ found. found_put mid new i (Tables n) puts (ap is_key (g.whats i low) ∙ has.key) (found_push old mid i [] (Element b) n pushes refl some found);
    }

-- ---- a whole key

-- the walk along a path, and what is known of it
abbrev pub Walked : ℕ → Row → List (List ℕ) → List (List ℕ) → ℕ → (Edit → Edit) → Nodes → Type 0
Walked depth mid p path s walk top =
    Entered depth mid (p ++ path) s (λ to. (edit : Edit) → along_header p (walk edit) top ≡ along_header (p ++ path) edit to)

module _ (path path' : List (List ℕ)) (k k' : List ℕ) (path_is : path' ≡ path) (k_is : k' ≡ k) where
  pub put_all : (depth : ℕ) (old mid new : Row) (p : List (List ℕ)) (t s : ℕ) (top : Nodes) (d : Data) → Leads old p t → Keeps old mid
      → (e : Walked depth mid p path' s (along_dots path') top)
      → Keeps mid new × Entered depth new (p ++ path') s (λ to. along_header (p ++ path') (at_key k' (key_value d)) (e.tables 0) ≡ Some to)
      → Keeps old new × Entered depth new p t (λ to. along_header p (put (path, k) d) top ≡ Some to)
  put_all depth old mid new p t s top d leads keeps e after =
      let a = after.1 in (
        (λ q m there. after.0 q m (keeps q m there)),
        record {
          tables = a.tables;
          elements = a.elements;
          holds = a.holds;
          leads = after.0 p t (keeps p t leads);
          is = ap₂ (λ q l. along_header p (along_dots q (at_key l (key_value d))) top) (sym path_is) (sym k_is) ∙ e.is (at_key k' (key_value d)) ∙ a.is;
        },
      )

  pub put_no_path : (p : List (List ℕ)) (top : Nodes) (d : Data) → ((edit : Edit) → along_header p (along_dots path' edit) top ≡ None)
      → along_header p (put (path, k) d) top ≡ None
  put_no_path p top d refused = ap (λ q. along_header p (along_dots q (at_key k (key_value d))) top) (sym path_is) ∙ refused (at_key k (key_value d))

  pub put_no_key : (depth : ℕ) (mid : Row) (p : List (List ℕ)) (s : ℕ) (top : Nodes) (d : Data) → (e : Walked depth mid p path' s (along_dots path') top)
      → along_header (p ++ path') (at_key k' (key_value d)) (e.tables 0) ≡ None → along_header p (put (path, k) d) top ≡ None
  put_no_key depth mid p s top d e refused =
      ap₂ (λ q l. along_header p (along_dots q (at_key l (key_value d))) top) (sym path_is) (sym k_is) ∙ e.is (at_key k' (key_value d)) ∙ refused

  pub open_all : (depth : ℕ) (mid new : Row) (s r : ℕ) (top : Nodes) (what : Definition)
      → (e : Walked depth mid [] path' s (along_header path') top)
      → Entered depth new (([] ++ path') ++ k' ∷ []) r (λ to. along_header ([] ++ path') (at_key k' what) (e.tables 0) ≡ Some to)
      → Entered depth new (path ++ k ∷ []) r (λ to. along_header path (at_key k what) top ≡ Some to)
  unfolding along_header
  open_all depth mid new s r top what e after =
      let P : List (List ℕ) → Type 0 = λ q. Leads new q r in
      record {
        tables = after.tables;
        elements = after.elements;
        holds = after.holds;
        leads = subst P (ap₂ (λ q l. q ++ l ∷ []) path_is k_is) after.leads;
        is = ap₂ (λ q l. along_header q (at_key l what) top) (sym path_is) (sym k_is) ∙ e.is (at_key k' what) ∙ after.is;
      }

  pub open_no_path : (top : Nodes) (what : Definition) → ((edit : Edit) → along_header [] (along_header path' edit) top ≡ None)
      → along_header path (at_key k what) top ≡ None
  unfolding along_header
  open_no_path top what refused = ap (λ q. along_header q (at_key k what) top) (sym path_is) ∙ refused (at_key k what)

  pub open_no_key : (depth : ℕ) (mid : Row) (s : ℕ) (top : Nodes) (what : Definition) → (e : Walked depth mid [] path' s (along_header path') top)
      → along_header ([] ++ path') (at_key k' what) (e.tables 0) ≡ None → along_header path (at_key k what) top ≡ None
  unfolding along_header
  open_no_key depth mid s top what e refused =
      ap₂ (λ q l. along_header q (at_key l what) top) (sym path_is) (sym k_is) ∙ e.is (at_key k' what) ∙ refused
