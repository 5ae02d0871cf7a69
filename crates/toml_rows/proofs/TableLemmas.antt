-- A change of one table is a change at the end of the path that leads to it.
use Rattle.std.proofs.Common.{◌≡◌, ℕ, ◌<◌, ◌≤◌, ◌==◌, true, false, cond, List, [], ◌∷◌, ◌++◌, Some, None, option_map, refl, sym, ap, ◌∙◌, subst, arith, inl, inr, ◌⊎◌}
use Rattle.std.proofs.lemmas.Bool.{cases_eq}
use Rattle.std.proofs.lemmas.Bool.Decides.{nat_tests}
use Rattle.toml.specs.Data.{Data, Items}
use Rattle.toml.specs.Tables.{Nodes, open_table, open_array, implicit, dotted, header, get_node, replace, Edit, header_node, along_header}
use Rattle.toml.proofs.NodeLaws.{get_node-replace, along_found, along_append}
use Rattle.toml_rows.specs.declared.row.What.{What}
use Rattle.toml_rows.specs.declared.row.What.TheVariants.{Value, Implicit, Dotted, Header, Tables, Element}
use Rattle.toml_rows.specs.Search.{none}
use Rattle.toml_rows.specs.Rows.{is_key, is_open, inside, Row, HasKey}
use Rattle.toml_rows.specs.Tables.{IsOrdered, IsTree, node_of, done_of, IsTold, Leads, at_root, step}
use Rattle.toml_rows.proofs.NodeLemmas.{get_node-replace_other, ordered-replace}

-- a function with another answer at one place
abbrev pub put_at : {X : Type 0} → ℕ → X → (ℕ → X) → ℕ → X
put_at at x f i = cond (i == at) x (f i)

pub put_at-same : {X : Type 0} (at : ℕ) (x : X) (f : ℕ → X) (i : ℕ) → i ≡ at → put_at at x f i ≡ x
put_at-same at x f i is = let e : (i == at) ≡ true = grind (arith, nat_tests) in rw e

pub put_at-other : {X : Type 0} (at : ℕ) (x : X) (f : ℕ → X) (i : ℕ) → ¬ (i ≡ at) → put_at at x f i ≡ f i
put_at-other at x f i other = let e : (i == at) ≡ false = grind (arith, nat_tests) in rw e

-- a fact of each answer
pub put_at-all : {X : Type 0} (P : X → Type 0) (at : ℕ) (x : X) (f : ℕ → X) → P x → ((i : ℕ) → P (f i)) → (i : ℕ) → P (put_at at x f i)
put_at-all P at x f here all i = elim (cases_eq i at) [
  | inl same ↦ subst P (sym (put_at-same at x f i same)) here
  | inr other ↦ subst P (sym (put_at-other at x f i other)) (all i)
]

pub key_if_open : (w : What) → is_open w ≡ true → is_key w ≡ true
key_if_open (Value v) h = refl
key_if_open Implicit h = refl
key_if_open Dotted h = refl
key_if_open Header h = refl
key_if_open (Tables l) h = refl
key_if_open (Element b) h = absurd cc

-- a key holds the same if the table inside it is the same
pub node_same : (datum : ℕ → Data) (f g : ℕ → Nodes) (d : ℕ → Items) (i : ℕ) (w : What) → f (inside i w) ≡ g (inside i w)
    → node_of datum f d i w ≡ node_of datum g d i w
node_same datum f g d i (Value v) h = refl
node_same datum f g d i Implicit h = ap (open_table implicit) h
node_same datum f g d i Dotted h = ap (open_table dotted) h
node_same datum f g d i Header h = ap (open_table header) h
node_same datum f g d i (Tables l) h = ap (open_array (d l)) h
node_same datum f g d i (Element b) h = refl

-- a header's step into a table
pub header_step : (datum : ℕ → Data) (f g : ℕ → Nodes) (d : ℕ → Items) (i : ℕ) (w : What) (edit : Edit) → is_open w ≡ true
    → edit (f (inside i w)) ≡ Some (g (inside i w)) → header_node (along_header [] edit) (node_of datum f d i w) ≡ Some (node_of datum g d i w)
unfolding along_header
header_step datum f g d i (Value v) edit opens h = absurd cc
header_step datum f g d i Implicit edit opens h = ap (option_map (open_table implicit)) h
header_step datum f g d i Dotted edit opens h = ap (option_map (open_table dotted)) h
header_step datum f g d i Header edit opens h = ap (option_map (open_table header)) h
header_step datum f g d i (Tables l) edit opens h = ap (option_map (open_array (d l))) h
header_step datum f g d i (Element b) edit opens h = absurd cc

pub header_stop : (datum : ℕ → Data) (f : ℕ → Nodes) (d : ℕ → Items) (i : ℕ) (w : What) (edit : Edit) → is_open w ≡ true
    → edit (f (inside i w)) ≡ None → header_node (along_header [] edit) (node_of datum f d i w) ≡ None
unfolding along_header
header_stop datum f d i (Value v) edit opens h = absurd cc
header_stop datum f d i Implicit edit opens h = ap (option_map (open_table implicit)) h
header_stop datum f d i Dotted edit opens h = ap (option_map (open_table dotted)) h
header_stop datum f d i Header edit opens h = ap (option_map (open_table header)) h
header_stop datum f d i (Tables l) edit opens h = ap (option_map (open_array (d l))) h
header_stop datum f d i (Element b) edit opens h = absurd cc

pub header_agree : (datum : ℕ → Data) (f : ℕ → Nodes) (d : ℕ → Items) (i : ℕ) (w : What) (e e' : Edit) → is_open w ≡ true
    → e (f (inside i w)) ≡ e' (f (inside i w)) → header_node (along_header [] e) (node_of datum f d i w) ≡ header_node (along_header [] e') (node_of datum f d i w)
unfolding along_header
header_agree datum f d i (Value v) e e' opens h = absurd cc
header_agree datum f d i Implicit e e' opens h = ap (option_map (open_table implicit)) h
header_agree datum f d i Dotted e e' opens h = ap (option_map (open_table dotted)) h
header_agree datum f d i Header e e' opens h = ap (option_map (open_table header)) h
header_agree datum f d i (Tables l) e e' opens h = ap (option_map (open_array (d l))) h
header_agree datum f d i (Element b) e e' opens h = absurd cc

-- either the key leads to a table of its own number, or to an element
inside_cases : (i : ℕ) (w : What) → (inside i w ≡ i) ⊎ (w ≡ Tables (inside i w))
inside_cases i (Value v) = inl refl
inside_cases i Implicit = inl refl
inside_cases i Dotted = inl refl
inside_cases i Header = inl refl
inside_cases i (Tables l) = inr refl
inside_cases i (Element b) = inl refl

module _ (row : Row) (tree : IsTree row) where
  -- no two keys lead to one table
  pub inside_one : (i j : ℕ) → i < row.count → j < row.count → is_key (row.what i) ≡ true → is_key (row.what j) ≡ true
      → inside i (row.what i) ≡ inside j (row.what j) → i ≡ j
  inside_one i j low low' key key' same =
      elim (inside_cases i (row.what i)) [
        | inl own ↦ elim (inside_cases j (row.what j)) [
          | inl own' ↦ sym own ∙ same ∙ own'
          | inr other ↦
              let e = (tree.last j (inside j (row.what j)) low' other).1 in
              let same' : inside j (row.what j) ≡ i = sym same ∙ own in
              let no : is_key (row.what i) ≡ false = ap (λ n. is_key (row.what n)) (sym same') ∙ e in
              absurd cc
        ]
        | inr other ↦
            let l = tree.last i (inside i (row.what i)) low other in
            elim (inside_cases j (row.what j)) [
              | inl own' ↦
                  let same' : inside i (row.what i) ≡ j = same ∙ own' in
                  let no : is_key (row.what j) ≡ false = ap (λ n. is_key (row.what n)) (sym same') ∙ l.1 in
                  absurd cc
              | inr other' ↦
                  let l' = tree.last j (inside j (row.what j)) low' other' in
                  sym l.2 ∙ ap row.table same ∙ l'.2
            ]
      ]

  -- no key leads to the root
  pub inside_root : (i : ℕ) → i < row.count → is_key (row.what i) ≡ true → ¬ (inside i (row.what i) ≡ 0)
  inside_root i low key zero_is =
      elim (inside_cases i (row.what i)) [
        | inl own ↦
            let same : i ≡ 0 = sym own ∙ zero_is in
            let no : is_key (row.what i) ≡ false = ap (λ n. is_key (row.what n)) same ∙ tree.root in
            absurd cc
        | inr other ↦
            let l = tree.last i (inside i (row.what i)) low other in
            let t : none ≡ i = sym tree.root_table ∙ ap row.table (sym zero_is) ∙ l.2 in
            let small = tree.small in
            absurd (omega arith)
      ]

  pub inside_within : (i : ℕ) → i < row.count → inside i (row.what i) < row.count
  inside_within i low = elim (inside_cases i (row.what i)) [
    | inl own ↦ omega arith
    | inr other ↦ (tree.last i (inside i (row.what i)) low other).0
  ]

  pub inside_after : (i : ℕ) → i < row.count → i ≤ inside i (row.what i)
  inside_after i low = elim (inside_cases i (row.what i)) [
    | inl own ↦ omega arith
    | inr other ↦ let h = (tree.last i (inside i (row.what i)) low other).3 in omega arith
  ]

  pub leads_within : {p : List (List ℕ)} {t : ℕ} → Leads row p t → t < row.count
  leads_within at_root = tree.some
  leads_within (step i k before has opens) = inside_within i has.within

  -- an element that is done is at the end of no path
  pub not_done : {p : List (List ℕ)} {t : ℕ} → Leads row p t → (e b : ℕ) → e < row.count → row.what e ≡ Element b → ¬ (b ≡ none) → ¬ (b ≡ t)
  not_done at_root e b low is some same = (tree.before e b low is some).2 same
  not_done (step i k before has opens) e b low is some same =
      let d = tree.before e b low is some in
      elim (inside_cases i (row.what i)) [
        | inl own ↦
            let same' : b ≡ i = same ∙ own in
            let no : is_key (row.what i) ≡ false = ap (λ n. is_key (row.what n)) (sym same') ∙ d.1 in
            let yes = has.key in
            absurd cc
        | inr other ↦ d.3 i has.within (other ∙ ap Tables (sym same))
      ]

-- what was told of one row, climbed to the root
pub record Climbed (datum : ℕ → Data) (row : Row) (d : ℕ → Items) (p : List (List ℕ)) (old new top : Nodes) : Type 0 where
  pub tables : ℕ → Nodes
  pub told : IsTold datum row tables tables d
  pub edits : (edit : Edit) → edit old ≡ Some new → along_header p edit top ≡ Some (tables 0)

module _ (datum : ℕ → Data) (row : Row) (tree : IsTree row) (d : ℕ → Items) where
  -- elements that are done are the same if the tables are
  done_same : (f g : ℕ → Nodes) (b : ℕ) → (¬ (b ≡ none) → f b ≡ g b) → done_of datum f d b ≡ done_of datum g d b
  done_same f g b h = elim (cases_eq b none) [
    | inl is ↦ let e : (b == none) ≡ true = grind (arith, nat_tests) in rw e
    | inr other ↦ let e : (b == none) ≡ false = grind (arith, nat_tests) in rw (e, h other)
  ]

  -- one table differs inside the keys: the same one level higher
  up : {t : ℕ} {p : List (List ℕ)} → Leads row p t → (i : ℕ) (k : List ℕ) → HasKey row i t k → is_open (row.what i) ≡ true → (f g : ℕ → Nodes)
      → IsTold datum row f g d → ((s : ℕ) → ¬ (s ≡ inside i (row.what i)) → f s ≡ g s)
      → ((e b : ℕ) → e < row.count → row.what e ≡ Element b → ¬ (b ≡ none) → ¬ (b ≡ inside i (row.what i)))
      → IsTold datum row (put_at t (replace k (node_of datum f d i (row.what i)) (f t)) f) f d
  up {t} {p} leads i k has opens f g told same alive =
      let node = node_of datum f d i (row.what i) in
      let here : put_at t (replace k node (f t)) f t ≡ replace k node (f t) = put_at-same t (replace k node (f t)) f t refl in
      let apart : (j s : ℕ) (l : List ℕ) → HasKey row j s l → ¬ (j ≡ i) → node_of datum g d j (row.what j) ≡ node_of datum f d j (row.what j)
      = λ j s l has' other. node_same datum g f d j (row.what j)
      (sym (same (inside j (row.what j)) (λ is. other (inside_one row tree j i has'.within has.within has'.key has.key is)))) in
      record {
        there = λ j s l has'. elim (cases_eq s t) [
          | inl at ↦
              let e : put_at t (replace k node (f t)) f s ≡ replace k node (f t) = put_at-same t (replace k node (f t)) f s at in
              let has_t : HasKey row j t l = rw at at has' in
              elim (cases_eq j i) [
                | inl is ↦
                    let name : l ≡ k = sym has'.name ∙ ap row.name is ∙ has.name in
                    ap (get_node l) e ∙ ap (λ m. get_node m (replace k node (f t))) name
                    ∙ get_node-replace k node (f t) _ (told.there i t k has)
                    ∙ ap (λ m. Some (node_of datum f d m (row.what m))) (sym is)
                | inr other ↦
                    let names : ¬ (l ≡ k) = λ e'. other (tree.only j i t k (rw e' at has_t) has) in
                    ap (get_node l) e ∙ get_node-replace_other k l node (f t) names ∙ told.there j t l has_t
                    ∙ ap Some (apart j t l has_t other)
              ]
          | inr elsewhere ↦
              ap (get_node l) (put_at-other t (replace k node (f t)) f s elsewhere) ∙ told.there j s l has'
              ∙ ap Some (apart j s l has' (λ is. elsewhere (sym has'.table ∙ ap row.table is ∙ has.table)))
        ];
        gone = λ s l none_there. elim (cases_eq s t) [
          | inl at ↦
              let e : put_at t (replace k node (f t)) f s ≡ replace k node (f t) = put_at-same t (replace k node (f t)) f s at in
              let none_t : (j : ℕ) → ¬ HasKey row j t l = rw at at none_there in
              let names : ¬ (l ≡ k) = λ e'. none_t i (rw e' has) in
              ap (get_node l) e ∙ get_node-replace_other k l node (f t) names ∙ told.gone t l none_t
          | inr elsewhere ↦ ap (get_node l) (put_at-other t (replace k node (f t)) f s elsewhere) ∙ told.gone s l none_there
        ];
        sorted = put_at-all IsOrdered t (replace k node (f t)) f (ordered-replace k node (f t) (told.sorted t)) told.sorted;
        done = λ e b low is. told.done e b low is ∙ done_same g f b (λ some. sym (same b (alive e b low is some)));
      }

  pub climb : {p : List (List ℕ)} {t : ℕ} → Leads row p t → (f g : ℕ → Nodes) → IsTold datum row f g d → ((s : ℕ) → ¬ (s ≡ t) → f s ≡ g s)
      → Climbed datum row d p (g t) (f t) (g 0)
  unfolding along_header
  climb at_root f g told same =
      record {
        tables = f;
        told = record {
          there = λ j s l has. told.there j s l has
              ∙ ap Some (node_same datum g f d j (row.what j) (sym (same (inside j (row.what j)) (inside_root row tree j has.within has.key))));
          gone = told.gone;
          sorted = told.sorted;
          done = λ e b low is. told.done e b low is ∙ done_same g f b (λ some. sym (same b (not_done row tree at_root e b low is some)));
        };
        edits = λ edit h. h;
      }
  climb (step {p} {t} i k leads has opens) f g told same =
      let node = node_of datum f d i (row.what i) in
      let f' : ℕ → Nodes = put_at t (replace k node (f t)) f in
      let leads' : Leads row (p ++ k ∷ []) (inside i (row.what i)) = step i k leads has opens in
      let told' = up leads i k has opens f g told same (not_done row tree leads') in
      let above = climb leads f' f told' (λ s other. put_at-other t (replace k node (f t)) f s other) in
      record {
        tables = above.tables;
        told = above.told;
        edits = λ edit h.
            along_append p (k ∷ []) edit (g 0)
            ∙ ap (along_header p (along_header (k ∷ []) edit)) (sym (same 0 (λ is. inside_root row tree i has.within has.key (sym is))))
            ∙ above.edits (along_header (k ∷ []) edit)
            (along_found k [] edit (f t) (node_of datum g d i (row.what i)) (told.there i t k has)
            ∙ ap (option_map (λ new. replace k new (f t))) (header_step datum g f d i (row.what i) edit opens h)
            ∙ ap Some (sym (put_at-same t (replace k node (f t)) f t refl)));
      }

  -- an edit that the rules refuse
  pub fall : {p : List (List ℕ)} {t : ℕ} → Leads row p t → (f : ℕ → Nodes) → IsTold datum row f f d → (edit : Edit) → edit (f t) ≡ None
      → along_header p edit (f 0) ≡ None
  unfolding along_header
  fall at_root f told edit h = h
  fall (step {p} {t} i k leads has opens) f told edit h =
      along_append p (k ∷ []) edit (f 0)
      ∙ fall leads f told (along_header (k ∷ []) edit)
      (along_found k [] edit (f t) (node_of datum f d i (row.what i)) (told.there i t k has)
      ∙ ap (option_map (λ new. replace k new (f t))) (header_stop datum f d i (row.what i) edit opens h))

  -- edits that agree at the end of the path agree from the root
  pub agree : {p : List (List ℕ)} {t : ℕ} → Leads row p t → (f : ℕ → Nodes) → IsTold datum row f f d → (e e' : Edit) → e (f t) ≡ e' (f t)
      → along_header p e (f 0) ≡ along_header p e' (f 0)
  unfolding along_header
  agree at_root f told e e' h = h
  agree (step {p} {t} i k leads has opens) f told e e' h =
      let node = node_of datum f d i (row.what i) in
      along_append p (k ∷ []) e (f 0)
      ∙ agree leads f told (along_header (k ∷ []) e) (along_header (k ∷ []) e')
      (along_found k [] e (f t) node (told.there i t k has)
      ∙ ap (option_map (λ new. replace k new (f t))) (header_agree datum f d i (row.what i) e e' opens h)
      ∙ sym (along_found k [] e' (f t) node (told.there i t k has)))
      ∙ sym (along_append p (k ∷ []) e' (f 0))
