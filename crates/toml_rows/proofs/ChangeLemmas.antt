-- What a row stands for after a change.
use Rattle.std.proofs.Common.{◌≡◌, ℕ, ◌<◌, ◌==◌, true, false, List, [], ◌∷◌, ◌++◌, Some, refl, sym, ap, ap₂, ◌∙◌, subst, arith, inl, inr, ◌⊎◌}
use Rattle.std.proofs.lemmas.Bool.{cases_eq}
use Rattle.std.proofs.lemmas.Bool.Decides.{nat_tests}
use Rattle.toml.specs.Data.{Data, Items, no_items}
use Rattle.toml.specs.Tables.{Node, Nodes, no_nodes, open_table, open_array, implicit, dotted, header, get_node, insert, replace, along_header}
use Rattle.toml.proofs.NodeLaws.{get_node-insert, get_node-replace}
use Rattle.toml_rows.specs.declared.row.What.{What}
use Rattle.toml_rows.specs.declared.row.What.TheVariants.{Value, Implicit, Dotted, Header, Tables, Element}
use Rattle.toml_rows.specs.Search.{none}
use Rattle.toml_rows.specs.Rows.{is_key, is_open, is_table, is_plain, inside, Row, HasKey, Grows, Sets, Nexts}
use Rattle.toml_rows.specs.Tables.{IsOrdered, IsTree, node_of, done_of, IsTold, Leads, at_root, step}
use Rattle.toml_rows.proofs.NodeLemmas.{get_node-replace_other, get_node-insert_other, ordered-insert, ordered-replace}
use Rattle.toml_rows.proofs.TableLemmas.{put_at-all, put_at, put_at-same, put_at-other, node_same, inside_within, inside_after, Climbed, climb}

-- after a change of the table at the end of a path
pub record Changed (datum : ℕ → Data) (new : Row) (p : List (List ℕ)) (was is top : Nodes) : Type 0 where
  pub tree : IsTree new
  pub elements : ℕ → Items
  pub climbed : Climbed datum new elements p was is top

-- what a new key holds
abbrev pub fresh : (ℕ → Data) → What → Node
fresh datum w = node_of datum (λ i. no_nodes) (λ i. no_items) 0 w

fresh_is : (datum : ℕ → Data) (g : ℕ → Nodes) (d : ℕ → Items) (n : ℕ) (w : What) → is_plain w ≡ true → g n ≡ no_nodes → node_of datum g d n w ≡ fresh datum w
fresh_is datum g d n (Value v) plain h = refl
fresh_is datum g d n Implicit plain h = ap (open_table implicit) h
fresh_is datum g d n Dotted plain h = ap (open_table dotted) h
fresh_is datum g d n Header plain h = ap (open_table header) h
fresh_is datum g d n (Tables l) plain h = absurd cc
fresh_is datum g d n (Element b) plain h = absurd cc

plain_key : (w : What) → is_plain w ≡ true → is_key w ≡ true
plain_key (Value v) h = refl
plain_key Implicit h = refl
plain_key Dotted h = refl
plain_key Header h = refl
plain_key (Tables l) h = refl
plain_key (Element b) h = absurd cc

plain_tables : (w : What) (l : ℕ) → is_plain w ≡ true → ¬ (w ≡ Tables l)
plain_tables w l plain is = let no : is_plain (Tables l) ≡ true = rw is at plain in cc

key_element : (w : What) (b : ℕ) → is_key w ≡ true → ¬ (w ≡ Element b)
key_element w b key is = let no : is_key (Element b) ≡ true = rw is at key in cc

table_plain : (w : What) → is_table w ≡ true → is_plain w ≡ true
table_plain (Value v) h = absurd cc
table_plain Implicit h = refl
table_plain Dotted h = refl
table_plain Header h = refl
table_plain (Tables l) h = absurd cc
table_plain (Element b) h = absurd cc

pub table_open : (w : What) → is_table w ≡ true → is_open w ≡ true
table_open (Value v) h = absurd cc
table_open Implicit h = refl
table_open Dotted h = refl
table_open Header h = refl
table_open (Tables l) h = absurd cc
table_open (Element b) h = absurd cc

pub table_inside : (i : ℕ) (w : What) → is_table w ≡ true → inside i w ≡ i
table_inside i (Value v) h = absurd cc
table_inside i Implicit h = refl
table_inside i Dotted h = refl
table_inside i Header h = refl
table_inside i (Tables l) h = absurd cc
table_inside i (Element b) h = absurd cc

-- tables and elements that differ elsewhere
node_same_both : (datum : ℕ → Data) (f g : ℕ → Nodes) (d e : ℕ → Items) (i : ℕ) (w : What) → f (inside i w) ≡ g (inside i w) → d (inside i w) ≡ e (inside i w)
    → node_of datum f d i w ≡ node_of datum g e i w
node_same_both datum f g d e i (Value v) h h' = refl
node_same_both datum f g d e i Implicit h h' = ap (open_table implicit) h
node_same_both datum f g d e i Dotted h h' = ap (open_table dotted) h
node_same_both datum f g d e i Header h h' = ap (open_table header) h
node_same_both datum f g d e i (Tables l) h h' = ap₂ open_array h' h
node_same_both datum f g d e i (Element b) h h' = refl

done_same_both : (datum : ℕ → Data) (f g : ℕ → Nodes) (d e : ℕ → Items) (b : ℕ) → (¬ (b ≡ none) → (f b ≡ g b) × (d b ≡ e b)) → done_of datum f d b ≡ done_of datum g e b
done_same_both datum f g d e b h = elim (cases_eq b none) [
  | inl is ↦ let t : (b == none) ≡ true = grind (arith, nat_tests) in rw t
  | inr other ↦ let t : (b == none) ≡ false = grind (arith, nat_tests) in rw (t, (h other).0, (h other).1)
]

-- ---- one more key

module _ (old new : Row) (t : ℕ) (k : List ℕ) (w : What) (grows : Grows old new t k w) where
  older : (i s : ℕ) (l : List ℕ) → HasKey new i s l → i < old.count → HasKey old i s l
  older i s l has low = record {
    within = low;
    key = ap is_key (sym (grows.whats i low)) ∙ has.key;
    table = sym (grows.tables i low) ∙ has.table;
    name = sym (grows.names i low) ∙ has.name;
  }

  pub newer : (i s : ℕ) (l : List ℕ) → HasKey old i s l → HasKey new i s l
  newer i s l has = let low = has.within in record {
    within = omega (arith, grows.count);
    key = ap is_key (grows.whats i low) ∙ has.key;
    table = grows.tables i low ∙ has.table;
    name = grows.names i low ∙ has.name;
  }

  pub leads_grown : {p : List (List ℕ)} {s : ℕ} → Leads old p s → Leads new p s
  leads_grown at_root = at_root
  leads_grown (step {p = p} {t = s} i l leads has opens) =
      let e : new.what i ≡ old.what i = grows.whats i has.within in
      let P : What → Type 0 = λ v. Leads new (p ++ l ∷ []) (inside i v) in
      subst P e (step i l (leads_grown leads) (newer i s l has) (ap is_open e ∙ opens))

  module _ (plain : is_plain w ≡ true) where
    pub new_key : HasKey new old.count t k
    new_key = record {
      within = omega (arith, grows.count);
      key = ap is_key grows.what ∙ plain_key w plain;
      table = grows.table;
      name = grows.name;
    }

    module _ (tree : IsTree old) (small : new.count < none) (within : t < old.count) (free : (i : ℕ) → ¬ HasKey old i t k) where
      grown_tree : IsTree new
      grown_tree = record {
        some = omega (arith, grows.count);
        small = small;
        named = let a = tree.named in omega (arith, grows.count, grows.named);
        root = ap is_key (grows.whats 0 tree.some) ∙ tree.root;
        root_table = grows.tables 0 tree.some ∙ tree.root_table;
        tables = λ i low key. elim (cases_eq i old.count) [
          | inl is ↦ let e : new.table i ≡ t = ap new.table is ∙ grows.table in rw e (omega arith)
          | inr other ↦
              let low' : i < old.count = omega (arith, grows.count) in
              let e = tree.tables i low' (ap is_key (sym (grows.whats i low')) ∙ key) in
              rw (grows.tables i low') e
        ];
        only = λ i j s l has has'. elim (cases_eq i old.count) [
          | inl is ↦ elim (cases_eq j old.count) [
            | inl is' ↦ is ∙ sym is'
            | inr other ↦ absurd (clash j s l (λ e. e) (sym has.table ∙ ap new.table is ∙ grows.table) (sym has.name ∙ ap new.name is ∙ grows.name) has' other)
          ]
          | inr other ↦ elim (cases_eq j old.count) [
            | inl is ↦ absurd (clash i s l (λ e. e) (sym has'.table ∙ ap new.table is ∙ grows.table) (sym has'.name ∙ ap new.name is ∙ grows.name) has other)
            | inr other' ↦
                let a = has.within in
                let b = has'.within in
                tree.only i j s l (older i s l has (omega (arith, grows.count))) (older j s l has' (omega (arith, grows.count)))
          ]
        ];
        last = λ i l low is. elim (cases_eq i old.count) [
          | inl at ↦ absurd (plain_tables w l plain (sym grows.what ∙ ap new.what (sym at) ∙ is))
          | inr other ↦
              let low' : i < old.count = omega (arith, grows.count) in
              let e = tree.last i l low' (sym (grows.whats i low') ∙ is) in
              let there = e.0 in
              (omega (arith, grows.count), ap is_key (grows.whats l e.0) ∙ e.1, grows.tables l e.0 ∙ e.2, e.3)
        ];
        before = λ e b low is some. elim (cases_eq e old.count) [
          | inl at ↦ absurd (key_element w b (plain_key w plain) (sym grows.what ∙ ap new.what (sym at) ∙ is))
          | inr other ↦
              let low' : e < old.count = omega (arith, grows.count) in
              let h = tree.before e b low' (sym (grows.whats e low') ∙ is) some in
              let there = h.0 in (
                omega (arith, grows.count),
                ap is_key (grows.whats b h.0) ∙ h.1,
                h.2,
                λ i small' last. elim (cases_eq i old.count) [
                  | inl at ↦ plain_tables w b plain (sym grows.what ∙ ap new.what (sym at) ∙ last)
                  | inr other' ↦ let low'' : i < old.count = omega (arith, grows.count) in h.3 i low'' (sym (grows.whats i low'') ∙ last)
                ],
                h.4,
              )
        ];
      }
        where
          clash : (j s : ℕ) (l : List ℕ) → (⊥ → ⊥) → s ≡ t → l ≡ k → HasKey new j s l → ¬ (j ≡ old.count) → ⊥
          clash j s l id at_t at_k has other =
              let a = has.within in
              let h = older j s l has (omega (arith, grows.count)) in
              free j (record { within = h.within; key = h.key; table = h.table ∙ at_t; name = h.name ∙ at_k })

      module _ (datum : ℕ → Data) (f : ℕ → Nodes) (d : ℕ → Items) (told : IsTold datum old f f d) where
        g : ℕ → Nodes
        g = put_at old.count no_nodes f

        same_below : (s : ℕ) → s < old.count → g s ≡ f s
        unfolding g
        same_below s low = put_at-other old.count no_nodes f s (λ is. absurd (omega arith))

        new_node : Node
        new_node = node_of datum g d old.count w

        changed : ℕ → Nodes
        changed = put_at t (insert k new_node (f t)) g

        kept_node : (j : ℕ) → j < old.count → node_of datum f d j (old.what j) ≡ node_of datum g d j (new.what j)
        kept_node j low =
            node_same datum f g d j (old.what j) (sym (same_below (inside j (old.what j)) (inside_within old tree j low)))
            ∙ ap (node_of datum g d j) (sym (grows.whats j low))

        grown_told : IsTold datum new changed g d
        unfolding g changed new_node
        grown_told = record {
          there = λ j s l has. elim (cases_eq j old.count) [
            | inl is ↦
                let at : s ≡ t = sym has.table ∙ ap new.table is ∙ grows.table in
                let name : l ≡ k = sym has.name ∙ ap new.name is ∙ grows.name in
                ap (get_node l) (put_at-same t (insert k new_node (f t)) g s at)
                ∙ ap (λ m. get_node m (insert k new_node (f t))) name ∙ get_node-insert k new_node (f t)
                ∙ ap₂ (λ i v. Some (node_of datum g d i v)) (sym is) (sym (ap new.what is ∙ grows.what))
            | inr other ↦
                let w_in = has.within in
                let low : j < old.count = omega (arith, grows.count) in
                let h = older j s l has low in
                elim (cases_eq s t) [
                  | inl at ↦
                      let names : ¬ (l ≡ k) = λ e. free j (record { within = h.within; key = h.key; table = h.table ∙ at; name = h.name ∙ e }) in
                      ap (get_node l) (put_at-same t (insert k new_node (f t)) g s at) ∙ get_node-insert_other k l new_node (f t) names
                      ∙ ap (λ m. get_node l (f m)) (sym at) ∙ told.there j s l h ∙ ap Some (kept_node j low)
                  | inr elsewhere ↦
                      let s_low : s < old.count = let q = rw h.table at (tree.tables j low h.key) in omega arith in
                      ap (get_node l) (put_at-other t (insert k new_node (f t)) g s elsewhere ∙ same_below s s_low)
                      ∙ told.there j s l h ∙ ap Some (kept_node j low)
                ]
          ];
          gone = λ s l none_there. elim (cases_eq s t) [
            | inl at ↦
                let names : ¬ (l ≡ k) = λ e. let n = new_key in none_there old.count (record { within = n.within; key = n.key; table = n.table ∙ sym at; name = n.name ∙ sym e }) in
                ap (get_node l) (put_at-same t (insert k new_node (f t)) g s at) ∙ get_node-insert_other k l new_node (f t) names
                ∙ ap (λ m. get_node l (f m)) (sym at) ∙ told.gone s l (λ i has. none_there i (newer i s l has))
            | inr elsewhere ↦ elim (cases_eq s old.count) [
              | inl is ↦
                  ap (get_node l) (put_at-other t (insert k new_node (f t)) g s elsewhere ∙ put_at-same old.count no_nodes f s is)
              | inr other ↦
                  ap (get_node l) (put_at-other t (insert k new_node (f t)) g s elsewhere ∙ put_at-other old.count no_nodes f s other)
                  ∙ told.gone s l (λ i has. none_there i (newer i s l has))
            ]
          ];
          sorted = put_at-all IsOrdered t (insert k new_node (f t)) g (ordered-insert k new_node (f t) (told.sorted t))
              (put_at-all IsOrdered old.count no_nodes f tt told.sorted);
          done = λ e b low is. elim (cases_eq e old.count) [
            | inl at ↦ absurd (key_element w b (plain_key w plain) (sym grows.what ∙ ap new.what (sym at) ∙ is))
            | inr other ↦
                let low' : e < old.count = omega (arith, grows.count) in
                let is' = sym (grows.whats e low') ∙ is in
                told.done e b low' is' ∙ done_same_both datum f g d d b (λ some. (sym (same_below b (tree.before e b low' is' some).0), refl))
          ];
        }

        pub added : {p : List (List ℕ)} → Leads old p t → Changed datum new p (f t) (insert k (fresh datum w) (f t)) (f 0)
        unfolding g changed new_node
        added {p} leads =
            let c = climb datum new grown_tree d (leads_grown leads) changed g grown_told (λ s other. put_at-other t (insert k new_node (f t)) g s other) in
            let node : new_node ≡ fresh datum w = fresh_is datum g d old.count w plain (put_at-same old.count no_nodes f old.count refl) in
            record {
              tree = grown_tree;
              elements = d;
              climbed = record {
                tables = c.tables;
                told = c.told;
                edits = λ edit h.
                    ap (along_header p edit) (sym (same_below 0 tree.some))
                    ∙ c.edits edit (ap edit (same_below t within) ∙ h ∙ ap (λ n. Some (insert k n (f t))) (sym node)
                    ∙ ap Some (sym (put_at-same t (insert k new_node (f t)) g t refl)));
              };
            }

-- ---- something else at a key

module _ (old new : Row) (at t : ℕ) (k : List ℕ) (w : What) (sets : Sets old new at w) (has_at : HasKey old at t k)
    (was : is_table (old.what at) ≡ true) (is : is_table w ≡ true) where
  set_key : (i : ℕ) → i < old.count → is_key (new.what i) ≡ is_key (old.what i)
  set_key i low = elim (cases_eq i at) [
    | inl same ↦ ap (λ n. is_key (new.what n)) same ∙ ap is_key sets.what ∙ plain_key w (table_plain w is) ∙ sym has_at.key ∙ ap (λ n. is_key (old.what n)) (sym same)
    | inr other ↦ ap is_key (sets.whats i low other)
  ]

  set_older : (i s : ℕ) (l : List ℕ) → HasKey new i s l → HasKey old i s l
  set_older i s l has =
      let low : i < old.count = let a = has.within in omega (arith, sets.count) in
      record {
        within = low;
        key = sym (set_key i low) ∙ has.key;
        table = sym (sets.tables i low) ∙ has.table;
        name = sym (sets.names i low) ∙ has.name;
      }

  set_newer : (i s : ℕ) (l : List ℕ) → HasKey old i s l → HasKey new i s l
  set_newer i s l has = let low = has.within in record {
    within = omega (arith, sets.count);
    key = set_key i low ∙ has.key;
    table = sets.tables i low ∙ has.table;
    name = sets.names i low ∙ has.name;
  }

  set_inside : (i : ℕ) → i < old.count → inside i (new.what i) ≡ inside i (old.what i)
  set_inside i low = elim (cases_eq i at) [
    | inl same ↦
        ap (λ n. inside n (new.what n)) same ∙ ap (inside at) sets.what ∙ table_inside at w is ∙ sym (table_inside at (old.what at) was)
        ∙ ap (λ n. inside n (old.what n)) (sym same)
    | inr other ↦ ap (inside i) (sets.whats i low other)
  ]

  set_open : (i : ℕ) → i < old.count → is_open (old.what i) ≡ true → is_open (new.what i) ≡ true
  set_open i low opens = elim (cases_eq i at) [
    | inl same ↦ ap (λ n. is_open (new.what n)) same ∙ ap is_open sets.what ∙ table_open w is
    | inr other ↦ ap is_open (sets.whats i low other) ∙ opens
  ]

  pub leads_set : {p : List (List ℕ)} {s : ℕ} → Leads old p s → Leads new p s
  leads_set at_root = at_root
  leads_set (step {p = p} {t = s} i l leads has opens) =
      let P : ℕ → Type 0 = λ v. Leads new (p ++ l ∷ []) v in
      subst P (set_inside i has.within) (step i l (leads_set leads) (set_newer i s l has) (set_open i has.within opens))

  module _ (tree : IsTree old) where
    -- what is no table was there before
    set_same : (i : ℕ) (v : What) → is_table v ≡ false → i < old.count → new.what i ≡ v → old.what i ≡ v
    set_same i v nope low e = elim (cases_eq i at) [
      | inl same ↦ let yes : is_table v ≡ true = ap is_table (sym e ∙ ap new.what same ∙ sets.what) ∙ is in absurd cc
      | inr other ↦ sym (sets.whats i low other) ∙ e
    ]

    set_tree : IsTree new
    set_tree = record {
      some = let a = tree.some in omega (arith, sets.count);
      small = let a = tree.small in omega (arith, sets.count);
      named = sets.named ∙ tree.named ∙ sym sets.count;
      root = set_key 0 tree.some ∙ tree.root;
      root_table = sets.tables 0 tree.some ∙ tree.root_table;
      tables = λ i low key.
          let low' : i < old.count = omega (arith, sets.count) in
          let e = tree.tables i low' (sym (set_key i low') ∙ key) in
          rw (sets.tables i low') e;
      only = λ i j s l has has'. tree.only i j s l (set_older i s l has) (set_older j s l has');
      last = λ i l low e.
          let low' : i < old.count = omega (arith, sets.count) in
          let h = tree.last i l low' (set_same i (Tables l) refl low' e) in
          let there = h.0 in
          (omega (arith, sets.count), set_key l h.0 ∙ h.1, sets.tables l h.0 ∙ h.2, h.3);
      before = λ e b low e_is some.
          let low' : e < old.count = omega (arith, sets.count) in
          let h = tree.before e b low' (set_same e (Element b) refl low' e_is) some in
          let there = h.0 in (
            omega (arith, sets.count),
            set_key b h.0 ∙ h.1,
            h.2,
            λ i small last.
                let low'' : i < old.count = omega (arith, sets.count) in h.3 i low'' (set_same i (Tables b) refl low'' last),
            h.4,
          );
    }

    module _ (datum : ℕ → Data) (f : ℕ → Nodes) (d : ℕ → Items) (told : IsTold datum old f f d) where
      set_changed : ℕ → Nodes
      set_changed = put_at t (replace k (node_of datum f d at w) (f t)) f

      set_told : IsTold datum new set_changed f d
      unfolding set_changed
      set_told = record {
        there = λ j s l has.
            let h = set_older j s l has in
            elim (cases_eq s t) [
              | inl same ↦
                  let h_t : HasKey old j t l = rw same at h in
                  elim (cases_eq j at) [
                    | inl here ↦
                        let name : l ≡ k = sym h.name ∙ ap old.name here ∙ has_at.name in
                        ap (get_node l) (put_at-same t (replace k (node_of datum f d at w) (f t)) f s same)
                        ∙ ap (λ m. get_node m (replace k (node_of datum f d at w) (f t))) name
                        ∙ get_node-replace k (node_of datum f d at w) (f t) _ (told.there at t k has_at)
                        ∙ ap₂ (λ i v. Some (node_of datum f d i v)) (sym here) (sym (ap new.what here ∙ sets.what))
                    | inr other ↦
                        let names : ¬ (l ≡ k) = λ e. other (tree.only j at t k (rw e at h_t) has_at) in
                        ap (get_node l) (put_at-same t (replace k (node_of datum f d at w) (f t)) f s same)
                        ∙ get_node-replace_other k l (node_of datum f d at w) (f t) names ∙ told.there j t l h_t
                        ∙ ap (λ v. Some (node_of datum f d j v)) (sym (sets.whats j h.within other))
                  ]
              | inr elsewhere ↦
                  ap (get_node l) (put_at-other t (replace k (node_of datum f d at w) (f t)) f s elsewhere) ∙ told.there j s l h
                  ∙ ap (λ v. Some (node_of datum f d j v))
                  (sym (sets.whats j h.within (λ here. elsewhere (sym h.table ∙ ap old.table here ∙ has_at.table))))
            ];
        gone = λ s l none_there. elim (cases_eq s t) [
          | inl same ↦
              let none_t : (i : ℕ) → ¬ HasKey new i t l = rw same at none_there in
              let names : ¬ (l ≡ k) = λ e. none_t at (rw e (set_newer at t k has_at)) in
              ap (get_node l) (put_at-same t (replace k (node_of datum f d at w) (f t)) f s same)
              ∙ get_node-replace_other k l (node_of datum f d at w) (f t) names ∙ told.gone t l (λ i has. none_t i (set_newer i t l has))
          | inr elsewhere ↦
              ap (get_node l) (put_at-other t (replace k (node_of datum f d at w) (f t)) f s elsewhere)
              ∙ told.gone s l (λ i has. none_there i (set_newer i s l has))
        ];
        sorted = put_at-all IsOrdered t (replace k (node_of datum f d at w) (f t)) f (ordered-replace k (node_of datum f d at w) (f t) (told.sorted t)) told.sorted;
        done = λ e b low e_is.
            let low' : e < old.count = omega (arith, sets.count) in
            told.done e b low' (set_same e (Element b) refl low' e_is);
      }

      pub replaced : {p : List (List ℕ)} → Leads old p t → Changed datum new p (f t) (replace k (node_of datum f d at w) (f t)) (f 0)
      unfolding set_changed
      replaced {p} leads =
          let c = climb datum new set_tree d (leads_set leads) set_changed f set_told (λ s other. put_at-other t (replace k (node_of datum f d at w) (f t)) f s other) in
          record {
            tree = set_tree;
            elements = d;
            climbed = record {
              tables = c.tables;
              told = c.told;
              edits = λ edit h. c.edits edit (h ∙ ap Some (sym (put_at-same t (replace k (node_of datum f d at w) (f t)) f t refl)));
            };
          }

-- ---- one more element

module _ (old new : Row) (at t : ℕ) (k : List ℕ) (b : ℕ) (nexts : Nexts old new at b) (has_at : HasKey old at t k) where
  next_key : (i : ℕ) → i < old.count → is_key (new.what i) ≡ is_key (old.what i)
  next_key i low = elim (cases_eq i at) [
    | inl same ↦ ap (λ n. is_key (new.what n)) same ∙ ap is_key nexts.what ∙ sym has_at.key ∙ ap (λ n. is_key (old.what n)) (sym same)
    | inr other ↦ ap is_key (nexts.whats i low other)
  ]

  next_low : (i : ℕ) → i < new.count → is_key (new.what i) ≡ true → i < old.count
  next_low i low key = elim (cases_eq i old.count) [
    | inl same ↦ let no : is_key (new.what i) ≡ false = ap (λ n. is_key (new.what n)) same ∙ ap is_key nexts.element in absurd cc
    | inr other ↦ omega (arith, nexts.count)
  ]

  next_older : (i s : ℕ) (l : List ℕ) → HasKey new i s l → HasKey old i s l
  next_older i s l has =
      let low : i < old.count = next_low i has.within has.key in
      record {
        within = low;
        key = sym (next_key i low) ∙ has.key;
        table = sym (nexts.tables i low) ∙ has.table;
        name = sym (nexts.names i low) ∙ has.name;
      }

  pub next_newer : (i s : ℕ) (l : List ℕ) → HasKey old i s l → HasKey new i s l
  next_newer i s l has = let low = has.within in record {
    within = omega (arith, nexts.count);
    key = next_key i low ∙ has.key;
    table = nexts.tables i low ∙ has.table;
    name = nexts.names i low ∙ has.name;
  }

  module _ (tree : IsTree old) (small : new.count < none) (follows : (¬ (b ≡ none)) → old.what at ≡ Tables b) where
    -- what is no key stays
    next_same : (i : ℕ) → i < old.count → is_key (old.what i) ≡ false → new.what i ≡ old.what i
    next_same i low nope = nexts.whats i low (λ same. let yes : is_key (old.what i) ≡ true = ap (λ n. is_key (old.what n)) same ∙ has_at.key in cc)

    next_tables : (i l : ℕ) → i < new.count → new.what i ≡ Tables l
        → ((i ≡ at) × (l ≡ old.count)) ⊎ ((¬ (i ≡ at)) × (i < old.count) × (old.what i ≡ Tables l))
    next_tables i l low e = elim (cases_eq i at) [
      | inl same ↦ let is : Tables l ≡ Tables old.count = sym e ∙ ap new.what same ∙ nexts.what in inl (same, cc)
      | inr other ↦
          let low' : i < old.count = next_low i low (ap is_key e) in
          inr (other, low', sym (nexts.whats i low' other) ∙ e)
    ]

    next_element : (e c : ℕ) → e < new.count → new.what e ≡ Element c → ((e ≡ old.count) × (c ≡ b)) ⊎ ((e < old.count) × (old.what e ≡ Element c))
    next_element e c low is = elim (cases_eq e old.count) [
      | inl same ↦ let both : Element c ≡ Element b = sym is ∙ ap new.what same ∙ nexts.element in inl (same, cc)
      | inr other ↦
          let low' : e < old.count = omega (arith, nexts.count) in
          inr (low', sym (nexts.whats e low' (λ here. let no : Element c ≡ Tables old.count = sym is ∙ ap new.what here ∙ nexts.what in absurd cc)) ∙ is)
    ]

    next_tree : IsTree new
    next_tree = record {
      some = omega (arith, nexts.count);
      small = small;
      named = let a = tree.named in omega (arith, nexts.count, nexts.named);
      root = next_key 0 tree.some ∙ tree.root;
      root_table = nexts.tables 0 tree.some ∙ tree.root_table;
      tables = λ i low key.
          let low' = next_low i low key in
          let e = tree.tables i low' (sym (next_key i low') ∙ key) in
          rw (nexts.tables i low') e;
      only = λ i j s l has has'. tree.only i j s l (next_older i s l has) (next_older j s l has');
      last = λ i l low e. elim (next_tables i l low e) [
        | inl here ↦ (
          let is = here.1 in omega (arith, nexts.count),
          ap (λ n. is_key (new.what n)) here.1 ∙ ap is_key nexts.element,
          ap new.table here.1 ∙ nexts.table ∙ sym here.0,
          let is = here.1 in let is' = here.0 in let w_in = has_at.within in omega arith,
        )
        | inr other ↦
            let h = tree.last i l other.1 other.2 in
            let there = h.0 in
            (omega (arith, nexts.count), next_key l h.0 ∙ h.1, nexts.tables l h.0 ∙ h.2, h.3)
      ];
      before = λ e c low is some. elim (next_element e c low is) [
        | inl here ↦
            let same : c ≡ b = here.1 in
            let array : old.what at ≡ Tables c = follows (λ z. some (same ∙ z)) ∙ ap Tables (sym same) in
            let h = tree.last at c has_at.within array in
            let there = h.0 in
            let small_at = has_at.within in
            let row_small = tree.small in (
              omega (arith, nexts.count),
              next_key c h.0 ∙ h.1,
              λ zero_is. let z : none ≡ at = sym tree.root_table ∙ ap old.table (sym zero_is) ∙ h.2 in absurd (omega arith),
              λ i low' last. elim (next_tables i c low' last) [
                | inl there' ↦ let e' = there'.1 in absurd (omega arith)
                | inr other ↦ other.0 (sym (tree.last i c other.1 other.2).2 ∙ h.2)
              ],
              let at_end = here.0 in omega arith,
            )
        | inr other ↦
            let h = tree.before e c other.0 other.1 some in
            let there = h.0 in (
              omega (arith, nexts.count),
              next_key c h.0 ∙ h.1,
              h.2,
              λ i low' last. elim (next_tables i c low' last) [
                | inl there' ↦ let e' = there'.1 in absurd (omega arith)
                | inr more ↦ h.3 i more.1 more.2
              ],
              h.4,
            )
      ];
    }

    module _ (datum : ℕ → Data) (f : ℕ → Nodes) (d : ℕ → Items) (told : IsTold datum old f f d) where
      next_inner : ℕ → Nodes
      next_inner = put_at old.count no_nodes f

      next_elements : ℕ → Items
      next_elements = put_at old.count (done_of datum f d b) d

      next_node : Node
      next_node = open_array (done_of datum f d b) no_nodes

      next_changed : ℕ → Nodes
      next_changed = put_at t (replace k next_node (f t)) next_inner

      inner_below : (s : ℕ) → s < old.count → next_inner s ≡ f s
      unfolding next_inner
      inner_below s low = put_at-other old.count no_nodes f s (λ is. absurd (omega arith))

      elements_below : (s : ℕ) → s < old.count → next_elements s ≡ d s
      unfolding next_elements
      elements_below s low = put_at-other old.count (done_of datum f d b) d s (λ is. absurd (omega arith))

      next_kept : (j : ℕ) → j < old.count → ¬ (j ≡ at) → node_of datum f d j (old.what j) ≡ node_of datum next_inner next_elements j (new.what j)
      next_kept j low other =
          let in_it = inside_within old tree j low in
          node_same_both datum f next_inner d next_elements j (old.what j) (sym (inner_below (inside j (old.what j)) in_it)) (sym (elements_below (inside j (old.what j)) in_it))
          ∙ ap (node_of datum next_inner next_elements j) (sym (nexts.whats j low other))

      next_node_is : next_node ≡ node_of datum next_inner next_elements at (new.what at)
      unfolding next_inner next_elements next_node
      next_node_is =
          ap₂ open_array (sym (put_at-same old.count (done_of datum f d b) d old.count refl)) (sym (put_at-same old.count no_nodes f old.count refl))
          ∙ ap (node_of datum next_inner next_elements at) (sym nexts.what)

      next_told : IsTold datum new next_changed next_inner next_elements
      unfolding next_changed next_inner next_elements
      next_told = record {
        there = λ j s l has.
            let h = next_older j s l has in
            elim (cases_eq s t) [
              | inl same ↦
                  let h_t : HasKey old j t l = rw same at h in
                  elim (cases_eq j at) [
                    | inl here ↦
                        let name : l ≡ k = sym h.name ∙ ap old.name here ∙ has_at.name in
                        ap (get_node l) (put_at-same t (replace k next_node (f t)) next_inner s same)
                        ∙ ap (λ m. get_node m (replace k next_node (f t))) name
                        ∙ get_node-replace k next_node (f t) _ (told.there at t k has_at)
                        ∙ ap Some next_node_is
                        ∙ ap (λ i. Some (node_of datum next_inner next_elements i (new.what i))) (sym here)
                    | inr other ↦
                        let names : ¬ (l ≡ k) = λ e. other (tree.only j at t k (rw e at h_t) has_at) in
                        ap (get_node l) (put_at-same t (replace k next_node (f t)) next_inner s same)
                        ∙ get_node-replace_other k l next_node (f t) names ∙ told.there j t l h_t
                        ∙ ap Some (next_kept j h.within other)
                  ]
              | inr elsewhere ↦
                  let s_low : s < old.count = let q = rw h.table at (tree.tables j h.within h.key) in let w_in = h.within in omega arith in
                  ap (get_node l) (put_at-other t (replace k next_node (f t)) next_inner s elsewhere ∙ inner_below s s_low) ∙ told.there j s l h
                  ∙ ap Some (next_kept j h.within (λ here. elsewhere (sym h.table ∙ ap old.table here ∙ has_at.table)))
            ];
        gone = λ s l none_there. elim (cases_eq s t) [
          | inl same ↦
              let none_t : (i : ℕ) → ¬ HasKey new i t l = rw same at none_there in
              let names : ¬ (l ≡ k) = λ e. none_t at (rw e (next_newer at t k has_at)) in
              ap (get_node l) (put_at-same t (replace k next_node (f t)) next_inner s same)
              ∙ get_node-replace_other k l next_node (f t) names ∙ told.gone t l (λ i has. none_t i (next_newer i t l has))
          | inr elsewhere ↦ elim (cases_eq s old.count) [
            | inl is ↦
                ap (get_node l) (put_at-other t (replace k next_node (f t)) next_inner s elsewhere ∙ put_at-same old.count no_nodes f s is)
            | inr other ↦
                ap (get_node l) (put_at-other t (replace k next_node (f t)) next_inner s elsewhere ∙ put_at-other old.count no_nodes f s other)
                ∙ told.gone s l (λ i has. none_there i (next_newer i s l has))
          ]
        ];
        sorted = put_at-all IsOrdered t (replace k next_node (f t)) next_inner (ordered-replace k next_node (f t) (told.sorted t))
            (put_at-all IsOrdered old.count no_nodes f tt told.sorted);
        done = λ e c low is. elim (next_element e c low is) [
          | inl here ↦
              put_at-same old.count (done_of datum f d b) d e here.0
              ∙ done_same_both datum f next_inner d next_elements b (λ some.
              let low' = (tree.last at b has_at.within (follows some)).0 in (sym (inner_below b low'), sym (elements_below b low')))
              ∙ ap (done_of datum next_inner next_elements) (sym here.1)
          | inr other ↦
              elements_below e other.0 ∙ told.done e c other.0 other.1
              ∙ done_same_both datum f next_inner d next_elements c (λ some.
              let low' = (tree.before e c other.0 other.1 some).0 in (sym (inner_below c low'), sym (elements_below c low')))
        ];
      }

      -- a path to a table that is no part of the array's last element
      next_leads : {p : List (List ℕ)} {s : ℕ} → Leads old p s → s < inside at (old.what at) → Leads new p s
      next_leads at_root less = at_root
      next_leads (step {p = p} {t = s} i l leads has opens) less =
          let other : ¬ (i ≡ at) = λ same. let e : inside i (old.what i) ≡ inside at (old.what at) = ap (λ n. inside n (old.what n)) same in absurd (omega arith) in
          let e : new.what i ≡ old.what i = nexts.whats i has.within other in
          let P : What → Type 0 = λ v. Leads new (p ++ l ∷ []) (inside i v) in
          let parent = rw has.table at (tree.tables i has.within has.key) in
          let own = inside_after old tree i has.within in
          subst P e (step i l (next_leads leads (omega arith)) (next_newer i s l has) (ap is_open e ∙ opens))

      pub next_added : {p : List (List ℕ)} → Leads old p t → Changed datum new p (f t) (replace k (open_array (done_of datum f d b) no_nodes) (f t)) (f 0)
      unfolding next_changed next_inner next_elements next_node
      next_added {p} leads =
          let parent = rw has_at.table at (tree.tables at has_at.within has_at.key) in
          let own = inside_after old tree at has_at.within in
          let leads' = next_leads leads (omega arith) in
          let c = climb datum new next_tree next_elements leads' next_changed next_inner next_told
          (λ s other. put_at-other t (replace k next_node (f t)) next_inner s other) in
          record {
            tree = next_tree;
            elements = next_elements;
            climbed = record {
              tables = c.tables;
              told = c.told;
              edits = λ edit h.
                  ap (along_header p edit) (sym (inner_below 0 tree.some))
                  ∙ c.edits edit (ap edit (inner_below t (let w_in = has_at.within in omega arith)) ∙ h
                  ∙ ap Some (sym (put_at-same t (replace k next_node (f t)) next_inner t refl)));
            };
          }

      -- the new element is at the end of the array's path
      pub next_last : {p : List (List ℕ)} → Leads old p t → Leads new (p ++ k ∷ []) old.count
      next_last {p} leads =
          let parent = rw has_at.table at (tree.tables at has_at.within has_at.key) in
          let own = inside_after old tree at has_at.within in
          let P : What → Type 0 = λ v. Leads new (p ++ k ∷ []) (inside at v) in
          subst P nexts.what (step at k (next_leads leads (omega arith)) (next_newer at t k has_at) (ap is_open nexts.what))
