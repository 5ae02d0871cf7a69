-- What a row has at a name, in the data of the document.
use Rattle.std.proofs.Common.{◌≡◌, ℕ, ◌+◌, ◌≤◌, ◌==◌, Bool, true, false, cond, List, [], ◌∷◌, ◌++◌, reverse, Option, Some, None, option_map, Ordering, Less, Equal, Greater, nat_cmp, is_eq, refl, sym, ap, ◌∙◌, arith, inl, inr}
use Rattle.std.specs.Ordering.{match_ordering}
use Rattle.std.proofs.lemmas.Bool.Decides.{nat_tests}
use Rattle.std.proofs.lemmas.List.{reverse-append}
use Rattle.std.specs.Cmp.Lexicographic.{slice_cmp}
use Rattle.toml.specs.Data.{Data, table, array, Items, no_items, item, push_item, Members, same_key, get_member}
use Rattle.toml.specs.Tables.{Node, Nodes, no_nodes, node, get_node, close, close_node}
use Rattle.toml_rows.specs.declared.row.What.{What}
use Rattle.toml_rows.specs.declared.row.What.TheVariants.{Value, Implicit, Dotted, Header, Tables, Element}
use Rattle.toml_rows.specs.declared.walk.Found.{Found}
use Rattle.toml_rows.specs.declared.walk.Found.TheVariants as found
use Rattle.toml_rows.specs.Search.{none}
use Rattle.toml_rows.specs.Rows.{is_key, is_table, Row, HasKey}
use Rattle.toml_rows.specs.Tables.{node_of, done_of}
use Rattle.toml_rows.specs.Reading.{data_at, datum_of, Holds}
use Rattle.toml_rows.specs.Documents.{IsTable}
use Rattle.std.proofs.lemmas.Bool.{cases_Bool, cases_eq}
use Rattle.std.proofs.lemmas.Option.{none-some}
use Rattle.std.proofs.lemmas.Cmp.{nat_list_cmp_total, tied_itself}
use Rattle.toml.proofs.NodeLaws.{same_key-self}
use Rattle.toml_rows.specs.Tables.{order, AreAfter, IsOrdered}
use Rattle.toml_rows.specs.Walking.{IsArray, Finds, SeenAs, first_unknown, IsUnknown, IsLeast, IsLeft, items_of, items_onto, tables_of}
use Rattle.toml_rows.proofs.NodeLemmas.{same_key-is}

-- a name among the members
pub close_get : (k : List ℕ) (ns : Nodes) → get_member k (close ns) ≡ option_map close_node (get_node k ns)
close_get k no_nodes = refl
close_get k (node l x ns) = go (slice_cmp nat_cmp k l) (close_get k ns)
  where
    go : (o : Ordering) → get_member k (close ns) ≡ option_map close_node (get_node k ns)
        → match_ordering o (get_member k (close ns)) (Some (close_node x)) (get_member k (close ns)) ≡ option_map close_node (cond (is_eq o) (Some x) (get_node k ns))
    go Less more = more
    go Equal more = refl
    go Greater more = more

module _ (depth : ℕ) (row : Row) (t : ℕ) (ms : Members) (is : IsTable depth row t ms) (k : List ℕ) where
  member_at : (o : Option Node) → get_node k (is.tables t) ≡ o → get_member k ms ≡ option_map close_node o
  member_at o at = ap (get_member k) (sym is.members) ∙ close_get k (is.tables t) ∙ ap (option_map close_node) at

  pub get_free : ((i : ℕ) → ¬ HasKey row i t k) → get_member k ms ≡ None
  get_free nothing = let h = is.holds in let told = h.told in member_at None (told.gone t k nothing)

  module _ (i : ℕ) (has : HasKey row i t k) where
    key_at : (w : What) → row.what i ≡ w → get_member k ms ≡ Some (close_node (node_of (datum_of depth row.values) is.tables is.elements i w))
    key_at w e =
        let h = is.holds in
        let told = h.told in
        member_at _ (told.there i t k has ∙ ap (λ v. Some (node_of (datum_of depth row.values) is.tables is.elements i v)) e)

    table_data : (datum : ℕ → Data) (f : ℕ → Nodes) (d : ℕ → Items) (w : What) → is_table w ≡ true → close_node (node_of datum f d i w) ≡ table (close (f i))
    table_data datum f d (Value v) h = absurd cc
    table_data datum f d Implicit h = refl
    table_data datum f d Dotted h = refl
    table_data datum f d Header h = refl
    table_data datum f d (Tables l) h = absurd cc
    table_data datum f d (Element b) h = absurd cc

    pub get_found : (seen : Option Found) → SeenAs row i (row.what i) seen → Finds depth row seen (get_member k ms)
    get_found None h = let yes = has.key in absurd cc
    get_found (Some (found.Value text)) (v, w, same) =
        (data_at depth text.now, refl, key_at (Value v) w ∙ ap (λ x. Some (data_at depth x)) (sym same))
    get_found (Some (found.Table s)) (number, is_it) =
        let data_is : Some (close_node (node_of (datum_of depth row.values) is.tables is.elements i (row.what i))) ≡ Some (table (close (is.tables s))) =
        ap Some (table_data (datum_of depth row.values) is.tables is.elements (row.what i) is_it) ∙ ap (λ n. Some (table (close (is.tables n)))) (sym number) in (
          table (close (is.tables s)),
          (close (is.tables s), record { tables = is.tables; elements = is.elements; holds = is.holds; members = refl }, refl),
          key_at (row.what i) refl ∙ data_is,
        )
    get_found (Some (found.Tables last)) w = (
      array (push_item (is.elements last) (table (close (is.tables last)))),
      (
        push_item (is.elements last) (table (close (is.tables last))),
        record { tables = is.tables; elements = is.elements; holds = is.holds; owner = i; within = has.within; owns = w; items = refl },
        refl,
      ),
      key_at (Tables last) w,
    )

-- ---- the first name that is not known

pub not_less : (k : List ℕ) → ¬ (order k k ≡ Less)
not_less k h = let same = tied_itself nat_list_cmp_total k in cc

-- what is not among all nodes is not among the rest
rest_none : (k l : List ℕ) (x : Node) (ns : Nodes) → get_node l (node k x ns) ≡ None → get_node l ns ≡ None
rest_none k l x ns h = elim (cases_Bool (same_key l k)) [
  | inl same ↦ absurd (none-some x (sym (rw same at h)))
  | inr other ↦ rw other at h
]

node_here : (k : List ℕ) (x : Node) (ns : Nodes) → get_node k (node k x ns) ≡ Some x
node_here k x ns = rw (same_key-self k)

pub after_has : (k n : List ℕ) (x : Node) (ns : Nodes) → AreAfter k ns → get_node n ns ≡ Some x → order k n ≡ Less
after_has k n x no_nodes after h = absurd (none-some x h)
after_has k n x (node l y ns) after h = elim (cases_Bool (same_key n l)) [
  | inl same ↦ let e : n ≡ l = same_key-is n l same in rw e after.0
  | inr other ↦ after_has k n x ns after.1 (rw other at h)
]

module _ (known : List ℕ → Bool) where
  none_unknown : (ns : Nodes) → ((k : List ℕ) → known k ≡ false → get_node k ns ≡ None) → first_unknown known (close ns) ≡ None
  none_unknown no_nodes all = refl
  none_unknown (node k x ns) all = elim (cases_Bool (known k)) [
    | inl yes_known ↦ rw yes_known (none_unknown ns (λ l un. rest_none k l x ns (all l un)))
    | inr unknown ↦ absurd (none-some x (sym (all k unknown) ∙ node_here k x ns))
  ]

  some_unknown : (n : List ℕ) (x : Node) (ns : Nodes) → IsOrdered ns → known n ≡ false → get_node n ns ≡ Some x
      → ((k : List ℕ) → known k ≡ false → order k n ≡ Less → get_node k ns ≡ None) → first_unknown known (close ns) ≡ Some n
  some_unknown n x no_nodes ordered unknown h all = absurd (none-some x h)
  some_unknown n x (node k y ns) ordered unknown h all = elim (cases_Bool (same_key n k)) [
    | inl same ↦
        let e : n ≡ k = same_key-is n k same in
        let here : known k ≡ false = rw e at unknown in
        rw here (ap Some (sym e))
    | inr other ↦
        let later : get_node n ns ≡ Some x = rw other at h in
        let less = after_has k n x ns ordered.0 later in
        elim (cases_Bool (known k)) [
          | inl yes_known ↦
              rw yes_known (some_unknown n x ns ordered.1 unknown later (λ l un before. rest_none k l y ns (all l un before)))
          | inr un ↦ absurd (none-some y (sym (all k un less) ∙ node_here k y ns))
        ]
  ]

  module _ (depth : ℕ) (row : Row) (t : ℕ) (ms : Members) (is : IsTable depth row t ms) where
    named : (i : ℕ) (k : List ℕ) → HasKey row i t k → known k ≡ false → IsUnknown row t known i
    named i k has un = record {
      has = record { within = has.within; key = has.key; table = has.table; name = refl };
      unknown = ap known has.name ∙ un;
    }

    pub unknown_none : (count : ℕ) → count ≡ row.count → IsLeast row t known count None → None ≡ first_unknown known ms
    unknown_none count all none_so =
        let h = is.holds in
        let told = h.told in
        sym (ap (first_unknown known) (sym is.members)
        ∙ none_unknown (is.tables t) (λ k un. told.gone t k (λ i has. none_so i (let w = has.within in omega arith) (named i k has un))))

    pub unknown_some : (count i : ℕ) → count ≡ row.count → IsLeast row t known count (Some i) → Some (row.name i) ≡ first_unknown known ms
    unknown_some count i all least =
        let h = is.holds in
        let told = h.told in
        let u = least.1 in
        sym (ap (first_unknown known) (sym is.members)
        ∙ some_unknown (row.name i) _ (is.tables t) (told.sorted t) u.unknown (told.there i t (row.name i) u.has)
        (λ k un before. told.gone t k (λ j has. least.2 j (let w = has.within in omega arith) (named j k has un) (ap (λ m. order m (row.name i)) has.name ∙ before))))

  module _ (row : Row) (t : ℕ) where
    pub least_first : IsLeast row t known 0 None
    least_first = λ j low. absurd (omega arith)

    -- one part more
    pub least_skip : (count : ℕ) (least : Option ℕ) → IsLeast row t known count least → ¬ IsUnknown row t known count → IsLeast row t known (count + 1) least
    least_skip count None h other = λ j low. elim (cases_eq j count) [
      | inl same ↦ λ u. other (rw same at u)
      | inr apart ↦ h j (omega arith)
    ]
    least_skip count (Some i) h other = (
      let low = h.0 in omega arith,
      h.1,
      λ j low u. elim (cases_eq j count) [
        | inl same ↦ absurd (other (rw same at u))
        | inr apart ↦ h.2 j (omega arith) u
      ],
    )

    pub least_take_first : (count : ℕ) → IsLeast row t known count None → IsUnknown row t known count → IsLeast row t known (count + 1) (Some count)
    least_take_first count h u = (
      omega arith,
      u,
      λ j low u' less. elim (cases_eq j count) [
        | inl same ↦ not_less (row.name count) (ap (λ n. order n (row.name count)) (ap row.name (sym same)) ∙ less)
        | inr apart ↦ h j (omega arith) u'
      ],
    )

    pub least_take : (count i : ℕ) → IsLeast row t known count (Some i) → IsUnknown row t known count → order (row.name count) (row.name i) ≡ Less
        → IsLeast row t known (count + 1) (Some count)
    least_take count i h u before = (
      omega arith,
      u,
      λ j low u' less. elim (cases_eq j count) [
        | inl same ↦ not_less (row.name count) (ap (λ n. order n (row.name count)) (ap row.name (sym same)) ∙ less)
        | inr apart ↦ h.2 j (omega arith) u' (nat_list_cmp_total.trans (row.name j) (row.name count) (row.name i) less before)
      ],
    )

    pub least_keep : (count i : ℕ) → IsLeast row t known count (Some i) → ¬ (order (row.name count) (row.name i) ≡ Less) → IsLeast row t known (count + 1) (Some i)
    least_keep count i h later = (
      let low = h.0 in omega arith,
      h.1,
      λ j low u. elim (cases_eq j count) [
        | inl same ↦ λ less. later (ap (λ n. order n (row.name i)) (ap row.name (sym same)) ∙ less)
        | inr apart ↦ h.2 j (omega arith) u
      ],
    )

-- ---- the elements of an array of tables

element_of : (w : What) → is_key w ≡ false → (b : ℕ) × (w ≡ Element b)
element_of (Value v) h = absurd cc
element_of Implicit h = absurd cc
element_of Dotted h = absurd cc
element_of Header h = absurd cc
element_of (Tables l) h = absurd cc
element_of (Element b) h = (b, refl)

items_after : (d : Data) (ds : Items) (es : List Data) → items_onto (item d ds) es ≡ item d (items_onto ds es)
items_after d ds [] = refl
items_after d ds (e ∷ es) = items_after d (push_item ds e) es

items_from_none : (ds : List Data) → items_onto no_items ds ≡ items_of ds
items_from_none [] = refl
items_from_none (d ∷ ds) = items_after d no_items ds ∙ ap (item d) (items_from_none ds)

done_some : (datum : ℕ → Data) (f : ℕ → Nodes) (d : ℕ → Items) (b : ℕ) → ¬ (b ≡ none) → done_of datum f d b ≡ push_item (d b) (table (close (f b)))
done_some datum f d b some = let e : (b == none) ≡ false = grind (arith, nat_tests) in rw e

done_none : (datum : ℕ → Data) (f : ℕ → Nodes) (d : ℕ → Items) (b : ℕ) → b ≡ none → done_of datum f d b ≡ no_items
done_none datum f d b is = let e : (b == none) ≡ true = grind (arith, nat_tests) in rw e

pub left_first : (depth : ℕ) (row : Row) (last : ℕ) (ds : Items) (is : IsArray depth row last ds) → IsLeft depth row is.tables is.elements ds [] last 0
left_first depth row last ds is =
    let h = is.holds in
    let tree = h.tree in
    let l = tree.last is.owner last is.within is.owns in
    let small = tree.small in
    let low = l.0 in
    record {
      near = λ some. (l.0, l.1, omega arith);
      whole = sym is.items ∙ sym (done_some (datum_of depth row.values) is.tables is.elements last (λ n. absurd (omega arith)));
    }

module _ (depth : ℕ) (row : Row) (f : ℕ → Nodes) (d : ℕ → Items) (ds : Items) (ts : List ℕ) (at turn : ℕ) (left : IsLeft depth row f d ds ts at turn) where
  pub left_none : at ≡ none → IsLeft depth row f d ds ts none (turn + 1)
  left_none is = record {
    near = λ some. absurd (some refl);
    whole = left.whole ∙ ap (λ b. items_onto (done_of (datum_of depth row.values) f d b) (tables_of f (reverse ts))) is;
  }

  pub left_more : Holds depth row f d → ¬ (at ≡ none) → (next : ℕ) → ((b : ℕ) → row.what at ≡ Element b → next ≡ b) → (new : List ℕ) → new ≡ ts ++ at ∷ []
      → IsLeft depth row f d ds new next (turn + 1)
  left_more holds some next is new pushed =
      let tree = holds.tree in
      let told = holds.told in
      let n = left.near some in
      let e = element_of (row.what at) n.1 in
      let b = e.0 in
      let same : next ≡ b = is b e.1 in
      let room = n.2 in
      let datum = datum_of depth row.values in
      let turned : tables_of f (reverse new) ≡ table (close (f at)) ∷ tables_of f (reverse ts) =
      ap (λ xs. tables_of f (reverse xs)) pushed ∙ ap (tables_of f) (reverse-append ts (at ∷ [])) in
      record {
        near = λ go.
            let h = tree.before at b n.0 e.1 (λ z. go (same ∙ z)) in
            let low = h.0 in
            let less = h.4 in
            (omega arith, ap (λ m. is_key (row.what m)) same ∙ h.1, omega arith);
        whole =
            left.whole
            ∙ ap (λ x. items_onto x (tables_of f (reverse ts))) (done_some datum f d at some ∙ ap (λ x. push_item x (table (close (f at)))) (told.done at b n.0 e.1))
            ∙ ap (λ xs. items_onto (done_of datum f d b) xs) (sym turned)
            ∙ ap (λ m. items_onto (done_of datum f d m) (tables_of f (reverse new))) (sym same);
      }

  pub left_end : row.count ≤ turn → ds ≡ items_of (tables_of f (reverse ts))
  left_end end = elim (cases_eq at none) [
    | inl is ↦ left.whole ∙ ap (λ x. items_onto x (tables_of f (reverse ts))) (done_none (datum_of depth row.values) f d at is) ∙ items_from_none (tables_of f (reverse ts))
    | inr some ↦ let n = (left.near some).2 in absurd (omega arith)
  ]
