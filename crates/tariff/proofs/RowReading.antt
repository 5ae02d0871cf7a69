-- What is read from a row, as the members say it.
use Rattle.std.proofs.Common.{◌≡◌, ◌∙◌, ap, sym, subst, refl, ℕ, ◌+◌, ◌<◌, ◌&&◌, ◌||◌, Bool, true, false, cond, List, [], ◌∷◌, ◌++◌, length, get_or, drop, map, Option, Some, None, option_map, option_and_then, is_some, Result, Ok, Err, ok_or, append-nil, inl, inr, bytes_eq, Less}
use Rattle.std.proofs.lemmas.List.{drop_more}
use Rattle.std.proofs.lemmas.Bool.{cases_Bool}
use Rattle.std.proofs.lemmas.Slice.Eq.{bytes_eq-Decides}
use Rattle.toml.specs.Data.{Data, Members, no_members, member, get_member, as_table, same_key}
use Rattle.toml.specs.Tables.{Node, Nodes, no_nodes, node, get_node, close, close_node}
use Rattle.toml.proofs.NodeLaws.{same_key-self}
use Rattle.toml_rows.specs.Tables.{order, IsOrdered}
use Rattle.toml_rows.specs.Rows.{Row}
use Rattle.toml_rows.specs.Documents.{IsTable}
use Rattle.toml_rows.specs.Walking.{first_unknown, items_of}
use Rattle.toml_rows.proofs.WalkLemmas.{close_get, after_has, not_less}
use Rattle.toml_rows.proofs.NodeLemmas.{same_key-is}
use Rattle.office_base.specs.Results.{◌>>=◌}
use Rattle.office_base.proofs.Results.{joined, joined-push}
use Rattle.class_rules.specs.declared.class.Class.{Class}
use Rattle.tariff.proofs.PriceLemmas.{passed_on}
use Rattle.tariff.specs.declared.tiers.Tier.{Tier}
use Rattle.tariff.specs.declared.fault.TariffFault.{TariffFault}
use Rattle.tariff.specs.Faults.{not_toml, bad_tiers, unknown_field, TariffGives}
use Rattle.tariff.specs.declared.read.Opened.{Opened}
use Rattle.tariff.specs.declared.read.Opened.TheVariants.{Inside, Own, Missing}
use Rattle.tariff.specs.Opened.{IsOpened, is_there, tariff_in}
use Rattle.tariff.specs.Reading.{tariff_of, document_of, tier_said, tiers_said, first_other, unless_other, is_field, from_name, table_name}
use Rattle.tariff.specs.declared.fault.TariffTable.TheVariants.{Storage, Transition}

-- ---- names

-- a name is refused
pub refuse : (r : Result (Unit {0}) TariffFault) (name : List ℕ) (ms : Members) (o : Option (List ℕ)) → TariffGives (λ x. x) r (Err (unknown_field name)) → Some name ≡ o
    → TariffGives (λ _. ms) r (unless_other ms o)
refuse r name ms o h is =
    let P : Option (List ℕ) → Type 0 = λ p. TariffGives (λ (u : Unit {0}). ms) r (unless_other ms p) in
    subst P is (go r h)
  where
    go : (r : Result (Unit {0}) TariffFault) → TariffGives (λ x. x) r (Err (unknown_field name)) → TariffGives (λ (u : Unit {0}). ms) r (Err (unknown_field name))
    go (Ok x) h = absurd cc
    go (Err fault) h =
        passed_on (λ (x : Unit {0}). x) (λ (u : Unit {0}). ms) fault (Err (unknown_field name)) (Err (unknown_field name))
        (λ flaw e. let same : unknown_field name ≡ flaw = cc in ap Err same) h

-- the tests agree on all members
abbrev pub AllAgree : (List ℕ → Bool) → (List ℕ → Data → Bool) → Members → Type 0
AllAgree p q no_members = Unit {0}
AllAgree p q (member k d ms) = (p k ≡ q k d) × AllAgree p q ms

pub first_same : (p : List ℕ → Bool) (q : List ℕ → Data → Bool) (ms : Members) → AllAgree p q ms → first_unknown p ms ≡ first_other q ms
first_same p q no_members all = refl
first_same p q (member k d ms) all = rw all.0 (ap (λ o. cond (q k d) o (Some k)) (first_same p q ms all.1))

pub agree_all : (p : List ℕ → Bool) (q : List ℕ → Data → Bool) → ((k : List ℕ) (d : Data) → p k ≡ q k d) → (ms : Members) → AllAgree p q ms
agree_all p q h no_members = tt
agree_all p q h (member k d ms) = (h k d, agree_all p q h ms)

-- each node has its name among them all
agree_nodes : (p : List ℕ → Bool) (q : List ℕ → Data → Bool) (whole : Members) → ((k : List ℕ) (d : Data) → get_member k whole ≡ Some d → p k ≡ q k d)
    → (ns : Nodes) → IsOrdered ns → ((k : List ℕ) (x : Node) → get_node k ns ≡ Some x → get_member k whole ≡ Some (close_node x)) → AllAgree p q (close ns)
agree_nodes p q whole h no_nodes ordered inside = tt
agree_nodes p q whole h (node k x ns) ordered inside = (
  h k (close_node x) (inside k x (rw (same_key-self k))),
  agree_nodes p q whole h ns ordered.1 (λ l y is. inside l y (elim (cases_Bool (same_key l k)) [
    | inl same ↦
        let e : l ≡ k = same_key-is l k same in
        let less : order k l ≡ Less = after_has k l y ns ordered.0 is in
        absurd (not_less k (ap (order k) (sym e) ∙ less))
    | inr other ↦ rw other is
  ])),
)

pub agree_table : (p : List ℕ → Bool) (q : List ℕ → Data → Bool) (depth : ℕ) (row : Row) (t : ℕ) (ms : Members) → IsTable depth row t ms
    → ((k : List ℕ) (d : Data) → get_member k ms ≡ Some d → p k ≡ q k d) → AllAgree p q ms
agree_table p q depth row t ms is h =
    let holds = is.holds in
    let told = holds.told in
    let P : Members → Type 0 = λ m. AllAgree p q m in
    subst P is.members (agree_nodes p q ms h (is.tables t) (told.sorted t)
    (λ k x at. ap (get_member k) (sym is.members) ∙ close_get k (is.tables t) ∙ ap (option_map close_node) at))

-- ---- the fields of a tariff

abbrev pub known_by : Bool → Bool → List ℕ → Bool
known_by st tr k = bytes_eq k from_name || ((bytes_eq k (table_name Storage) && st) || (bytes_eq k (table_name Transition) && tr))

by_bools : (f s t st tr v : Bool) → (s ≡ true → st ≡ v) → (t ≡ true → tr ≡ v) → (f || ((s && st) || (t && tr))) ≡ (f || ((s || (t || false)) && v))
by_bools true s t st tr v h h' = refl
by_bools false true true st tr v h h' = rw (h refl, h' refl) (go v)
  where
    go : (v : Bool) → (v || v) ≡ v
    go true = refl
    go false = refl
by_bools false true false st tr v h h' = rw (h refl) (go v)
  where
    go : (v : Bool) → (v || false) ≡ v
    go true = refl
    go false = refl
by_bools false false true st tr v h h' = h' refl
by_bools false false false st tr v h h' = refl

pub field_known : (st tr : Bool) (ms : Members) → st ≡ is_some (option_and_then as_table (get_member (table_name Storage) ms)) → tr ≡ is_some (option_and_then as_table (get_member (table_name Transition) ms))
    → (k : List ℕ) (d : Data) → get_member k ms ≡ Some d → known_by st tr k ≡ is_field k d
field_known st tr ms st_is tr_is k d at =
    by_bools (bytes_eq k from_name) (bytes_eq k (table_name Storage)) (bytes_eq k (table_name Transition)) st tr (is_some (as_table d))
    (λ same. let e : k ≡ table_name Storage = (bytes_eq-Decides k (table_name Storage)).0 same in
    st_is ∙ ap (λ n. is_some (option_and_then as_table (get_member n ms))) (sym e) ∙ ap (λ o. is_some (option_and_then as_table o)) at)
    (λ same. let e : k ≡ table_name Transition = (bytes_eq-Decides k (table_name Transition)).0 same in
    tr_is ∙ ap (λ n. is_some (option_and_then as_table (get_member n ms))) (sym e) ∙ ap (λ o. is_some (option_and_then as_table o)) at)

pub same_tt : (f s t : Bool) → (f || (s || (t || false))) ≡ (f || ((s && true) || (t && true)))
same_tt true s t = refl
same_tt false true t = refl
same_tt false false true = refl
same_tt false false false = refl

pub same_tf : (f s t : Bool) → (f || (s || false)) ≡ (f || ((s && true) || (t && false)))
same_tf true s t = refl
same_tf false true t = refl
same_tf false false true = refl
same_tf false false false = refl

pub same_ft : (f s t : Bool) → (f || (t || false)) ≡ (f || ((s && false) || (t && true)))
same_ft true s t = refl
same_ft false true true = refl
same_ft false true false = refl
same_ft false false true = refl
same_ft false false false = refl

pub same_ff : (f s t : Bool) → (f || false) ≡ (f || ((s && false) || (t && false)))
same_ff true s t = refl
same_ff false true true = refl
same_ff false true false = refl
same_ff false false true = refl
same_ff false false false = refl

-- ---- the tiers of a list

module _ {E : Type 0} (f : E → Data) (class : Class) (es : List E) (i : ℕ) (d : E) (inside : i < length es) where
  said_from : tiers_said class (items_of (map f (drop i es)))
      ≡ (ok_or (tier_said (f (get_or es i d))) (bad_tiers class) >>= λ t. tiers_said class (items_of (map f (drop (i + 1) es))) >>= λ ts. Ok (t ∷ ts))
  said_from = ap (λ l. tiers_said class (items_of (map f l))) (drop_more es i d inside)

  -- a tier was read
  pub said_on : (ts : List Tier) (t : Tier) → tier_said (f (get_or es i d)) ≡ Some t
      → joined ts (tiers_said class (items_of (map f (drop i es)))) ≡ joined (ts ++ t ∷ []) (tiers_said class (items_of (map f (drop (i + 1) es))))
  said_on ts t is =
      ap (joined ts) (said_from ∙ ap (λ o. ok_or o (bad_tiers class) >>= λ t. tiers_said class (items_of (map f (drop (i + 1) es))) >>= λ ts. Ok (t ∷ ts)) is)
      ∙ joined-push ts t (tiers_said class (items_of (map f (drop (i + 1) es))))

  -- an element is no tier
  pub said_refused : (ts : List Tier) → tier_said (f (get_or es i d)) ≡ None → joined ts (tiers_said class (items_of (map f (drop i es)))) ≡ Err (bad_tiers class)
  unfolding joined
  said_refused ts is =
      ap (joined ts) (said_from ∙ ap (λ o. ok_or o (bad_tiers class) >>= λ t. tiers_said class (items_of (map f (drop (i + 1) es))) >>= λ ts. Ok (t ∷ ts)) is)

-- all were read
pub said_end : (class : Class) (ts : List Tier) → joined ts (tiers_said class (items_of [])) ≡ Ok ts
unfolding joined
said_end class ts = ap Ok (append-nil ts)

-- ---- a table that was opened

pub there_is : (row : Row) (opened : Opened) (o : Option Members) → IsOpened row opened o → is_there opened ≡ is_some o
there_is row (Inside t) o (ms, is, same) = sym (ap is_some same)
there_is row (Own keys) o (ms, is, same) = sym (ap is_some same)
there_is row (Missing keys) o (is, same) = sym (ap is_some same)

-- ---- the whole

pub tariff_is : (text : List ℕ) → tariff_of text ≡ (ok_or (document_of text) not_toml >>= tariff_in)
unfolding tariff_of
tariff_is text = refl
