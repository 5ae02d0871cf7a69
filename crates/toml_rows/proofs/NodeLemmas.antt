-- Nodes at other keys than the one that is changed.
use Rattle.std.proofs.Common.{◌≡◌, ℕ, Bool, true, false, cond, List, Some, Ordering, Less, Equal, Greater, nat_cmp, is_eq, refl, sym, ap, ◌∙◌, inl, inr, ◌⊎◌}
use Rattle.std.proofs.lemmas.Bool.{cases_Bool, true≢false}
use Rattle.std.proofs.lemmas.Map.Text.{is_eq-slice_cmp}
use Rattle.std.proofs.lemmas.Slice.Eq.{bytes_eq-Decides}
use Rattle.std.specs.Cmp.Lexicographic.{slice_cmp}
use Rattle.std.specs.Ordering.{match_ordering}
use Rattle.toml.specs.Data.{same_key}
use Rattle.toml.specs.Tables.{Node, Nodes, no_nodes, node, get_node, insert, replace}
use Rattle.toml.proofs.NodeLaws.{same_key-self}
use Rattle.std.proofs.lemmas.Cmp.{nat_list_cmp_total}
use Rattle.std.specs.Ordering.{ordering_reverse}
use Rattle.toml_rows.specs.Tables.{order, AreAfter, IsOrdered}

-- keys with the same bytes are one
pub same_key-is : (k l : List ℕ) → same_key k l ≡ true → k ≡ l
same_key-is k l h = (bytes_eq-Decides k l).0 (sym (is_eq-slice_cmp k l) ∙ h)

pub same_key-not : (k l : List ℕ) → ¬ (k ≡ l) → same_key k l ≡ false
same_key-not k l h = elim (cases_Bool (same_key k l)) [ inl same ↦ absurd (h (same_key-is k l same)) | inr other ↦ other ]

pub same_or_not : (k l : List ℕ) → (k ≡ l) ⊎ ¬ (k ≡ l)
same_or_not k l = elim (cases_Bool (same_key k l)) [
  | inl same ↦ inl (same_key-is k l same)
  | inr other ↦ inr (λ e. let both : same_key l l ≡ false = rw e at other in absurd (true≢false (sym (same_key-self l) ∙ both)))
]

-- another key is not changed by a write
pub get_node-replace_other : (k l : List ℕ) (y : Node) (ns : Nodes) → ¬ (l ≡ k) → get_node l (replace k y ns) ≡ get_node l ns
get_node-replace_other k l y no_nodes other = refl
get_node-replace_other k l y (node m z ns) other =
    elim (cases_Bool (same_key k m)) [
      | inl same ↦
          let apart : same_key l m ≡ false = same_key-not l m (λ e. other (e ∙ sym (same_key-is k m same))) in
          rw (same, apart)
      | inr not ↦ rw not (ap (λ o. cond (same_key l m) (Some z) o) (get_node-replace_other k l y ns other))
    ]

by_order : (o : Ordering) (l : List ℕ) (k m : List ℕ) (x y : Node) (ns : Nodes) → slice_cmp nat_cmp k m ≡ o → ¬ (l ≡ k)
    → get_node l (insert k x ns) ≡ get_node l ns
    → get_node l (match_ordering o (node k x (node m y ns)) (node m x ns) (node m y (insert k x ns))) ≡ get_node l (node m y ns)
by_order Less l k m x y ns is other more = let apart = same_key-not l k other in rw apart
by_order Equal l k m x y ns is other more =
    let same : k ≡ m = same_key-is k m (ap is_eq is) in
    let apart : same_key l m ≡ false = same_key-not l m (λ e. other (e ∙ sym same)) in
    rw apart
by_order Greater l k m x y ns is other more = ap (λ o. cond (same_key l m) (Some y) o) more

pub get_node-insert_other : (k l : List ℕ) (x : Node) (ns : Nodes) → ¬ (l ≡ k) → get_node l (insert k x ns) ≡ get_node l ns
get_node-insert_other k l x no_nodes other = let apart = same_key-not l k other in rw apart
get_node-insert_other k l x (node m y ns) other =
    by_order (slice_cmp nat_cmp k m) l k m x y ns refl other (get_node-insert_other k l x ns other)

-- ---- the order of keys

after_earlier : (name k : List ℕ) (ns : Nodes) → order name k ≡ Less → AreAfter k ns → AreAfter name ns
after_earlier name k no_nodes less after = tt
after_earlier name k (node l x ns) less after = (nat_list_cmp_total.trans name k l less after.0, after_earlier name k ns less after.1)

order_back : (a b : List ℕ) → order a b ≡ Greater → order b a ≡ Less
order_back a b is = nat_list_cmp_total.antisymm b a ∙ ap ordering_reverse is

after_insert : (name k : List ℕ) (x : Node) (ns : Nodes) → order name k ≡ Less → AreAfter name ns → AreAfter name (insert k x ns)
after_insert name k x no_nodes less after = (less, tt)
after_insert name k x (node l y ns) less after = go (order k l) (after_insert name k x ns less after.1)
  where
    go : (o : Ordering) → AreAfter name (insert k x ns) → AreAfter name (match_ordering o (node k x (node l y ns)) (node l x ns) (node l y (insert k x ns)))
    go Less more = (less, after)
    go Equal more = after
    go Greater more = (after.0, more)

pub ordered-insert : (k : List ℕ) (x : Node) (ns : Nodes) → IsOrdered ns → IsOrdered (insert k x ns)
ordered-insert k x no_nodes all = (tt, tt)
ordered-insert k x (node l y ns) all = go (order k l) refl (ordered-insert k x ns all.1)
  where
    go : (o : Ordering) → order k l ≡ o → IsOrdered (insert k x ns) → IsOrdered (match_ordering o (node k x (node l y ns)) (node l x ns) (node l y (insert k x ns)))
    go Less is more = ((is, after_earlier k l ns is all.0), all)
    go Equal is more = all
    go Greater is more = (after_insert l k x ns (order_back k l is) all.0, more)

after_replace : (name k : List ℕ) (x : Node) (ns : Nodes) → AreAfter name ns → AreAfter name (replace k x ns)
after_replace name k x no_nodes after = tt
after_replace name k x (node l y ns) after = go (same_key k l) (after_replace name k x ns after.1)
  where
    go : (b : Bool) → AreAfter name (replace k x ns) → AreAfter name (cond b (node l x ns) (node l y (replace k x ns)))
    go true more = after
    go false more = (after.0, more)

pub ordered-replace : (k : List ℕ) (x : Node) (ns : Nodes) → IsOrdered ns → IsOrdered (replace k x ns)
ordered-replace k x no_nodes all = tt
ordered-replace k x (node l y ns) all = go (same_key k l) (ordered-replace k x ns all.1)
  where
    go : (b : Bool) → IsOrdered (replace k x ns) → IsOrdered (cond b (node l x ns) (node l y (replace k x ns)))
    go true more = all
    go false more = (after_replace l k x ns all.0, more)
