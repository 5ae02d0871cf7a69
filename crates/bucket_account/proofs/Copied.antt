-- A map filled in the rising order of its keys.
use Rattle.std.proofs.Common.{◌≡◌, List, [], ◌∷◌, ◌++◌, refl, ap, sym, ◌∙◌, subst, append_assoc}
use Rattle.std.specs.declared.cmp.Ordering.{Ordering}
use Rattle.std.specs.declared.cmp.Ordering.TheVariants.{Greater}
use Rattle.std.specs.Bool.{IsTrue}
use Rattle.std.specs.Ordering.{is_lt, ordering_reverse, match_ordering}
use Rattle.std.specs.List.{AllByRecursion}
use Rattle.std.specs.BTreeMap.{insert_entry}
use Rattle.std.proofs.lemmas.List.{append-nil}
use Rattle.office_base.specs.Maps.{Rises}
use Rattle.office_laws.proofs.Lists.{every_parts}
use Rattle.office_laws.proofs.Maps.{IsKeyOrder, less_of}

module _ {K X : Type 0} {cmp : K → K → Ordering} (ko : IsKeyOrder cmp) where
  abbrev IsBelow : K → List (K × X) → Type 0
  IsBelow key es = AllByRecursion (λ (e : K × X). IsTrue (is_lt (cmp e.0 key))) es

  pub all_below : (es : List (K × X)) (x : K × X) (rest : List (K × X)) → Rises cmp (es ++ x ∷ rest) → IsBelow x.0 es
  all_below [] x rest rises = tt
  all_below (e ∷ es) x rest rises =
      ((every_parts (λ (other : K × X). IsTrue (is_lt (cmp e.0 other.0))) es (x ∷ rest) rises.0).1.0, all_below es x rest rises.1)

  -- a key after all others comes to the end
  pub last_inserted : (es : List (K × X)) (key : K) (value : X) → IsBelow key es → insert_entry cmp es key value ≡ es ++ (key, value) ∷ []
  last_inserted [] key value below = refl
  last_inserted (e ∷ es) key value below =
      let above : cmp key e.0 ≡ Greater = ko.order.antisymm key e.0 ∙ ap ordering_reverse (less_of (cmp e.0 key) below.0) in
      let more = last_inserted es key value below.1 in
      ap (λ (o : Ordering). match_ordering o ((key, value) ∷ e ∷ es) ((e.0, value) ∷ es) (e ∷ insert_entry cmp es key value)) above
      ∙ ap (λ (l : List (K × X)). e ∷ l) more

  -- the copies so far, with those that are left after them, are all
  pub copied_more : (all copies new left : List (K × X)) (x : K × X) (rest : List (K × X)) → Rises cmp all → copies ++ left ≡ all → left ≡ x ∷ rest
      → new ≡ insert_entry cmp copies x.0 x.1 → new ++ rest ≡ all
  copied_more all copies new left x rest rises so_far is written =
      let whole : copies ++ x ∷ rest ≡ all = ap (λ (l : List (K × X)). copies ++ l) (sym is) ∙ so_far in
      let below = all_below copies x rest (subst (λ (l : List (K × X)). Rises cmp l) (sym whole) rises) in
      ap (λ (l : List (K × X)). l ++ rest) (written ∙ last_inserted copies x.0 x.1 below) ∙ append_assoc copies (x ∷ []) rest ∙ whole

  pub copied_all : (all copies left : List (K × X)) → copies ++ left ≡ all → left ≡ [] → copies ≡ all
  copied_all all copies left so_far is = sym (append-nil copies) ∙ ap (λ (l : List (K × X)). copies ++ l) (sym is) ∙ so_far
