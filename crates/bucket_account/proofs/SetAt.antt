-- A value set in its place in a map.
use Rattle.std.proofs.Common.{◌≡◌, ℕ, List, [], ◌∷◌, refl, ap, ◌∙◌, cond}
use Rattle.std.specs.Prelude.{Some}
use Rattle.std.specs.Bool.{IsTrue}
use Rattle.std.specs.declared.cmp.Ordering.{Ordering}
use Rattle.std.specs.declared.cmp.Ordering.TheVariants.{Less, Equal, Greater}
use Rattle.std.specs.Ordering.{nat_cmp, match_ordering, is_eq, is_lt, ordering_reverse}
use Rattle.std.specs.Map.{lookup, set_value}
use Rattle.std.specs.BTreeMap.{is_at, insert_entry}
use Rattle.office_base.specs.Maps.{bytes_cmp, at_name, with_name, at_number, with_number, Rises}
use Rattle.office_laws.proofs.Lists.{held_every}
use Rattle.office_laws.proofs.Maps.{IsKeyOrder, by_name, by_number, found, less_of}

-- ---- a value set in its place is the value written under the key

module _ {K X : Type 0} {cmp : K → K → Ordering} (ko : IsKeyOrder cmp) (key : K) (value old : X) where
  not_above : (e : K × X) (es : List (K × X)) → cmp key e.0 ≡ Less → Rises cmp (e ∷ es) → lookup (is_at (cmp key)) es ≡ Some old → ⊥
  not_above e es is rises h =
      let lower = less_of (cmp e.0 key) (held_every (key, old) es (found ko key old es h) (λ (other : K × X). IsTrue (is_lt (cmp e.0 other.0))) rises.0) in
      let turned : cmp key e.0 ≡ ordering_reverse (cmp e.0 key) = ko.order.antisymm key e.0 in
      let greater : cmp key e.0 ≡ Greater = turned ∙ ap ordering_reverse lower in
      absurd cc

  set_at : (o : Ordering) (e : K × X) (es set rest : List (K × X)) → cmp key e.0 ≡ o → Rises cmp (e ∷ es) → cond (is_eq o) (Some e.1) (lookup (is_at (cmp key)) es) ≡ Some old
      → (lookup (is_at (cmp key)) es ≡ Some old → set ≡ rest)
      → cond (is_eq o) ((e.0, value) ∷ es) (e ∷ set) ≡ match_ordering o ((key, value) ∷ e ∷ es) ((e.0, value) ∷ es) (e ∷ rest)
  set_at Less e es set rest is rises h more = absurd (not_above e es is rises h)
  set_at Equal e es set rest is rises h more = refl
  set_at Greater e es set rest is rises h more = ap (λ (l : List (K × X)). e ∷ l) (more h)

  set_is_written : (es : List (K × X)) → Rises cmp es → lookup (is_at (cmp key)) es ≡ Some old → set_value (is_at (cmp key)) es value ≡ insert_entry cmp es key value
  set_is_written [] rises h = absurd cc
  set_is_written (e ∷ es) rises h = set_at (cmp key e.0) e es _ _ refl rises h (set_is_written es rises.1)

pub set_is_with : {X : Type 0} (name : List ℕ) (value old : X) (es : List (List ℕ × X)) → Rises bytes_cmp es
    → at_name name es ≡ Some old → set_value (is_at (bytes_cmp name)) es value ≡ with_name name value es
set_is_with name value old es rises h = set_is_written by_name name value old es rises h

pub set_is_with_number : {X : Type 0} (number : ℕ) (value old : X) (es : List (ℕ × X)) → Rises nat_cmp es
    → at_number number es ≡ Some old → set_value (is_at (nat_cmp number)) es value ≡ with_number number value es
set_is_with_number number value old es rises h = set_is_written by_number number value old es rises h
