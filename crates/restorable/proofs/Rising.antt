-- The keys of a map rise.
use Rattle.std.proofs.Common.{◌≡◌, true, List, [], ◌∷◌, refl, ap}
use Rattle.std.proofs.lemmas.Bool.{and_from}
use Rattle.std.specs.declared.cmp.Ordering.{Ordering}
use Rattle.std.specs.declared.cmp.Ordering.TheVariants.{Less}
use Rattle.std.specs.Ordering.{is_lt}
use Rattle.std.specs.List.{AllByRecursion, list_all}
use Rattle.std.specs.List.Sorted.{IsStrictlySortedBy}
use Rattle.std.specs.Map.{keys_of}
use Rattle.restorable.specs.Tests.{keys_rise}

above : {K X : Type 0} (cmp : K → K → Ordering) (k : K) (es : List (K × X)) → AllByRecursion (λ other. cmp k other ≡ Less) (keys_of es)
    → list_all (λ (other : K × X). is_lt (cmp k other.0)) es ≡ true
above cmp k [] all = refl
above cmp k (e ∷ es) all = and_from _ _ (ap is_lt all.0) (above cmp k es all.1)

pub rise_of : {K X : Type 0} (cmp : K → K → Ordering) (es : List (K × X)) → IsStrictlySortedBy cmp (keys_of es) → keys_rise cmp es ≡ true
unfolding IsStrictlySortedBy
rise_of cmp [] sorted = refl
rise_of cmp (e ∷ es) sorted = and_from _ _ (above cmp e.0 es sorted.0) (rise_of cmp es sorted.1)
