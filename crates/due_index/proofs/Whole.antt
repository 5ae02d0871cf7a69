-- The keys of a map are in ascending order.
use Rattle.std.proofs.Common.{◌≡◌, List, [], ◌∷◌, ap}
use Rattle.std.specs.Bool.{IsTrue}
use Rattle.std.specs.declared.cmp.Ordering.{Ordering}
use Rattle.std.specs.declared.cmp.Ordering.TheVariants.{Less}
use Rattle.std.specs.Ordering.{is_lt}
use Rattle.std.specs.List.{AllByRecursion}
use Rattle.std.specs.List.Sorted.{IsStrictlySortedBy}
use Rattle.std.specs.Map.{keys_of}
use Rattle.office_base.specs.Maps.{Rises}

above : {K X : Type 0} (cmp : K → K → Ordering) (k : K) (es : List (K × X)) → AllByRecursion (λ other. cmp k other ≡ Less) (keys_of es)
    → AllByRecursion (λ (other : K × X). IsTrue (is_lt (cmp k other.0))) es
above cmp k [] all = tt
above cmp k (e ∷ es) all = (ap is_lt all.0, above cmp k es all.1)

pub rises_of : {K X : Type 0} (cmp : K → K → Ordering) (es : List (K × X)) → IsStrictlySortedBy cmp (keys_of es) → Rises cmp es
unfolding IsStrictlySortedBy
rises_of cmp [] sorted = tt
rises_of cmp (e ∷ es) sorted = (above cmp e.0 es sorted.0, rises_of cmp es sorted.1)
