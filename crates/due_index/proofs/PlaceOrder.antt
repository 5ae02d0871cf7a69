-- For actions on the same key, the key does not matter in the order.
use Rattle.std.proofs.Common.{◌≡◌, ℕ, List, refl}
use Rattle.std.specs.declared.cmp.Ordering.TheVariants.{Equal}
use Rattle.std.specs.Ordering.{nat_cmp, ordering_then, is_lt}
use Rattle.std.specs.Cmp.{tied_itself}
use Rattle.std.proofs.lemmas.Cmp.{nat_list_cmp_total}
use Rattle.office_base.specs.Maps.{bytes_cmp}
use Rattle.due_core.specs.Choice.{kind_place, coldness, comes_before}
use Rattle.due_index.specs.Places.{candidate_of}
use Rattle.due_index.specs.declared.place.Place.{Place}

pub same_bytes : (key : List ℕ) → bytes_cmp key key ≡ Equal
same_bytes key = tied_itself nat_list_cmp_total key

pub on_one_key : (key : List ℕ) (a b : Place) → comes_before (candidate_of key a) (candidate_of key b)
    ≡ is_lt (ordering_then (nat_cmp a.since b.since) (ordering_then (nat_cmp (kind_place a.kind) (kind_place b.kind))
    (ordering_then (nat_cmp a.age b.age) (ordering_then (nat_cmp (coldness b.kind) (coldness a.kind)) (nat_cmp a.rule b.rule)))))
on_one_key key a b = rw (same_bytes key) refl
