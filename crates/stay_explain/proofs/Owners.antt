-- Owners are compared by their keys' bytes, and then by their items: two that compare equal are the same.
use Rattle.std.proofs.Common.{◌≡◌, refl, ap, sym, true}
use Rattle.std.specs.declared.cmp.Ordering.{Ordering}
use Rattle.std.specs.declared.cmp.Ord.Ghosts.{cmp}
use Rattle.std.specs.Ordering.{is_eq, nat_cmp}
use Rattle.std.specs.Cmp.Lexicographic.{slice_cmp}
use Rattle.std.specs.BTreeMap.{is_at}
use Rattle.std.proofs.lemmas.Cmp.{tied_itself}
use Rattle.std.proofs.lemmas.Map.Lookups.{CmpEqualImpliesEq, exact_unsigned, exact_bytes, exact_pairs}
use Rattle.office_laws.proofs.Maps.{equal_of}
use Rattle.stay_explain.specs.declared.row.Item.{Item}
use Rattle.stay_explain.specs.declared.row.Item.TheVariants.{Null, Number, Part}
use Rattle.stay_explain.specs.declared.row.Owner.{Owner}
use Rattle.stay_explain.specs.contracts.row.OwnerOrd.TheImpl as owner_order
use Rattle.stay_explain.specs.contracts.row.ItemOrd.TheImpl as item_order
use denote.Param.{read}

abbrev pub item_cmp : Item → Item → Ordering
item_cmp = read cmp item_order.ghosts

abbrev pub owner_cmp : Owner → Owner → Ordering
owner_cmp = read cmp owner_order.ghosts

item_exact : CmpEqualImpliesEq item_cmp
item_exact Null Null h = refl
item_exact Null (Number n) h = absurd cc
item_exact Null (Part u p) h = absurd cc
item_exact (Number m) Null h = absurd cc
item_exact (Number m) (Number n) h = ap Number (exact_unsigned m n h)
item_exact (Number m) (Part u p) h = absurd cc
item_exact (Part v q) Null h = absurd cc
item_exact (Part v q) (Number n) h = absurd cc
item_exact (Part v q) (Part u p) h =
    let e : (v, q) ≡ (u, p) = exact_pairs nat_cmp nat_cmp exact_unsigned exact_unsigned (v, q) (u, p) h in
    λ i. Part (e i).0 (e i).1

owner_exact : CmpEqualImpliesEq owner_cmp
owner_exact a b h =
    let e : (a.key, a.item) ≡ (b.key, b.item) = exact_pairs (slice_cmp nat_cmp) item_cmp exact_bytes item_exact (a.key, a.item) (b.key, b.item) h in
    λ i. record { key = (e i).0; item = (e i).1 }

-- the owner that is searched, and no other
pub owner_is : (owner other : Owner) → is_at (owner_cmp owner) other ≡ true → other ≡ owner
owner_is owner other h = sym (owner_exact owner other (equal_of (owner_cmp owner other) h))

pub owner_itself : (owner : Owner) → is_at (owner_cmp owner) owner ≡ true
owner_itself owner = ap is_eq (tied_itself owner_order.Laws.total-law owner)
