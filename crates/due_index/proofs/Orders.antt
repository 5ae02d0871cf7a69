-- Comparing moment and kind as one number is the same as comparing the moments first and then the kinds.
use Rattle.std.proofs.Common.{◌≡◌, ℕ, ◌+◌, ◌*◌, ◌<◌, ◌≤◌, ◌^◌, refl, sym, Bool, true, false, arith}
use Rattle.std.specs.Prelude.{Option, Some, None}
use Rattle.std.specs.declared.cmp.Ordering.{Ordering}
use Rattle.std.specs.declared.cmp.Ordering.TheVariants.{Less, Equal, Greater}
use Rattle.std.specs.Ordering.{nat_cmp, ordering_then, is_lt}
use Rattle.std.specs.Cmp.{nat_cmp_is, ranked}
use Rattle.due_index.proofs.Chosen.{candidate_order}
use Rattle.office_base.specs.Maps.{bytes_cmp}
use Rattle.due_core.specs.Choice.{comes_before, kind_place, coldness}
use Rattle.due_core.specs.declared.action.ActionKind.{ActionKind}
use Rattle.due_core.specs.declared.action.ActionKind.TheVariants.{Remove, Transition, Marker, Abort}
use Rattle.due_core.specs.declared.action.Candidate.{Candidate}
use Rattle.due_index.specs.Tournament.{order_of, is_sooner}

pub few_kinds : (kind : ActionKind) → kind_place kind ≤ 3
few_kinds Remove = omega arith
few_kinds (Transition to) = omega arith
few_kinds Marker = omega arith
few_kinds Abort = omega arith

same_moment : (s t k l : ℕ) → k ≤ 3 → l ≤ 3 → s * 4 + k ≡ t * 4 + l → (s ≡ t) × (k ≡ l)
same_moment s t k l p q is = (omega arith, omega arith)

pub tied_orders : (a b : Candidate) → order_of (Some a) ≡ order_of (Some b)
    → comes_before a b ≡ is_lt (ordering_then (bytes_cmp a.action.key b.action.key)
    (ordering_then (nat_cmp a.age b.age) (ordering_then (nat_cmp (coldness b.action.kind) (coldness a.action.kind)) (nat_cmp a.action.rule b.action.rule))))
tied_orders a b is =
    let both = same_moment a.action.since b.action.since (kind_place a.action.kind) (kind_place b.action.kind) (few_kinds a.action.kind) (few_kinds b.action.kind) is in
    let since : nat_cmp a.action.since b.action.since ≡ Equal = sym (nat_cmp_is a.action.since b.action.since Equal both.0) in
    let kind : nat_cmp (kind_place a.action.kind) (kind_place b.action.kind) ≡ Equal = sym (nat_cmp_is (kind_place a.action.kind) (kind_place b.action.kind) Equal both.1) in
    rw since (rw kind refl)

-- ---- what stands in slots, in order

greater_by : (s t k l : ℕ) → k ≤ 3 → l ≤ 3 → s * 4 + k < t * 4 + l → (o p rest : Ordering) → o ≡ nat_cmp t s → p ≡ nat_cmp l k → is_lt (ordering_then o (ordering_then p rest)) ≡ false
greater_by s t k l hk hl less Less p rest os ps = let is = ranked t s Less os in absurd (omega arith)
greater_by s t k l hk hl less Equal Less rest os ps = let is = ranked t s Equal os in let ls = ranked l k Less ps in absurd (omega arith)
greater_by s t k l hk hl less Equal Equal rest os ps = let is = ranked t s Equal os in let ls = ranked l k Equal ps in absurd (omega arith)
greater_by s t k l hk hl less Equal Greater rest os ps = refl
greater_by s t k l hk hl less Greater p rest os ps = refl

pub less_orders : (a b : Option Candidate) → order_of b < 2 ^ 64 → order_of a < order_of b → is_sooner b a ≡ false
less_orders None None most less = refl
less_orders None (Some d) most less = absurd (omega arith)
less_orders (Some c) None most less = refl
less_orders (Some c) (Some d) most less =
    greater_by c.action.since d.action.since (kind_place c.action.kind) (kind_place d.action.kind) (few_kinds c.action.kind) (few_kinds d.action.kind) less
    (nat_cmp d.action.since c.action.since) (nat_cmp (kind_place d.action.kind) (kind_place c.action.kind))
    (ordering_then (bytes_cmp d.action.key c.action.key)
    (ordering_then (nat_cmp d.age c.age) (ordering_then (nat_cmp (coldness c.action.kind) (coldness d.action.kind)) (nat_cmp d.action.rule c.action.rule)))) refl refl

not_less : (b : Bool) → (b ≡ true → b ≡ false) → b ≡ false
not_less true h = h refl
not_less false h = refl

pub sooner_itself : (a : Option Candidate) → is_sooner a a ≡ false
sooner_itself None = refl
sooner_itself (Some c) = not_less (comes_before c c) (candidate_order.one_way c c)

pub sooner_back : (a b : Option Candidate) → is_sooner a b ≡ true → is_sooner b a ≡ false
sooner_back None b is = absurd cc
sooner_back (Some c) None is = refl
sooner_back (Some c) (Some d) is = candidate_order.one_way c d is

pub sooner_chain : (a b c : Option Candidate) → is_sooner a b ≡ false → is_sooner b c ≡ false → is_sooner a c ≡ false
sooner_chain None b c h k = refl
sooner_chain (Some x) None c h k = absurd cc
sooner_chain (Some x) (Some y) None h k = absurd cc
sooner_chain (Some x) (Some y) (Some z) h k = candidate_order.chain x y z h k
