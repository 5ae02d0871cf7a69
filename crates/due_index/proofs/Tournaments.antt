-- How a tournament is brought up to date, node by node from a leaf to the root.
use Rattle.std.proofs.Common.{◌≡◌, ℕ, ◌+◌, ◌-◌, ◌*◌, ◌/◌, ◌<◌, ◌≤◌, ◌⊎◌, inl, inr, List, [], ◌∷◌, ◌++◌, length, get_or, set, length-append, refl, sym, ap, ◌∙◌, subst, false, arith, zero, suc}
use Rattle.std.specs.Prelude.{Option, Some, None}
use Rattle.std.proofs.lemmas.List.{length-set, get_or-set_same, get_or-set_other, get_or_append_left}
use Rattle.std.specs.declared.cmp.Ordering.{Ordering}
use Rattle.std.specs.declared.cmp.Ordering.TheVariants.{Less, Equal, Greater}
use Rattle.std.specs.Ordering.{nat_cmp}
use Rattle.std.specs.Cmp.{ranked}
use Rattle.due_core.specs.declared.action.Candidate.{Candidate}
use Rattle.std.specs.Prelude.{slice_get, IsSome}
use Rattle.std.proofs.lemmas.Option.{slice_get_within, slice_get-get_or, slice_get_past}
use Rattle.due_index.specs.Queue.{slot_at, held_in, IsHead, IsPut}
use Rattle.due_index.specs.Tournament.{is_sooner, won_by, IsExact, IsNotAfter, IsWinner, IsTournament, IsTournamentOff, IsOnPath, halved, order_of, HasLeaves}
use Rattle.due_index.specs.declared.tournament.Node.{Node}
use Rattle.due_index.proofs.Orders.{sooner_chain, sooner_itself}

half_le : (i : ℕ) → i / 2 ≤ i
half_le i = omega arith

pub halved_le : (m i : ℕ) → halved m i ≤ i
halved_le zero i = omega arith
halved_le (suc m) i = let below = halved_le m (i / 2) in let less = half_le i in omega arith

pub path_le : (k i : ℕ) → IsOnPath k i → k ≤ i
path_le k i (m, is) = let below = halved_le m i in omega arith

pub path_up : (k i : ℕ) → IsOnPath k (i / 2) → IsOnPath k i
path_up k i (m, is) = (suc m, is)

pub path_split : (k i : ℕ) → IsOnPath k i → (k ≡ i) ⊎ IsOnPath k (i / 2)
path_split k i (zero, is) = inl is
path_split k i (suc m, is) = inr (m, is)

halved_half : (m i : ℕ) → halved m (i / 2) ≡ halved m i / 2
halved_half zero i = refl
halved_half (suc m) i = halved_half m (i / 2)

pub path_parent : (k j i : ℕ) → k ≡ j / 2 → IsOnPath j i → IsOnPath k i
path_parent k j i half (m, is) = (suc m, half ∙ ap (λ n. n / 2) is ∙ sym (halved_half m i))

decide_by : (k i : ℕ) (o : Ordering) → o ≡ nat_cmp k i → (k ≡ i) ⊎ (k ≡ i → ⊥)
decide_by k i Less is = let less = ranked k i Less is in inr (λ e. omega arith)
decide_by k i Equal is = inl (ranked k i Equal is)
decide_by k i Greater is = let more = ranked k i Greater is in inr (λ e. omega arith)

pub decide : (k i : ℕ) → (k ≡ i) ⊎ (k ≡ i → ⊥)
decide k i = decide_by k i (nat_cmp k i) refl

-- inside a list the default doesn't matter
pub any_default : {X : Type 0} (xs : List X) (k : ℕ) (d e : X) → k < length xs → get_or xs k d ≡ get_or xs k e
any_default [] k d e h = absurd (omega arith)
any_default (x ∷ xs) zero d e h = refl
any_default (x ∷ xs) (suc k) d e h = any_default xs k d e (omega arith)

-- one node is written
module _ (slots : List (Option Candidate)) (nodes : List Node) (at : ℕ) (v : Node) (off : IsTournamentOff slots nodes at)
    (from_one : 1 ≤ at) (within : at < length nodes) (exact : IsExact slots v) (under_at : IsOnPath at (off.half + v.slot)) where
  abbrev after : List Node
  after = set nodes at v

  here : (d : Node) → get_or after at d ≡ v
  here d = get_or-set_same nodes at v d within

  there : (k : ℕ) (d : Node) → (k ≡ at → ⊥) → get_or after k d ≡ get_or nodes k d
  there k d apart = get_or-set_other nodes at k v d apart

  below_by : (k : ℕ) (d : Node) → 1 ≤ k → k < 2 * off.half → (k ≡ at) ⊎ (k ≡ at → ⊥) → IsOnPath k (off.half + (get_or after k d).slot)
  below_by k d one less (inl is) = subst (λ n. IsOnPath n (off.half + (get_or after n d).slot)) (sym is) (subst (λ (n : Node). IsOnPath at (off.half + n.slot)) (sym (here d)) under_at)
  below_by k d one less (inr apart) = subst (λ (n : Node). IsOnPath k (off.half + n.slot)) (sym (there k d apart)) (off.below k d one less)

  not_on : (k : ℕ) → (k ≡ at → ⊥) → (IsOnPath k (at / 2) → ⊥) → IsOnPath k at → ⊥
  not_on k apart above on = elim (path_split k at on) [ inl is ↦ apart is | inr up ↦ above up ]

  exact_by : (k : ℕ) (d : Node) → 1 ≤ k → k < 2 * off.half → (IsOnPath k (at / 2) → ⊥) → (k ≡ at) ⊎ (k ≡ at → ⊥) → IsExact slots (get_or after k d)
  exact_by k d one less above (inl is) = subst (λ n. IsExact slots (get_or after n d)) (sym is) (subst (λ n. IsExact slots n) (sym (here d)) exact)
  exact_by k d one less above (inr apart) =
      subst (λ n. IsExact slots n) (sym (there k d apart)) (off.exact k d one less (not_on k apart above))

  moved : (a b c d : Node) → c ≡ a → d ≡ b → IsNotAfter slots a b → IsNotAfter slots c d
  moved a b c d ca db h = subst (λ n. IsNotAfter slots n d) (sym ca) (subst (λ n. IsNotAfter slots a n) (sym db) h)

  winner_there : (k : ℕ) → (k ≡ at → ⊥) → (IsOnPath k (at / 2) → ⊥) → IsWinner slots nodes k → IsWinner slots after k
  winner_there k apart above h d = (
    moved (get_or nodes k d) (get_or nodes (2 * k) d) (get_or after k d) (get_or after (2 * k) d) (there k d apart)
        (there (2 * k) d (λ is. above (0, omega arith))) (h d).0,
    moved (get_or nodes k d) (get_or nodes (2 * k + 1) d) (get_or after k d) (get_or after (2 * k + 1) d) (there k d apart)
        (there (2 * k + 1) d (λ is. above (0, omega arith))) (h d).1,
  )

  winner_here : (e : Node) → 2 * at + 1 < length nodes → IsNotAfter slots v (get_or nodes (2 * at) e) → IsNotAfter slots v (get_or nodes (2 * at + 1) e) → IsWinner slots after at
  winner_here e inside first second d = (
    moved v (get_or nodes (2 * at) e) (get_or after at d) (get_or after (2 * at) d) (here d)
        (there (2 * at) d (λ is. omega arith) ∙ any_default nodes (2 * at) d e (omega arith)) first,
    moved v (get_or nodes (2 * at + 1) e) (get_or after at d) (get_or after (2 * at + 1) d) (here d)
        (there (2 * at + 1) d (λ is. omega arith) ∙ any_default nodes (2 * at + 1) d e (omega arith)) second,
  )

  -- a leaf
  pub with_leaf : (slot : ℕ) → at ≡ off.half + slot → v.slot ≡ slot → IsTournamentOff slots after (at / 2)
  with_leaf slot is own = record {
    half = off.half;
    size = length-set nodes at v ∙ off.size;
    fits = off.fits;
    leaves = λ i d less. elim (decide (off.half + i) at) [
      | inl same ↦ ap (λ (n : Node). n.slot) (ap (λ k. get_or after k d) same ∙ here d) ∙ own ∙ omega arith
      | inr apart ↦ ap (λ (n : Node). n.slot) (there (off.half + i) d apart) ∙ off.leaves i d less
    ];
    exact = λ k d one less above. exact_by k d one less above (decide k at);
    winners = λ k one less above. winner_there k (λ same. omega arith) above (off.winners k one less (not_on k (λ same. omega arith) above));
    below = λ k d one less. below_by k d one less (decide k at);
  }

  -- a node above two others
  pub with_winner : (e : Node) → at < off.half → IsNotAfter slots v (get_or nodes (2 * at) e) → IsNotAfter slots v (get_or nodes (2 * at + 1) e) → IsTournamentOff slots after (at / 2)
  with_winner e inner first second = record {
    half = off.half;
    size = length-set nodes at v ∙ off.size;
    fits = off.fits;
    leaves = λ i d less. ap (λ (n : Node). n.slot) (there (off.half + i) d (λ same. omega arith)) ∙ off.leaves i d less;
    exact = λ k d one less above. exact_by k d one less above (decide k at);
    winners = λ k one less above. elim (decide k at) [
      | inl same ↦ subst (λ n. IsWinner slots after n) (sym same) (winner_here e (let size = off.size in omega arith) first second)
      | inr apart ↦ winner_there k apart above (off.winners k one less (not_on k apart above))
    ];
    below = λ k d one less. below_by k d one less (decide k at);
  }

-- once the root is written
pub whole_at_root : (slots : List (Option Candidate)) (nodes : List Node) (i : ℕ) → i ≤ 1 → IsTournamentOff slots nodes (i / 2) → IsTournament slots nodes
whole_at_root slots nodes i one off = record {
  half = off.half;
  size = off.size;
  fits = off.fits;
  leaves = off.leaves;
  exact = λ k d some less. off.exact k d some less (λ on. let le = path_le k (i / 2) on in omega arith);
  winners = λ k some less. off.winners k some less (λ on. let le = path_le k (i / 2) on in omega arith);
  below = off.below;
}

-- ---- the tournament has its first action at the node 1

module _ (slots : List (Option Candidate)) (nodes : List Node) (whole : IsTournament slots nodes) where
  under : (i p : ℕ) (d : Node) → p ≡ i / 2 → (i ≡ 2 * p) ⊎ (i ≡ 2 * p → ⊥) → IsWinner slots nodes p → IsNotAfter slots (get_or nodes p d) (get_or nodes i d)
  under i p d is (inl even) h = subst (λ n. IsNotAfter slots (get_or nodes p d) (get_or nodes n d)) (sym even) (h d).0
  under i p d is (inr odd) h =
      let next : i ≡ 2 * p + 1 = omega arith in subst (λ n. IsNotAfter slots (get_or nodes p d) (get_or nodes n d)) (sym next) (h d).1

  root_by : (fuel i : ℕ) (d : Node) → i ≤ suc fuel → 1 ≤ i → i < 2 * whole.half
      → ((p : ℕ) → p ≤ fuel → 1 ≤ p → p < 2 * whole.half → IsNotAfter slots (get_or nodes 1 d) (get_or nodes p d))
      → (i ≡ 1) ⊎ (i ≡ 1 → ⊥) → IsNotAfter slots (get_or nodes 1 d) (get_or nodes i d)
  root_by fuel i d le one less rest (inl is) =
      subst (λ n. IsNotAfter slots (get_or nodes 1 d) (get_or nodes n d)) (sym is) (sooner_itself (won_by slots (get_or nodes 1 d)))
  root_by fuel i d le one less rest (inr apart) =
      let up = rest (i / 2) (omega arith) (omega arith) (omega arith) in
      let down = under i (i / 2) d refl (decide i (2 * (i / 2))) (whole.winners (i / 2) (omega arith) (omega arith)) in
      sooner_chain (won_by slots (get_or nodes i d)) (won_by slots (get_or nodes (i / 2) d)) (won_by slots (get_or nodes 1 d)) down up

  root_first : (fuel i : ℕ) (d : Node) → i ≤ fuel → 1 ≤ i → i < 2 * whole.half → IsNotAfter slots (get_or nodes 1 d) (get_or nodes i d)
  root_first zero i d le one less = absurd (omega arith)
  root_first (suc fuel) i d le one less =
      root_by fuel i d le one less (λ p a b c. root_first fuel p d a b c) (decide i 1)

  leaf_first : (slot : ℕ) (c : Candidate) (d : Node) → slot < length slots → slot_at slot slots ≡ Some c → is_sooner (Some c) (won_by slots (get_or nodes 1 d)) ≡ false
  leaf_first slot c d less is =
      let fits = whole.fits in
      let at = whole.half + slot in
      let first = root_first at at d (omega arith) (omega arith) (omega arith) in
      let held : won_by slots (get_or nodes at d) ≡ Some c = ap (λ n. slot_at n slots) (whole.leaves slot d (omega arith)) ∙ is in
      subst (λ o. is_sooner o (won_by slots (get_or nodes 1 d)) ≡ false) held first

  head_by : (d : Node) (o : Option Candidate) → won_by slots (get_or nodes 1 d) ≡ o
      → ((slot : ℕ) (c : Candidate) → slot_at slot slots ≡ Some c → slot < length slots) → IsHead slots o
  head_by d None is inside = λ slot c held.
      let first = leaf_first slot c d (inside slot c held) held in
      let no_less : is_sooner (Some c) None ≡ false = subst (λ o. is_sooner (Some c) o ≡ false) is first in absurd cc
  head_by d (Some h) is inside = (
    ((get_or nodes 1 d).slot, is),
    λ slot c held.
        let first = leaf_first slot c d (inside slot c held) held in
        subst (λ o. is_sooner (Some c) o ≡ false) is first,
  )

-- ---- the tournament is made from its leaves up

-- the nodes from this one on are right
pub record IsTournamentFrom (slots : List (Option Candidate)) (nodes : List Node) (half from : ℕ) : Type 0 where
  pub size : length nodes ≡ 2 * half
  pub leaves : (i : ℕ) (d : Node) → i < half → (get_or nodes (half + i) d).slot ≡ i
  pub exact : (i : ℕ) (d : Node) → from ≤ i → i < 2 * half → IsExact slots (get_or nodes i d)
  pub winners : (i : ℕ) → from ≤ i → i < half → IsWinner slots nodes i
  pub below : (i : ℕ) (d : Node) → from ≤ i → i < 2 * half → IsOnPath i (half + (get_or nodes i d).slot)

pub from_leaves : (slots : List (Option Candidate)) (nodes : List Node) (half : ℕ) → HasLeaves slots nodes half → IsTournamentFrom slots nodes half half
from_leaves slots nodes half h = record {
  size = h.size;
  leaves = h.leaves;
  exact = λ i d le less. subst (λ k. IsExact slots (get_or nodes k d)) (let same : half + (i - half) ≡ i = omega arith in same) (h.exact (i - half) d (omega arith));
  winners = λ i le less. absurd (omega arith);
  below = λ i d le less. (
    0,
    let slot = h.leaves (i - half) d (omega arith) in
        let same : half + (i - half) ≡ i = omega arith in
        let here : (get_or nodes i d).slot ≡ i - half = subst (λ k. (get_or nodes k d).slot ≡ i - half) same slot in omega arith,
  );
}

module _ (slots : List (Option Candidate)) (nodes : List Node) (half at : ℕ) (v e : Node) (h : IsTournamentFrom slots nodes half (at + 1))
    (inner : at < half) (some : 1 ≤ at) (exact : IsExact slots v)
    (first : IsNotAfter slots v (get_or nodes (2 * at) e)) (second : IsNotAfter slots v (get_or nodes (2 * at + 1) e))
    (under_at : IsOnPath at (half + v.slot)) where
  there_too : (k : ℕ) (d : Node) → (k ≡ at → ⊥) → get_or (set nodes at v) k d ≡ get_or nodes k d
  there_too k d apart = get_or-set_other nodes at k v d apart

  here_now : (d : Node) → get_or (set nodes at v) at d ≡ v
  here_now d = let size = h.size in get_or-set_same nodes at v d (omega arith)

  both : (a b c d : Node) → c ≡ a → d ≡ b → IsNotAfter slots a b → IsNotAfter slots c d
  both a b c d ca db k = subst (λ n. IsNotAfter slots n d) (sym ca) (subst (λ n. IsNotAfter slots a n) (sym db) k)

  pub one_more : IsTournamentFrom slots (set nodes at v) half at
  one_more = record {
    size = length-set nodes at v ∙ h.size;
    leaves = λ i d less. ap (λ (n : Node). n.slot) (there_too (half + i) d (λ same. omega arith)) ∙ h.leaves i d less;
    exact = λ i d le less. elim (decide i at) [
      | inl same ↦ subst (λ k. IsExact slots (get_or (set nodes at v) k d)) (sym same) (subst (λ n. IsExact slots n) (sym (here_now d)) exact)
      | inr apart ↦ subst (λ n. IsExact slots n) (sym (there_too i d apart)) (h.exact i d (omega arith) less)
    ];
    winners = λ i le less. elim (decide i at) [
      | inl same ↦ let size = h.size in subst (λ k. IsWinner slots (set nodes at v) k) (sym same) (λ d. (
        both v (get_or nodes (2 * at) e) (get_or (set nodes at v) at d) (get_or (set nodes at v) (2 * at) d) (here_now d)
            (there_too (2 * at) d (λ k. omega arith) ∙ any_default nodes (2 * at) d e (omega arith)) first,
        both v (get_or nodes (2 * at + 1) e) (get_or (set nodes at v) at d) (get_or (set nodes at v) (2 * at + 1) d) (here_now d)
            (there_too (2 * at + 1) d (λ k. omega arith) ∙ any_default nodes (2 * at + 1) d e (omega arith)) second,
      ))
      | inr apart ↦ λ d. (
        both (get_or nodes i d) (get_or nodes (2 * i) d) (get_or (set nodes at v) i d) (get_or (set nodes at v) (2 * i) d) (there_too i d apart)
            (there_too (2 * i) d (λ k. omega arith)) (h.winners i (omega arith) less d).0,
        both (get_or nodes i d) (get_or nodes (2 * i + 1) d) (get_or (set nodes at v) i d) (get_or (set nodes at v) (2 * i + 1) d) (there_too i d apart)
            (there_too (2 * i + 1) d (λ k. omega arith)) (h.winners i (omega arith) less d).1,
      )
    ];
    below = λ i d le less. elim (decide i at) [
      | inl same ↦ subst (λ k. IsOnPath k (half + (get_or (set nodes at v) k d).slot)) (sym same) (subst (λ (n : Node). IsOnPath at (half + n.slot)) (sym (here_now d)) under_at)
      | inr apart ↦ subst (λ (n : Node). IsOnPath i (half + n.slot)) (sym (there_too i d apart)) (h.below i d (omega arith) less)
    ];
  }

pub whole_from : (slots : List (Option Candidate)) (nodes : List Node) (half at : ℕ) → at ≤ 1 → length slots ≤ half → IsTournamentFrom slots nodes half at → IsTournament slots nodes
whole_from slots nodes half at one fits h = record {
  half = half;
  size = h.size;
  fits = fits;
  leaves = h.leaves;
  exact = λ i d some less. h.exact i d (omega arith) less;
  winners = λ i some less. h.winners i (omega arith) less;
  below = λ i d some less. h.below i d (omega arith) less;
}

-- ---- something else stands in a slot

pub other_slot : (slots other : List (Option Candidate)) (nodes : List Node) (slot half : ℕ) (whole : IsTournament slots nodes)
    → length nodes ≡ 2 * half → slot < half → length other ≤ half → ((k : ℕ) → (k ≡ slot → ⊥) → slot_at k other ≡ slot_at k slots)
    → IsTournamentOff other nodes (half + slot)
other_slot slots other nodes slot half whole size less fits same =
    let halves : whole.half ≡ half = let own = whole.size in omega arith in
    let apart : (i : ℕ) (d : Node) → 1 ≤ i → i < 2 * half → (IsOnPath i (half + slot) → ⊥) → (get_or nodes i d).slot ≡ slot → ⊥ =
    λ i d one inside off is. off (subst (λ n. IsOnPath i (half + n)) is (subst (λ h. IsOnPath i (h + (get_or nodes i d).slot)) halves (whole.below i d one (omega arith)))) in
    let won : (i : ℕ) (d : Node) → 1 ≤ i → i < 2 * half → (IsOnPath i (half + slot) → ⊥) → won_by other (get_or nodes i d) ≡ won_by slots (get_or nodes i d) =
    λ i d one inside off. same (get_or nodes i d).slot (apart i d one inside off) in
    record {
      half = half;
      size = size;
      fits = fits;
      leaves = λ i d inside. subst (λ h. (get_or nodes (h + i) d).slot ≡ i) halves (whole.leaves i d (omega arith));
      exact = λ i d one inside off. whole.exact i d one (omega arith) ∙ ap order_of (sym (won i d one inside off));
      winners = λ i one inside off d.
          let left : IsOnPath (2 * i) (half + slot) → ⊥ = λ on. off (path_parent i (2 * i) (half + slot) (omega arith) on) in
          let right : IsOnPath (2 * i + 1) (half + slot) → ⊥ = λ on. off (path_parent i (2 * i + 1) (half + slot) (omega arith) on) in
          let old = whole.winners i one (omega arith) d in
          let own = won i d one (omega arith) off in (
            ap (λ o. is_sooner o (won_by other (get_or nodes i d))) (won (2 * i) d (omega arith) (omega arith) left)
                ∙ ap (λ o. is_sooner (won_by slots (get_or nodes (2 * i) d)) o) own ∙ old.0,
            ap (λ o. is_sooner o (won_by other (get_or nodes i d))) (won (2 * i + 1) d (omega arith) (omega arith) right)
                ∙ ap (λ o. is_sooner (won_by slots (get_or nodes (2 * i + 1) d)) o) own ∙ old.1,
          );
      below = λ i d one inside. subst (λ h. IsOnPath i (h + (get_or nodes i d).slot)) halves (whole.below i d one (omega arith));
    }

-- ---- slots

slot_within_by : (slots : List (Option Candidate)) (slot : ℕ) (c : Candidate) (o : Option (Option Candidate)) → slice_get slots slot ≡ o → held_in o ≡ Some c → slot < length slots
slot_within_by slots slot c None is held = absurd cc
slot_within_by slots slot c (Some found) is held = slice_get_within slots slot found is

pub slot_within : (slots : List (Option Candidate)) (slot : ℕ) (c : Candidate) → slot_at slot slots ≡ Some c → slot < length slots
slot_within slots slot c held = slot_within_by slots slot c (slice_get slots slot) refl held

get_set_by : (slots : List (Option Candidate)) (slot k : ℕ) (v : Option Candidate) (o : Ordering) → o ≡ nat_cmp k (length slots) → (k ≡ slot → ⊥) → slice_get (set slots slot v) k ≡ slice_get slots k
get_set_by slots slot k v Less is apart =
    let less = ranked k (length slots) Less is in
    let same = length-set slots slot v in
    slice_get-get_or (set slots slot v) k v (omega arith) ∙ ap Some (get_or-set_other slots slot k v v apart) ∙ sym (slice_get-get_or slots k v less)
get_set_by slots slot k v Equal is apart =
    let past = ranked k (length slots) Equal is in
    let same = length-set slots slot v in slice_get_past (set slots slot v) k (omega arith) ∙ sym (slice_get_past slots k (omega arith))
get_set_by slots slot k v Greater is apart =
    let past = ranked k (length slots) Greater is in
    let same = length-set slots slot v in slice_get_past (set slots slot v) k (omega arith) ∙ sym (slice_get_past slots k (omega arith))

pub slot_kept : (slots : List (Option Candidate)) (slot k : ℕ) (v : Option Candidate) → (k ≡ slot → ⊥) → slot_at k (set slots slot v) ≡ slot_at k slots
slot_kept slots slot k v apart = ap held_in (get_set_by slots slot k v (nat_cmp k (length slots)) refl apart)

pub slot_written : (slots : List (Option Candidate)) (slot : ℕ) (v : Option Candidate) → slot < length slots → slot_at slot (set slots slot v) ≡ v
slot_written slots slot v less =
    let same = length-set slots slot v in
    ap held_in (slice_get-get_or (set slots slot v) slot v (omega arith) ∙ ap Some (get_or-set_same slots slot v v less))

pub is_put : (slots : List (Option Candidate)) (slot : ℕ) (v : Option Candidate) → slot < length slots → IsPut slots (set slots slot v) slot v
is_put slots slot v less = record { here = slot_written slots slot v less; others = λ k apart. slot_kept slots slot k v apart }

-- ---- no slots, and the root

pub no_slots : (slots : List (Option Candidate)) (nodes : List Node) → slots ≡ [] → nodes ≡ [] → IsTournament slots nodes
no_slots slots nodes empty none = record {
  half = 0;
  size = ap length none;
  fits = let is = ap length empty in omega arith;
  leaves = λ i d less. absurd (omega arith);
  exact = λ i d one less. absurd (omega arith);
  winners = λ i one less. absurd (omega arith);
  below = λ i d one less. absurd (omega arith);
}

pub root_head : (slots : List (Option Candidate)) (nodes : List Node) (root : Node) (held : Option Candidate) → IsTournament slots nodes
    → root ≡ get_or nodes 1 root → held ≡ slot_at root.slot slots → IsHead slots held
root_head slots nodes root held whole is held_is =
    let here : get_or nodes 1 root ≡ root = sym is in
    head_by slots nodes whole root held (ap (won_by slots) here ∙ sym held_is) (slot_within slots)

pub no_root : (slots : List (Option Candidate)) (nodes : List Node) → IsTournament slots nodes → slice_get nodes 1 ≡ None → IsHead slots None
no_root slots nodes whole is slot c held =
    let inside = slot_within slots slot c held in
    let size = whole.size in
    let fits = whole.fits in
    let there = slice_get-get_or nodes 1 (record { order = 0; slot = 0 }) (omega arith) in
    absurd (cc)

-- ---- what is written in a slot, or behind them all

pub after_more : (old new : List (Option Candidate)) (nodes : List Node) (slot : ℕ) (v : Option Candidate) (whole : IsTournament old nodes) → IsPut old new slot v
    → slot < length nodes / 2 → length new ≤ length nodes / 2 → IsTournamentOff new nodes (length nodes / 2 + slot)
after_more old new nodes slot v whole put less fits =
    let size = whole.size in
    other_slot old new nodes slot (length nodes / 2) whole (omega arith) less fits put.others

pub after_put : (old new : List (Option Candidate)) (nodes : List Node) (slot : ℕ) (v : Option Candidate) (whole : IsTournament old nodes) → IsPut old new slot v
    → slot < length old → length new ≡ length old → IsTournamentOff new nodes (length nodes / 2 + slot)
after_put old new nodes slot v whole put less same =
    let size = whole.size in
    let fits = whole.fits in
    after_more old new nodes slot v whole put (omega arith) (omega arith)

-- two writes of a slot are one
pub put_twice : (slots : List (Option Candidate)) (slot : ℕ) (first v : Option Candidate) → slot < length slots → IsPut slots (set (set slots slot first) slot v) slot v
put_twice slots slot first v less =
    let same = length-set slots slot first in record {
      here = slot_written (set slots slot first) slot v (omega arith);
      others = λ k apart. slot_kept (set slots slot first) slot k v apart ∙ slot_kept slots slot k first apart;
    }

get_back_by : (slots : List (Option Candidate)) (v : Option Candidate) (k : ℕ) (o : Ordering) → o ≡ nat_cmp k (length slots) → (k ≡ length slots → ⊥)
    → slice_get (slots ++ v ∷ []) k ≡ slice_get slots k
get_back_by slots v k Less is apart =
    let less = ranked k (length slots) Less is in
    let more = length-append slots (v ∷ []) in
    slice_get-get_or (slots ++ v ∷ []) k v (omega arith) ∙ ap Some (get_or_append_left slots (v ∷ []) v k less) ∙ sym (slice_get-get_or slots k v less)
get_back_by slots v k Equal is apart = absurd (apart (ranked k (length slots) Equal is))
get_back_by slots v k Greater is apart =
    let past = ranked k (length slots) Greater is in
    let more = length-append slots (v ∷ []) in
    slice_get_past (slots ++ v ∷ []) k (omega arith) ∙ sym (slice_get_past slots k (omega arith))

get_last : {X : Type 0} (xs : List X) (v d : X) → get_or (xs ++ v ∷ []) (length xs) d ≡ v
get_last [] v d = refl
get_last (x ∷ xs) v d = get_last xs v d

pub put_behind : (slots : List (Option Candidate)) (v : Option Candidate) → IsPut slots (slots ++ v ∷ []) (length slots) v
put_behind slots v =
    let more = length-append slots (v ∷ []) in record {
      here = ap held_in (slice_get-get_or (slots ++ v ∷ []) (length slots) v (omega arith) ∙ ap Some (get_last slots v v));
      others = λ k apart. ap held_in (get_back_by slots v k (nat_cmp k (length slots)) refl apart);
    }

pub nothing_behind : (slots : List (Option Candidate)) → slot_at (length slots) slots ≡ None
nothing_behind slots = ap held_in (slice_get_past slots (length slots) (omega arith))

pub some_of : (o : Option Candidate) → IsSome o → (c : Candidate) × (o ≡ Some c)
some_of None some = absurd cc
some_of (Some c) some = (c, refl)
