-- A list of candidates has only one queue.
use Rattle.std.proofs.Common.{◌≡◌, ℕ, ◌<◌, ◌≤◌, List, [], ◌∷◌, length, get_or, refl, sym, ap, ◌∙◌, subst, Bool, true, false, not, ◌&&◌, cond, filter, map, arith, zero, suc}
use Rattle.std.specs.Prelude.{None}
use Rattle.std.specs.Cmp.{IsStrictWeakOrder}
use Rattle.std.specs.List.Sorted.{ties, IsSortedBy, IsStableBy}
use Rattle.std.proofs.lemmas.List.MinMax.{ranks_by}
use Rattle.std.proofs.lemmas.List.Sorted.{IsPermutation-refl, IsPermutation-swap, sorted_far}
use Rattle.due_core.specs.Buckets.{BucketRecord}
use Rattle.due_core.specs.Candidates.{candidates, eligible}
use Rattle.due_core.specs.Choice.{comes_before, IsQueue}
use Rattle.due_core.specs.declared.action.Action.{Action}
use Rattle.due_core.specs.declared.action.Candidate.{Candidate}
use Rattle.due_core.proofs.Precedence.{precedence_total}

not_less : (b : Bool) → (b ≡ true → b ≡ false) → b ≡ false
not_less true h = h refl
not_less false h = refl

module _ {X : Type 0} (lt : X → X → Bool) (o : IsStrictWeakOrder lt) where
  -- none of the list comes before the element
  abbrev Above : X → List X → Type 0
  Above x [] = Unit {0}
  Above x (y ∷ ys) = (lt y x ≡ false) × Above x ys

  abbrev Up : List X → Type 0
  Up [] = Unit {0}
  Up (x ∷ xs) = Above x xs × Up xs

  above_of : (x : X) (xs : List X) → ((k : ℕ) → k < length xs → lt (get_or xs k x) x ≡ false) → Above x xs
  above_of x [] h = tt
  above_of x (y ∷ ys) h = (h 0 (omega arith), above_of x ys (λ k p. h (suc k) (omega arith)))

  up_of : (xs : List X) → ((i j : ℕ) (d : X) → i ≤ j → j < length xs → lt (get_or xs j d) (get_or xs i d) ≡ false) → Up xs
  up_of [] h = tt
  up_of (x ∷ xs) h = (above_of x xs (λ k p. h 0 (suc k) x (omega arith) (omega arith)), up_of xs (λ i j d p q. h (suc i) (suc j) d (omega arith) (omega arith)))

  not_itself : (x : X) → lt x x ≡ false
  not_itself x = not_less (lt x x) (o.one_way x x)

  both_ways : (x y : X) → lt x y ≡ false → lt y x ≡ false → ties lt x y ≡ true
  both_ways x y h k = rw h (rw k refl)

  kept_first : (y z : X) (zs : List X) → ties lt y z ≡ true → filter (ties lt y) (z ∷ zs) ≡ z ∷ filter (ties lt y) zs
  kept_first y z zs is = ap (λ (b : Bool). cond b (z ∷ filter (ties lt y) zs) (filter (ties lt y) zs)) is

  -- what comes before an element comes before all above it
  before_all : (y z x : X) → lt y x ≡ true → lt z x ≡ false → (b : Bool) → lt y z ≡ b → b ≡ true
  before_all y z x less above true is = refl
  before_all y z x less above false is = let no : lt y x ≡ false = o.chain y z x is above in absurd cc

  no_tie : (y x : X) (zs : List X) → lt y x ≡ true → Above x zs → filter (ties lt y) zs ≡ []
  no_tie y x [] less above = refl
  no_tie y x (z ∷ zs) less above =
      let is : lt y z ≡ true = before_all y z x less above.0 (lt y z) refl in
      ap (λ (b : Bool). cond (not b && not (lt z y)) (z ∷ filter (ties lt y) zs) (filter (ties lt y) zs)) is ∙ no_tie y x zs less above.1

  -- the first of one list doesn't come before the first of the other
  not_before : (x y : X) (xs ys : List X) → Above x xs → filter (ties lt y) (y ∷ ys) ≡ filter (ties lt y) (x ∷ xs)
      → (b : Bool) → lt y x ≡ b → b ≡ false
  not_before x y xs ys above same true is =
      let none : y ∷ filter (ties lt y) ys ≡ [] = sym (kept_first y y ys (both_ways y y (not_itself y) (not_itself y)))
      ∙ same ∙ no_tie y x (x ∷ xs) is (not_itself x, above) in
      absurd cc
  not_before x y xs ys above same false is = refl

  first_same : (x y : X) (xs ys : List X) → x ∷ xs ≡ y ∷ ys → x ≡ y
  first_same x y xs ys is = cc

  rest_same : (x : X) (xs ys : List X) (b : Bool) → cond b (x ∷ xs) xs ≡ cond b (x ∷ ys) ys → xs ≡ ys
  rest_same x xs ys true is = cc
  rest_same x xs ys false is = is

  heads : (x y : X) (xs ys : List X) → Above x xs → Above y ys → ((z : X) → filter (ties lt z) (x ∷ xs) ≡ filter (ties lt z) (y ∷ ys)) → x ≡ y
  heads x y xs ys u v same =
      let back : lt y x ≡ false = not_before x y xs ys u (sym (same y)) (lt y x) refl in
      let forth : lt x y ≡ false = not_before y x ys xs v (same x) (lt x y) refl in
      first_same x y _ _ (sym (kept_first y x xs (both_ways y x back forth)) ∙ same y ∙ kept_first y y ys (both_ways y y (not_itself y) (not_itself y)))

  pub one_order : (xs ys : List X) → Up xs → Up ys → ((z : X) → filter (ties lt z) xs ≡ filter (ties lt z) ys) → xs ≡ ys
  one_order [] [] u v same = refl
  one_order [] (y ∷ ys) u v same =
      let none : [] ≡ y ∷ filter (ties lt y) ys = same y ∙ kept_first y y ys (both_ways y y (not_itself y) (not_itself y)) in absurd cc
  one_order (x ∷ xs) [] u v same =
      let none : x ∷ filter (ties lt x) xs ≡ [] = sym (kept_first x x xs (both_ways x x (not_itself x) (not_itself x))) ∙ same x in absurd cc
  one_order (x ∷ xs) (y ∷ ys) u v same =
      let is : x ≡ y = heads x y xs ys u.0 v.0 same in
      let rest : (z : X) → filter (ties lt z) xs ≡ filter (ties lt z) ys = λ z. rest_same x (filter (ties lt z) xs) (filter (ties lt z) ys) (ties lt z x)
      (same z ∙ ap (λ (w : X). filter (ties lt z) (w ∷ ys)) (sym is)) in
      ap (λ l. x ∷ l) (one_order xs ys u.1 v.1 rest) ∙ ap (λ (w : X). w ∷ ys) is

-- ---- two elements of which one comes before the other

module _ {X : Type 0} (lt : X → X → Bool) (o : IsStrictWeakOrder lt) (a b : X) (less : lt a b ≡ true) where
  two_sorted : IsSortedBy lt (a ∷ b ∷ [])
  two_sorted zero d p q = o.one_way a b less
  two_sorted (suc k) d p q = absurd (omega arith)

  neither : (p q : Bool) → (not p && not q) ≡ true → (p ≡ false) × (q ≡ false)
  neither true q is = absurd cc
  neither false true is = absurd cc
  neither false false is = (refl, refl)

  not_both : (z : X) → ties lt z a ≡ true → ties lt z b ≡ true → ⊥
  not_both z at bt =
      let no : lt a b ≡ false = o.chain a z b (neither (lt z a) (lt a z) at).1 (neither (lt z b) (lt b z) bt).0 in absurd cc

  either_way : (s t : Bool) → (s ≡ true → t ≡ true → ⊥)
      → cond s (a ∷ cond t (b ∷ []) []) (cond t (b ∷ []) []) ≡ cond t (b ∷ cond s (a ∷ []) []) (cond s (a ∷ []) [])
  either_way true true h = absurd (h refl refl)
  either_way true false h = refl
  either_way false t h = refl

  two_stable : IsStableBy lt (b ∷ a ∷ []) (a ∷ b ∷ [])
  two_stable z = either_way (ties lt z a) (ties lt z b) (not_both z)

pub candidate_order : IsStrictWeakOrder comes_before
candidate_order = ranks_by precedence_total (λ (c : Candidate). c)

pub one_queue : (found : List Candidate) (a b : List Action) → IsQueue found a → IsQueue found b → a ≡ b
one_queue found a b p q =
    p.actions
    ∙ ap (λ cs. map (λ (c : Candidate). c.action) cs) (one_order comes_before candidate_order p.ordered q.ordered
    (up_of comes_before candidate_order p.ordered (sorted_far comes_before candidate_order p.ordered p.in_order.sorted))
    (up_of comes_before candidate_order q.ordered (sorted_far comes_before candidate_order q.ordered q.in_order.sorted))
    (λ z. p.in_order.stable z ∙ sym (q.in_order.stable z)))
    ∙ sym q.actions

nothing_due : (bucket : BucketRecord) (t : ℕ) → bucket.rules ≡ None → candidates bucket t ≡ []
unfolding candidates eligible
nothing_due bucket t own = rw own refl

no_queue : IsQueue [] []
no_queue = record {
  ordered = [];
  in_order = record { same = IsPermutation-refl []; sorted = λ k d p q. absurd (omega arith); stable = λ x. refl };
  actions = refl;
}

pub empty_queue : (bucket : BucketRecord) (t : ℕ) (queue : List Action) → bucket.rules ≡ None → queue ≡ [] → IsQueue (candidates bucket t) queue
empty_queue bucket t queue own is = subst (λ cs. IsQueue cs queue) (sym (nothing_due bucket t own)) (subst (λ q. IsQueue [] q) (sym is) no_queue)

-- the queue of two candidates that were found in the other order, and of two that were found in this one
pub two_turned : (a b : Candidate) → comes_before a b ≡ true → IsQueue (b ∷ a ∷ []) (a.action ∷ b.action ∷ [])
two_turned a b less = record {
  ordered = a ∷ b ∷ [];
  in_order = record {
    same = IsPermutation-swap (b ∷ a ∷ []) (a ∷ b ∷ []) 0 1 (omega arith) (omega arith) refl;
    sorted = two_sorted comes_before candidate_order a b less;
    stable = two_stable comes_before candidate_order a b less;
  };
  actions = refl;
}

pub two_kept : (a b : Candidate) → comes_before a b ≡ true → IsQueue (a ∷ b ∷ []) (a.action ∷ b.action ∷ [])
two_kept a b less = record {
  ordered = a ∷ b ∷ [];
  in_order = record {
    same = IsPermutation-refl (a ∷ b ∷ []);
    sorted = two_sorted comes_before candidate_order a b less;
    stable = λ x. refl;
  };
  actions = refl;
}
