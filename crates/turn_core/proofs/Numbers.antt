-- Pass numbers: each step keeps them apart, and the calls under each of them.
use Rattle.std.proofs.Common.{◌≡◌, ◌≢◌, ◌∙◌, sym, ap, refl, subst, ℕ, suc, ◌+◌, ◌*◌, ◌<◌, ◌≤◌, List, [], ◌∷◌, ◌++◌, length, get_or, map, set, ⊎_elim, ◌⊎◌, inl, inr, arith, Option, true, zero-mul}
use Rattle.std.proofs.Common.{one-mul, add-mul, mul_assoc, suc-mul, mul-le-mul_right}
use Rattle.std.specs.Prelude.{All, AllPairs, Contains}
use Rattle.std.proofs.lemmas.List.Elements.{All-append, All-cons, All-map, All-nil, All-push, Contains-append_left, Contains-append_right}
use Rattle.std.proofs.lemmas.List.Kept.{AllPairs-cons}
use native.Mathlib.Decide.{dec_le}
use mathlib.Core.Option.{some}
use mathlib.Core.List.{IsPrefix, map-append}
use lib.ListN.{get_elem?}
use Rattle.atomic_table.proofs.Lists.{at_set, set_else, at_longer}
use Rattle.turn_core.specs.declared.view.TurnCall.{TurnCall}
use Rattle.turn_core.specs.declared.view.LastCall.{LastCall}
use Rattle.turn_core.specs.declared.view.Met.{Met}
use Rattle.turn_core.specs.declared.view.View.{View}
use Rattle.turn_core.specs.Calls.{calls_under}
use Rattle.turn_core.specs.Plays.{moved}
use Rattle.turn_core.specs.Rule.{Named, Numbered, Disjoint, IsKnown}
use Rattle.turn_core.specs.Views.{HasMade, Owns, numbers, next_call, newcomer, spent, left, right, both}
use Rattle.turn_core.proofs.Counts.{all_one, under, not_under, between}
use Rattle.turn_core.proofs.Parts.{only, at_end, one_view, placed, same_or_not}
use Rattle.turn_core.proofs.Prefixes.{longer_prefix, shorter_begins, each_begins}

-- a list whose parts are of different items, which differ from part to part
pairs_append : {X : Type 0} (R : X → X → Type 0) (xs ys : List X) → AllPairs R xs → AllPairs R ys → All (λ x. All (R x) ys) xs → AllPairs R (xs ++ ys)
pairs_append R [] ys p q c = q
pairs_append R (x ∷ xs) ys p q c =
    AllPairs-cons R x (xs ++ ys) (All-append (R x) xs ys (λ k d h. p 0 (suc k) d (omega arith) (omega (arith, h))) (c 0 x (omega arith)))
    (pairs_append R xs ys (λ i j d lt h. p (suc i) (suc j) d (omega (arith, lt)) (omega (arith, h))) q (λ k d h. c (suc k) d (omega (arith, h))))

pairs_one : {X : Type 0} (R : X → X → Type 0) (x : X) → AllPairs R (x ∷ [])
pairs_one R x i j d lt h = absurd (omega (arith, lt, h))

disjoint_sym : (xs ys : List ℕ) → Disjoint xs ys → Disjoint ys xs
disjoint_sym xs ys d k x h j y l e = d j y l k x h (sym e)

-- an even number of strides is not an odd one
not_odd : (k j n s : ℕ) → 0 < s → n + k * (2 * s) ≡ n + s + j * (2 * s) → Dec (k ≤ j) → ⊥
not_odd k j n s pos e (yes le) =
    let less : k * (2 * s) ≤ j * (2 * s) = mul-le-mul_right (2 * s) le in
    let x : ℕ = k * (2 * s) in let y : ℕ = j * (2 * s) in let e' : n + x ≡ n + s + y = e in let l : x ≤ y = less in omega (arith, e', l, pos)
not_odd k j n s pos e (no more) =
    let above : suc j ≤ k = (let m : k ≤ j → ⊥ = more in omega (arith, m)) in
    let less : suc j * (2 * s) ≤ k * (2 * s) = mul-le-mul_right (2 * s) above in
    let x : ℕ = k * (2 * s) in let y : ℕ = j * (2 * s) in let e' : n + x ≡ n + s + y = e in
    let l : y + 2 * s ≤ x = subst (λ (z : ℕ). z ≤ x) (suc-mul j (2 * s)) less in omega (arith, e', l, pos)

module _ {T A S : Type 0} where
  -- a pass owns its number
  pub own_number : (v : View T A S) → Owns v v.number
  own_number v = (0, (let z = zero-mul v.stride in omega (arith, z)))

  -- what the two parts of a pass own was the pass's
  pub owned_left : (v : View T A S) (number : ℕ) → Owns (left v) number → Owns v number
  owned_left v number (k, e) = (k * 2, e ∙ ap (λ (n : ℕ). v.number + n) (sym (mul_assoc k 2 v.stride)))

  pub owned_right : (v : View T A S) (number : ℕ) → Owns (right v) number → Owns v number
  owned_right v number (k, e) = (
    1 + k * 2,
    (let x : ℕ = k * (2 * v.stride) in let e' : number ≡ v.number + v.stride + x = e in
        let m : (1 + k * 2) * v.stride ≡ v.stride + x = add-mul 1 (k * 2) v.stride ∙ (λ i. one-mul v.stride i + mul_assoc k 2 v.stride i) in
        omega (arith, e', m)),
  )

  -- no number is owned by both parts
  pub parted : (v : View T A S) (number : ℕ) → 0 < v.stride → Owns (left v) number → Owns (right v) number → ⊥
  parted v number pos (k, e) (j, f) = not_odd k j v.number v.stride pos (sym e ∙ f) (dec_le k j)

  -- a number that was known is known still, if a view changes and keeps its numbers
  pub still_known : (views : List (View T A S)) (id : ℕ) (v w : View T A S) → get_elem? views id ≡ some v → (0 < v.share → 0 < w.share) → numbers w ≡ numbers v
      → (number : ℕ) → IsKnown views number → IsKnown (set views id w) number
  still_known views id v w at back same_numbers number (by, u, e, l, has) = ⊎_elim
      (λ (same : by ≡ id). let is : v ≡ u = one_view views id v u at (subst (λ (k : ℕ). get_elem? views k ≡ some u) same e) in (
        id,
        w,
        placed views id v w at,
        back (subst (λ (x : View T A S). 0 < x.share) (sym is) l),
        subst (λ (ns : List ℕ). Contains ns number) (ap (λ (x : View T A S). numbers x) (sym is) ∙ sym same_numbers)
            has,
      ))
      (λ (other : by ≢ id). (by, u, set_else views id by w other ∙ e, l, has))
      (same_or_not by id)

  -- one view changes to w, which owns no more, and the list to log'
  module _ (log log' : List (TurnCall A S)) (views : List (View T A S)) (n : Numbered log views) (id : ℕ) (v w : View T A S) (at : get_elem? views id ≡ some v)
      (live : 0 < w.share → 0 < v.share) (number_is : w.number ≡ v.number) (owns : (number : ℕ) → Owns w number → Owns v number) (met : w.met ≡ v.met)
      (mine : 0 < w.share → Named log' w) (others : (by : ℕ) (u : View T A S) → get_elem? views by ≡ some u → by ≢ id → 0 < u.share → Named log' u) where
    same_numbers : numbers w ≡ numbers v
    same_numbers = λ i. number_is i ∷ map (λ m. m.number) (met i)

    old : (by : ℕ) (u : View T A S) → get_elem? (set views id w) by ≡ some u → 0 < u.share
        → (x : View T A S) × (get_elem? views by ≡ some x) × (0 < x.share) × ((number : ℕ) → Owns u number → Owns x number) × (u.met ≡ x.met) × (numbers u ≡ numbers x)
    old by u e l = ⊎_elim
        (λ (p : (by ≡ id) × (w ≡ u)). (
          v,
          subst (λ (k : ℕ). get_elem? views k ≡ some v) (sym p.0) at,
          live (subst (λ (x : View T A S). 0 < x.share) (sym p.1) l),
          (λ number o. owns number (subst (λ (x : View T A S). Owns x number) (sym p.1) o)),
          ap (λ (x : View T A S). x.met) (sym p.1) ∙ met,
          ap (λ (x : View T A S). numbers x) (sym p.1) ∙ same_numbers,
        ))
        (λ (p : (by ≢ id) × (get_elem? views by ≡ some u)). (u, p.1, l, (λ number o. o), refl, refl))
        (at_set views id by w u e)

    pub replaced : All (λ c. IsKnown (set views id w) c.by) log' → Numbered log' (set views id w)
    replaced known = record {
      known = known;
      once = λ i j a b other e f la lb.
          (let p = old i a e la in let q = old j b f lb in
          subst (λ (ns : List ℕ × List ℕ). Disjoint ns.0 ns.1) (λ k. (sym p.5 k, sym q.5 k)) (n.once i j p.0 q.0 other p.1 q.1 p.2 q.2));
      named = λ by u e l. ⊎_elim
          (λ (p : (by ≡ id) × (w ≡ u)). subst (Named log') p.1 (mine (subst (λ (x : View T A S). 0 < x.share) (sym p.1) l)))
          (λ (p : (by ≢ id) × (get_elem? views by ≡ some u)). others by u p.1 p.0 l)
          (at_set views id by w u e);
      apart = λ i j a b number e f la lb oa ob.
          (let p = old i a e la in let q = old j b f lb in n.apart i j p.0 q.0 number p.1 q.1 p.2 q.2 (p.3 number oa) (q.3 number ob));
      gone = λ i j a b e f la lb.
          (let p = old i a e la in let q = old j b f lb in
          subst (All (λ m. Owns b m.number → ⊥)) (sym p.4) (λ k d h o. n.gone i j p.0 q.0 p.1 q.1 p.2 q.2 k d h (q.3 _ o)));
    }

  -- one view more, with numbers that no other owns or met
  module _ (log : List (TurnCall A S)) (views : List (View T A S)) (n : Numbered log views) (x : View T A S) (named : Named log x) (none_met : x.met ≡ [])
      (new : (by : ℕ) (u : View T A S) (number : ℕ) → get_elem? views by ≡ some u → 0 < u.share → Owns u number → Owns x number → ⊥)
      (not_met : (by : ℕ) (u : View T A S) → get_elem? views by ≡ some u → 0 < u.share → All (λ m. Owns x m.number → ⊥) u.met) where
    numbers_apart : (by : ℕ) (u : View T A S) → get_elem? views by ≡ some u → 0 < u.share → Disjoint (numbers u) (x.number ∷ [])
    numbers_apart by u e l =
        All-cons (λ (p : ℕ). All (λ y. p ≢ y) (x.number ∷ [])) u.number (map (λ m. m.number) u.met)
        (all_one (λ y. u.number ≢ y) x.number (λ same. new by u u.number e l (own_number u) (subst (Owns x) (sym same) (own_number x))))
        (All-map (λ (p : ℕ). All (λ y. p ≢ y) (x.number ∷ [])) (λ m. m.number) u.met
        (λ k d h. all_one (λ y. (get_or u.met k d).number ≢ y) x.number (λ same. not_met by u e l k d h (subst (Owns x) (sym same) (own_number x)))))

    x_numbers : x.number ∷ [] ≡ numbers x
    x_numbers = λ i. x.number ∷ map (λ m. m.number) (sym none_met i)

    pub added : Numbered log (views ++ x ∷ [])
    added = record {
      known = λ k d h. (let old = n.known k d h in (old.0, old.1, at_longer views (x ∷ []) old.0 old.1 old.2, old.3, old.4));
      once = λ i j a b other e f la lb. ⊎_elim
          (λ (p : get_elem? views i ≡ some a). ⊎_elim
          (λ (q : get_elem? views j ≡ some b). n.once i j a b other p q la lb)
          (λ (q : (x ≡ b) × (j ≡ length views)). subst (Disjoint (numbers a)) (x_numbers ∙ ap (λ (u : View T A S). numbers u) q.0) (numbers_apart i a p la))
          (at_end views x b j f))
          (λ (p : (x ≡ a) × (i ≡ length views)). ⊎_elim
          (λ (q : get_elem? views j ≡ some b). disjoint_sym (numbers b) (numbers a) (subst (Disjoint (numbers b)) (x_numbers ∙ ap (λ (u : View T A S). numbers u) p.0) (numbers_apart j b q lb)))
          (λ (q : (x ≡ b) × (j ≡ length views)). absurd (other (p.1 ∙ sym q.1)))
          (at_end views x b j f))
          (at_end views x a i e);
      named = λ by u e l. ⊎_elim (λ (p : get_elem? views by ≡ some u). n.named by u p l) (λ (p : (x ≡ u) × (by ≡ length views)). subst (Named log) p.0 named) (at_end views x u by e);
      apart = λ i j a b number e f la lb oa ob. ⊎_elim
          (λ (p : get_elem? views i ≡ some a). ⊎_elim
          (λ (q : get_elem? views j ≡ some b). n.apart i j a b number p q la lb oa ob)
          (λ (q : (x ≡ b) × (j ≡ length views)). absurd (new i a number p la oa (subst (λ (u : View T A S). Owns u number) (sym q.0) ob)))
          (at_end views x b j f))
          (λ (p : (x ≡ a) × (i ≡ length views)). ⊎_elim
          (λ (q : get_elem? views j ≡ some b). absurd (new j b number q lb ob (subst (λ (u : View T A S). Owns u number) (sym p.0) oa)))
          (λ (q : (x ≡ b) × (j ≡ length views)). p.1 ∙ sym q.1)
          (at_end views x b j f))
          (at_end views x a i e);
      gone = λ i j a b e f la lb. ⊎_elim
          (λ (p : get_elem? views i ≡ some a). ⊎_elim
          (λ (q : get_elem? views j ≡ some b). n.gone i j a b p q la lb)
          (λ (q : (x ≡ b) × (j ≡ length views)). subst (λ (u : View T A S). All (λ m. Owns u m.number → ⊥) a.met) q.0 (not_met i a p la))
          (at_end views x b j f))
          (λ (p : (x ≡ a) × (i ≡ length views)). subst (All (λ m. Owns b m.number → ⊥)) (sym none_met ∙ ap (λ (u : View T A S). u.met) p.0) (All-nil (λ m. Owns b m.number → ⊥)))
          (at_end views x a i e);
    }

  -- a ticket is drawn, or nothing changes
  pub drawn_keeps : (log : List (TurnCall A S)) (views : List (View T A S)) → Numbered log views
      → (id : ℕ) (v : View T A S) (ticket : Option ℕ) → get_elem? views id ≡ some v
      → Numbered log (set views id (record v { ticket = ticket }))
  drawn_keeps log views n id v ticket at =
      let u : View T A S = record v { ticket = ticket } in
      replaced log log views n id v u at (λ l. l) refl (λ number o. o) refl
      (λ l.
      let o = n.named id v at l in
      record {
        stride = o.stride;
        counted = record { own = o.counted.own; met = o.counted.met; distinct = o.counted.distinct };
        own = o.own;
        unused = o.unused;
        met = o.met;
      })
      (λ by u e apart l. n.named by u e l)
      (λ k d h. still_known views id v u at (λ l. l) refl _ (n.known k d h))

  -- the pass has seen all
  pub served_keeps : (log : List (TurnCall A S)) (views : List (View T A S)) → Numbered log views
      → (id : ℕ) (v : View T A S) → get_elem? views id ≡ some v
      → Numbered log (set views id (record v { seen = log; served = true }))
  served_keeps log views n id v at =
      let u : View T A S = record v { seen = log; served = true } in
      replaced log log views n id v u at (λ l. l) refl (λ number o. o) refl
      (λ l. let o = n.named id v at l in record { stride = o.stride; counted = record { own = o.own; met = o.met; distinct = o.counted.distinct }; own = o.own; unused = o.unused; met = o.met })
      (λ by u e apart l. n.named by u e l)
      (λ k d h. still_known views id v u at (λ l. l) refl _ (n.known k d h))

  -- a call is added by the pass that has seen all
  module _ (log : List (TurnCall A S)) (views : List (View T A S)) (n : Numbered log views) (id : ℕ) (v : View T A S) (d : LastCall A S) (at : get_elem? views id ≡ some v) (live : 0 < v.share) where
    abbrev call : TurnCall A S
    call = next_call v d.ask.value d.say.value

    mine : Named log v
    mine = n.named id v at live

    -- a number that v met is not its own
    met_other : All (λ m. v.number ≢ m.number) v.met
    met_other = λ k x h e. n.gone id id v v at at live live k x h (subst (Owns v) e (own_number v))

    pub moved_named : Named (log ++ call ∷ []) (moved v d)
    moved_named = record {
      stride = mine.stride;
      counted = record {
        own = under v.number v.seen call refl ∙ ap (λ (l : List (TurnCall A S)). l ++ call ∷ []) mine.counted.own;
        met = λ k x h. not_under _ v.seen call (met_other k x h) ∙ mine.counted.met k x h;
        distinct = mine.counted.distinct;
      };
      own = under v.number log call refl ∙ ap (λ (l : List (TurnCall A S)). l ++ call ∷ []) mine.own;
      unused = λ number o other. not_under number log call (λ e. other (sym e)) ∙ mine.unused number o other;
      met = λ k x h. not_under _ log call (met_other k x h) ∙ mine.met k x h;
    }

    others : (by : ℕ) (u : View T A S) → get_elem? views by ≡ some u → by ≢ id → 0 < u.share → Named (log ++ call ∷ []) u
    others by u e apart l =
        let o = n.named by u e l in
        let not_owned : (number : ℕ) → Owns u number → v.number ≢ number = λ number owned same. apart (n.apart by id u v number e at l live owned (subst (Owns v) same (own_number v))) in
        record {
          stride = o.stride;
          counted = o.counted;
          own = not_under u.number log call (not_owned u.number (own_number u)) ∙ o.own;
          unused = λ number owned other. not_under number log call (not_owned number owned) ∙ o.unused number owned other;
          met = λ k x h. not_under _ log call (λ same. n.gone by id u v e at l live k x h (subst (Owns v) same (own_number v))) ∙ o.met k x h;
        }

    pub moved_keeps : Numbered (log ++ call ∷ []) (set views id (moved v d))
    moved_keeps =
        let w : View T A S = moved v d in
        let P : TurnCall A S → Type 0 = λ c. IsKnown (set views id w) c.by in
        replaced log (log ++ call ∷ []) views n id v w at (λ l. l) refl (λ number o. o) refl (λ l. moved_named) others
        (All-push P log call (λ k c h. still_known views id v w at (λ l. l) refl _ (n.known k c h)) (id, w, placed views id v w at, live, (0, (omega arith), refl)))

  -- a pass is split
  module _ (log : List (TurnCall A S)) (views : List (View T A S)) (n : Numbered log views) (id : ℕ) (v : View T A S) (at : get_elem? views id ≡ some v) (more : 1 < v.share) where
    live : 0 < v.share
    live = omega (arith, more)

    whole : Named log v
    whole = n.named id v at live

    left_named : Named log (left v)
    left_named = let o = whole in let s = o.stride in record {
      stride = omega (arith, s);
      counted = record { own = o.counted.own; met = o.counted.met; distinct = o.counted.distinct };
      own = o.own;
      unused = λ number owned other. o.unused number (owned_left v number owned) other;
      met = o.met;
    }

    -- the new number has no calls
    new_number : v.number + v.stride ≢ v.number
    new_number e = let s = whole.stride in omega (arith, e, s)

    none_whole : (number : ℕ) → Owns (right v) number → number ≢ v.number → calls_under number log ≡ []
    none_whole number owned other = whole.unused number (owned_right v number owned) other

    not_old : (number : ℕ) → Owns (right v) number → number ≢ v.number
    not_old number owned e = parted v number whole.stride (subst (Owns (left v)) (sym e) (own_number (left v))) owned

    -- what none of the whole list has, none of a beginning has
    none_seen : IsPrefix v.seen log → calls_under (v.number + v.stride) v.seen ≡ []
    none_seen p = between (v.number + v.stride) [] v.seen log [] (v.seen, refl) p refl (none_whole (v.number + v.stride) (own_number (right v)) new_number)

    right_named : IsPrefix v.seen log → Named log (right v)
    right_named p = let s = whole.stride in record {
      stride = omega (arith, s);
      counted = record { own = none_seen p; met = All-nil _; distinct = pairs_one (λ x y. x ≢ y) (v.number + v.stride) };
      own = none_whole (v.number + v.stride) (own_number (right v)) new_number;
      unused = λ number owned other. none_whole number owned (not_old number owned);
      met = All-nil _;
    }

    apart_from_right : (by : ℕ) (u : View T A S) (number : ℕ) → get_elem? (set views id (left v)) by ≡ some u → 0 < u.share → Owns u number → Owns (right v) number → ⊥
    apart_from_right by u number e l owned other = ⊎_elim
        (λ (p : (by ≡ id) × (left v ≡ u)). parted v number whole.stride (subst (λ (x : View T A S). Owns x number) (sym p.1) owned) other)
        (λ (p : (by ≢ id) × (get_elem? views by ≡ some u)). p.0 (n.apart by id u v number p.1 at l live owned (owned_right v number other)))
        (at_set views id by (left v) u e)

    not_met_by_others : (by : ℕ) (u : View T A S) → get_elem? (set views id (left v)) by ≡ some u → 0 < u.share → All (λ m. Owns (right v) m.number → ⊥) u.met
    not_met_by_others by u e l = ⊎_elim
        (λ (p : (by ≡ id) × (left v ≡ u)). subst (λ (x : View T A S). All (λ m. Owns (right v) m.number → ⊥) x.met) p.1 (λ k x h o. n.gone id id v v at at live live k x h (owned_right v _ o)))
        (λ (p : (by ≢ id) × (get_elem? views by ≡ some u)). (λ k x h o. n.gone by id u v p.1 at l live k x h (owned_right v _ o)))
        (at_set views id by (left v) u e)

    pub split_numbers : IsPrefix v.seen log → Numbered log (set views id (left v) ++ right v ∷ [])
    split_numbers p =
        added log (set views id (left v))
        (replaced log log views n id v (left v) at (λ _. live) refl (owned_left v) refl (λ _. left_named) (λ by u e apart l. n.named by u e l)
        (λ k d h. still_known views id v (left v) at (λ _. omega (arith, more)) refl _ (n.known k d h)))
        (right v) (right_named p) refl apart_from_right not_met_by_others

  -- two passes meet
  module _ (log : List (TurnCall A S)) (views : List (View T A S)) (n : Numbered log views) (id other : ℕ)
      (v w : View T A S) (at : get_elem? views id ≡ some v) (apart : other ≢ id) (at_w : get_elem? views other ≡ some w)
      (live_v : 0 < v.share) (live_w : 0 < w.share) (seen_v : IsPrefix v.seen log) (seen_w : IsPrefix w.seen log) where
    abbrev u : View T A S
    u = both v w

    abbrev w_met : Met A S
    w_met = record { number = w.number; made = w.made }

    first : Named log v
    first = n.named id v at live_v

    second : Named log w
    second = n.named other w at_w live_w

    begins : IsPrefix v.seen u.seen × IsPrefix w.seen u.seen
    begins = each_begins v.seen w.seen (shorter_begins v.seen w.seen log seen_v seen_w)

    ends : IsPrefix u.seen log
    ends = longer_prefix v.seen w.seen log seen_v seen_w

    -- it knows all numbers that either knew
    numbers_of : numbers u ≡ numbers v ++ numbers w
    numbers_of = ap (λ (ns : List ℕ). v.number ∷ ns) (map-append (λ m. m.number) v.met (w_met ∷ w.met))

    pub both_named : Named log u
    both_named = record {
      stride = first.stride;
      counted = record {
        own = between v.number v.seen u.seen log v.made begins.0 ends first.counted.own first.own;
        met = All-append (HasMade u.seen) v.met (w_met ∷ w.met)
            (λ k x h. between _ v.seen u.seen log _ begins.0 ends (first.counted.met k x h) (first.met k x h))
            (All-cons (HasMade u.seen) w_met w.met (between w.number w.seen u.seen log w.made begins.1 ends second.counted.own second.own)
            (λ k x h. between _ w.seen u.seen log _ begins.1 ends (second.counted.met k x h) (second.met k x h)));
        distinct = subst (AllPairs (λ x y. x ≢ y)) (sym numbers_of)
            (pairs_append (λ x y. x ≢ y) (numbers v) (numbers w) first.counted.distinct second.counted.distinct (n.once id other v w (λ e. apart (sym e)) at at_w live_v live_w));
      };
      own = first.own;
      unused = first.unused;
      met = All-append (HasMade log) v.met (w_met ∷ w.met) first.met (All-cons (HasMade log) w_met w.met second.own second.met);
    }

    abbrev vs : List (View T A S)
    vs = set (set views id u) other spent

    -- a view that is not spent is the new one, or an old one of another
    kind : (by : ℕ) (x : View T A S) → get_elem? vs by ≡ some x → 0 < x.share → ((by ≡ id) × (u ≡ x)) ⊎ ((by ≢ other) × (by ≢ id) × (get_elem? views by ≡ some x))
    kind by x e l = ⊎_elim
        (λ (p : (by ≡ other) × (spent ≡ x)). absurd (let none_left : 0 < 0 = subst (λ (y : View T A S). 0 < y.share) (sym p.1) l in omega (arith, none_left)))
        (λ (p : (by ≢ other) × (get_elem? (set views id u) by ≡ some x)). ⊎_elim
        (λ (q : (by ≡ id) × (u ≡ x)). inl q)
        (λ (q : (by ≢ id) × (get_elem? views by ≡ some x)). inr (p.0, q.0, q.1))
        (at_set views id by u x p.1))
        (at_set (set views id u) other by spent x e)

    -- each such view owns what an old one owned, which was not the other's
    old_one : (by : ℕ) (x : View T A S) → get_elem? vs by ≡ some x → 0 < x.share
        → (y : View T A S) × (get_elem? views by ≡ some y) × (0 < y.share)
        × ((number : ℕ) → Owns x number → Owns y number) × (by ≢ other)
    old_one by x e l = ⊎_elim
        (λ (p : (by ≡ id) × (u ≡ x)).
        (v, subst (λ (k : ℕ). get_elem? views k ≡ some v) (sym p.0) at, live_v, (λ number o. subst (λ (z : View T A S). Owns z number) (sym p.1) o), λ same. apart (sym same ∙ p.0)))
        (λ (p : (by ≢ other) × (by ≢ id) × (get_elem? views by ≡ some x)). (x, p.2, l, (λ number o. o), p.0))
        (kind by x e l)

    gone_of : (j : ℕ) (y : View T A S) → get_elem? views j ≡ some y → 0 < y.share → j ≢ other → All (λ m. Owns y m.number → ⊥) u.met
    gone_of j y e l not_other =
        let P : Met A S → Type 0 = λ m. Owns y m.number → ⊥ in
        All-append P v.met (w_met ∷ w.met) (n.gone id j v y at e live_v l)
        (All-cons P w_met w.met (λ (o : Owns y w.number). not_other (n.apart j other y w w.number e at_w l live_w o (own_number w))) (n.gone other j w y at_w e live_w l))

    -- its numbers are no other view's
    apart_from : (j : ℕ) (y : View T A S) → get_elem? views j ≡ some y → 0 < y.share → j ≢ id → j ≢ other → Disjoint (numbers u) (numbers y)
    apart_from j y e l not_id not_other =
        let P : ℕ → Type 0 = λ x. All (λ z. x ≢ z) (numbers y) in
        subst (λ (ns : List ℕ). Disjoint ns (numbers y)) (sym numbers_of)
        (All-append P (numbers v) (numbers w) (n.once id j v y (λ same. not_id (sym same)) at e live_v l) (n.once other j w y (λ same. not_other (sym same)) at_w e live_w l))

    u_there : get_elem? vs id ≡ some u
    u_there = set_else (set views id u) other id spent (λ same. apart (sym same)) ∙ placed views id v u at

    u_live : 0 < u.share
    u_live = omega (arith, live_v)

    -- a number that was known is known still
    met_known : (number : ℕ) → IsKnown views number → IsKnown vs number
    met_known number (by, x, e, l, has) = ⊎_elim
        (λ (same : by ≡ id). let is : v ≡ x = one_view views id v x at (subst (λ (k : ℕ). get_elem? views k ≡ some x) same e) in (
          id,
          u,
          u_there,
          u_live,
          subst (λ (ns : List ℕ). Contains ns number) (sym numbers_of)
              (Contains-append_left (numbers v) (numbers w) number (subst (λ (z : View T A S). Contains (numbers z) number) (sym is) has)),
        ))
        (λ (not_id : by ≢ id). ⊎_elim
        (λ (same : by ≡ other). let is : w ≡ x = one_view views other w x at_w (subst (λ (k : ℕ). get_elem? views k ≡ some x) same e) in (
          id,
          u,
          u_there,
          u_live,
          subst (λ (ns : List ℕ). Contains ns number) (sym numbers_of)
              (Contains-append_right (numbers v) (numbers w) number (subst (λ (z : View T A S). Contains (numbers z) number) (sym is) has)),
        ))
        (λ (not_other : by ≢ other). (by, x, set_else (set views id u) other by spent not_other ∙ (set_else views id by u not_id ∙ e), l, has))
        (same_or_not by other))
        (same_or_not by id)

    pub meet_numbers : Numbered log vs
    meet_numbers = record {
      known = λ k c h. met_known (get_or log k c).by (n.known k c h);
      once = λ i j a b different e f la lb. ⊎_elim
          (λ (p : (i ≡ id) × (u ≡ a)). ⊎_elim
          (λ (q : (j ≡ id) × (u ≡ b)). absurd (different (p.0 ∙ sym q.0)))
          (λ (q : (j ≢ other) × (j ≢ id) × (get_elem? views j ≡ some b)). subst (λ (z : View T A S). Disjoint (numbers z) (numbers b)) p.1 (apart_from j b q.2 lb q.1 q.0))
          (kind j b f lb))
          (λ (p : (i ≢ other) × (i ≢ id) × (get_elem? views i ≡ some a)). ⊎_elim
          (λ (q : (j ≡ id) × (u ≡ b)). disjoint_sym (numbers b) (numbers a) (subst (λ (z : View T A S). Disjoint (numbers z) (numbers a)) q.1 (apart_from i a p.2 la p.1 p.0)))
          (λ (q : (j ≢ other) × (j ≢ id) × (get_elem? views j ≡ some b)). n.once i j a b different p.2 q.2 la lb)
          (kind j b f lb))
          (kind i a e la);
      named = λ by x e l. ⊎_elim (λ (p : (by ≡ id) × (u ≡ x)). subst (Named log) p.1 both_named)
          (λ (p : (by ≢ other) × (by ≢ id) × (get_elem? views by ≡ some x)). n.named by x p.2 l)
          (kind by x e l);
      apart = λ i j a b number e f la lb oa ob.
          (let p = old_one i a e la in let q = old_one j b f lb in n.apart i j p.0 q.0 number p.1 q.1 p.2 q.2 (p.3 number oa) (q.3 number ob));
      gone = λ i j a b e f la lb.
          (let q = old_one j b f lb in ⊎_elim
          (λ (p : (i ≡ id) × (u ≡ a)). subst (λ (z : View T A S). All (λ m. Owns b m.number → ⊥) z.met) p.1 (λ k x h o. gone_of j q.0 q.1 q.2 q.4 k x h (q.3 _ o)))
          (λ (p : (i ≢ other) × (i ≢ id) × (get_elem? views i ≡ some a)). (λ k x h o. n.gone i j a q.0 p.2 q.1 la q.2 k x h (q.3 _ o)))
          (kind i a e la));
    }

  -- the first pass
  pub start_numbers : (first : T) → Numbered {T = T} {A = A} {S = S} [] (newcomer first ∷ [])
  start_numbers first = let x : View T A S = newcomer first in record {
    known = All-nil _;
    once = λ i j a b other e f la lb. absurd (other ((only x a i e).0 ∙ sym (only x b j f).0));
    named = λ by u e l. subst (Named []) (only x u by e).1 (record {
      stride = omega arith;
      counted = record { own = refl; met = All-nil _; distinct = pairs_one (λ x y. x ≢ y) 0 };
      own = refl;
      unused = λ number o other. refl;
      met = All-nil _;
    });
    apart = λ i j a b number e f la lb oa ob. (only x a i e).0 ∙ sym (only x b j f).0;
    gone = λ i j a b e f la lb. subst (λ (z : View T A S). All (λ m. Owns b m.number → ⊥) z.met) (only x a i e).1 (All-nil _);
  }
