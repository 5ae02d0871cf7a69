-- A split keeps the rule.
use Rattle.std.proofs.Common.{◌≡◌, ◌≢◌, ◌∙◌, sym, ap, subst, ℕ, ◌<◌, ◌≤◌, List, [], ◌∷◌, ◌++◌, length, set, ⊎_elim, ◌⊎◌, inl, inr, arith, Option, Some, None, false}
use Rattle.std.proofs.lemmas.Bool.{both_ways}
use mathlib.Core.Option.{some}
use lib.ListN.{get_elem?}
use Rattle.atomic_table.specs.Table.{State, Splits}
use Rattle.atomic_table.proofs.Lists.{at_set, set_else, at_snoc, at_longer}
use Rattle.turn_core.specs.declared.view.TurnCall.{TurnCall}
use Rattle.turn_core.specs.declared.view.View.{View}
use Rattle.turn_core.specs.declared.view.Kept.{Kept}
use Rattle.turn_core.specs.Rule.{InTurn, Fits, AtHome, Away, out, share, has, OneList, IsOut}
use Rattle.turn_core.specs.Views.{left, right}
use Rattle.turn_core.proofs.Numbers.{split_numbers}
use Rattle.turn_core.proofs.Parts.{sum_of-replaced, one_view, placed, none_some, same_or_not, sum_of-snoc}

module _ {T A S : Type 0} (stands : T → T → List (A × S) → Type 0) where
  abbrev D : Type 0
  D = View T A S

  abbrev K : Type 0
  K = Kept T A S

  abbrev St : Type 0
  St = State (Option K) D

  module _ (o : T) (log : List (TurnCall A S)) (drawn : ℕ) (s : St) (r : InTurn stands o log drawn s) (id : ℕ) (v : D)
      (at : get_elem? s.views id ≡ some v) (free : v.ticket ≡ None) (idle : v.served ≡ false) (more : 1 < v.share) where
    abbrev vs : List D
    vs = set s.views id (left v)

    live : 0 < v.share
    live = omega (arith, more)

    fits_left : Fits stands o log drawn (left v)
    fits_left = let old = r.each id v at in record {
      same = λ _. old.same live;
      prefix = old.prefix;
      older = old.older;
      in_turn = old.in_turn;
      first = old.first;
      whole = let none_yet : has v.ticket ≡ 0 = ap has free in omega (arith, none_yet);
    }

    fits_right : Fits stands o log drawn (right v)
    fits_right = let old = r.each id v at in record {
      same = λ _. old.same live;
      prefix = old.prefix;
      older = old.older;
      in_turn = old.in_turn;
      first = old.first;
      whole = let none_yet : has v.ticket ≡ 0 = ap has free in omega (arith, none_yet);
    }

    -- each view afterwards is one of the two, or an old one of another
    which : (by : ℕ) (u : D) → get_elem? (vs ++ right v ∷ []) by ≡ some u → (left v ≡ u) ⊎ ((right v ≡ u) ⊎ ((by ≢ id) × (get_elem? s.views by ≡ some u)))
    which by u e = ⊎_elim
        (λ (p : get_elem? vs by ≡ some u). ⊎_elim (λ (q : (by ≡ id) × (left v ≡ u)). inl q.1) (λ (q : (by ≢ id) × (get_elem? s.views by ≡ some u)). inr (inr q)) (at_set s.views id by (left v) u p))
        (λ (p : right v ≡ u). inr (inl p))
        (at_snoc vs (right v) u by e)

    each : (by : ℕ) (u : D) → get_elem? (vs ++ right v ∷ []) by ≡ some u → Fits stands o log drawn u
    each by u e = ⊎_elim (λ (p : left v ≡ u). subst (Fits stands o log drawn) p fits_left)
        (λ (p : (right v ≡ u) ⊎ ((by ≢ id) × (get_elem? s.views by ≡ some u))). ⊎_elim (λ (q : right v ≡ u). subst (Fits stands o log drawn) q fits_right)
        (λ (q : (by ≢ id) × (get_elem? s.views by ≡ some u)). r.each by u q.1) p)
        (which by u e)

    with_ticket : (by t : ℕ) (u : D) → get_elem? (vs ++ right v ∷ []) by ≡ some u → u.ticket ≡ Some t → get_elem? s.views by ≡ some u
    with_ticket by t u e mine = ⊎_elim (λ (p : left v ≡ u). absurd (none_some t (sym free ∙ ap (λ (x : D). x.ticket) p ∙ mine)))
        (λ (p : (right v ≡ u) ⊎ ((by ≢ id) × (get_elem? s.views by ≡ some u))). ⊎_elim (λ (q : right v ≡ u). absurd (none_some t (sym free ∙ ap (λ (x : D). x.ticket) q ∙ mine)))
        (λ (q : (by ≢ id) × (get_elem? s.views by ≡ some u)). q.1) p)
        (which by u e)

    still_idle : ((by : ℕ) (u : D) → get_elem? s.views by ≡ some u → u.served ≡ false) → (by : ℕ) (u : D) → get_elem? (vs ++ right v ∷ []) by ≡ some u → u.served ≡ false
    still_idle nobody by u e = ⊎_elim (λ (p : left v ≡ u). sym (ap (λ (x : D). x.served) p) ∙ idle)
        (λ (p : (right v ≡ u) ⊎ ((by ≢ id) × (get_elem? s.views by ≡ some u))). ⊎_elim (λ (q : right v ≡ u). sym (ap (λ (x : D). x.served) q) ∙ idle)
        (λ (q : (by ≢ id) × (get_elem? s.views by ≡ some u)). nobody by u q.1) p)
        (which by u e)

    kept_view : (by : ℕ) (u : D) → by ≢ id → get_elem? s.views by ≡ some u → get_elem? (vs ++ right v ∷ []) by ≡ some u
    kept_view by u apart e = at_longer vs (right v ∷ []) by u (set_else s.views id by (left v) apart ∙ e)

    held : (t : ℕ) → length log ≤ t → t < drawn → IsOut (vs ++ right v ∷ []) t
    held t low high = let h = r.held t low high in ⊎_elim
        (λ (same : h.0 ≡ id). absurd (none_some t (sym free ∙ ap (λ (x : D). x.ticket) (one_view s.views id v h.1 at (subst (λ (n : ℕ). get_elem? s.views n ≡ some h.1) same h.2)) ∙ h.3)))
        (λ (apart : h.0 ≢ id). (h.0, h.1, kept_view h.0 h.1 apart h.2, h.3))
        (same_or_not h.0 id)

    still_away : Away stands s → Away stands (record { words = s.words; homes = s.homes; views = vs ++ right v ∷ [] })
    still_away (homes, (by, u, e, served)) = ⊎_elim
        (λ (same : by ≡ id). absurd (both_ways v.served idle (ap (λ (x : D). x.served) (one_view s.views id v u at (subst (λ (n : ℕ). get_elem? s.views n ≡ some u) same e)) ∙ served)))
        (λ (apart : by ≢ id). (homes, (by, u, kept_view by u apart e, served)))
        (same_or_not by id)

    still_whole : (by : ℕ) × (u : D) × (get_elem? s.views by ≡ some u) × (0 < u.share) × (u.seen ≡ log)
        → (by : ℕ) × (u : D) × (get_elem? (vs ++ right v ∷ []) by ≡ some u) × (0 < u.share) × (u.seen ≡ log)
    still_whole (by, u, e, member, all) = ⊎_elim
        (λ (same : by ≡ id). let is : v ≡ u = one_view s.views id v u at (subst (λ (n : ℕ). get_elem? s.views n ≡ some u) same e) in
        (id, left v, at_longer vs (right v ∷ []) id (left v) (placed s.views id v (left v) at), omega (arith, more), ap (λ (x : D). x.seen) is ∙ all))
        (λ (apart : by ≢ id). (by, u, kept_view by u apart e, member, all))
        (same_or_not by id)

    pub split_keeps : InTurn stands o log drawn (record { words = s.words; homes = s.homes; views = vs ++ right v ∷ [] })
    split_keeps = record {
      words = r.words;
      held = held;
      each = each;
      alone = λ i j a b t e f at_a at_b. r.alone i j a b t (with_ticket i t a e at_a) (with_ticket j t b f at_b) at_a at_b;
      tickets =
          let a = sum_of-replaced (out {T = T} {A = A} {S = S}) s.views id v (left v) at in
          let b = sum_of-snoc (out {T = T} {A = A} {S = S}) vs (right v) in
          let none_yet : has v.ticket ≡ 0 = ap has free in
          omega (arith, a, b, none_yet, r.tickets);
      shares =
          let a = sum_of-replaced (share {T = T} {A = A} {S = S}) s.views id v (left v) at in
          let b = sum_of-snoc (share {T = T} {A = A} {S = S}) vs (right v) in
          omega (arith, a, b, more, r.shares);
      place = ⊎_elim (λ (home : AtHome stands o log s). inl (home.0, home.1, home.2, still_idle home.3)) (λ (away : Away stands s). inr (still_away away)) r.place;
      whole = still_whole r.whole;
    }

  pub splits : (o : T) (id : ℕ) (v : D) → v.ticket ≡ None → v.served ≡ false → 1 < v.share → Splits (OneList stands o) id v (left v) (right v)
  splits o id v free idle more s (log, drawn, r, n) at = (log, drawn, split_keeps o log drawn s r id v at free idle more, split_numbers log s.views n id v at more (r.each id v at).prefix)
