-- Drawing a ticket keeps the rule.
use Rattle.std.proofs.Common.{◌≡◌, ◌≢◌, ◌∙◌, sym, ap, refl, subst, ℕ, ◌+◌, ◌%◌, ◌^◌, ◌<◌, ◌≤◌, List, [], ◌∷◌, length, get_or, set, ⊎_elim, inl, inr, arith, Option, Some, None, false}
use Rattle.std.proofs.lemmas.Bool.{both_ways}
use mathlib.Core.Option.{some, none}
use lib.ListN.{get_elem?}
use Rattle.atomic_table.specs.Table.{State, Me, step, keeps, Allows}
use Rattle.atomic_table.proofs.Lists.{at_set, set_else}
use Rattle.turn_core.specs.declared.view.TurnCall.{TurnCall}
use Rattle.turn_core.specs.declared.view.View.{View}
use Rattle.turn_core.specs.declared.view.Kept.{Kept}
use Rattle.turn_core.specs.Plays.{Draws}
use Rattle.turn_core.specs.Rule.{InTurn, Fits, AtHome, Away, out, share, has, OneList, IsOut}
use Rattle.turn_core.specs.Views.{AtRest}
use Rattle.turn_core.proofs.Numbers.{drawn_keeps}
use Rattle.turn_core.proofs.Parts.{sum_of-replaced, one_view, placed, some_same, none_some, same_or_not}

module _ {T A S : Type 0} (stands : T → T → List (A × S) → Type 0) where
  abbrev D : Type 0
  D = View T A S

  abbrev St : Type 0
  St = State (Option (Kept T A S)) D

  abbrev M : Type 0
  M = Me (Option (Kept T A S)) D

  module _ (opening : T) (log : List (TurnCall A S)) (drawn : ℕ) (s : St) (r : InTurn stands opening log drawn s) (id : ℕ)
      (v : D) (at : get_elem? s.views id ≡ some v) (free : v.ticket ≡ None) (idle : v.served ≡ false)
      (member : 0 < v.share) where
    abbrev w : D
    w = record v { ticket = Some drawn }

    few : length log ≤ drawn
    few = let t = r.tickets in omega arith

    fits_new : Fits stands opening log (drawn + 1) w
    fits_new = let old = r.each id v at in record {
      same = old.same;
      prefix = old.prefix;
      older = old.older;
      in_turn = λ t e. (let is : drawn ≡ t = some_same drawn t e in let less = few in (omega (arith, is, less), omega (arith, is)));
      first = λ e. absurd (both_ways v.served idle e);
      whole = omega (arith, member);
    }

    fits_old : (u : D) → Fits stands opening log drawn u → Fits stands opening log (drawn + 1) u
    fits_old u old = record {
      same = old.same;
      prefix = old.prefix;
      older = old.older;
      in_turn = λ t e. (let both = old.in_turn t e in (both.0, omega (arith, both.1)));
      first = old.first;
      whole = old.whole;
    }

    each : (by : ℕ) (u : D) → get_elem? (set s.views id w) by ≡ some u → Fits stands opening log (drawn + 1) u
    each by u e = ⊎_elim (λ (t : (by ≡ id) × (w ≡ u)). subst (Fits stands opening log (drawn + 1)) t.1 fits_new)
        (λ (t : (by ≢ id) × (get_elem? s.views by ≡ some u)). fits_old u (r.each by u t.1)) (at_set s.views id by w u e)

    -- an old ticket is not the new one
    other : (by : ℕ) (u : D) (t : ℕ) → get_elem? s.views by ≡ some u → u.ticket ≡ Some t → w.ticket ≡ Some t → ⊥
    other by u t e mine new = let is : drawn ≡ t = some_same drawn t new in let less = ((r.each by u e).in_turn t mine).1 in omega (arith, is, less)

    alone : (i j : ℕ) (a b : D) (t : ℕ) → get_elem? (set s.views id w) i ≡ some a → get_elem? (set s.views id w) j ≡ some b → a.ticket ≡ Some t → b.ticket ≡ Some t → i ≡ j
    alone i j a b t e f at_a at_b = ⊎_elim
        (λ (p : (i ≡ id) × (w ≡ a)). ⊎_elim
        (λ (q : (j ≡ id) × (w ≡ b)). p.0 ∙ sym q.0)
        (λ (q : (j ≢ id) × (get_elem? s.views j ≡ some b)). absurd (other j b t q.1 at_b (ap (λ (u : D). u.ticket) p.1 ∙ at_a)))
        (at_set s.views id j w b f))
        (λ (p : (i ≢ id) × (get_elem? s.views i ≡ some a)). ⊎_elim
        (λ (q : (j ≡ id) × (w ≡ b)). absurd (other i a t p.1 at_a (ap (λ (u : D). u.ticket) q.1 ∙ at_b)))
        (λ (q : (j ≢ id) × (get_elem? s.views j ≡ some b)). r.alone i j a b t p.1 q.1 at_a at_b)
        (at_set s.views id j w b f))
        (at_set s.views id i w a e)

    still_home : AtHome stands opening log s → (ws : List ℕ) → AtHome stands opening log (record { words = ws; homes = s.homes; views = set s.views id w })
    still_home (k, homes, for, none_served) ws = (
      k,
      homes,
      for,
      λ by u e. ⊎_elim (λ (t : (by ≡ id) × (w ≡ u)). sym (ap (λ (x : D). x.served) t.1) ∙ idle)
          (λ (t : (by ≢ id) × (get_elem? s.views by ≡ some u)). none_served by u t.1) (at_set s.views id by w u e),
    )

    still_away : Away stands s → (ws : List ℕ) → Away stands (record { words = ws; homes = s.homes; views = set s.views id w })
    still_away (homes, (by, u, e, served)) ws = ⊎_elim
        (λ (same : by ≡ id). absurd (both_ways v.served idle (ap (λ (x : D). x.served) (one_view s.views id v u at (subst (λ (n : ℕ). get_elem? s.views n ≡ some u) same e)) ∙ served)))
        (λ (apart : by ≢ id). (homes, (by, u, set_else s.views id by w apart ∙ e, served)))
        (same_or_not by id)

    still_whole : (by : ℕ) × (u : D) × (get_elem? s.views by ≡ some u) × (0 < u.share) × (u.seen ≡ log)
        → (by : ℕ) × (u : D) × (get_elem? (set s.views id w) by ≡ some u) × (0 < u.share) × (u.seen ≡ log)
    still_whole (by, u, e, live, all) = ⊎_elim
        (λ (same : by ≡ id). let is : v ≡ u = one_view s.views id v u at (subst (λ (n : ℕ). get_elem? s.views n ≡ some u) same e) in
        (id, w, placed s.views id v w at, member, ap (λ (x : D). x.seen) is ∙ all))
        (λ (apart : by ≢ id). (by, u, set_else s.views id by w apart ∙ e, live, all))
        (same_or_not by id)

    -- each ticket is still out, and the new one is
    held : (t : ℕ) → length log ≤ t → t < drawn + 1 → IsOut (set s.views id w) t
    held t low high = ⊎_elim
        (λ (same : t ≡ drawn). (id, w, placed s.views id v w at, ap Some (sym same)))
        (λ (not_new : t ≢ drawn).
        let h = r.held t low (omega (arith, high, not_new)) in ⊎_elim
        (λ (same : h.0 ≡ id). absurd (none_some t (sym free ∙ ap (λ (x : D). x.ticket) (one_view s.views id v h.1 at (subst (λ (n : ℕ). get_elem? s.views n ≡ some h.1) same h.2)) ∙ h.3)))
        (λ (apart : h.0 ≢ id). (h.0, h.1, set_else s.views id h.0 w apart ∙ h.2, h.3))
        (same_or_not h.0 id))
        (same_or_not t drawn)

    kept : (n : ℕ) → n ≡ (drawn + 1) % 2 ^ 64 → InTurn stands opening log (drawn + 1) (record { words = set s.words 0 n; homes = s.homes; views = set s.views id w })
    kept n is = record {
      words = ap (λ (ws : List ℕ). set ws 0 n) r.words ∙ ap (λ (m : ℕ). m ∷ (length log % 2 ^ 64) ∷ []) is;
      each = each;
      alone = alone;
      held = held;
      tickets = let more = sum_of-replaced (out {T = T} {A = A} {S = S}) s.views id v w at in let none_yet : has v.ticket ≡ 0 = ap has free in omega (arith, more, none_yet, r.tickets);
      shares = let stays = sum_of-replaced (share {T = T} {A = A} {S = S}) s.views id v w at in omega (arith, stays, r.shares);
      whole = still_whole r.whole;
      place = ⊎_elim (λ (home : AtHome stands opening log s). inl (still_home home (set s.words 0 n))) (λ (away : Away stands s). inr (still_away away (set s.words 0 n))) r.place;
    }

  pub draws : (opening : T) (slots id : ℕ) (m : M) → AtRest m
      → Allows (OneList stands opening) slots id m 0 (λ n. (n + 1) % 2 ^ 64) (Draws (step slots 0 1 0 none) m)
  draws opening slots id m (empty, free, idle, member) s (log, drawn, r, n) deep at small =
      let found : get_or s.words 0 0 ≡ drawn % 2 ^ 64 = ap (λ (ws : List ℕ). get_or ws 0 0) r.words in (
        record m.0 { ticket = Some drawn },
        keeps,
        tt,
        (
          log,
          drawn + 1,
          kept opening log drawn s r id m.0 at free idle member ((get_or s.words 0 0 + 1) % 2 ^ 64) (omega (arith, found)),
          drawn_keeps log s.views n id m.0 (Some drawn) at,
        ),
        (drawn, found, refl, refl),
      )
