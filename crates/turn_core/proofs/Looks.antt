-- A look at the number that is served keeps the rule.
use Rattle.std.proofs.Common.{◌≡◌, ◌≢◌, ◌∙◌, sym, ap, refl, subst, ℕ, ◌+◌, ◌%◌, ◌^◌, ◌<◌, ◌≤◌, List, [], length, append-nil, get_or, set, ⊎_elim, inr, arith, Option, Some, None, true, false}
use Rattle.std.proofs.lemmas.Bool.{both_ways}
use mathlib.Core.Logic.{dite}
use native.Mathlib.Decide.{ℕ_discrete}
use mathlib.Core.Option.{some, none}
use lib.ListN.{get_elem?}
use Rattle.atomic_table.specs.Table.{State, Me, step, keeps, takes, stepped, Allows}
use Rattle.atomic_table.proofs.Lists.{at_set, set_else, set_again, one_turn}
use Rattle.turn_core.specs.declared.view.TurnCall.{TurnCall}
use Rattle.turn_core.specs.declared.view.View.{View}
use Rattle.turn_core.specs.declared.view.Kept.{Kept}
use Rattle.turn_core.specs.Plays.{Looks}
use Rattle.turn_core.specs.Rule.{Numbered, InTurn, Fits, AtHome, Away, out, share, has, OneList, IsOut}
use Rattle.turn_core.specs.Views.{StandsSince, all_shares}
use Rattle.turn_core.proofs.Numbers.{served_keeps}
use Rattle.turn_core.proofs.Parts.{sum_of-replaced, sum_of-below, one_view, placed, some_same, same_or_not, prefix_trans}

module _ {T A S : Type 0} (stands : T → T → List (A × S) → Type 0) where
  abbrev D : Type 0
  D = View T A S

  abbrev K : Type 0
  K = Kept T A S

  abbrev St : Type 0
  St = State (Option K) D

  abbrev M : Type 0
  M = Me (Option K) D

  -- the tickets that are out are fewer than 2 ^ 32
  pub few_out : (opening : T) (log : List (TurnCall A S)) (drawn : ℕ) (s : St) (r : InTurn stands opening log drawn s) → drawn ≤ length log + all_shares
  few_out opening log drawn s r =
      let less = sum_of-below (out {T = T} {A = A} {S = S}) (share {T = T} {A = A} {S = S}) s.views (λ i v e. (r.each i v e).whole) in
      omega (arith, less, r.shares, r.tickets)

  module _ (opening : T) (log : List (TurnCall A S)) (drawn : ℕ) (s : St) (r : InTurn stands opening log drawn s) (id : ℕ)
      (v : D) (at : get_elem? s.views id ≡ some v) (t : ℕ) (mine : v.ticket ≡ Some t) (idle : v.served ≡ false) where
    -- the word shows the ticket only if it is the ticket's turn
    turn_is : length log % 2 ^ 64 ≡ t % 2 ^ 64 → length log ≡ t
    turn_is e = let here = (r.each id v at).in_turn t mine in let few = few_out opening log drawn s r in
        one_turn (length log) t (2 ^ 64) here.0 (omega (arith, here.1, few)) e

    abbrev w : D
    w = record v { seen = log; served = true }

    live : 0 < v.share
    live = let one : has v.ticket ≡ 1 = ap has mine in omega (arith, one, (r.each id v at).whole)

    module _ (now : length log ≡ t) where
      fits_new : Fits stands opening log drawn w
      fits_new = let old = r.each id v at in record {
        same = old.same;
        prefix = ([], append-nil log);
        older = prefix_trans v.older v.seen log old.older old.prefix;
        in_turn = old.in_turn;
        first = λ _. (mine ∙ ap Some (sym now), refl);
        whole = old.whole;
      }

      each : (by : ℕ) (u : D) → get_elem? (set s.views id w) by ≡ some u → Fits stands opening log drawn u
      each by u e = ⊎_elim (λ (p : (by ≡ id) × (w ≡ u)). subst (Fits stands opening log drawn) p.1 fits_new)
          (λ (p : (by ≢ id) × (get_elem? s.views by ≡ some u)). r.each by u p.1) (at_set s.views id by w u e)

      -- each view with its ticket as before
      before : (by : ℕ) (u : D) (k : ℕ) → get_elem? (set s.views id w) by ≡ some u → u.ticket ≡ Some k → (u' : D) × (get_elem? s.views by ≡ some u') × (u'.ticket ≡ Some k)
      before by u k e has_it = ⊎_elim
          (λ (p : (by ≡ id) × (w ≡ u)). (v, subst (λ (n : ℕ). get_elem? s.views n ≡ some v) (sym p.0) at, ap (λ (x : D). x.ticket) p.1 ∙ has_it))
          (λ (p : (by ≢ id) × (get_elem? s.views by ≡ some u)). (u, p.1, has_it))
          (at_set s.views id by w u e)

      held : (k : ℕ) → length log ≤ k → k < drawn → IsOut (set s.views id w) k
      held k low high = let h = r.held k low high in ⊎_elim
          (λ (same : h.0 ≡ id). (id, w, placed s.views id v w at, ap (λ (x : D). x.ticket) (one_view s.views id v h.1 at (subst (λ (n : ℕ). get_elem? s.views n ≡ some h.1) same h.2)) ∙ h.3))
          (λ (apart : h.0 ≢ id). (h.0, h.1, set_else s.views id h.0 w apart ∙ h.2, h.3))
          (same_or_not h.0 id)

      alone : (i j : ℕ) (a b : D) (k : ℕ) → get_elem? (set s.views id w) i ≡ some a → get_elem? (set s.views id w) j ≡ some b → a.ticket ≡ Some k → b.ticket ≡ Some k → i ≡ j
      alone i j a b k e f at_a at_b = let p = before i a k e at_a in let q = before j b k f at_b in r.alone i j p.0 q.0 k p.1 q.1 p.2 q.2

      served : (home : AtHome stands opening log s) → InTurn stands opening log drawn (stepped s 1 (get_or s.words 1 0) id [] w (takes 0 (Some home.0)))
      served (k, homes, for, none_served) = record {
        words = ap (λ (ws : List ℕ). set ws 1 (get_or ws 1 0)) r.words;
        each = each;
        alone = alone;
        held = held;
        tickets = let more = sum_of-replaced (out {T = T} {A = A} {S = S}) s.views id v w at in omega (arith, more, r.tickets);
        shares = let stays = sum_of-replaced (share {T = T} {A = A} {S = S}) s.views id v w at in omega (arith, stays, r.shares);
        whole = (id, w, placed s.views id v w at, live, refl);
        place = inr (ap (λ (hs : List _). set hs 0 none) homes, (id, w, placed s.views id v w at, refl));
      }

      nobody_else : Away stands s → ⊥
      nobody_else (homes, (by, u, e, is_served)) =
          let first = ((r.each by u e).first is_served).0 in
          let same : by ≡ id = r.alone by id u v t e at (first ∙ ap Some now) mine in
          both_ways v.served idle (ap (λ (x : D). x.served) (one_view s.views id v u at (subst (λ (n : ℕ). get_elem? s.views n ≡ some u) same e)) ∙ is_served)

    unmoved : InTurn stands opening log drawn (stepped s 1 (get_or s.words 1 0) id [] v keeps)
    unmoved = subst (λ (z : List ℕ × List D). InTurn stands opening log drawn (record { words = z.0; homes = s.homes; views = z.1 })) (λ i. (sym same_words i, sym (set_again s.views id v at) i)) r
      where
        same_words : set s.words 1 (get_or s.words 1 0) ≡ s.words
        same_words = ap (λ (ws : List ℕ). set ws 1 (get_or ws 1 0)) r.words ∙ sym r.words

  ticket_of : (o : Option ℕ) → has o ≡ 1 → (t : ℕ) × (o ≡ Some t)
  ticket_of None e = absurd (omega (arith, e))
  ticket_of (Some t) e = (t, refl)

  looks_at : (opening : T) (slots id : ℕ) (v : D) (t : ℕ) → v.ticket ≡ Some t → v.served ≡ false
      → Allows (OneList stands opening) slots id (v, []) 1 (λ n. n) (Looks stands (step slots 1 0 0 none) (v, []))
  looks_at opening slots id v t mine idle s (log, drawn, r, n) deep at small =
      let found : get_or s.words 1 0 ≡ length log % 2 ^ 64 = ap (λ (ws : List ℕ). get_or ws 1 0) r.words in
      dite (ℕ_discrete (get_or s.words 1 0) (t % 2 ^ 64))
      (λ (hit : get_or s.words 1 0 ≡ t % 2 ^ 64).
      let now = turn_is opening log drawn s r id v at t mine idle (sym found ∙ hit) in
      ⊎_elim
      (λ (home : AtHome stands opening log s). (
        record v { seen = log; served = true },
        takes 0 (Some home.0),
        ap (λ (hs : List _). get_elem? hs 0) home.1,
        (log, drawn, served opening log drawn s r id v at t mine idle now home, served_keeps log s.views n id v at),
        λ t' e. (
          (λ _. (
            home.0,
            refl,
            subst (λ (o : Option T). StandsSince stands o home.0.value log)
                (sym ((r.each id v at).same (live opening log drawn s r id v at t mine idle))) home.2,
            (r.each id v at).prefix,
            refl,
          )),
          λ miss. absurd (miss (hit ∙ ap (λ (n : ℕ). n % 2 ^ 64) (some_same t t' (sym mine ∙ e)))),
        ),
      ))
      (λ (away : Away stands s). absurd (nobody_else opening log drawn s r id v at t mine idle now away))
      r.place)
      (λ (miss : get_or s.words 1 0 ≢ t % 2 ^ 64). (
        v,
        keeps,
        tt,
        (log, drawn, unmoved opening log drawn s r id v at t mine idle, subst (Numbered log) (sym (set_again s.views id v at)) n),
        λ t' e. ((λ hit. absurd (miss (hit ∙ ap (λ (n : ℕ). n % 2 ^ 64) (some_same t' t (sym e ∙ mine))))), λ _. refl),
      ))

  pub looks : (opening : T) (slots id : ℕ) (m : M) → m.1 ≡ [] → has m.0.ticket ≡ 1 → m.0.served ≡ false
      → Allows (OneList stands opening) slots id m 1 (λ n. n) (Looks stands (step slots 1 0 0 none) m)
  looks opening slots id m empty waits idle =
      let t = ticket_of m.0.ticket waits in
      let P : List (ℕ × Option K) → Type 0 = λ c. Allows (OneList stands opening) slots id (m.0, c) 1 (λ n. n) (Looks stands (step slots 1 0 0 none) (m.0, c)) in
      subst P (sym empty) (looks_at opening slots id m.0 t.0 t.1 idle)
