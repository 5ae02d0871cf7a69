-- Moving the turn on keeps the rule.
use Rattle.std.proofs.Common.{◌≡◌, ◌≢◌, ◌∙◌, sym, ap, refl, subst, ℕ, ◌+◌, ◌%◌, ◌^◌, ◌<◌, ◌≤◌, List, [], ◌∷◌, ◌++◌, length, length-append, append-nil, get_or, set, ⊎_elim, inl, arith, Option, Some}
use Rattle.std.proofs.Common.{None, true, false}
use Rattle.std.proofs.lemmas.Bool.{both_ways, false_from_ne_true}
use mathlib.Core.Option.{some, none}
use lib.ListN.{get_elem?}
use Rattle.atomic_table.specs.Table.{State, Me, step, gives, stepped, Allows}
use Rattle.atomic_table.proofs.Lists.{at_set, set_else}
use Rattle.turn_core.specs.declared.view.TurnCall.{TurnCall}
use Rattle.turn_core.specs.declared.view.View.{View}
use Rattle.turn_core.specs.declared.view.LastCall.{LastCall}
use Rattle.turn_core.specs.declared.view.Kept.{Kept}
use Rattle.turn_core.specs.Plays.{GivesBack, moved}
use Rattle.turn_core.specs.Rule.{InTurn, Fits, AtHome, Away, out, share, has, OneList, IsOut}
use Rattle.turn_core.specs.Views.{StandsSince, next_call}
use Rattle.turn_core.proofs.Numbers.{moved_keeps, moved_named}
use Rattle.turn_core.proofs.Parts.{sum_of-replaced, prefix_more, one_view, placed, some_same, none_some, same_or_not}

module _ {T A S : Type 0} where
  -- what was last asked of the value that a slot in hand holds
  abbrev last_of_slot : Option (Kept T A S) → Option (LastCall A S)
  last_of_slot None = None
  last_of_slot (Some k) = k.last

  abbrev last_of : List (ℕ × Option (Kept T A S)) → Option (LastCall A S)
  last_of [] = None
  last_of (x ∷ xs) = last_of_slot x.1

module _ {T A S : Type 0} (stands : T → T → List (A × S) → Type 0) where
  abbrev D : Type 0
  D = View T A S

  abbrev K : Type 0
  K = Kept T A S

  abbrev St : Type 0
  St = State (Option K) D

  abbrev M : Type 0
  M = Me (Option K) D

  module _ (opening : T) (log : List (TurnCall A S)) (drawn : ℕ) (s : St) (r : InTurn stands opening log drawn s) (id : ℕ)
      (v : D) (at : get_elem? s.views id ≡ some v) (served : v.served ≡ true) (k : K) (d : LastCall A S)
      (for : StandsSince stands v.opening k.value (v.seen ++ next_call v d.ask.value d.say.value ∷ [])) where
    first : (v.ticket ≡ Some (length log)) × (v.seen ≡ log)
    first = (r.each id v at).first served

    live : 0 < v.share
    live = let one : has v.ticket ≡ 1 = ap has first.0 in omega (arith, one, (r.each id v at).whole)

    abbrev call : TurnCall A S
    call = next_call v d.ask.value d.say.value

    abbrev w : D
    w = moved v d

    abbrev log' : List (TurnCall A S)
    log' = log ++ call ∷ []

    longer : length log' ≡ length log + 1
    longer = length-append log (call ∷ [])

    fits_new : Fits stands opening log' drawn w
    fits_new = let old = r.each id v at in record {
      same = old.same;
      older = prefix_more v.older v.seen call old.older;
      prefix = ([], append-nil (v.seen ++ call ∷ []) ∙ ap (λ (l : List (TurnCall A S)). l ++ call ∷ []) first.1);
      in_turn = λ t e. absurd (none_some t e);
      first = λ e. absurd (both_ways false refl e);
      whole = omega arith;
    }

    fits_old : (by : ℕ) (u : D) → get_elem? s.views by ≡ some u → by ≢ id → Fits stands opening log' drawn u
    fits_old by u e apart = let old = r.each by u e in record {
      same = old.same;
      prefix = prefix_more u.seen log call old.prefix;
      older = old.older;
      in_turn = λ t mine.
          (let both = old.in_turn t mine in
          let not_now : length log ≢ t = λ (now : length log ≡ t). apart (r.alone by id u v t e at mine (first.0 ∙ ap Some now)) in
          (omega (arith, both.0, not_now, longer), both.1));
      first = λ is_served. absurd (apart (r.alone by id u v (length log) e at (old.first is_served).0 first.0));
      whole = old.whole;
    }

    each : (by : ℕ) (u : D) → get_elem? (set s.views id w) by ≡ some u → Fits stands opening log' drawn u
    each by u e = ⊎_elim (λ (p : (by ≡ id) × (w ≡ u)). subst (Fits stands opening log' drawn) p.1 fits_new)
        (λ (p : (by ≢ id) × (get_elem? s.views by ≡ some u)). fits_old by u p.1 p.0) (at_set s.views id by w u e)

    -- a view with a ticket is an old one
    before : (by : ℕ) (u : D) (t : ℕ) → get_elem? (set s.views id w) by ≡ some u → u.ticket ≡ Some t → get_elem? s.views by ≡ some u
    before by u t e mine = ⊎_elim
        (λ (p : (by ≡ id) × (w ≡ u)). absurd (none_some t (ap (λ (x : D). x.ticket) p.1 ∙ mine)))
        (λ (p : (by ≢ id) × (get_elem? s.views by ≡ some u)). p.1) (at_set s.views id by w u e)

    idle : (by : ℕ) (u : D) → get_elem? (set s.views id w) by ≡ some u → u.served ≡ false
    idle by u e = ⊎_elim
        (λ (p : (by ≡ id) × (w ≡ u)). sym (ap (λ (x : D). x.served) p.1))
        (λ (p : (by ≢ id) × (get_elem? s.views by ≡ some u)). false_from_ne_true u.served (λ yes. p.0 (r.alone by id u v (length log) p.1 at ((r.each by u p.1).first yes).0 first.0)))
        (at_set s.views id by w u e)

    homes : s.homes ≡ none ∷ []
    homes = ⊎_elim (λ (home : AtHome stands opening log s). absurd (both_ways v.served (home.3 id v at) served)) (λ (away : Away stands s). away.0) r.place

    -- each ticket that is left is still out
    held : (t : ℕ) → length log' ≤ t → t < drawn → IsOut (set s.views id w) t
    held t low high =
        let h = r.held t (omega (arith, low, longer)) high in
        let not_now : length log ≢ t = (λ (now : length log ≡ t). omega (arith, now, low, longer)) in ⊎_elim
        (λ (same : h.0 ≡ id). absurd (not_now (some_same (length log) t (sym first.0
        ∙ ap (λ (x : D). x.ticket)
        (one_view s.views id v h.1 at (subst (λ (n : ℕ). get_elem? s.views n ≡ some h.1) same h.2))
        ∙ h.3))))
        (λ (apart : h.0 ≢ id). (h.0, h.1, set_else s.views id h.0 w apart ∙ h.2, h.3))
        (same_or_not h.0 id)

    stands_for : StandsSince stands (Some opening) k.value log'
    stands_for = subst (λ (z : Option T × List (TurnCall A S)). StandsSince stands z.0 k.value (z.1 ++ call ∷ [])) (λ i. ((r.each id v at).same live i, first.1 i)) for

    pub kept : (n : ℕ) → n ≡ (length log + 1) % 2 ^ 64 → InTurn stands opening log' drawn (stepped s 1 n id ((0, Some k) ∷ []) w gives)
    kept n is = record {
      words = ap (λ (ws : List ℕ). set ws 1 n) r.words ∙ ap (λ (m : ℕ). (drawn % 2 ^ 64) ∷ m ∷ []) (is ∙ ap (λ (m : ℕ). m % 2 ^ 64) (sym longer));
      each = each;
      held = held;
      alone = λ i j a b t e f at_a at_b. r.alone i j a b t (before i a t e at_a) (before j b t f at_b) at_a at_b;
      tickets = let more = sum_of-replaced (out {T = T} {A = A} {S = S}) s.views id v w at in let one : has v.ticket ≡ 1 = ap has first.0 in omega (arith, more, one, r.tickets, longer);
      shares = let stays = sum_of-replaced (share {T = T} {A = A} {S = S}) s.views id v w at in omega (arith, stays, r.shares);
      whole = (id, w, placed s.views id v w at, live, ap (λ (l : List (TurnCall A S)). l ++ call ∷ []) first.1);
      place = inl (k, ap (λ (hs : List _). set hs 0 (some (Some k))) homes, stands_for, idle);
    }

  moves_at : (opening : T) (slots id : ℕ) (v : D) (k : K) (d : LastCall A S) → v.served ≡ true → k.last ≡ Some d
      → StandsSince stands v.opening k.value (v.seen ++ next_call v d.ask.value d.say.value ∷ [])
      → Allows (OneList stands opening) slots id (v, (0, Some k) ∷ []) 1 (λ n. (n + 1) % 2 ^ 64) (GivesBack (step slots 1 1 0 none) (v, (0, Some k) ∷ []))
  moves_at opening slots id v k d served last for s (log, drawn, r, n) deep at small =
      let found : get_or s.words 1 0 ≡ length log % 2 ^ 64 = ap (λ (ws : List ℕ). get_or ws 1 0) r.words in (
        moved v d,
        gives,
        tt,
        (
          log ++ next_call v d.ask.value d.say.value ∷ [],
          drawn,
          kept opening log drawn s r id v at served k d for ((get_or s.words 1 0 + 1) % 2 ^ 64) (omega (arith, found)),
          moved_keeps log s.views n id v d at (live opening log drawn s r id v at served k d for),
        ),
        λ k' d' same last'. (
          (λ i. (moved v (some_same d d' (sym last ∙ ap (λ (c : List (ℕ × Option K)). last_of c) same ∙ last') i), [])),
          (moved_named log s.views n id v d at (live opening log drawn s r id v at served k d for)).counted,
        ),
      )

  pub moves : (opening : T) (slots id : ℕ) (m : M) (k : K) (d : LastCall A S) → m.0.served ≡ true → m.1 ≡ (0, Some k) ∷ []
      → k.last ≡ Some d
      → StandsSince stands m.0.opening k.value (m.0.seen ++ next_call m.0 d.ask.value d.say.value ∷ [])
      → Allows (OneList stands opening) slots id m 1 (λ n. (n + 1) % 2 ^ 64) (GivesBack (step slots 1 1 0 none) m)
  moves opening slots id m k d served holds last for =
      let P : List (ℕ × Option K) → Type 0 = λ c. Allows (OneList stands opening) slots id (m.0, c) 1 (λ n. (n + 1) % 2 ^ 64) (GivesBack (step slots 1 1 0 none) (m.0, c)) in
      subst P (sym holds) (moves_at opening slots id m.0 k d served last for)
