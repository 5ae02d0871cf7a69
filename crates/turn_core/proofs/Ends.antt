-- The rule at the start, and what it says at the end.
use Rattle.std.proofs.Common.{◌≡◌, ◌≢◌, ◌∙◌, sym, ap, refl, subst, ℕ, ◌<◌, List, [], ◌∷◌, get_or, ⊎_elim, inl, arith, Option, Some, false}
use Rattle.std.specs.Prelude.{All, Contains}
use Rattle.std.proofs.lemmas.Bool.{both_ways}
use mathlib.Core.Option.{some, some-injective}
use lib.ListN.{get_elem?}
use Rattle.atomic_table.specs.Table.{State, opening, Seen, Final}
use Rattle.turn_core.specs.declared.view.TurnCall.{TurnCall}
use Rattle.turn_core.specs.declared.view.View.{View}
use Rattle.turn_core.specs.declared.view.Kept.{Kept}
use Rattle.turn_core.specs.Rule.{Numbered, InTurn, Fits, AtHome, Away, share, has, OneList}
use Rattle.turn_core.specs.Views.{Counted, IsWhole, numbers, StandsSince, newcomer, all_shares}
use Rattle.turn_core.proofs.Numbers.{start_numbers}
use Rattle.turn_core.proofs.Parts.{one_view, none_some, same_or_not, sum_of-two, only}

module _ {T A S : Type 0} (stands : T → T → List (A × S) → Type 0) where
  abbrev D : Type 0
  D = View T A S

  abbrev K : Type 0
  K = Kept T A S

  abbrev St : Type 0
  St = State (Option K) D

  module _ (value : T) where
    abbrev v₀ : D
    v₀ = newcomer value

    fits₀ : Fits stands value [] 0 v₀
    fits₀ = record {
      same = λ _. refl;
      prefix = ([], refl);
      older = ([], refl);
      in_turn = λ t e. absurd (none_some t e);
      first = λ e. absurd (both_ways false refl e);
      whole = omega arith;
    }

    starts_turns : (k : K) → k.value ≡ value → stands value value [] → InTurn stands value [] 0 (opening (0 ∷ 0 ∷ []) (Some k ∷ []) v₀)
    starts_turns k is ok = record {
      words = refl;
      each = λ by u e. subst (Fits stands value [] 0) (only v₀ u by e).1 fits₀;
      alone = λ i j a b t e f at_a at_b. (only v₀ a i e).0 ∙ sym (only v₀ b j f).0;
      held = λ t low high. absurd (omega (arith, high));
      tickets = omega arith;
      shares = omega arith;
      place = inl (k, refl, (value, refl, subst (λ (x : T). stands value x []) (sym is) ok), λ by u e. sym (ap (λ (x : D). x.served) (only v₀ u by e).1));
      whole = (0, v₀, refl, omega arith, refl);
    }

    pub starts : (k : K) → k.value ≡ value → stands value value [] → OneList stands value (opening (0 ∷ 0 ∷ []) (Some k ∷ []) v₀)
    starts k is ok = ([], 0, starts_turns k is ok, start_numbers value)

  module _ (o : T) (log : List (TurnCall A S)) (drawn : ℕ) (s : St) (r : InTurn stands o log drawn s) (id : ℕ) (v : D)
      (at : get_elem? s.views id ≡ some v) (idle : v.served ≡ false) (all : v.share ≡ all_shares) where
    others_spent : (by : ℕ) (u : D) → by ≢ id → get_elem? s.views by ≡ some u → u.share ≡ 0
    others_spent by u apart e = let two = sum_of-two (share {T = T} {A = A} {S = S}) s.views by id u v apart e at in omega (arith, two, all, r.shares)

    at_home : AtHome stands o log s
    at_home = ⊎_elim (λ (home : AtHome stands o log s). home)
        (λ (away : Away stands s). let by = away.1.0 in let u = away.1.1 in ⊎_elim
        (λ (same : by ≡ id). absurd (both_ways v.served idle (ap (λ (x : D). x.served) (one_view s.views id v u at (subst (λ (n : ℕ). get_elem? s.views n ≡ some u) same away.1.2)) ∙ away.1.3)))
        (λ (apart : by ≢ id). let f = r.each by u away.1.2 in let one : has u.ticket ≡ 1 = ap has (f.first away.1.3).0 in
        absurd (omega (arith, one, f.whole, others_spent by u apart away.1.2)))
        (same_or_not by id))
        r.place

    sees_all : v.seen ≡ log
    sees_all = let by = r.whole.0 in let u = r.whole.1 in ⊎_elim
        (λ (same : by ≡ id). ap (λ (x : D). x.seen) (one_view s.views id v u at (subst (λ (n : ℕ). get_elem? s.views n ≡ some u) same r.whole.2)) ∙ r.whole.4)
        (λ (apart : by ≢ id). absurd (omega (arith, r.whole.3, others_spent by u apart r.whole.2)))
        (same_or_not by id)

    pub closes : (k : K) × (s.homes ≡ some (Some k) ∷ []) × StandsSince stands v.opening k.value v.seen
    closes = let home = at_home in
        (home.0, home.1, subst (λ (z : Option T × List (TurnCall A S)). StandsSince stands z.0 home.0.value z.1) (λ i. (sym ((r.each id v at).same (omega (arith, all))) i, sym sees_all i)) home.2)

  pub last_value : (o : T) (id : ℕ) (v : D) (ws : List ℕ) (xs : List (Option K)) (x : Option K) → v.served ≡ false
      → v.share ≡ all_shares → Final (Seen (OneList stands o) id v) ws xs → get_elem? xs 0 ≡ some x
      → (k : K) × (x ≡ Some k) × StandsSince stands v.opening k.value v.seen
  last_value o id v ws xs x idle all last e =
      let s = last.0 in
      let h = closes o last.1.0.0 last.1.0.1 s last.1.0.2 id v last.1.1 idle all in
      let here : get_elem? xs 0 ≡ some (Some h.0) = last.4 0 (Some h.0) (ap (λ (hs : List _). get_elem? hs 0) h.1) in
      (h.0, some-injective x (Some h.0) (sym e ∙ here), h.2)

  -- each call of the whole list was made under a number that the last pass knows
  pub whole_list : (o : T) (log : List (TurnCall A S)) (drawn : ℕ) (s : St) → InTurn stands o log drawn s
      → Numbered log s.views → (id : ℕ) (v : D) → get_elem? s.views id ≡ some v → v.served ≡ false
      → v.share ≡ all_shares → IsWhole v
  whole_list o log drawn s r n id v at idle all =
      let whole : All (λ c. Contains (numbers v) c.by) log = λ k c h. (let known = n.known k c h in ⊎_elim
      (λ (same : known.0 ≡ id). subst (λ (u : D). Contains (numbers u) (get_or log k c).by)
      (sym
      (one_view s.views id v known.1 at (subst (λ (j : ℕ). get_elem? s.views j ≡ some known.1) same known.2)))
      known.4)
      (λ (apart : known.0 ≢ id). absurd (let gone = others_spent o log drawn s r id v at idle all known.0 known.1 apart known.2 in omega (arith, gone, known.3)))
      (same_or_not known.0 id)) in
      subst (All (λ c. Contains (numbers v) c.by)) (sym (sees_all o log drawn s r id v at idle all)) whole

  pub last_list : (o : T) (id : ℕ) (v : D) (ws : List ℕ) (xs : List (Option K)) → v.share ≡ all_shares → v.served ≡ false → Final (Seen (OneList stands o) id v) ws xs → IsWhole v
  last_list o id v ws xs all idle (s, ((log, drawn, r, n), at), words, len, homes) = whole_list o log drawn s r n id v at idle all

  -- and what is said of the calls under these numbers
  pub last_counted : (o : T) (id : ℕ) (v : D) (ws : List ℕ) (xs : List (Option K)) → 0 < v.share → Final (Seen (OneList stands o) id v) ws xs → Counted v
  last_counted o id v ws xs live last = (last.1.0.3.named id v last.1.1 live).counted
