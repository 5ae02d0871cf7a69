-- A meeting of two passes keeps the rule, and a look tells which list begins the other.
use Rattle.std.proofs.Common.{◌≡◌, ◌≢◌, ◌∙◌, sym, ap, refl, subst, ℕ, ◌<◌, ◌≤◌, List, [], length, get_or, set, ⊎_elim, ◌⊎◌, inl, inr, arith, Option, Some, None, false}
use Rattle.std.proofs.lemmas.Bool.{both_ways}
use mathlib.Core.Option.{some, none}
use mathlib.Core.List.{IsPrefix}
use lib.ListN.{get_elem?}
use Rattle.atomic_table.specs.Table.{State, Me, step, keeps, Allows, Joins}
use Rattle.atomic_table.proofs.Lists.{at_set, set_else, set_again}
use Rattle.turn_core.specs.declared.view.TurnCall.{TurnCall}
use Rattle.turn_core.specs.declared.view.View.{View}
use Rattle.turn_core.specs.declared.view.Kept.{Kept}
use Rattle.turn_core.specs.Plays.{Learns, Learned}
use Rattle.turn_core.specs.Rule.{InTurn, Fits, AtHome, Away, out, share, has, OneList, IsOut}
use Rattle.turn_core.specs.Views.{AtRest, both, spent, Joined, IsWhole, all_shares}
use Rattle.turn_core.proofs.Numbers.{meet_numbers}
use Rattle.turn_core.proofs.Parts.{sum_of-replaced, one_view, placed, none_some, same_or_not}
use Rattle.turn_core.proofs.Prefixes.{longer_prefix, shorter_begins, longer_whole, each_begins}
use Rattle.turn_core.proofs.Ends.{whole_list}

module _ {T A S : Type 0} (stands : T → T → List (A × S) → Type 0) where
  abbrev D : Type 0
  D = View T A S

  abbrev K : Type 0
  K = Kept T A S

  abbrev St : Type 0
  St = State (Option K) D

  abbrev M : Type 0
  M = Me (Option K) D

  module _ (o : T) (log : List (TurnCall A S)) (drawn : ℕ) (s : St) (r : InTurn stands o log drawn s) (id other : ℕ)
      (v w : D) (at : get_elem? s.views id ≡ some v) (apart : other ≢ id) (at_w : get_elem? s.views other ≡ some w)
      (free_v : v.ticket ≡ None) (idle_v : v.served ≡ false) (live_v : 0 < v.share) (free_w : w.ticket ≡ None) (idle_w : w.served ≡ false) where
    abbrev u : D
    u = both v w

    abbrev vs₁ : List D
    vs₁ = set s.views id u

    abbrev vs : List D
    vs = set vs₁ other spent

    at₁ : get_elem? vs₁ other ≡ some w
    at₁ = set_else s.views id other u apart ∙ at_w

    fits_both : Fits stands o log drawn u
    fits_both = let a = r.each id v at in let b = r.each other w at_w in record {
      same = λ _. a.same live_v;
      prefix = longer_prefix v.seen w.seen log a.prefix b.prefix;
      older = shorter_begins v.seen w.seen log a.prefix b.prefix;
      in_turn = λ t e. absurd (none_some t (sym free_v ∙ e));
      first = λ e. absurd (both_ways v.served idle_v e);
      whole = let none_yet : has v.ticket ≡ 0 = ap has free_v in omega (arith, none_yet);
    }

    fits_spent : Fits stands o log drawn spent
    fits_spent = record {
      same = λ live. absurd (omega (arith, live));
      prefix = (log, refl);
      older = ([], refl);
      in_turn = λ t e. absurd (none_some t e);
      first = λ e. absurd (both_ways false refl e);
      whole = omega arith;
    }

    abbrev Which : ℕ → D → Type 0
    Which by x = (spent ≡ x) ⊎ ((u ≡ x) ⊎ ((by ≢ other) × (by ≢ id) × (get_elem? s.views by ≡ some x)))

    which : (by : ℕ) (x : D) → get_elem? vs by ≡ some x → Which by x
    which by x e = ⊎_elim
        (λ (p : (by ≡ other) × (spent ≡ x)). inl p.1)
        (λ (p : (by ≢ other) × (get_elem? vs₁ by ≡ some x)).
        ⊎_elim (λ (q : (by ≡ id) × (u ≡ x)). inr (inl q.1))
        (λ (q : (by ≢ id) × (get_elem? s.views by ≡ some x)). inr (inr (p.0, q.0, q.1)))
        (at_set s.views id by u x p.1))
        (at_set vs₁ other by spent x e)

    each : (by : ℕ) (x : D) → get_elem? vs by ≡ some x → Fits stands o log drawn x
    each by x e = ⊎_elim (λ (p : spent ≡ x). subst (Fits stands o log drawn) p fits_spent)
        (λ (p : (u ≡ x) ⊎ ((by ≢ other) × (by ≢ id) × (get_elem? s.views by ≡ some x))). ⊎_elim (λ (q : u ≡ x). subst (Fits stands o log drawn) q fits_both)
        (λ (q : (by ≢ other) × (by ≢ id) × (get_elem? s.views by ≡ some x)). r.each by x q.2) p)
        (which by x e)

    with_ticket : (by t : ℕ) (x : D) → get_elem? vs by ≡ some x → x.ticket ≡ Some t → get_elem? s.views by ≡ some x
    with_ticket by t x e mine = ⊎_elim (λ (p : spent ≡ x). absurd (none_some t (ap (λ (y : D). y.ticket) p ∙ mine)))
        (λ (p : (u ≡ x) ⊎ ((by ≢ other) × (by ≢ id) × (get_elem? s.views by ≡ some x))). ⊎_elim (λ (q : u ≡ x). absurd (none_some t (sym free_v ∙ ap (λ (y : D). y.ticket) q ∙ mine)))
        (λ (q : (by ≢ other) × (by ≢ id) × (get_elem? s.views by ≡ some x)). q.2) p)
        (which by x e)

    still_idle : ((by : ℕ) (x : D) → get_elem? s.views by ≡ some x → x.served ≡ false) → (by : ℕ) (x : D) → get_elem? vs by ≡ some x → x.served ≡ false
    still_idle nobody by x e = ⊎_elim (λ (p : spent ≡ x). sym (ap (λ (y : D). y.served) p))
        (λ (p : (u ≡ x) ⊎ ((by ≢ other) × (by ≢ id) × (get_elem? s.views by ≡ some x))). ⊎_elim (λ (q : u ≡ x). sym (ap (λ (y : D). y.served) q) ∙ idle_v)
        (λ (q : (by ≢ other) × (by ≢ id) × (get_elem? s.views by ≡ some x)). nobody by x q.2) p)
        (which by x e)

    kept_view : (by : ℕ) (x : D) → by ≢ other → by ≢ id → get_elem? s.views by ≡ some x → get_elem? vs by ≡ some x
    kept_view by x not_other not_id e = set_else vs₁ other by spent not_other ∙ (set_else s.views id by u not_id ∙ e)

    both_there : get_elem? vs id ≡ some u
    both_there = set_else vs₁ other id spent (λ (e : id ≡ other). apart (sym e)) ∙ placed s.views id v u at

    here : (by : ℕ) (x y : D) (k : ℕ) → get_elem? s.views by ≡ some x → get_elem? s.views k ≡ some y → by ≡ k → y ≡ x
    here by x y k e f same = one_view s.views k y x f (subst (λ (n : ℕ). get_elem? s.views n ≡ some x) same e)

    still_away : Away stands s → Away stands (record { words = s.words; homes = s.homes; views = vs })
    still_away (homes, (by, x, e, served)) = ⊎_elim
        (λ (same : by ≡ id). absurd (both_ways v.served idle_v (ap (λ (y : D). y.served) (here by x v id e at same) ∙ served)))
        (λ (not_id : by ≢ id). ⊎_elim
        (λ (same : by ≡ other). absurd (both_ways w.served idle_w (ap (λ (y : D). y.served) (here by x w other e at_w same) ∙ served)))
        (λ (not_other : by ≢ other). (homes, (by, x, kept_view by x not_other not_id e, served)))
        (same_or_not by other))
        (same_or_not by id)

    held : (t : ℕ) → length log ≤ t → t < drawn → IsOut vs t
    held t low high = let h = r.held t low high in ⊎_elim
        (λ (same : h.0 ≡ id). absurd (none_some t (sym free_v ∙ ap (λ (y : D). y.ticket) (here h.0 h.1 v id h.2 at same) ∙ h.3)))
        (λ (not_id : h.0 ≢ id). ⊎_elim
        (λ (same : h.0 ≡ other). absurd (none_some t (sym free_w ∙ ap (λ (y : D). y.ticket) (here h.0 h.1 w other h.2 at_w same) ∙ h.3)))
        (λ (not_other : h.0 ≢ other). (h.0, h.1, kept_view h.0 h.1 not_other not_id h.2, h.3))
        (same_or_not h.0 other))
        (same_or_not h.0 id)

    abbrev Whole : List D → Type 0
    Whole l = (by : ℕ) × (x : D) × (get_elem? l by ≡ some x) × (0 < x.share) × (x.seen ≡ log)

    all_of : (v.seen ≡ log) ⊎ (w.seen ≡ log) → Whole vs
    all_of one = let a = r.each id v at in let b = r.each other w at_w in
        (id, u, both_there, omega (arith, live_v), longer_whole v.seen w.seen log a.prefix b.prefix one)

    still_whole : Whole s.views → Whole vs
    still_whole (by, x, e, live, all) = ⊎_elim
        (λ (same : by ≡ id). all_of (inl (ap (λ (y : D). y.seen) (here by x v id e at same) ∙ all)))
        (λ (not_id : by ≢ id). ⊎_elim
        (λ (same : by ≡ other). all_of (inr (ap (λ (y : D). y.seen) (here by x w other e at_w same) ∙ all)))
        (λ (not_other : by ≢ other). (by, x, kept_view by x not_other not_id e, live, all))
        (same_or_not by other))
        (same_or_not by id)

    pub meet_keeps : InTurn stands o log drawn (record { words = s.words; homes = s.homes; views = vs })
    meet_keeps = record {
      words = r.words;
      held = held;
      each = each;
      alone = λ i j a b t e f at_a at_b. r.alone i j a b t (with_ticket i t a e at_a) (with_ticket j t b f at_b) at_a at_b;
      tickets = let a = sum_of-replaced (out {T = T} {A = A} {S = S}) s.views id v u at in let b = sum_of-replaced (out {T = T} {A = A} {S = S}) vs₁ other w spent at₁ in
          let none_w : has w.ticket ≡ 0 = ap has free_w in omega (arith, a, b, none_w, r.tickets);
      shares =
          let a = sum_of-replaced (share {T = T} {A = A} {S = S}) s.views id v u at in
          let b = sum_of-replaced (share {T = T} {A = A} {S = S}) vs₁ other w spent at₁ in
          omega (arith, a, b, r.shares);
      place = ⊎_elim (λ (home : AtHome stands o log s). inl (home.0, home.1, home.2, still_idle home.3)) (λ (away : Away stands s). inr (still_away away)) r.place;
      whole = still_whole r.whole;
    }

  pub meets : (o : T) (id other : ℕ) (m n : M) → AtRest m → AtRest n → Joins (OneList stands o) id m.0 other n.0 (both m.0 n.0) spent
  meets o id other m n a b s (log, drawn, r, numbers) at apart e =
      let at_n = sym (set_else s.views id other (both m.0 n.0) apart) ∙ e in (
        log,
        drawn,
        meet_keeps o log drawn s r id other m.0 n.0 at apart at_n a.1 a.2 a.3 b.1 b.2,
        meet_numbers log s.views numbers id other m.0 n.0 at apart at_n a.3 b.3 (r.each id m.0 at).prefix (r.each other n.0 at_n).prefix,
      )

  pub learns : (o : T) (slots id : ℕ) (m : M) → AtRest m → Allows (OneList stands o) slots id m 1 (λ n. n) (Learns (step slots 1 0 0 none) m)
  learns o slots id m (empty, free, idle, live) s (log, drawn, r, n) deep at small =
      let same_words : set s.words 1 (get_or s.words 1 0) ≡ s.words = ap (λ (ws : List ℕ). set ws 1 (get_or ws 1 0)) r.words ∙ sym r.words in (
        m.0,
        keeps,
        tt,
        subst (λ (z : List ℕ × List D). OneList stands o (record { words = z.0; homes = s.homes; views = z.1 })) (λ i. (sym same_words i, sym (set_again s.views id m.0 at) i)) (log, drawn, r, n),
        ((r.each id m.0 at).older, (n.named id m.0 at live).counted, whole_list stands o log drawn s r n id m.0 at idle, refl),
      )

  pub is_joined : (m m' m'' n : M) → m' ≡ (both m.0 n.0, m.1) → Learned m' m'' → Joined m.0 n.0 m''.0
  is_joined m m' m'' n joined learned =
      let is : m''.0 ≡ both m.0 n.0 = ap (λ (x : M). x.0) (learned.3 ∙ joined) in
      let older = subst (λ (x : M). IsPrefix x.0.older x.0.seen) joined learned.0 in
      let two = each_begins m.0.seen n.0.seen older in record {
        both = is;
        begins = subst (λ (x : D). IsPrefix m.0.seen x.seen) (sym is) two.0;
        begins_too = subst (λ (x : D). IsPrefix n.0.seen x.seen) (sym is) two.1;
      }

  pub still_whole_list : (m m' : M) → Learned m m' → m'.0.share ≡ all_shares → IsWhole m'.0
  still_whole_list m m' learned = subst (λ (x : M). x.0.share ≡ all_shares → IsWhole x.0) (sym learned.3) learned.2
