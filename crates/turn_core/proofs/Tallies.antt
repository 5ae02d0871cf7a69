-- A count that goes on by one with each call, and what it tells; and a list with calls under two numbers.
use Rattle.std.proofs.Common.{◌≡◌, ◌∙◌, sym, ap, ℕ, ◌+◌, ◌%◌, ◌^◌, ◌<◌, List, [], ◌∷◌, ◌++◌, length, length-append, map, arith, ◌≢◌, zero, suc, cond, eq-eqb, ne_eqb, ⊎_elim, ◌⊎◌, inl, inr, ◌-◌, subst}
use Rattle.std.specs.Prelude.{All, Contains}
use Rattle.turn_core.specs.declared.view.TurnCall.{TurnCall}
use Rattle.turn_core.specs.declared.view.Met.{Met}
use Rattle.turn_core.specs.declared.view.View.{View}
use Rattle.turn_core.specs.Views.{IsWhole, all_shares, both, left, newcomer, numbers, right}
use Rattle.turn_core.specs.Calls.{calls_under}
use Rattle.std.specs.List.{range_with_len}
use Rattle.std.proofs.lemmas.List.FromFn.{map-range_with_len_more}
use mathlib.Core.List.{map-append}

module _ {A : Type 0} (first now now' : ℕ) (calls : List (A × ℕ)) (ask : A) where
  abbrev told : ℕ → List ℕ
  told n = map (λ k. first + 1 + k) (range_with_len 0 n)

  pub tallied : now' ≡ (now + 1) % 2 ^ 64 → (first + length calls < 2 ^ 64 → (now ≡ first + length calls) × (map (λ c. c.1) calls ≡ told (length calls)))
      → first + length (calls ++ (ask, now') ∷ []) < 2 ^ 64
      → (now' ≡ first + length (calls ++ (ask, now') ∷ [])) × (map (λ c. c.1) (calls ++ (ask, now') ∷ []) ≡ told (length (calls ++ (ask, now') ∷ [])))
  tallied step h small =
      let more : length (calls ++ (ask, now') ∷ []) ≡ length calls + 1 = length-append calls ((ask, now') ∷ []) in
      let old = h (omega (arith, small, more)) in
      let was = old.0 in
      let is : now' ≡ first + 1 + length calls = omega (arith, step, was, small, more) in (
        omega (arith, is, more),
        map-append (λ c. c.1) calls ((ask, now') ∷ []) ∙ ap (λ (l : List ℕ). l ++ now' ∷ []) old.1 ∙ ap (λ (n : ℕ). told (length calls) ++ n ∷ []) is
            ∙ sym (map-range_with_len_more (λ k. first + 1 + k) 0 (length calls) (length calls) (omega arith)) ∙ ap told (sym more),
      )

one_of : (p q n : ℕ) → Contains (p ∷ q ∷ []) n → (n ≡ p) ⊎ (n ≡ q)
one_of p q n (zero, h, e) = inl (sym e)
one_of p q n (suc zero, h, e) = inr (sym e)
one_of p q n (suc (suc k), h, e) = absurd (omega (arith, h))

-- if all calls are under two numbers, the list has as many as there are under both
module _ {A S : Type 0} (p q : ℕ) (apart : p ≢ q) where
  pub two_numbers : (xs : List (TurnCall A S)) → All (λ c. Contains (p ∷ q ∷ []) c.by) xs → length xs ≡ length (calls_under p xs) + length (calls_under q xs)
  two_numbers [] all = omega arith
  two_numbers (c ∷ cs) all =
      let r = two_numbers cs (λ k d h. all (suc k) d (omega (arith, h))) in
      let of_p : List (TurnCall A S) = calls_under p cs in
      let of_q : List (TurnCall A S) = calls_under q cs in
      ⊎_elim
      (λ (is : c.by ≡ p).
      let a : calls_under p (c ∷ cs) ≡ c ∷ of_p = ap (λ b. cond b (c ∷ of_p) of_p) (eq-eqb c.by p is) in
      let b : calls_under q (c ∷ cs) ≡ of_q = ap (λ b. cond b (c ∷ of_q) of_q) (ne_eqb c.by q (λ e. apart (sym is ∙ e))) in
      let m : length (calls_under p (c ∷ cs)) ≡ suc (length of_p) = ap length a in
      let n : length (calls_under q (c ∷ cs)) ≡ length of_q = ap length b in omega (arith, r, m, n))
      (λ (is : c.by ≡ q).
      let a : calls_under p (c ∷ cs) ≡ of_p = ap (λ b. cond b (c ∷ of_p) of_p) (ne_eqb c.by p (λ e. apart (sym e ∙ is))) in
      let b : calls_under q (c ∷ cs) ≡ c ∷ of_q = ap (λ b. cond b (c ∷ of_q) of_q) (eq-eqb c.by q is) in
      let m : length (calls_under p (c ∷ cs)) ≡ length of_p = ap length a in
      let n : length (calls_under q (c ∷ cs)) ≡ suc (length of_q) = ap length b in omega (arith, r, m, n))
      (one_of p q c.by (all 0 c (omega arith)))

-- three turns, a split, a turn of the new pass, and a meeting: all calls are under the numbers 0 and 1
module _ {T A S : Type 0} where
  abbrev Goes : View T A S → View T A S → Type 0
  Goes v w = w ≡ record v { seen = w.seen; made = w.made }

  -- what turns leave
  abbrev fixed : View T A S → ℕ × ℕ × List (Met A S) × ℕ
  fixed v = (v.number, v.stride, v.met, v.share)

  pub three_and_one : (v₀ v₁ v₂ v₃ l r u m : View T A S) (first : T) → v₀ ≡ newcomer first → Goes v₀ v₁ → Goes v₁ v₂ → Goes v₂ v₃ → l ≡ left v₃ → r ≡ right v₃ → Goes r u → m ≡ both l u
      → (m.share ≡ all_shares → IsWhole m) → length m.seen ≡ length (calls_under 0 m.seen) + length (calls_under 1 m.seen)
  three_and_one v₀ v₁ v₂ v₃ l r u m first e₀ e₁ e₂ e₃ el er eu em whole =
      let at₃ : fixed v₃ ≡ (0, 1, [], all_shares) = ap fixed e₃ ∙ ap fixed e₂ ∙ ap fixed e₁ ∙ ap fixed e₀ in
      let share_l : l.share ≡ all_shares - 1 = ap (λ (v : View T A S). v.share) el ∙ (λ i. (at₃ i).3 - 1) in
      let share_u : u.share ≡ 1 = ap (λ (v : View T A S). v.share) eu ∙ ap (λ (v : View T A S). v.share) er in
      let share_m : m.share ≡ l.share + u.share = ap (λ (v : View T A S). v.share) em in
      let met_l : l.met ≡ [] = ap (λ (v : View T A S). v.met) el ∙ (λ i. (at₃ i).2) in
      let met_u : u.met ≡ [] = ap (λ (v : View T A S). v.met) eu ∙ ap (λ (v : View T A S). v.met) er in
      let number_l : l.number ≡ 0 = ap (λ (v : View T A S). v.number) el ∙ (λ i. (at₃ i).0) in
      let number_u : u.number ≡ 1 = ap (λ (v : View T A S). v.number) eu ∙ ap (λ (v : View T A S). v.number) er ∙ (λ i. (at₃ i).0 + (at₃ i).1) in
      let met_m : m.met ≡ record { number = u.number; made = u.made } ∷ [] = ap (λ (v : View T A S). v.met) em ∙ (λ i. met_l i ++ record { number = u.number; made = u.made } ∷ met_u i) in
      let are : numbers m ≡ 0 ∷ 1 ∷ [] = (λ i. (ap (λ (v : View T A S). v.number) em ∙ number_l) i ∷ map (λ m. m.number) (met_m i)) ∙ (λ i. 0 ∷ number_u i ∷ []) in
      two_numbers 0 1 (λ e. omega (arith, e)) m.seen (subst (λ (ns : List ℕ). All (λ c. Contains ns c.by) m.seen) are (whole (omega (arith, share_l, share_u, share_m))))
