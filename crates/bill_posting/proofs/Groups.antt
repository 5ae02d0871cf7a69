-- Lines in groups of one bucket each: no more bills than groups.
use Rattle.std.proofs.Common.{◌≡◌, ℕ, ◌+◌, ◌≤◌, List, [], ◌∷◌, length, refl, ap, sym, ◌∙◌, subst, true, None, Ordering, arith, flat_map}
use Rattle.std.specs.Prelude.{fold, is_some}
use Rattle.std.specs.declared.cmp.Ordering.TheVariants.{Less, Equal, Greater}
use Rattle.std.specs.Ordering.{match_ordering}
use Rattle.std.specs.List.{AllByRecursion}
use Rattle.std.proofs.lemmas.List.{length-map}
use Rattle.std.proofs.lemmas.List.Sums.{fold-append}
use Rattle.office_base.specs.Maps.{bytes_cmp, Rises, at_name, with_name}
use Rattle.office_types.specs.declared.reply.ReportLine.{ReportLine}
use Rattle.bill_posting.specs.declared.tally.Tally.{Tally}
use Rattle.bill_posting.specs.Bills.{added, with_line, tallies_of, bill_of, bills_of}
use Rattle.bill_posting.proofs.Tallies.{IsFirst, none_above, first_chain, rises_with, rises_all, at_written}

abbrev Tallies : Type 0
Tallies = List (List ℕ × Tally)

-- ---- one tally more

module _ (name : List ℕ) (tally : Tally) where
  most_at : (o : Ordering) (e : List ℕ × Tally) (es rest : Tallies) → length rest ≤ length es + 1
      → length (match_ordering o ((name, tally) ∷ e ∷ es) ((e.0, tally) ∷ es) (e ∷ rest)) ≤ length (e ∷ es) + 1
  most_at Less e es rest h = omega arith
  most_at Equal e es rest h = omega arith
  most_at Greater e es rest h = omega (arith, h)

  -- at most one more
  most_with : (es : Tallies) → length (with_name name tally es) ≤ length es + 1
  most_with [] = omega arith
  most_with (e ∷ es) = most_at (bytes_cmp name e.0) e es (with_name name tally es) (most_with es)

  same_at : (o : Ordering) (e : List ℕ × Tally) (es rest : Tallies) → bytes_cmp name e.0 ≡ o → IsFirst e.0 es
      → is_some (at_name name (e ∷ es)) ≡ true → (is_some (at_name name es) ≡ true → length rest ≡ length es)
      → length (match_ordering o ((name, tally) ∷ e ∷ es) ((e.0, tally) ∷ es) (e ∷ rest)) ≡ length (e ∷ es)
  same_at Less e es rest is first there f =
      let none : at_name name (e ∷ es) ≡ None = rw is (none_above name es (first_chain name e.0 is es first)) in
      absurd cc
  same_at Equal e es rest is first there f = refl
  same_at Greater e es rest is first there f =
      let other : at_name name (e ∷ es) ≡ at_name name es = rw is refl in
      let same = f (sym (ap is_some other) ∙ there) in
      omega (arith, same)

  -- none more if the name has one
  same_with : (es : Tallies) → Rises bytes_cmp es → is_some (at_name name es) ≡ true → length (with_name name tally es) ≡ length es
  same_with [] rises there = absurd cc
  same_with (e ∷ es) rises there = same_at (bytes_cmp name e.0) e es (with_name name tally es) refl rises.0 there (same_with es rises.1)

-- ---- lines of one bucket

module _ (name : List ℕ) where
  abbrev AreOf : List ReportLine → Type 0
  AreOf lines = AllByRecursion (λ (line : ReportLine). line.bucket ≡ name) lines

  next_there : (line : ReportLine) (es : Tallies) → line.bucket ≡ name → is_some (at_name name (with_line es line)) ≡ true
  next_there line es is =
      subst (λ (n : List ℕ). is_some (at_name n (with_line es line)) ≡ true) is
      (ap is_some (at_written line.bucket (added line (at_name line.bucket es)) es))

  stays : (es : Tallies) (lines : List ReportLine) → AreOf lines → Rises bytes_cmp es → is_some (at_name name es) ≡ true
      → length (fold with_line es lines) ≡ length es
  stays es [] are rises there = refl
  stays es (line ∷ lines) are rises there =
      let o = added line (at_name line.bucket es) in
      let here = subst (λ (n : List ℕ). is_some (at_name n es) ≡ true) (sym are.0) there in
      stays (with_line es line) lines are.1 (rises_with line.bucket o es rises) (next_there line es are.0)
      ∙ same_with line.bucket o es rises here

  -- at most one tally more
  one_more : (es : Tallies) (lines : List ReportLine) → AreOf lines → Rises bytes_cmp es → length (fold with_line es lines) ≤ length es + 1
  one_more es [] are rises = omega arith
  one_more es (line ∷ lines) are rises =
      let o = added line (at_name line.bucket es) in
      let rest = stays (with_line es line) lines are.1 (rises_with line.bucket o es rises) (next_there line es are.0) in
      let first = most_with line.bucket o es in
      omega (arith, rest, first)

-- ---- groups of lines

module _ {X : Type 0} (name : X → List ℕ) (group : X → List ReportLine) (own : (x : X) → AreOf (name x) (group x)) where
  groups : (es : Tallies) (xs : List X) → Rises bytes_cmp es → length (fold with_line es (flat_map group xs)) ≤ length es + length xs
  groups es [] rises = omega arith
  groups es (x ∷ xs) rises =
      let whole = ap (λ (l : Tallies). length l) (fold-append with_line es (group x) (flat_map group xs)) in
      let rest = groups (fold with_line es (group x)) xs (rises_all es (group x) rises) in
      let one = one_more (name x) es (group x) (own x) rises in
      omega (arith, whole, rest, one)

  -- lines in groups, each of one bucket, make at most as many bills as groups
  pub few_bills : (xs : List X) → length (bills_of (flat_map group xs)) ≤ length xs
  unfolding bills_of
  few_bills xs =
      let g = groups [] xs tt in
      let m = length-map (tallies_of (flat_map group xs)) bill_of in
      omega (arith, g, m)
