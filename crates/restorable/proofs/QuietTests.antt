-- No eligible action before a moment.
use Rattle.std.proofs.Common.{◌≡◌, ℕ, ◌+◌, ◌<◌, ◌≤◌, Bool, true, false, ◌&&◌, leb, List, [], ◌∷◌, map, refl, sym, ap, ◌∙◌, arith, filter}
use Rattle.std.specs.Prelude.{Option, Some, None, option_map}
use Rattle.std.specs.Bool.{Decides}
use Rattle.std.specs.List.{AllByRecursion, list_all}
use Rattle.std.proofs.lemmas.Bool.{and_parts, and_from, cond-true, cond-false, leb-true, le-leb, lt-leb, leb-false}
use Rattle.due_core.specs.Buckets.{BucketRecord}
use Rattle.due_core.specs.Candidates.{eligible, candidates}
use Rattle.due_core.specs.Choice.{choice, least, comes_before}
use Rattle.due_core.specs.declared.action.Action.{Action}
use Rattle.due_core.specs.declared.action.Candidate.{Candidate}
use Rattle.plain_office.specs.Office.{Account}
use Rattle.office_snapshot.specs.Snapshots.{BucketPartRecord}
use Rattle.restorable.specs.Tests.{is_quiet}
use Rattle.restorable.proofs.Lists.{le, each}
use Rattle.restorable.proofs.NameTests.{account_of}

abbrev has_come : ℕ → Candidate → Bool
has_come t c = leb c.action.since t

abbrev stands_from : ℕ → Candidate → Bool
stands_from until c = leb until c.action.since

-- what stands from a moment on has not come before it
none_come : (t : ℕ) (cs : List Candidate) → list_all (stands_from (t + 1)) cs ≡ true → filter (has_come t) cs ≡ []
none_come t [] e = refl
none_come t (c ∷ cs) e =
    let h = and_parts _ _ e in
    let low : t + 1 ≤ c.action.since = leb-true _ _ h.0 in
    cond-false (has_come t c) (c ∷ filter (has_come t) cs) (filter (has_come t) cs) (lt-leb _ _ (omega (arith, low))) ∙ none_come t cs h.1

abbrev HasOne : ℕ → List Candidate → Type 0
HasOne t cs = (first : Candidate) × (rest : List Candidate) × (filter (has_come t) cs ≡ first ∷ rest)

one_come : (t : ℕ) (cs : List Candidate) → list_all (stands_from (t + 1)) cs ≡ false → HasOne t cs
one_come t [] e = absurd cc
one_come t (c ∷ cs) e = by (leb (t + 1) c.action.since) refl (one_come t cs)
  where
    by : (b : Bool) → leb (t + 1) c.action.since ≡ b → (list_all (stands_from (t + 1)) cs ≡ false → HasOne t cs) → HasOne t (c ∷ cs)
    by true is rest =
        let more = rest (sym (ap (λ (b : Bool). b && list_all (stands_from (t + 1)) cs) is) ∙ e) in
        let low : t + 1 ≤ c.action.since = leb-true _ _ is in
        (more.0, more.1, cond-false (has_come t c) (c ∷ filter (has_come t) cs) (filter (has_come t) cs) (lt-leb _ _ (omega (arith, low))) ∙ more.2)
    by false is rest =
        let up : c.action.since < t + 1 = leb-false _ _ is in
        (c, filter (has_come t) cs, cond-true (has_come t c) (c ∷ filter (has_come t) cs) (filter (has_come t) cs) (le-leb _ _ (omega (arith, up))))

abbrev first_action : List Candidate → Option Action
first_action cs = option_map (λ (c : Candidate). c.action) (least comes_before cs)

-- if nothing is chosen at a moment, no action stands before the next one
pub no_choice : (bucket : BucketRecord) (t : ℕ) → choice bucket t ≡ None → is_quiet (t + 1) bucket ≡ true
unfolding choice candidates
no_choice bucket t off = by (is_quiet (t + 1) bucket) refl
  where
    by : (b : Bool) → is_quiet (t + 1) bucket ≡ b → is_quiet (t + 1) bucket ≡ true
    by true is = is
    by false is =
        let one = one_come t (eligible bucket) is in
        let there : first_action (one.0 ∷ one.1) ≡ None = ap first_action (sym one.2) ∙ off in
        absurd cc

-- and if something is chosen, one does
pub some_choice : (bucket : BucketRecord) (t : ℕ) (action : Action) → choice bucket t ≡ Some action → is_quiet (t + 1) bucket ≡ false
unfolding choice candidates
some_choice bucket t action chosen = by (is_quiet (t + 1) bucket) refl
  where
    by : (b : Bool) → is_quiet (t + 1) bucket ≡ b → is_quiet (t + 1) bucket ≡ false
    by true is =
        let none : None ≡ Some action = sym (ap first_action (none_come t (eligible bucket) is)) ∙ chosen in
        absurd cc
    by false is = is

pub quiet_at_first : (bucket : BucketRecord) → is_quiet 0 bucket ≡ true
quiet_at_first bucket = all (eligible bucket)
  where
    all : (cs : List Candidate) → list_all (stands_from 0) cs ≡ true
    all [] = refl
    all (c ∷ cs) = and_from _ _ (le-leb 0 _ (omega arith)) (all cs)

-- ---- of all buckets

abbrev pub Quiet : ℕ → BucketRecord → Type 0
Quiet until bucket = AllByRecursion (λ (c : Candidate). until ≤ c.action.since) (eligible bucket)

pub quiet_decides : (until : ℕ) (parts : List BucketPartRecord)
    → Decides (list_all (λ part. is_quiet until part.bucket) parts) (AllByRecursion (λ (account : List ℕ × Account). Quiet until account.1.bucket) (map account_of parts))
quiet_decides until [] = (λ e. tt, λ a. refl)
quiet_decides until (part ∷ parts) =
    let one = each (stands_from until) (λ (c : Candidate). until ≤ c.action.since) (λ c. le until c.action.since) (eligible part.bucket) in
    let more = quiet_decides until parts in (
      λ e. (one.0 (and_parts _ _ e).0, more.0 (and_parts _ _ e).1),
      λ a. and_from _ _ (one.1 a.0) (more.1 a.1),
    )
