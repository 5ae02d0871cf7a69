-- A choice at a moment is the choice at every later moment.
use Rattle.std.proofs.Common.{◌≡◌, ℕ, ◌<◌, ◌≤◌, List, [], ◌∷◌, refl, sym, ap, ◌∙◌, Bool, true, false, cond, arith}
use Rattle.std.specs.Prelude.{Option, Some, None, filter, nat_le, option_map}
use Rattle.std.specs.List.{best_of}
use Rattle.std.proofs.lemmas.Bool.Decides.{nat_tests}
use Rattle.std.specs.declared.cmp.Ordering.TheVariants.{Less, Greater}
use Rattle.std.specs.declared.cmp.Ordering.{Ordering}
use Rattle.std.specs.Cmp.{nat_cmp_is}
use Rattle.std.specs.Ordering.{nat_cmp, ordering_then, is_lt}
use Rattle.due_core.specs.declared.action.Candidate.{Candidate}
use Rattle.due_core.specs.declared.action.Action.{Action}
use Rattle.due_core.specs.Buckets.{BucketRecord}
use Rattle.due_core.specs.Candidates.{eligible, candidates}
use Rattle.due_core.specs.Choice.{least, comes_before, choice}
use Rattle.due_core.proofs.Pass.{has_come}

module _ {X : Type 0} (before : X → X → Bool) where
  -- the least so far, with one element more
  abbrev with_one : Option X → X → Option X
  with_one None x = Some x
  with_one (Some b) x = Some (cond (before x b) x b)

  abbrev running : Option X → List X → Option X
  running o [] = o
  running o (x ∷ xs) = running (with_one o x) xs

  running_best : (b : X) (xs : List X) → running (Some b) xs ≡ Some (best_of before b xs)
  running_best b [] = refl
  running_best b (x ∷ xs) = running_best (cond (before x b) x b) xs

  running_least : (xs : List X) → running None xs ≡ least before xs
  running_least [] = refl
  running_least (x ∷ xs) = running_best x xs

  module _ (early late : X → Bool) (wider : (x : X) → early x ≡ true → late x ≡ true)
      (apart : (x y : X) → early x ≡ true → early y ≡ false → (before x y ≡ true) × (before y x ≡ false)) where
    -- the two runs agree, or the early one has found nothing and the late one nothing early
    abbrev Agree : Option X → Option X → Type 0
    Agree None None = Unit {0}
    Agree None (Some y) = early y ≡ false
    Agree (Some a) (Some b) = (b ≡ a) × (early a ≡ true)
    Agree (Some a) None = ⊥

    either : (t v : Bool) (x y : X) → early x ≡ v → early y ≡ v → early (cond t x y) ≡ v
    either true v x y hx hy = hx
    either false v x y hx hy = hy

    one_early : (o q : Option X) (x : X) → early x ≡ true → Agree o q → Agree (with_one o x) (with_one q x)
    one_early None None x e h = (refl, e)
    one_early None (Some y) x e h = (ap (λ (t : Bool). cond t x y) (apart x y e h).0, e)
    one_early (Some a) (Some b) x e h = (ap (λ (z : X). cond (before x z) x z) h.0, either (before x a) true x a e h.1)
    one_early (Some a) None x e h = absurd h

    one_late : (o q : Option X) (x : X) → early x ≡ false → Agree o q → Agree o (with_one q x)
    one_late None None x l h = l
    one_late None (Some y) x l h = either (before x y) false x y l h
    one_late (Some a) (Some b) x l h =
        (ap (λ (z : X). cond (before x z) x z) h.0 ∙ ap (λ (t : Bool). cond t x a) (apart a x h.1 l).1, h.1)
    one_late (Some a) None x l h = absurd h

    by_test : (x : X) (xs : List X) (o q : Option X) → Agree o q
        → ((o q : Option X) → Agree o q → Agree (running o (filter early xs)) (running q (filter late xs)))
        → (e l : Bool) → early x ≡ e → late x ≡ l
        → Agree (running o (cond e (x ∷ filter early xs) (filter early xs))) (running q (cond l (x ∷ filter late xs) (filter late xs)))
    by_test x xs o q h rest true true he hl = rest (with_one o x) (with_one q x) (one_early o q x he h)
    by_test x xs o q h rest true false he hl = let yes = wider x he in absurd (cc)
    by_test x xs o q h rest false true he hl = rest o (with_one q x) (one_late o q x he h)
    by_test x xs o q h rest false false he hl = rest o q h

    run : (xs : List X) (o q : Option X) → Agree o q → Agree (running o (filter early xs)) (running q (filter late xs))
    run [] o q h = h
    run (x ∷ xs) o q h = by_test x xs o q h (λ o q h. run xs o q h) (early x) (late x) refl refl

    agree_some : (a : X) (o q : Option X) → Agree o q → o ≡ Some a → q ≡ Some a
    agree_some a None None h is = cc
    agree_some a None (Some y) h is = absurd (cc)
    agree_some a (Some b) (Some y) h is = ap (λ (z : X). Some z) h.0 ∙ is
    agree_some a (Some b) None h is = absurd h

    -- what is the least of the early ones is the least of all that come by then
    pub least_stays : (xs : List X) (a : X) → least before (filter early xs) ≡ Some a → least before (filter late xs) ≡ Some a
    least_stays xs a is =
        sym (running_least (filter late xs))
        ∙ agree_some a (running None (filter early xs)) (running None (filter late xs)) (run xs None None tt) (running_least (filter early xs) ∙ is)

-- ---- the candidates

comes_later : (t u : ℕ) → t ≤ u → (x : Candidate) → has_come t x ≡ true → has_come u x ≡ true
comes_later t u le x h = grind (arith, nat_tests)

below : (t a b : ℕ) → nat_le a t ≡ true → nat_le b t ≡ false → a < b
below t a b ha hb = grind (arith, nat_tests)

first_less : (o rest : Ordering) → o ≡ Less → is_lt (ordering_then o rest) ≡ true
first_less o rest is = rw is refl

first_greater : (o rest : Ordering) → o ≡ Greater → is_lt (ordering_then o rest) ≡ false
first_greater o rest is = rw is refl

are_apart : (t : ℕ) (x y : Candidate) → has_come t x ≡ true → has_come t y ≡ false → (comes_before x y ≡ true) × (comes_before y x ≡ false)
are_apart t x y hx hy =
    let lt : x.action.since < y.action.since = below t x.action.since y.action.since hx hy in (
      first_less (nat_cmp x.action.since y.action.since) _ (sym (nat_cmp_is x.action.since y.action.since Less lt)),
      first_greater (nat_cmp y.action.since x.action.since) _ (sym (nat_cmp_is y.action.since x.action.since Greater lt)),
    )

chosen_stays : (o q : Option Candidate) (a : Action) → ((c : Candidate) → o ≡ Some c → q ≡ Some c)
    → option_map (λ (c : Candidate). c.action) o ≡ Some a → option_map (λ (c : Candidate). c.action) q ≡ Some a
chosen_stays None q a stays is = absurd (cc)
chosen_stays (Some c) q a stays is = ap (λ (z : Option Candidate). option_map (λ (c : Candidate). c.action) z) (stays c refl) ∙ is

pub choice_stays : (bucket : BucketRecord) (t u : ℕ) (a : Action) → t ≤ u → choice bucket t ≡ Some a → choice bucket u ≡ Some a
unfolding choice candidates
choice_stays bucket t u a le is = chosen_stays _ _ a
    (least_stays comes_before (has_come t) (has_come u) (comes_later t u le) (are_apart t) (eligible bucket)) is
