-- A removal or a move is searched from the oldest version on. If the versions ceased in order, the search ends at the
-- first one to which it applies. A newer one is due no earlier, and comes after it if both are due at once.
use Rattle.std.proofs.Common.{◌≡◌, ℕ, ◌+◌, ◌-◌, ◌<◌, ◌≤◌, ◌⊎◌, inl, inr, List, [], ◌∷◌, length, get_or, refl, sym, ◌∙◌, subst, Bool, true, false, cond, ◌&&◌, filter, map, arith, zero, suc}
use Rattle.std.specs.Prelude.{max, nat_lt, nat_le, Option, unwrap_or}
use Rattle.std.specs.Cmp.{ranked, tied_itself}
use Rattle.std.specs.declared.cmp.Ordering.{Ordering}
use Rattle.std.specs.declared.cmp.Ordering.TheVariants.{Less, Equal, Greater}
use Rattle.std.specs.Ordering.{nat_cmp, ordering_then, is_lt}
use Rattle.std.proofs.lemmas.Cmp.{nat_cmp_total, nat_list_cmp_total}
use Rattle.std.proofs.lemmas.Bool.Decides.{nat_tests}
use Rattle.moments.specs.Time.{due, end_of_time}
use Rattle.office_base.specs.Maps.{bytes_cmp}
use Rattle.rules_core.specs.declared.rule.Rule.{Rule}
use Rattle.stacks.specs.Ceasing.{cease_until, cease_in_order}
use Rattle.stacks.specs.Stacks.{StackRecord}
use Rattle.stacks.specs.declared.version.Version.{Version}
use Rattle.due_core.specs.Choice.{comes_before, kind_place}
use Rattle.due_core.specs.RuleActions.{Placed, placed_from, keeps_newer}
use Rattle.due_core.specs.declared.action.ActionKind.{ActionKind}
use Rattle.due_core.specs.declared.action.Target.{Target}
use Rattle.due_core.specs.declared.action.Target.TheVariants as target
use Rattle.due_core.specs.declared.action.Candidate.{Candidate}
use Rattle.due_index.specs.Search.{Among, IsFirstOf, IsNotBefore, IsOfStep, step_of_version, takes_step, with_each}
use Rattle.due_index.specs.declared.asked.Setting.{Setting}
use Rattle.due_index.specs.declared.noncurrent.Step.{Step}
use Rattle.due_index.proofs.Among.{among_map, among_filter}
use Rattle.due_index.proofs.Firsts.{none_looked, then_looked, also_looked, behind, folded}
use Rattle.due_index.proofs.Tournaments.{decide}

-- ---- where versions stand

pub record IsPlaced (n : ℕ) (versions : List Version) (p : Placed) : Type 0 where
  pub from : n ≤ p.newer
  pub sum : p.older + p.newer + 1 ≡ n + length versions
  pub version : (k : ℕ) (d : Version) → p.newer ≡ n + k → get_or versions k d ≡ p.version

head_version : (n k : ℕ) (v : Version) (vs : List Version) (d : Version) → n ≡ n + k → get_or (v ∷ vs) k d ≡ v
head_version n zero v vs d is = refl
head_version n (suc k) v vs d is = absurd (omega arith)

later_version : (n k : ℕ) (v : Version) (vs : List Version) (p : Placed) (d : Version) → IsPlaced (n + 1) vs p → p.newer ≡ n + k → get_or (v ∷ vs) k d ≡ p.version
later_version n zero v vs p d h is = let from = h.from in absurd (omega arith)
later_version n (suc k) v vs p d h is = h.version k d (omega arith)

pub is_placed : (n : ℕ) (versions : List Version) (p : Placed) → Among (placed_from n versions) p → IsPlaced n versions p
is_placed n [] p h = absurd h
is_placed n (v ∷ vs) p (inl e) = subst (λ q. IsPlaced n (v ∷ vs) q) e (record {
  from = omega arith;
  sum = omega arith;
  version = λ k d is. head_version n k v vs d is;
})
is_placed n (v ∷ vs) p (inr h) = let rest = is_placed (n + 1) vs p h in record {
  from = let from = rest.from in omega arith;
  sum = let sum = rest.sum in omega arith;
  version = λ k d is. later_version n k v vs p d rest is;
}

abbrev pub placed_so : Version → ℕ → ℕ → Placed
placed_so v newer older = record { version = v; newer = newer; older = older }

same_placed : (v w : Version) (a b c d : ℕ) → v ≡ w → a ≡ b → c ≡ d → placed_so v a c ≡ placed_so w b d
same_placed v w a b c d hv ha hc = cc

pub placed_there : (n i : ℕ) (versions : List Version) (v : Version) (newer older : ℕ) → i < length versions → v ≡ get_or versions i v → newer ≡ n + i
    → older + i + 1 ≡ length versions → Among (placed_from n versions) (placed_so v newer older)
placed_there n i [] v newer older less is at sum = absurd (omega arith)
placed_there n zero (w ∷ ws) v newer older less is at sum = inl (same_placed w v n newer (length ws) older (sym is) (omega arith) (omega arith))
placed_there n (suc i) (w ∷ ws) v newer older less is at sum = inr (placed_there (n + 1) i ws v newer older (omega arith) is (omega arith) (omega arith))

-- ---- in which order they ceased

pub both : (a b : Bool) → (a && b) ≡ true → (a ≡ true) × (b ≡ true)
both true b is = (refl, is)
both false b is = absurd cc

pub is_le : (a b : ℕ) → nat_le a b ≡ true → a ≤ b
is_le a b is = grind (arith, nat_tests)

until_last : (last : ℕ) (versions : List Version) → cease_until last versions ≡ true → (k : ℕ) (d : Version) → k < length versions → (get_or versions k d).ceased ≤ last
until_last last [] is k d less = absurd (omega arith)
until_last last (v ∷ vs) is zero d less = is_le v.ceased last (both (nat_le v.ceased last) (cease_until v.ceased vs) is).0
until_last last (v ∷ vs) is (suc k) d less =
    let parts = both (nat_le v.ceased last) (cease_until v.ceased vs) is in
    let here = is_le v.ceased last parts.0 in
    let rest = until_last v.ceased vs parts.1 k d (omega arith) in omega (arith, here, rest)

until_order : (last : ℕ) (versions : List Version) → cease_until last versions ≡ true → (j k : ℕ) (d : Version) → j ≤ k → k < length versions
    → (get_or versions k d).ceased ≤ (get_or versions j d).ceased
until_order last [] is j k d le less = absurd (omega arith)
until_order last (v ∷ vs) is zero zero d le less = omega arith
until_order last (v ∷ vs) is zero (suc k) d le less = until_last v.ceased vs (both (nat_le v.ceased last) (cease_until v.ceased vs) is).1 k d (omega arith)
until_order last (v ∷ vs) is (suc j) zero d le less = absurd (omega arith)
until_order last (v ∷ vs) is (suc j) (suc k) d le less = until_order v.ceased vs (both (nat_le v.ceased last) (cease_until v.ceased vs) is).1 j k d (omega arith) (omega arith)

pub noncurrent_order : (changed : ℕ) (versions : List Version) → cease_in_order changed versions ≡ true → (j k : ℕ) (d : Version) → 1 ≤ j → j ≤ k → k < length versions
    → (get_or versions k d).ceased ≤ (get_or versions j d).ceased
noncurrent_order changed [] is j k d one le less = absurd (omega arith)
noncurrent_order changed (v ∷ vs) is zero k d one le less = absurd (omega arith)
noncurrent_order changed (v ∷ vs) is (suc j) zero d one le less = absurd (omega arith)
noncurrent_order changed (v ∷ vs) is (suc j) (suc k) d one le less = until_order changed vs is j k d (omega arith) (omega arith)

pub ceased_order : (changed : ℕ) (versions : List Version) (p q : Placed) → cease_in_order changed versions ≡ true → IsPlaced 0 versions p → IsPlaced 0 versions q
    → 1 ≤ p.newer → p.newer ≤ q.newer → q.version.ceased ≤ p.version.ceased
ceased_order changed versions p q is at_p at_q one le =
    let sum = at_q.sum in
    let order = noncurrent_order changed versions is p.newer q.newer p.version one le (omega arith) in
    subst (λ (v : Version). v.ceased ≤ p.version.ceased) (at_q.version q.newer p.version (omega arith))
    (subst (λ (v : Version). (get_or versions q.newer p.version).ceased ≤ v.ceased) (at_p.version p.newer p.version (omega arith)) order)

pub due_order : (a b days : ℕ) → a ≤ b → due a days ≤ due b days
due_order a b days le = omega arith

-- ---- a newer one stands behind

abbrev made : ActionKind → List ℕ → Target → ℕ → ℕ → ℕ → Candidate
made k key t r s a = record { action = record { kind = k; key = key; target = t; rule = r; since = s }; age = a }

behind_by : (o kinds keys ages rest : Ordering) → is_lt o ≡ false → kinds ≡ Equal → keys ≡ Equal → ages ≡ Greater
    → is_lt (ordering_then o (ordering_then kinds (ordering_then keys (ordering_then ages rest)))) ≡ false
behind_by Less kinds keys ages rest h a b c = absurd cc
behind_by Equal kinds keys ages rest h a b c = rw a (rw b (rw c refl))
behind_by Greater kinds keys ages rest h a b c = refl

not_less : (a b : ℕ) (o : Ordering) → nat_cmp a b ≡ o → b ≤ a → is_lt o ≡ false
not_less a b Less is le = let less = ranked a b Less (sym is) in absurd (omega (arith, less))
not_less a b Equal is le = refl
not_less a b Greater is le = refl

is_greater : (a b : ℕ) (o : Ordering) → nat_cmp a b ≡ o → b < a → o ≡ Greater
is_greater a b Less is less = let other = ranked a b Less (sym is) in absurd (omega (arith, other))
is_greater a b Equal is less = let other = ranked a b Equal (sym is) in absurd (omega (arith, other))
is_greater a b Greater is less = refl

pub stands_behind : (kind : ActionKind) (key : List ℕ) (t u : Target) (rule since other age old : ℕ) → other ≤ since → old < age
    → comes_before (made kind key t rule since age) (made kind key u rule other old) ≡ false
stands_behind kind key t u rule since other age old le less =
    behind_by (nat_cmp since other) (nat_cmp (kind_place kind) (kind_place kind)) (bytes_cmp key key) (nat_cmp age old) _
    (not_less since other (nat_cmp since other) refl le) (tied_itself nat_cmp_total (kind_place kind)) (tied_itself nat_list_cmp_total key)
    (is_greater age old (nat_cmp age old) refl less)

-- ---- what a removal or a move asks of one version

pub in_true : {X : Type 0} (b : Bool) (xs : List X) (x : X) → Among (cond b xs []) x → (b ≡ true) × Among xs x
in_true true xs x h = (refl, h)
in_true false xs x h = absurd h

both_hold : {X Y : Type 0} (a b : Bool) (g : X → Y) (x : X) → a ≡ true → b ≡ true → Among (cond a (map g (cond b (x ∷ []) [])) []) (g x)
both_hold true true g x ha hb = inl refl
both_hold true false g x ha hb = absurd cc
both_hold false b g x ha hb = absurd cc

only_one : {X : Type 0} (x y : X) → Among (x ∷ []) y → x ≡ y
only_one x y (inl e) = e
only_one x y (inr h) = absurd h

module _ (setting : Setting) (key : List ℕ) (stack : StackRecord) (numbered : ℕ × Rule) (step : Step) where
  -- the candidate that it makes of a version that it takes
  abbrev pub stepped : Placed → Candidate
  stepped p = made step.kind key (target.Version p.version.id) numbered.0 (max (due p.version.ceased step.days) (max stack.changed setting.rules_since)) p.older

  pub record IsTaken (p : Placed) (c : Candidate) : Type 0 where
    pub takes : takes_step setting.mode numbered.1.filter step.kind key p.version ≡ true
    pub before_end : nat_lt (due p.version.ceased step.days) end_of_time ≡ true
    pub is : stepped p ≡ c

  pub in_step : (p : Placed) (c : Candidate) → Among (step_of_version setting (key, stack) numbered step p) c → IsTaken p c
  in_step p c h =
      let asked = in_true (takes_step setting.mode numbered.1.filter step.kind key p.version) _ c h in
      let found = among_map _ (filter (λ due. nat_lt due.1 end_of_time) ((step.kind, due p.version.ceased step.days) ∷ [])) c asked.1 in
      let kept = among_filter (λ due. nat_lt due.1 end_of_time) ((step.kind, due p.version.ceased step.days) ∷ []) found.0 found.1 in
      let one = only_one (step.kind, due p.version.ceased step.days) found.0 kept.0 in record {
        takes = asked.0;
        before_end = subst (λ (d : ActionKind × ℕ). nat_lt d.1 end_of_time ≡ true) (sym one) kept.1;
        is = subst (λ (d : ActionKind × ℕ). made d.0 key (target.Version p.version.id) numbered.0 (max d.1 (max stack.changed setting.rules_since)) p.older ≡ c) (sym one) found.2;
      }

  pub to_step : (p : Placed) → takes_step setting.mode numbered.1.filter step.kind key p.version ≡ true → nat_lt (due p.version.ceased step.days) end_of_time ≡ true
      → Among (step_of_version setting (key, stack) numbered step p) (stepped p)
  to_step p takes before = both_hold (takes_step setting.mode numbered.1.filter step.kind key p.version) (nat_lt (due p.version.ceased step.days) end_of_time)
      (λ (d : ActionKind × ℕ). made d.0 key (target.Version p.version.id) numbered.0 (max d.1 (max stack.changed setting.rules_since)) p.older)
      (step.kind, due p.version.ceased step.days) takes before

-- ---- the search of one removal or move

-- it asks this for a version with at least this many newer ones
pub record IsFrom (setting : Setting) (entry : List ℕ × StackRecord) (numbered : ℕ × Rule) (step : Step) (i : ℕ) (c : Candidate) : Type 0 where
  pub asked : IsOfStep setting entry numbered step c
  pub from : i ≤ asked.placed.newer

not_le : (a b : ℕ) → nat_le a b ≡ false → b < a
not_le a b is = grind (arith, nat_tests)

more_newer : (w n i : ℕ) → 1 ≤ n → 1 ≤ i → nat_le w (n - 1) ≡ true → nat_le w (i - 1) ≡ false → i + 1 ≤ n
more_newer w n i one from h k = let a = is_le w (n - 1) h in let b = not_le w (i - 1) k in omega (arith, a, b)

earlier_end : (a b e : ℕ) → b ≤ a → nat_lt a e ≡ true → nat_lt b e ≡ true
earlier_end a b e le is = grind (arith, nat_tests)

split_at : (n i : ℕ) → i ≤ n → (i + 1 ≤ n) ⊎ (n ≡ i)
split_at n i le = elim (decide n i) [ inl same ↦ inr same | inr apart ↦ inl (omega arith) ]

below_or : (n i : ℕ) → (i ≤ n) ⊎ (n + 1 ≤ i)
below_or zero zero = inl (omega arith)
below_or zero (suc i) = inr (omega arith)
below_or (suc n) zero = inl (omega arith)
below_or (suc n) (suc i) = elim (below_or n i) [ inl a ↦ inl (omega (arith, a)) | inr b ↦ inr (omega (arith, b)) ]

pub same_at : (versions : List Version) (v : Version) (i older : ℕ) (q : Placed) → IsPlaced 0 versions q → q.newer ≡ i → v ≡ get_or versions i v
    → older + i + 1 ≡ length versions → q ≡ placed_so v i older
same_at versions v i older q at is here sum =
    let own = at.sum in same_placed q.version v q.newer i q.older older (sym (at.version i v (omega arith)) ∙ sym here) is (omega arith)

module _ (setting : Setting) (key : List ℕ) (stack : StackRecord) (numbered : ℕ × Rule) (step : Step) (old : Option Candidate) where
  abbrev From : ℕ → Candidate → Type 0
  From i c = IsFrom setting (key, stack) numbered step i c

  abbrev All : Candidate → Type 0
  All c = IsOfStep setting (key, stack) numbered step c

  pub before_oldest : (i : ℕ) → length stack.versions ≤ i → IsFirstOf old (From i) old
  before_oldest i over = none_looked old (From i) (λ c h.
      let sum = (is_placed 0 stack.versions h.asked.placed h.asked.there).sum in let from = h.from in absurd (omega arith))

  pub to_newest : (i : ℕ) (new : Option Candidate) → i ≤ 1 → IsFirstOf old (From i) new → IsFirstOf old All new
  to_newest i new le first = also_looked old new (From i) All first (λ c h. h.asked)
      (λ c h. first.none_before c (record { asked = h; from = let one = h.noncurrent in omega arith }))

  pub none_newer : (i : ℕ) (new : Option Candidate) → 1 ≤ i → keeps_newer step.newer (i - 1) ≡ false → IsFirstOf old (From (i + 1)) new → IsFirstOf old All new
  none_newer i new one over first = also_looked old new (From (i + 1)) All first (λ c h. h.asked)
      (λ c h. first.none_before c (record { asked = h; from = more_newer (unwrap_or step.newer 0) h.placed.newer i h.noncurrent one h.kept over }))

  -- versions that do not take it can be left out
  pub none_between : (left i : ℕ) (new : Option Candidate) → left ≤ i
      → ((p : Placed) → IsPlaced 0 stack.versions p → left ≤ p.newer → p.newer < i → takes_step setting.mode numbered.1.filter step.kind key p.version ≡ true → ⊥)
      → IsFirstOf old (From i) new → IsFirstOf old (From left) new
  none_between left i new le none first = also_looked old new (From i) (From left) first (λ c h. record { asked = h.asked; from = let from = h.from in omega arith })
      (λ c h. elim (below_or h.asked.placed.newer i) [
        | inl from ↦ first.none_before c (record { asked = h.asked; from = from })
        | inr newer ↦ absurd (none h.asked.placed (is_placed 0 stack.versions h.asked.placed h.asked.there) h.from (omega arith)
            (in_step setting key stack numbered step h.asked.placed c h.asked.asked).takes)
      ])

  module _ (i older : ℕ) (v : Version) (one : 1 ≤ i) (less : i < length stack.versions) (here : v ≡ get_or stack.versions i v) (sum : older + i + 1 ≡ length stack.versions)
      (kept : keeps_newer step.newer (i - 1) ≡ true) where
    there : Among (placed_from 0 stack.versions) (placed_so v i older)
    there = placed_there 0 i stack.versions v i older less here (omega arith) sum

    asked_here : (c : Candidate) → Among (step_of_version setting (key, stack) numbered step (placed_so v i older)) c → From i c
    asked_here c h = record { asked = record { placed = placed_so v i older; there = there; noncurrent = one; kept = kept; asked = h }; from = omega arith }

    here_or : (c : Candidate) (h : From i c) → (i + 1 ≤ h.asked.placed.newer) ⊎ (h.asked.placed.newer ≡ i)
        → From (i + 1) c ⊎ Among (step_of_version setting (key, stack) numbered step (placed_so v i older)) c
    here_or c h (inl more) = inl (record { asked = h.asked; from = more })
    here_or c h (inr same) = inr (subst (λ p. Among (step_of_version setting (key, stack) numbered step p) c)
        (same_at stack.versions v i older h.asked.placed (is_placed 0 stack.versions h.asked.placed h.asked.there) same here sum) h.asked.asked)

    pub one_newer : (mid new : Option Candidate) → IsFirstOf old (From (i + 1)) mid
        → new ≡ with_each mid (step_of_version setting (key, stack) numbered step (placed_so v i older)) → IsFirstOf old (From i) new
    one_newer mid new first is = then_looked old mid new (From (i + 1)) (Among (step_of_version setting (key, stack) numbered step (placed_so v i older))) (From i)
        first (folded mid new (step_of_version setting (key, stack) numbered step (placed_so v i older)) is)
        (λ c h. record { asked = h.asked; from = let from = h.from in omega arith }) asked_here
        (λ c h. here_or c h (split_at h.asked.placed.newer i h.from))

    module _ (takes : takes_step setting.mode numbered.1.filter step.kind key v ≡ true) (ordered : cease_in_order stack.changed stack.versions ≡ true)
        (new : Option Candidate) (first : IsFirstOf old (From i) new) where
      met : (c : Candidate) (h : All c) → h.placed.newer + 1 ≤ i → IsNotBefore c new
      met c h newer =
          let taken = in_step setting key stack numbered step h.placed c h.asked in
          let at = is_placed 0 stack.versions h.placed h.there in
          let own = is_placed 0 stack.versions (placed_so v i older) there in
          let ceased = ceased_order stack.changed stack.versions h.placed (placed_so v i older) ordered at own h.noncurrent (omega arith) in
          let earlier = due_order v.ceased h.placed.version.ceased step.days ceased in
          let d = stepped setting key stack numbered step (placed_so v i older) in
          let in_time = earlier_end (due h.placed.version.ceased step.days) (due v.ceased step.days) end_of_time earlier taken.before_end in
          let not_after = first.none_before d (asked_here d (to_step setting key stack numbered step (placed_so v i older) takes in_time)) in
          let place = at.sum in
          subst (λ e. IsNotBefore e new) taken.is (behind (stepped setting key stack numbered step h.placed) d new
          (stands_behind step.kind key (target.Version h.placed.version.id) (target.Version v.id) numbered.0
          (max (due h.placed.version.ceased step.days) (max stack.changed setting.rules_since)) (max (due v.ceased step.days) (max stack.changed setting.rules_since))
          h.placed.older older (omega (arith, earlier)) (omega arith)) not_after)

      pub oldest_first : IsFirstOf old All new
      oldest_first = also_looked old new (From i) All first (λ c h. h.asked) (λ c h. elim (below_or h.placed.newer i) [
        | inl from ↦ first.none_before c (record { asked = h; from = from })
        | inr newer ↦ met c h newer
      ])
