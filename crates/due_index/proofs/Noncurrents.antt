-- What a rule asks for the versions of a key is what it asks for the current one, and what its removal and each of its
-- moves ask for the others.
use Rattle.std.proofs.Common.{◌≡◌, ℕ, ◌+◌, ◌-◌, ◌<◌, ◌≤◌, ◌⊎◌, inl, inr, List, [], ◌∷◌, ◌++◌, length, get_or, refl, sym, ap, ◌∙◌, subst, Bool, true, false, cond, ◌&&◌, filter, map, take, arith, suc}
use Rattle.std.specs.Prelude.{◌==◌, max, nat_lt, Option, Some, None, option_to_list, slice_get}
use Rattle.std.proofs.lemmas.Bool.Decides.{nat_tests}
use Rattle.std.proofs.Math.Seq.{take-suc}
use Rattle.std.proofs.lemmas.List.{get_or_default}
use Rattle.class_rules.specs.declared.class.Class.TheVariants.{Standard}
use Rattle.moments.specs.Time.{due, end_of_time}
use Rattle.office_base.specs.declared.version_id.VersionId.{VersionId}
use Rattle.rules_core.specs.declared.rule.Rule.{Rule}
use Rattle.rules_core.specs.declared.rule.SizeMode.{SizeMode}
use Rattle.rules_core.specs.declared.rule.Noncurrent.{Noncurrent}
use Rattle.rules_core.specs.declared.rule.NoncurrentMove.{NoncurrentMove}
use Rattle.stacks.specs.Stacks.{StackRecord}
use Rattle.stacks.specs.declared.version.Kind.{Kind}
use Rattle.stacks.specs.declared.version.Kind.TheVariants.{Object, Marker as DeleteMarker}
use Rattle.stacks.specs.declared.version.Version.{Version}
use Rattle.stacks.specs.declared.version.Versioning.{Versioning}
use Rattle.due_core.specs.Candidates.{timely}
use Rattle.due_core.specs.RuleActions.{DueAction, Placed, placed_from, keeps_newer, admits_move, matches_version, version_actions, noncurrent_removals, noncurrent_transitions}
use Rattle.due_core.specs.declared.action.ActionKind.TheVariants.{Remove, Transition}
use Rattle.due_core.specs.declared.action.Target.TheVariants as target
use Rattle.due_core.specs.declared.action.Candidate.{Candidate}
use Rattle.due_index.specs.Search.{Among, IsFirstOf, IsFirstOfList, IsOfStep, IsOfSteps, asked_of_version, rule_candidates, current_placed, with_each}
use Rattle.due_index.specs.Search.{step_of_version, admits_step, steps_of, removal_step, move_step}
use Rattle.due_index.specs.declared.asked.Setting.{Setting}
use Rattle.due_index.specs.declared.noncurrent.Step.{Step}
use Rattle.due_index.proofs.Among.{among_append, among_front, among_back, among_map, mapped, among_filter, filtered, among_flat_map, flat_mapped}
use Rattle.due_index.proofs.Firsts.{none_looked, then_looked, same_looked, folded}
use Rattle.due_index.proofs.Oldest.{is_placed, placed_there, same_at, in_true, in_step, to_step}
use Rattle.due_index.proofs.Tournaments.{decide}

-- ---- what a rule asks of a noncurrent version

abbrev noncurrent_actions : SizeMode → Rule → Kind → ℕ → ℕ → List DueAction
noncurrent_actions mode rule (Object size class tags entered) newer ceased =
    noncurrent_removals rule newer ceased ++ noncurrent_transitions mode rule size class newer ceased
noncurrent_actions mode rule DeleteMarker newer ceased = noncurrent_removals rule newer ceased

otherwise : {X : Type 0} (b : Bool) (x y : X) → b ≡ false → cond b x y ≡ y
otherwise true x y is = absurd cc
otherwise false x y is = refl

some_newer : (n : ℕ) → 1 ≤ n → (n == 0) ≡ false
some_newer n one = grind (arith, nat_tests)

actions_by : (versioning : Versioning) (mode : SizeMode) (changed : ℕ) (rule : Rule) (id : VersionId) (kind : Kind) (created ceased newer older : ℕ) → 1 ≤ newer
    → version_actions versioning mode changed rule (record { version = record { id = id; kind = kind; created = created; ceased = ceased }; newer = newer; older = older })
    ≡ noncurrent_actions mode rule kind (newer - 1) ceased
unfolding version_actions
actions_by versioning mode changed rule id (Object size class tags entered) created ceased newer older one = otherwise (newer == 0) _ _ (some_newer newer one)
actions_by versioning mode changed rule id DeleteMarker created ceased newer older one = otherwise (newer == 0) _ _ (some_newer newer one)

actions_are : (versioning : Versioning) (mode : SizeMode) (changed : ℕ) (rule : Rule) (p : Placed) → 1 ≤ p.newer
    → version_actions versioning mode changed rule p ≡ noncurrent_actions mode rule p.version.kind (p.newer - 1) p.version.ceased
actions_are versioning mode changed rule p one =
    actions_by versioning mode changed rule p.version.id p.version.kind p.version.created p.version.ceased p.newer p.older one

-- one of its steps that keeps no newer version back, and does this
record IsStepped (mode : SizeMode) (rule : Rule) (kind : Kind) (newer ceased : ℕ) (action : DueAction) : Type 0 where
  step : Step
  one : Among (steps_of rule) step
  kept : keeps_newer step.newer newer ≡ true
  admits : admits_step mode rule.filter step.kind kind ≡ true
  is : (step.kind, due ceased step.days) ≡ action

both_true : (a b : Bool) → (a && b) ≡ true → (a ≡ true) × (b ≡ true)
both_true true b is = (refl, is)
both_true false b is = absurd cc

and_true : (a b : Bool) → a ≡ true → b ≡ true → (a && b) ≡ true
and_true true true ha hb = refl
and_true true false ha hb = absurd cc
and_true false b ha hb = absurd cc

from_removals : (mode : SizeMode) (rule : Rule) (kind : Kind) (newer ceased : ℕ) (action : DueAction) → Among (noncurrent_removals rule newer ceased) action
    → IsStepped mode rule kind newer ceased action
from_removals mode rule kind newer ceased action h =
    let found = among_map _ (filter (λ (e : Noncurrent). keeps_newer e.newer newer) (option_to_list rule.noncurrent_expiration)) action h in
    let kept = among_filter (λ (e : Noncurrent). keeps_newer e.newer newer) (option_to_list rule.noncurrent_expiration) found.0 found.1 in record {
      step = removal_step found.0;
      one = among_front (map removal_step (option_to_list rule.noncurrent_expiration)) (map move_step rule.noncurrent_moves) (removal_step found.0)
          (mapped removal_step (option_to_list rule.noncurrent_expiration) found.0 kept.0);
      kept = kept.1;
      admits = refl;
      is = found.2;
    }

from_moves : (mode : SizeMode) (rule : Rule) (size : ℕ) (class : _) (tags : _) (entered : _) (newer ceased : ℕ) (action : DueAction)
    → Among (noncurrent_transitions mode rule size class newer ceased) action → IsStepped mode rule (Object size class tags entered) newer ceased action
from_moves mode rule size class tags entered newer ceased action h =
    let test = λ (m : NoncurrentMove). keeps_newer m.newer newer && admits_move mode rule.filter class size m.to in
    let found = among_map _ (filter test rule.noncurrent_moves) action h in
    let kept = among_filter test rule.noncurrent_moves found.0 found.1 in
    let parts = both_true (keeps_newer found.0.newer newer) (admits_move mode rule.filter class size found.0.to) kept.1 in record {
      step = move_step found.0;
      one = among_back (map removal_step (option_to_list rule.noncurrent_expiration)) (map move_step rule.noncurrent_moves) (move_step found.0)
          (mapped move_step rule.noncurrent_moves found.0 kept.0);
      kept = parts.0;
      admits = parts.1;
      is = found.2;
    }

stepped_of : (mode : SizeMode) (rule : Rule) (kind : Kind) (newer ceased : ℕ) (action : DueAction) → Among (noncurrent_actions mode rule kind newer ceased) action
    → IsStepped mode rule kind newer ceased action
stepped_of mode rule (Object size class tags entered) newer ceased action h =
    elim (among_append (noncurrent_removals rule newer ceased) (noncurrent_transitions mode rule size class newer ceased) action h) [
      | inl a ↦ from_removals mode rule (Object size class tags entered) newer ceased action a
      | inr b ↦ from_moves mode rule size class tags entered newer ceased action b
    ]
stepped_of mode rule DeleteMarker newer ceased action h = from_removals mode rule DeleteMarker newer ceased action h

-- and back
in_removals : (rule : Rule) (e : Noncurrent) (newer ceased : ℕ) → Among (option_to_list rule.noncurrent_expiration) e → keeps_newer e.newer newer ≡ true
    → Among (noncurrent_removals rule newer ceased) (Remove, due ceased e.days)
in_removals rule e newer ceased h kept = mapped _ (filter (λ (e : Noncurrent). keeps_newer e.newer newer) (option_to_list rule.noncurrent_expiration)) e
    (filtered (λ (e : Noncurrent). keeps_newer e.newer newer) (option_to_list rule.noncurrent_expiration) e h kept)

removal_in : (mode : SizeMode) (rule : Rule) (kind : Kind) (e : Noncurrent) (newer ceased : ℕ) → Among (option_to_list rule.noncurrent_expiration) e
    → keeps_newer e.newer newer ≡ true → Among (noncurrent_actions mode rule kind newer ceased) (Remove, due ceased e.days)
removal_in mode rule (Object size class tags entered) e newer ceased h kept =
    among_front (noncurrent_removals rule newer ceased) (noncurrent_transitions mode rule size class newer ceased) (Remove, due ceased e.days)
    (in_removals rule e newer ceased h kept)
removal_in mode rule DeleteMarker e newer ceased h kept = in_removals rule e newer ceased h kept

move_in : (mode : SizeMode) (rule : Rule) (kind : Kind) (m : NoncurrentMove) (newer ceased : ℕ) → Among rule.noncurrent_moves m
    → keeps_newer m.newer newer ≡ true → admits_step mode rule.filter (Transition m.to) kind ≡ true
    → Among (noncurrent_actions mode rule kind newer ceased) (Transition m.to, due ceased m.days)
move_in mode rule (Object size class tags entered) m newer ceased h kept admits =
    let test = λ (m : NoncurrentMove). keeps_newer m.newer newer && admits_move mode rule.filter class size m.to in
    among_back (noncurrent_removals rule newer ceased) (noncurrent_transitions mode rule size class newer ceased) (Transition m.to, due ceased m.days)
    (mapped _ (filter test rule.noncurrent_moves) m (filtered test rule.noncurrent_moves m h
    (and_true (keeps_newer m.newer newer) (admits_move mode rule.filter class size m.to) kept admits)))
move_in mode rule DeleteMarker m newer ceased h kept admits = absurd cc

step_in : (mode : SizeMode) (rule : Rule) (kind : Kind) (step : Step) (newer ceased : ℕ) → Among (steps_of rule) step → keeps_newer step.newer newer ≡ true
    → admits_step mode rule.filter step.kind kind ≡ true → Among (noncurrent_actions mode rule kind newer ceased) (step.kind, due ceased step.days)
step_in mode rule kind step newer ceased h kept admits =
    elim (among_append (map removal_step (option_to_list rule.noncurrent_expiration)) (map move_step rule.noncurrent_moves) step h) [
      | inl a ↦ let found = among_map removal_step (option_to_list rule.noncurrent_expiration) step a in
          subst (λ (s : Step). Among (noncurrent_actions mode rule kind newer ceased) (s.kind, due ceased s.days)) found.2
          (removal_in mode rule kind found.0 newer ceased found.1 (subst (λ (s : Step). keeps_newer s.newer newer ≡ true) (sym found.2) kept))
      | inr b ↦ let found = among_map move_step rule.noncurrent_moves step b in
          subst (λ (s : Step). Among (noncurrent_actions mode rule kind newer ceased) (s.kind, due ceased s.days)) found.2
          (move_in mode rule kind found.0 newer ceased found.1 (subst (λ (s : Step). keeps_newer s.newer newer ≡ true) (sym found.2) kept)
          (subst (λ (s : Step). admits_step mode rule.filter s.kind kind ≡ true) (sym found.2) admits))
    ]

-- ---- candidates

pub hold : {X : Type 0} (b : Bool) (xs : List X) (x : X) → b ≡ true → Among xs x → Among (cond b xs []) x
hold true xs x is h = h
hold false xs x is h = absurd cc

module _ (setting : Setting) (key : List ℕ) (stack : StackRecord) (numbered : ℕ × Rule) where
  abbrev asked : Placed → List Candidate
  asked p = asked_of_version setting key stack.changed p numbered

  -- what is asked of a noncurrent version, one of the steps asks
  to_steps : (p : Placed) (c : Candidate) → Among (placed_from 0 stack.versions) p → 1 ≤ p.newer → Among (asked p) c
      → IsOfSteps setting (key, stack) numbered (steps_of numbered.1) c
  to_steps p c there one h =
      let enabled = in_true numbered.1.enabled _ c h in
      let fits = in_true (matches_version numbered.1.filter key p.version) _ c enabled.1 in
      let all = version_actions setting.versioning setting.mode stack.changed numbered.1 p in
      let found = among_map _ (filter (λ due. nat_lt due.1 end_of_time) all) c fits.1 in
      let kept = among_filter (λ due. nat_lt due.1 end_of_time) all found.0 found.1 in
      let is = stepped_of setting.mode numbered.1 p.version.kind (p.newer - 1) p.version.ceased found.0
      (subst (λ actions. Among actions found.0) (actions_are setting.versioning setting.mode stack.changed numbered.1 p one) kept.0) in record {
        step = is.step;
        one = is.one;
        asked = record {
          placed = p;
          there = there;
          noncurrent = one;
          kept = is.kept;
          asked = subst (λ d. Among (step_of_version setting (key, stack) numbered is.step p) d)
              (ap (λ (d : DueAction). record {
                action = record { kind = d.0; key = key; target = target.Version p.version.id; rule = numbered.0; since = max d.1 (max stack.changed setting.rules_since) };
                age = p.older;
              }) is.is ∙ found.2)
              (to_step setting key stack numbered is.step p
              (and_true (matches_version numbered.1.filter key p.version) (admits_step setting.mode numbered.1.filter is.step.kind p.version.kind) fits.0 is.admits)
              (subst (λ (d : DueAction). nat_lt d.1 end_of_time ≡ true) (sym is.is) kept.1));
        };
      }

  -- and what a step asks of a version, the rule asks
  of_steps : numbered.1.enabled ≡ true → (c : Candidate) → IsOfSteps setting (key, stack) numbered (steps_of numbered.1) c
      → Among (rule_candidates setting (key, stack) numbered) c
  of_steps enabled c h =
      let p = h.asked.placed in
      let taken = in_step setting key stack numbered h.step p c h.asked.asked in
      let parts = both_true (matches_version numbered.1.filter key p.version) (admits_step setting.mode numbered.1.filter h.step.kind p.version.kind) taken.takes in
      let all = version_actions setting.versioning setting.mode stack.changed numbered.1 p in
      let one = subst (λ actions. Among actions (h.step.kind, due p.version.ceased h.step.days))
      (sym (actions_are setting.versioning setting.mode stack.changed numbered.1 p h.asked.noncurrent))
      (step_in setting.mode numbered.1 p.version.kind h.step (p.newer - 1) p.version.ceased h.one h.asked.kept parts.1) in
      flat_mapped (λ placed. asked placed) (placed_from 0 stack.versions) p c h.asked.there
      (hold numbered.1.enabled _ c enabled (hold (matches_version numbered.1.filter key p.version) _ c parts.0
      (subst (λ d. Among (timely key (target.Version p.version.id) numbered.0 p.older (max stack.changed setting.rules_since) all) d) taken.is
      (mapped (λ (d : DueAction). record {
        action = record { kind = d.0; key = key; target = target.Version p.version.id; rule = numbered.0; since = max d.1 (max stack.changed setting.rules_since) };
        age = p.older;
      }) (filter (λ due. nat_lt due.1 end_of_time) all) (h.step.kind, due p.version.ceased h.step.days)
      (filtered (λ due. nat_lt due.1 end_of_time) all (h.step.kind, due p.version.ceased h.step.days) one taken.before_end)))))

  -- without versions nothing is asked
  pub no_versions : (old : Option Candidate) → stack.versions ≡ [] → IsFirstOfList old (rule_candidates setting (key, stack) numbered) old
  no_versions old none = none_looked old (Among (rule_candidates setting (key, stack) numbered)) (λ c h.
      let found = among_flat_map (λ placed. asked placed) (placed_from 0 stack.versions) c h in
      subst (λ vs. Among (placed_from 0 vs) found.0) none found.1)

  module _ (enabled : numbered.1.enabled ≡ true) (v : Version) (older : ℕ) (here : v ≡ get_or stack.versions 0 v) (sum : older + 1 ≡ length stack.versions) where
    current_there : Among (placed_from 0 stack.versions) (current_placed v older)
    current_there = placed_there 0 0 stack.versions v 0 older (omega arith) here (omega arith) (omega arith)

    of_current : (c : Candidate) → Among (asked (current_placed v older)) c → Among (rule_candidates setting (key, stack) numbered) c
    of_current c h = flat_mapped (λ placed. asked placed) (placed_from 0 stack.versions) (current_placed v older) c current_there h

    either : (p : Placed) (c : Candidate) → Among (placed_from 0 stack.versions) p → Among (asked p) c
        → Among (asked (current_placed v older)) c ⊎ IsOfSteps setting (key, stack) numbered (steps_of numbered.1) c
    either p c there h = elim (decide p.newer 0) [
      | inl same ↦ inl (subst (λ q. Among (asked q) c)
          (same_at stack.versions v 0 older p (is_placed 0 stack.versions p there) same here (omega arith)) h)
      | inr apart ↦ inr (to_steps p c there (omega arith) h)
    ]

    pub by_version : (old mid new : Option Candidate) → mid ≡ with_each old (asked (current_placed v older))
        → IsFirstOf mid (IsOfSteps setting (key, stack) numbered (steps_of numbered.1)) new → IsFirstOfList old (rule_candidates setting (key, stack) numbered) new
    by_version old mid new is first = then_looked old mid new (Among (asked (current_placed v older))) (IsOfSteps setting (key, stack) numbered (steps_of numbered.1))
        (Among (rule_candidates setting (key, stack) numbered)) (folded old mid (asked (current_placed v older)) is) first of_current (of_steps enabled)
        (λ c h. let found = among_flat_map (λ placed. asked placed) (placed_from 0 stack.versions) c h in either found.0 c found.1 found.2)

-- ---- step by step

module _ (setting : Setting) (entry : List ℕ × StackRecord) (numbered : ℕ × Rule) where
  abbrev Steps : List Step → Candidate → Type 0
  Steps steps c = IsOfSteps setting entry numbered steps c

  pub no_step : (old : Option Candidate) → IsFirstOf old (Steps []) old
  no_step old = none_looked old (Steps []) (λ c h. h.one)

  pub one_step : (old new : Option Candidate) (step : Step) → IsFirstOf old (IsOfStep setting entry numbered step) new → IsFirstOf old (Steps (step ∷ [])) new
  one_step old new step first = same_looked old new (IsOfStep setting entry numbered step) (Steps (step ∷ [])) first
      (λ c h. record { step = step; one = inl refl; asked = h }) (λ c h. only c h h.one) where
        only : (c : Candidate) (h : Steps (step ∷ []) c) → Among (step ∷ []) h.step → IsOfStep setting entry numbered step c
        only c h (inl e) = subst (λ s. IsOfStep setting entry numbered s c) (sym e) h.asked
        only c h (inr k) = absurd k

  pub more_steps : (old mid new : Option Candidate) (xs ys : List Step) → IsFirstOf old (Steps xs) mid → IsFirstOf mid (Steps ys) new → IsFirstOf old (Steps (xs ++ ys)) new
  more_steps old mid new xs ys a b = then_looked old mid new (Steps xs) (Steps ys) (Steps (xs ++ ys)) a b
      (λ c h. record { step = h.step; one = among_front xs ys h.step h.one; asked = h.asked })
      (λ c h. record { step = h.step; one = among_back xs ys h.step h.one; asked = h.asked })
      (λ c h. elim (among_append xs ys h.step h.one) [
        | inl l ↦ inl (record { step = h.step; one = l; asked = h.asked })
        | inr r ↦ inr (record { step = h.step; one = r; asked = h.asked })
      ])

  map_more : {X Y : Type 0} (f : X → Y) (xs : List X) (x : X) → map f (xs ++ x ∷ []) ≡ map f xs ++ f x ∷ []
  map_more f [] x = refl
  map_more f (y ∷ ys) x = ap (λ zs. f y ∷ zs) (map_more f ys x)

  -- one turn of the loop over the moves
  pub one_move : (old mid new : Option Candidate) (moves : List NoncurrentMove) (i j : ℕ) (x : NoncurrentMove) → i < length moves → x ≡ get_or moves i x → j ≡ i + 1
      → IsFirstOf old (Steps (map move_step (take i moves))) mid → IsFirstOf mid (IsOfStep setting entry numbered (move_step x)) new
      → IsFirstOf old (Steps (map move_step (take j moves))) new
  one_move old mid new moves i j x less here next a b =
      let after : suc i ≡ j = omega arith in
      let longer : take i moves ++ x ∷ [] ≡ take j moves = ap (λ y. take i moves ++ y ∷ []) here ∙ sym (take-suc moves i x less) ∙ ap (λ n. take n moves) after in
      subst (λ steps. IsFirstOf old (Steps steps) new) (sym (map_more move_step (take i moves) x) ∙ ap (map move_step) longer)
      (more_steps old mid new (map move_step (take i moves)) (move_step x ∷ []) a (one_step mid new (move_step x) b))

-- ---- elements of lists, as the code reads them

pub no_first : (versions : List Version) → slice_get versions 0 ≡ None → versions ≡ []
no_first [] is = refl
no_first (v ∷ vs) is = absurd cc

pub first_is : (versions : List Version) (v : Version) → Some v ≡ slice_get versions 0 → (v ≡ get_or versions 0 v) × (0 < length versions)
first_is [] v is = absurd cc
first_is (w ∷ ws) v is = let same : v ≡ w = cc in (same, omega arith)

pub element_at : (moves : List NoncurrentMove) (i : ℕ) (step : Step) → i < length moves → step ≡ move_step (get_or moves i (record { days = 0; newer = None; to = Standard }))
    → (x : NoncurrentMove) × (x ≡ get_or moves i x) × (step ≡ move_step x)
element_at moves i step less is =
    let x = get_or moves i (record { days = 0; newer = None; to = Standard }) in (x, get_or_default moves i _ x less, is)
