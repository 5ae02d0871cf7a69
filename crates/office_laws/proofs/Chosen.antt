-- What is known of the choice of a bucket: it has come, its target is there, and nothing of the target changed after it.
use Rattle.std.proofs.Common.{◌≡◌, ℕ, ◌-◌, ◌≤◌, List, [], ◌∷◌, refl, subst, Bool, true, false, ◌&&◌, cond, arith, filter, flat_map, ◌==◌}
use Rattle.std.specs.Prelude.{Option, Some, None, option_map, option_to_list, nat_lt, nat_le, max}
use Rattle.std.specs.List.{AllByRecursion, best_of}
use Rattle.std.specs.Ordering.{nat_cmp, is_lt, ordering_then}
use Rattle.std.specs.declared.cmp.Ordering.{Ordering}
use Rattle.std.specs.declared.cmp.Ordering.TheVariants.{Less, Equal, Greater}
use Rattle.std.specs.Cmp.{ranked}
use Rattle.std.proofs.lemmas.Bool.{leb-true, leb-false}
use Rattle.moments.specs.Time.{end_of_time}
use Rattle.office_base.specs.Maps.{at_name, at_number, bytes_cmp, Rises}
use Rattle.rules_core.specs.Matching.{matches_upload}
use Rattle.class_rules.specs.declared.class.Class.{Class}
use Rattle.office_base.specs.declared.version_id.VersionId.{VersionId}
use Rattle.rules_core.specs.declared.rule.Rule.{Rule}
use Rattle.rules_core.specs.Configurations.{Configuration}
use Rattle.rules_core.specs.declared.rule.SizeMode.{SizeMode}
use Rattle.stacks.specs.declared.version.Versioning.{Versioning}
use Rattle.stacks.specs.declared.version.Versioning.TheVariants.{Unversioned, Enabled, Suspended}
use Rattle.stacks.specs.declared.version.Kind.{Kind}
use Rattle.stacks.specs.declared.version.Kind.TheVariants.{Object, Marker}
use Rattle.stacks.specs.Stacks.{StackRecord}
use Rattle.uploads.specs.Uploads.{UploadRecord}
use Rattle.due_core.specs.RuleActions.{Placed, placed_from, expirations, expiring, admits_move, object_actions, lone_marker_actions, noncurrent_removals, noncurrent_transitions, keeps_newer}
use Rattle.due_core.specs.RuleActions.{version_actions, matches_version, upload_actions}
use Rattle.due_core.specs.Candidates.{enabled_rules, timely, stack_candidates, upload_candidates, eligible_by, eligible, candidates}
use Rattle.due_core.specs.Choice.{least, comes_before, choice}
use Rattle.due_core.specs.declared.action.Action.{Action}
use Rattle.due_core.specs.declared.action.ActionKind.{ActionKind}
use Rattle.due_core.specs.declared.action.ActionKind.TheVariants as action
use Rattle.due_core.specs.declared.action.Target.{Target}
use Rattle.due_core.specs.declared.action.Target.TheVariants as target
use Rattle.due_core.specs.Buckets.{BucketRecord}
use Rattle.due_core.specs.declared.action.Candidate.{Candidate}
use Rattle.plain_office.specs.Orderly.{IsOrderlyBucket}
use Rattle.office_laws.proofs.Lists.{every, every_append, every_filter, every_weaker, every_map, every_flat_map}
use Rattle.office_laws.proofs.Maps.{by_name, by_number, each_found}
use Rattle.office_laws.proofs.Buckets.{IsTimely, IsSince}

-- ---- markers are asked for only where versions are kept

abbrev pub MayMark : Versioning → ActionKind → Type 0
MayMark Unversioned action.Marker = ⊥
MayMark versioning kind = Unit {0}

abbrev DueFits : Versioning → ActionKind × ℕ → Type 0
DueFits versioning due = MayMark versioning due.0

removes : (versioning : Versioning) → MayMark versioning action.Remove
removes Unversioned = tt
removes Enabled = tt
removes Suspended = tt

moves : (versioning : Versioning) (to : Class) → MayMark versioning (action.Transition to)
moves Unversioned to = tt
moves Enabled to = tt
moves Suspended to = tt

expires : (versioning : Versioning) → MayMark versioning (expiring versioning)
expires Unversioned = tt
expires Enabled = tt
expires Suspended = tt

module _ (versioning : Versioning) (mode : SizeMode) (rule : Rule) where
  abbrev P : ActionKind × ℕ → Type 0
  P = DueFits versioning

  all_map : {X : Type 0} (f : X → ActionKind × ℕ) → ((x : X) → DueFits versioning (f x)) → (xs : List X) → AllByRecursion P (Rattle.std.proofs.Common.map f xs)
  all_map {X = X} f g xs = every_map (λ (x : X). Unit {0}) P f (λ x _. g x) xs (every (λ (x : X). Unit {0}) (λ x. tt) xs)

  removals : (newer ceased : ℕ) → AllByRecursion P (noncurrent_removals rule newer ceased)
  removals newer ceased = all_map _ (λ _. removes versioning) (filter (λ expiration. keeps_newer expiration.newer newer) (option_to_list rule.noncurrent_expiration))

  later_moves : (size : ℕ) (class : Class) (newer ceased : ℕ) → AllByRecursion P (noncurrent_transitions mode rule size class newer ceased)
  later_moves size class newer ceased =
      all_map _ (λ move. moves versioning move.to) (filter (λ move. keeps_newer move.newer newer && admits_move mode rule.filter class size move.to) rule.noncurrent_moves)

  first_actions : (size : ℕ) (class : Class) (created : ℕ) → AllByRecursion P (object_actions versioning mode rule size class created)
  first_actions size class created = every_append P _ _
      (all_map _ (λ _. expires versioning) (flat_map (expirations created) (option_to_list rule.expiration)))
      (all_map _ (λ transition. moves versioning transition.to) (filter (λ transition. admits_move mode rule.filter class size transition.to) rule.transitions))

  lone : (created changed : ℕ) → AllByRecursion P (lone_marker_actions rule created changed)
  lone created changed = every_append P _ _
      (all_map _ (λ _. removes versioning) (flat_map (expirations created) (option_to_list rule.expiration)))
      (all_map _ (λ _. removes versioning) (filter (λ expiration. expiration.lone_marker) (option_to_list rule.expiration)))

  either : (b : Bool) (xs ys : List (ActionKind × ℕ)) → AllByRecursion P xs → AllByRecursion P ys → AllByRecursion P (cond b xs ys)
  either true xs ys h k = h
  either false xs ys h k = k

  kind_actions : (changed : ℕ) (kind : Kind) (id : VersionId) (created ceased newer older : ℕ)
      → AllByRecursion P (version_actions versioning mode changed rule (record { version = record { id = id; kind = kind; created = created; ceased = ceased }; newer = newer; older = older }))
  unfolding version_actions
  kind_actions changed (Object size class tags entered) id created ceased newer older =
      either (newer == 0) _ _ (first_actions size class created)
      (every_append P _ _ (removals (newer - 1) ceased) (later_moves size class (newer - 1) ceased))
  kind_actions changed Marker id created ceased newer older =
      either (newer == 0) _ _ (either (older == 0) _ _ (lone created changed) tt) (removals (newer - 1) ceased)

  all_actions : (changed : ℕ) (placed : Placed) → AllByRecursion P (version_actions versioning mode changed rule placed)
  all_actions changed placed = kind_actions changed placed.version.kind placed.version.id placed.version.created placed.version.ceased placed.newer placed.older

-- ---- every candidate

-- the target is there and has not changed after the action's moment
abbrev pub HasTarget : BucketRecord → ℕ → List ℕ → ActionKind → Target → Type 0
HasTarget bucket since key kind (target.Version id) = (stack : StackRecord) × (at_name key bucket.stacks ≡ Some stack) × (stack.changed ≤ since) × MayMark bucket.versioning kind
HasTarget bucket since key kind (target.Upload number) = (upload : UploadRecord) × (at_number number bucket.uploads ≡ Some upload) × (upload.changed ≤ since)

abbrev pub Targets : BucketRecord → Action → Type 0
Targets bucket chosen = HasTarget bucket chosen.since chosen.key chosen.kind chosen.target

module _ (bucket : BucketRecord) where
  abbrev TargetOf : Candidate → Type 0
  TargetOf candidate = Targets bucket candidate.action

  timely_targets : (key : List ℕ) (goal : Target) (rule age not_before : ℕ) (Q : ActionKind × ℕ → Type 0)
      → ((due : ActionKind × ℕ) → Q due → HasTarget bucket (max due.1 not_before) key due.0 goal)
      → (asked : List (ActionKind × ℕ)) → AllByRecursion Q asked → AllByRecursion TargetOf (timely key goal rule age not_before asked)
  timely_targets key goal rule age not_before Q f asked h =
      every_map Q TargetOf _ (λ due q. f due q) _ (every_filter Q (λ due. nat_lt due.1 end_of_time) asked h)

  stack_targets : (rules : Configuration) (key : List ℕ) (stack : StackRecord) → at_name key bucket.stacks ≡ Some stack → AllByRecursion TargetOf (stack_candidates bucket rules (key, stack))
  stack_targets rules key stack found =
      every_flat_map (λ (placed : Placed). Unit {0}) TargetOf _
      (λ placed _. every_flat_map (λ (numbered : ℕ × Rule). Unit {0}) TargetOf _
      (λ numbered _. timely_targets key (target.Version placed.version.id) numbered.0 placed.older (max stack.changed bucket.rules_since)
      (DueFits bucket.versioning) (λ due fits. (stack, found, omega arith, fits))
      (version_actions bucket.versioning rules.mode stack.changed numbered.1 placed) (all_actions bucket.versioning rules.mode numbered.1 stack.changed placed))
      (filter (λ numbered. matches_version numbered.1.filter key placed.version) (enabled_rules rules)) (every (λ (numbered : ℕ × Rule). Unit {0}) (λ numbered. tt) _))
      (placed_from 0 stack.versions) (every (λ (placed : Placed). Unit {0}) (λ placed. tt) _)

  upload_targets : (rules : Configuration) (number : ℕ) (upload : UploadRecord)
      → at_number number bucket.uploads ≡ Some upload
      → AllByRecursion TargetOf (upload_candidates bucket rules (number, upload))
  upload_targets rules number upload found =
      every_flat_map (λ (numbered : ℕ × Rule). Unit {0}) TargetOf _
      (λ numbered _. timely_targets upload.key (target.Upload number) numbered.0 number (max upload.changed bucket.rules_since)
      (λ (due : ActionKind × ℕ). Unit {0}) (λ due _. (upload, found, omega arith))
      (upload_actions numbered.1 upload) (every (λ (due : ActionKind × ℕ). Unit {0}) (λ due. tt) _))
      (filter (λ numbered. matches_upload numbered.1.filter upload.key) (enabled_rules rules)) (every (λ (numbered : ℕ × Rule). Unit {0}) (λ numbered. tt) _)

  targets_by : Rises bytes_cmp bucket.stacks → Rises nat_cmp bucket.uploads → (rules : Option Configuration) → AllByRecursion TargetOf (eligible_by bucket rules)
  targets_by keys numbers None = tt
  targets_by keys numbers (Some rules) = every_append TargetOf _ _
      (every_flat_map (λ (e : List ℕ × StackRecord). at_name e.0 bucket.stacks ≡ Some e.1) TargetOf _
      (λ e found. stack_targets rules e.0 e.1 found) bucket.stacks (each_found by_name bucket.stacks keys))
      (every_flat_map (λ (e : ℕ × UploadRecord). at_number e.0 bucket.uploads ≡ Some e.1) TargetOf _
      (λ e found. upload_targets rules e.0 e.1 found) bucket.uploads
      (each_found by_number bucket.uploads numbers))

  all_targets : (last : ℕ) → IsOrderlyBucket last bucket → AllByRecursion TargetOf (eligible bucket)
  unfolding eligible
  all_targets last h = targets_by h.keys h.numbers bucket.rules

-- ---- the choice

either_holds : {X : Type 0} (P : X → Type 0) (b : Bool) (x y : X) → P x → P y → P (cond b x y)
either_holds P true x y h k = h
either_holds P false x y h k = k

best_holds : {X : Type 0} (P : X → Type 0) (before : X → X → Bool) (x : X) (xs : List X) → P x → AllByRecursion P xs → P (best_of before x xs)
best_holds P before x [] h all = h
best_holds P before x (y ∷ ys) h all = best_holds P before (cond (before y x) y x) ys (either_holds P (before y x) y x all.0 h) all.1

chosen_by : (P : Action → Type 0) (xs : List Candidate) (chosen : Action) → AllByRecursion (λ (c : Candidate). P c.action) xs
    → option_map (λ (c : Candidate). c.action) (least comes_before xs) ≡ Some chosen → P chosen
chosen_by P [] chosen all is = absurd cc
chosen_by P (x ∷ xs) chosen all is =
    let same : (best_of comes_before x xs).action ≡ chosen = cc in
    subst P same (best_holds (λ (c : Candidate). P c.action) comes_before x xs all.0 all.1)

-- what holds of each eligible action holds of the choice
pub chosen_holds : (P : Action → Type 0) (bucket : BucketRecord) (t : ℕ) (chosen : Action) → AllByRecursion (λ (c : Candidate). P c.action) (eligible bucket) → choice bucket t ≡ Some chosen → P chosen
unfolding choice candidates
chosen_holds P bucket t chosen all is = chosen_by P (candidates bucket t) chosen (every_filter (λ (c : Candidate). P c.action) (λ (c : Candidate). nat_le c.action.since t) (eligible bucket) all) is

all_come : (t : ℕ) (xs : List Candidate) → AllByRecursion (λ (c : Candidate). c.action.since ≤ t) (filter (λ (c : Candidate). nat_le c.action.since t) xs)
all_come t [] = tt
all_come t (x ∷ xs) = by (nat_le x.action.since t) refl (all_come t xs) where
  by : (b : Bool) → nat_le x.action.since t ≡ b → AllByRecursion (λ (c : Candidate). c.action.since ≤ t) (filter (λ (c : Candidate). nat_le c.action.since t) xs)
      → AllByRecursion (λ (c : Candidate). c.action.since ≤ t) (cond b (x ∷ filter (λ (c : Candidate). nat_le c.action.since t) xs) (filter (λ (c : Candidate). nat_le c.action.since t) xs))
  by true is k = (leb-true x.action.since t is, k)
  by false is k = k

-- it has come
pub chosen_come : (bucket : BucketRecord) (t : ℕ) (chosen : Action) → choice bucket t ≡ Some chosen → chosen.since ≤ t
unfolding choice candidates
chosen_come bucket t chosen is = chosen_by (λ (a : Action). a.since ≤ t) (candidates bucket t) chosen (all_come t (eligible bucket)) is

-- and its target is there
pub chosen_target : (last : ℕ) (bucket : BucketRecord) (t : ℕ) (chosen : Action) → IsOrderlyBucket last bucket → choice bucket t ≡ Some chosen → Targets bucket chosen
chosen_target last bucket t chosen h is = chosen_holds (Targets bucket) bucket t chosen (all_targets bucket last h) is

-- ---- the choice is the earliest

before_less : (o rest : Ordering) → is_lt (ordering_then o rest) ≡ true → o ≡ Greater → ⊥
before_less Less rest h k = absurd cc
before_less Equal rest h k = absurd cc
before_less Greater rest h k = absurd cc

not_before : (o rest : Ordering) → is_lt (ordering_then o rest) ≡ false → o ≡ Less → ⊥
not_before Less rest h k = absurd cc
not_before Equal rest h k = absurd cc
not_before Greater rest h k = absurd cc

by_order : (a b : ℕ) (o : Ordering) → o ≡ nat_cmp a b → (o ≡ Greater → ⊥) → a ≤ b
by_order a b Less is never = let below = ranked a b Less is in omega (arith, below)
by_order a b Equal is never = let same = ranked a b Equal is in omega (arith, same)
by_order a b Greater is never = absurd (never refl)

by_reverse : (a b : ℕ) (o : Ordering) → o ≡ nat_cmp a b → (o ≡ Less → ⊥) → b ≤ a
by_reverse a b Less is never = absurd (never refl)
by_reverse a b Equal is never = let same = ranked a b Equal is in omega (arith, same)
by_reverse a b Greater is never = let above = ranked a b Greater is in omega (arith, above)

sooner : (x y : Candidate) → comes_before y x ≡ true → y.action.since ≤ x.action.since
sooner x y h = by_order y.action.since x.action.since (nat_cmp y.action.since x.action.since) refl (λ is. before_less (nat_cmp y.action.since x.action.since) _ h is)

not_sooner : (x y : Candidate) → comes_before y x ≡ false → x.action.since ≤ y.action.since
not_sooner x y h = by_reverse y.action.since x.action.since (nat_cmp y.action.since x.action.since) refl (λ is. not_before (nat_cmp y.action.since x.action.since) _ h is)

abbrev NotBefore : Candidate → Candidate → Type 0
NotBefore best c = best.action.since ≤ c.action.since

first_step : (x y : Candidate) (b : Bool) → comes_before y x ≡ b → ((cond b y x).action.since ≤ x.action.since) × ((cond b y x).action.since ≤ y.action.since)
first_step x y true h = (sooner x y h, omega arith)
first_step x y false h = (omega arith, not_sooner x y h)

best_first : (x : Candidate) (xs : List Candidate) → ((best_of comes_before x xs).action.since ≤ x.action.since) × AllByRecursion (NotBefore (best_of comes_before x xs)) xs
best_first x [] = (omega arith, tt)
best_first x (y ∷ ys) =
    let step = first_step x y (comes_before y x) refl in
    let rest = best_first (cond (comes_before y x) y x) ys in
    let a = step.0 in
    let b = step.1 in
    let c = rest.0 in
    (omega (arith, a, c), (omega (arith, b, c), rest.1))

-- where no choice stands before a moment, none of those that have come does
no_earlier : (end : ℕ) (xs : List Candidate) → ((a : Action) → option_map (λ (c : Candidate). c.action) (least comes_before xs) ≡ Some a → end ≤ a.since) → AllByRecursion (IsSince end) xs
no_earlier end [] h = tt
no_earlier end (x ∷ xs) h =
    let first = best_first x xs in
    let from = h (best_of comes_before x xs).action refl in
    let here = first.0 in
    (omega (arith, here, from), every_weaker (NotBefore (best_of comes_before x xs)) (IsSince end) (λ c is. omega (arith, is, from)) xs first.1)

later_or_come : (end t : ℕ) → end ≤ t → (xs : List Candidate) → AllByRecursion (IsSince end) (filter (λ (c : Candidate). nat_le c.action.since t) xs) → AllByRecursion (IsSince end) xs
later_or_come end t le [] h = tt
later_or_come end t le (x ∷ xs) h = by (nat_le x.action.since t) refl h (later_or_come end t le xs) where
  by : (b : Bool) → nat_le x.action.since t ≡ b
      → AllByRecursion (IsSince end) (cond b (x ∷ filter (λ (c : Candidate). nat_le c.action.since t) xs) (filter (λ (c : Candidate). nat_le c.action.since t) xs))
      → (AllByRecursion (IsSince end) (filter (λ (c : Candidate). nat_le c.action.since t) xs) → AllByRecursion (IsSince end) xs) → AllByRecursion (IsSince end) (x ∷ xs)
  by true is h more = (h.0, more h.1)
  by false is h more = let above = leb-false x.action.since t is in (omega (arith, above, le), more h)

-- a moment that has come, with no choice before it
pub timely_from_choice : (end t : ℕ) (bucket : BucketRecord) → end ≤ t → ((a : Action) → choice bucket t ≡ Some a → end ≤ a.since) → IsTimely end bucket
unfolding choice candidates
timely_from_choice end t bucket le h = later_or_come end t le (eligible bucket) (no_earlier end (candidates bucket t) h)
