-- What is known of the choice of a bucket: the place of its target, and that its kind fits there.
use Rattle.std.proofs.Common.{◌≡◌, ℕ, ◌+◌, ◌-◌, ◌<◌, List, [], ◌∷◌, ◌++◌, refl, ap, true, false, ◌&&◌, arith, filter, length, flat_map, ◌==◌}
use Rattle.std.specs.Prelude.{Option, Some, None, is_some, option_to_list, nat_lt, max}
use Rattle.std.specs.List.{AllByRecursion}
use Rattle.std.proofs.lemmas.Bool.{and_parts}
use Rattle.std.proofs.lemmas.Bool.Decides.{nat_tests}
use Rattle.moments.specs.Time.{end_of_time}
use Rattle.office_base.specs.Maps.{at_name, at_number}
use Rattle.class_rules.specs.Classes.{may_move, rank_of}
use Rattle.rules_core.specs.Matching.{size_admits, matches_upload}
use Rattle.class_rules.specs.declared.class.Class.{Class}
use Rattle.class_rules.specs.declared.class.Class.TheVariants.{Standard, StandardIa, OnezoneIa, GlacierIr, Glacier, DeepArchive}
use Rattle.office_base.specs.declared.version_id.VersionId.{VersionId}
use Rattle.rules_core.specs.declared.rule.Rule.{Rule}
use Rattle.rules_core.specs.declared.rule.Filter.{Filter}
use Rattle.rules_core.specs.Configurations.{Configuration}
use Rattle.rules_core.specs.declared.rule.SizeMode.{SizeMode}
use Rattle.stacks.specs.declared.version.Versioning.{Versioning}
use Rattle.stacks.specs.declared.version.Versioning.TheVariants.{Unversioned, Enabled, Suspended}
use Rattle.stacks.specs.declared.version.Kind.{Kind}
use Rattle.stacks.specs.declared.version.Kind.TheVariants.{Object, Marker}
use Rattle.stacks.specs.declared.version.Version.{Version}
use Rattle.stacks.specs.Stacks.{StackRecord}
use Rattle.uploads.specs.Uploads.{UploadRecord}
use Rattle.due_core.specs.RuleActions.{Placed, placed_from, expirations, expiring, admits_move, object_actions, lone_marker_actions, noncurrent_removals, noncurrent_transitions, keeps_newer}
use Rattle.due_core.specs.RuleActions.{version_actions, matches_version}
use Rattle.due_core.specs.Candidates.{enabled_rules, timely, stack_candidates, upload_candidates, eligible_by, eligible}
use Rattle.due_core.specs.Choice.{choice}
use Rattle.due_core.specs.declared.action.Action.{Action}
use Rattle.due_core.specs.declared.action.ActionKind.{ActionKind}
use Rattle.due_core.specs.declared.action.ActionKind.TheVariants as action
use Rattle.due_core.specs.declared.action.Target.{Target}
use Rattle.due_core.specs.declared.action.Target.TheVariants as target
use Rattle.due_core.specs.Buckets.{BucketRecord}
use Rattle.due_core.specs.declared.action.Candidate.{Candidate}
use Rattle.office_laws.proofs.Work.{IsTidy}
use Rattle.office_laws.proofs.Lists.{every, every_append, every_filter, passing, every_cond, every_map, every_flat_map, every_weaker}
use Rattle.office_laws.proofs.Maps.{by_name, by_number, each_found}
use Rattle.office_laws.proofs.Chosen.{chosen_holds}
use Rattle.office_laws.proofs.Lowers.{RemoveFits, FitsPlace}

-- the version stands in this list, and an action of this kind fits its place
pub record HasPlace (versions : List Version) (kind : ActionKind) (id : VersionId) : Type 0 where
  pub front : List Version
  pub version : Version
  pub back : List Version
  pub is : versions ≡ front ++ version ∷ back
  pub same : version.id ≡ id
  pub fits : FitsPlace kind version.kind front back

-- the action's target is there, and it may be done to it
abbrev pub Suits : BucketRecord → List ℕ → ActionKind → Target → Type 0
Suits bucket key kind (target.Version id) = (stack : StackRecord) × (at_name key bucket.stacks ≡ Some stack) × HasPlace stack.versions kind id
Suits bucket key kind (target.Upload number) = (kind ≡ action.Abort) × (is_some (at_number number bucket.uploads) ≡ true)

abbrev pub SuitsAction : BucketRecord → Action → Type 0
SuitsAction bucket chosen = Suits bucket chosen.key chosen.kind chosen.target

-- ---- places

abbrev IsPlaced : ℕ → List Version → Placed → Type 0
IsPlaced before versions placed =
    (front : List Version) × (back : List Version) × (versions ≡ front ++ placed.version ∷ back) × (placed.newer ≡ before + length front) × (placed.older ≡ length back)

one_further : (before : ℕ) (v : Version) (versions : List Version) (placed : Placed) → IsPlaced (before + 1) versions placed → IsPlaced before (v ∷ versions) placed
one_further before v versions placed h = (v ∷ h.0, h.1, ap (λ (l : List Version). v ∷ l) h.2, omega (arith, h.3), h.4)

all_placed : (before : ℕ) (versions : List Version) → AllByRecursion (IsPlaced before versions) (placed_from before versions)
all_placed before [] = tt
all_placed before (v ∷ versions) = (
  ([], versions, refl, omega arith, refl),
  every_weaker (IsPlaced (before + 1) versions) (IsPlaced before (v ∷ versions)) (one_further before v versions) _ (all_placed (before + 1) versions),
)

-- ---- what a rule asks of a version

abbrev DueFits : Kind → List Version → List Version → ActionKind × ℕ → Type 0
DueFits kind front back due = FitsPlace due.0 kind front back

colder : (from to : Class) → may_move from to ≡ true → rank_of from < rank_of to
colder OnezoneIa GlacierIr h = absurd (cc)
colder OnezoneIa Standard h = absurd (cc)
colder OnezoneIa StandardIa h = absurd (cc)
colder OnezoneIa OnezoneIa h = absurd (cc)
colder OnezoneIa Glacier h = omega arith
colder OnezoneIa DeepArchive h = omega arith
colder Standard to h = grind (arith, nat_tests)
colder StandardIa to h = grind (arith, nat_tests)
colder GlacierIr to h = grind (arith, nat_tests)
colder Glacier to h = grind (arith, nat_tests)
colder DeepArchive to h = grind (arith, nat_tests)

module _ (mode : SizeMode) (rule : Rule) where
  moves_fit : (filter : Filter) (size : ℕ) (class : Class) (tags : List (List ℕ × List ℕ)) (entered : ℕ) (front back : List Version) (to : Class)
      → admits_move mode filter class size to ≡ true → FitsPlace (action.Transition to) (Object size class tags entered) front back
  moves_fit filter size class tags entered front back to h = colder class to (and_parts (may_move class to) (size_admits mode filter to size) h).0

  expiring_fits : (versioning : Versioning) (size : ℕ) (class : Class) (tags : List (List ℕ × List ℕ)) (entered : ℕ) (back : List Version)
      → FitsPlace (expiring versioning) (Object size class tags entered) [] back
  expiring_fits Unversioned size class tags entered back = tt
  expiring_fits Enabled size class tags entered back = tt
  expiring_fits Suspended size class tags entered back = tt

  object_fit : (versioning : Versioning) (size : ℕ) (class : Class) (tags : List (List ℕ × List ℕ)) (entered created : ℕ) (back : List Version)
      → AllByRecursion (DueFits (Object size class tags entered) [] back) (object_actions versioning mode rule size class created)
  object_fit versioning size class tags entered created back = every_append P _ _
      (every_map (λ (at : ℕ). Unit {0}) P _ (λ at _. expiring_fits versioning size class tags entered back)
      (flat_map (expirations created) (option_to_list rule.expiration))
      (every (λ (at : ℕ). Unit {0}) (λ at. tt) _))
      (every_map (λ transition. FitsPlace (action.Transition transition.to) (Object size class tags entered) [] back) P _ (λ transition h. h) _
      (passing (λ transition. FitsPlace (action.Transition transition.to) (Object size class tags entered) [] back) (λ transition. admits_move mode rule.filter class size transition.to)
      (λ transition h. moves_fit rule.filter size class tags entered [] back transition.to h) rule.transitions))
    where
      P : ActionKind × ℕ → Type 0
      P = DueFits (Object size class tags entered) [] back

  -- in the first place, and in a later one
  lone_fit : (created changed : ℕ) → AllByRecursion (DueFits Marker [] []) (lone_marker_actions rule created changed)
  lone_fit created changed = every_append P _ _
      (every_map (λ (at : ℕ). Unit {0}) P _ (λ at _. refl) (flat_map (expirations created) (option_to_list rule.expiration)) (every (λ (at : ℕ). Unit {0}) (λ at. tt) _))
      (every_map (λ _. Unit {0}) P _ (λ _ _. refl) (filter (λ expiration. expiration.lone_marker) (option_to_list rule.expiration)) (every (λ _. Unit {0}) (λ _. tt) _))
    where
      P : ActionKind × ℕ → Type 0
      P = DueFits Marker [] []

  removals_fit : (kind : Kind) (front back : List Version) → RemoveFits kind front back → (newer ceased : ℕ) → AllByRecursion (DueFits kind front back) (noncurrent_removals rule newer ceased)
  removals_fit kind front back fits newer ceased =
      every_map (λ _. Unit {0}) (DueFits kind front back) _ (λ _ _. fits)
      (filter (λ expiration. keeps_newer expiration.newer newer) (option_to_list rule.noncurrent_expiration))
      (every (λ _. Unit {0}) (λ _. tt) _)

  later_moves_fit : (size : ℕ) (class : Class) (tags : List (List ℕ × List ℕ)) (entered : ℕ) (front back : List Version) (newer ceased : ℕ)
      → AllByRecursion (DueFits (Object size class tags entered) front back) (noncurrent_transitions mode rule size class newer ceased)
  later_moves_fit size class tags entered front back newer ceased =
      every_map (λ move. FitsPlace (action.Transition move.to) (Object size class tags entered) front back) (DueFits (Object size class tags entered) front back) _ (λ move h. h) _
      (passing (λ move. FitsPlace (action.Transition move.to) (Object size class tags entered) front back)
      (λ move. keeps_newer move.newer newer && admits_move mode rule.filter class size move.to)
      (λ move h. moves_fit rule.filter size class tags entered front back move.to (and_parts (keeps_newer move.newer newer) (admits_move mode rule.filter class size move.to) h).1)
      rule.noncurrent_moves)

  none_before : (f : Version) (front : List Version) (newer : ℕ) → newer ≡ length (f ∷ front) → (newer == 0) ≡ true → ⊥
  none_before f front newer is zero = grind (arith, nat_tests)

  none_behind : (b : Version) (back : List Version) (older : ℕ) → older ≡ length (b ∷ back) → (older == 0) ≡ true → ⊥
  none_behind b back older is zero = grind (arith, nat_tests)

  some_before : (newer : ℕ) → newer ≡ length {A = Version} [] → (newer == 0) ≡ false → ⊥
  some_before newer is more = grind (arith, nat_tests)

  version_fit : (versioning : Versioning) (changed : ℕ) (front : List Version) (kind : Kind) (id : VersionId) (created ceased : ℕ) (back : List Version) (newer older : ℕ)
      → newer ≡ length front → older ≡ length back
      → AllByRecursion (DueFits kind front back)
      (version_actions versioning mode changed rule (record { version = record { id = id; kind = kind; created = created; ceased = ceased }; newer = newer; older = older }))
  unfolding version_actions
  version_fit versioning changed [] (Object size class tags entered) id created ceased back newer older is_newer is_older =
      every_cond _ (newer == 0) _ _
      (λ first. object_fit versioning size class tags entered created back)
      (λ later. absurd (some_before newer is_newer later))
  version_fit versioning changed (f ∷ front) (Object size class tags entered) id created ceased back newer older is_newer is_older =
      every_cond _ (newer == 0) _ _
      (λ first. absurd (none_before f front newer is_newer first))
      (λ later. every_append _ _ _ (removals_fit (Object size class tags entered) (f ∷ front) back tt (newer - 1) ceased)
      (later_moves_fit size class tags entered (f ∷ front) back (newer - 1) ceased))
  version_fit versioning changed [] Marker id created ceased [] newer older is_newer is_older =
      every_cond _ (newer == 0) _ _
      (λ first. every_cond _ (older == 0) _ _ (λ lone. lone_fit created changed) (λ more. tt))
      (λ later. absurd (some_before newer is_newer later))
  version_fit versioning changed [] Marker id created ceased (b ∷ back) newer older is_newer is_older =
      every_cond _ (newer == 0) _ _
      (λ first. every_cond _ (older == 0) _ _ (λ lone. absurd (none_behind b back older is_older lone)) (λ more. tt))
      (λ later. absurd (some_before newer is_newer later))
  version_fit versioning changed (f ∷ front) Marker id created ceased back newer older is_newer is_older =
      every_cond _ (newer == 0) _ _
      (λ first. absurd (none_before f front newer is_newer first))
      (λ later. removals_fit Marker (f ∷ front) back tt (newer - 1) ceased)

-- ---- the candidates of a bucket

module _ (bucket : BucketRecord) where
  abbrev SuitsCandidate : Candidate → Type 0
  SuitsCandidate candidate = SuitsAction bucket candidate.action

  timely_suit : (key : List ℕ) (goal : Target) (rule age not_before : ℕ) (Q : ActionKind × ℕ → Type 0) → ((due : ActionKind × ℕ) → Q due → Suits bucket key due.0 goal)
      → (asked : List (ActionKind × ℕ)) → AllByRecursion Q asked → AllByRecursion SuitsCandidate (timely key goal rule age not_before asked)
  timely_suit key goal rule age not_before Q f asked h =
      every_map Q SuitsCandidate _ (λ due q. f due q) _ (every_filter Q (λ due. nat_lt due.1 end_of_time) asked h)

  placed_suit : (rules : Configuration) (key : List ℕ) (stack : StackRecord) → at_name key bucket.stacks ≡ Some stack
      → (id : VersionId) (kind : Kind) (created ceased newer older : ℕ)
      → IsPlaced 0 stack.versions (record { version = record { id = id; kind = kind; created = created; ceased = ceased }; newer = newer; older = older })
      → (numbered : ℕ × Rule)
      → AllByRecursion SuitsCandidate (timely key (target.Version id) numbered.0 older (max stack.changed bucket.rules_since)
      (version_actions bucket.versioning rules.mode stack.changed numbered.1 (record { version = record { id = id; kind = kind; created = created; ceased = ceased }; newer = newer; older = older })))
  placed_suit rules key stack found id kind created ceased newer older h numbered =
      timely_suit key (target.Version id) numbered.0 older _ (DueFits kind h.0 h.1)
      (λ due fits. (stack, found, record { front = h.0; version = record { id = id; kind = kind; created = created; ceased = ceased }; back = h.1; is = h.2; same = refl; fits = fits }))
      _ (version_fit rules.mode numbered.1 bucket.versioning stack.changed h.0 kind id created ceased h.1 newer older (omega (arith, h.3)) h.4)

  stack_suit : (rules : Configuration) (key : List ℕ) (stack : StackRecord) → at_name key bucket.stacks ≡ Some stack → AllByRecursion SuitsCandidate (stack_candidates bucket rules (key, stack))
  stack_suit rules key stack found =
      every_flat_map (IsPlaced 0 stack.versions) SuitsCandidate _
      (λ placed h. every_flat_map (λ (numbered : ℕ × Rule). Unit {0}) SuitsCandidate _
      (λ numbered _. placed_suit rules key stack found placed.version.id placed.version.kind placed.version.created placed.version.ceased placed.newer placed.older h numbered)
      (filter (λ numbered. matches_version numbered.1.filter key placed.version) (enabled_rules rules)) (every (λ (numbered : ℕ × Rule). Unit {0}) (λ numbered. tt) _))
      _ (all_placed 0 stack.versions)

  upload_suit : (rules : Configuration) (number : ℕ) (upload : UploadRecord)
      → is_some (at_number number bucket.uploads) ≡ true
      → AllByRecursion SuitsCandidate (upload_candidates bucket rules (number, upload))
  upload_suit rules number upload found =
      every_flat_map (λ (numbered : ℕ × Rule). Unit {0}) SuitsCandidate _
      (λ numbered _. timely_suit upload.key (target.Upload number) numbered.0 number _ (λ (due : ActionKind × ℕ). due.0 ≡ action.Abort)
      (λ due is. (is, found)) _
      (every_map (λ (days : ℕ). Unit {0}) (λ (due : ActionKind × ℕ). due.0 ≡ action.Abort) _ (λ days _. refl) (option_to_list numbered.1.abort_days) (every (λ (days : ℕ). Unit {0}) (λ days. tt) _)))
      (filter (λ numbered. matches_upload numbered.1.filter upload.key) (enabled_rules rules)) (every (λ (numbered : ℕ × Rule). Unit {0}) (λ numbered. tt) _)

  eligible_suit_by : IsTidy bucket → (rules : Option Configuration) → AllByRecursion SuitsCandidate (eligible_by bucket rules)
  eligible_suit_by tidy None = tt
  eligible_suit_by tidy (Some rules) = every_append SuitsCandidate _ _
      (every_flat_map (λ (e : List ℕ × StackRecord). at_name e.0 bucket.stacks ≡ Some e.1) SuitsCandidate _
      (λ e found. stack_suit rules e.0 e.1 found) bucket.stacks (each_found by_name bucket.stacks tidy.keys))
      (every_flat_map (λ (e : ℕ × UploadRecord). at_number e.0 bucket.uploads ≡ Some e.1) SuitsCandidate _
      (λ e found. upload_suit rules e.0 e.1 (ap is_some found)) bucket.uploads
      (each_found by_number bucket.uploads tidy.numbers))

  all_suit : IsTidy bucket → AllByRecursion SuitsCandidate (eligible bucket)
  unfolding eligible
  all_suit tidy = eligible_suit_by tidy bucket.rules

-- the choice suits its bucket
pub choice_suits : (bucket : BucketRecord) → IsTidy bucket → (u : ℕ) (chosen : Action) → choice bucket u ≡ Some chosen → SuitsAction bucket chosen
choice_suits bucket tidy u chosen is = chosen_holds (SuitsAction bucket) bucket u chosen (all_suit bucket tidy) is
