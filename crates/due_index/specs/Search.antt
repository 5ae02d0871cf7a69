-- How the first action on a key or an upload is searched: what is kept so far, and the next candidate.
use Rattle.std.specs.Prelude.{◌≡◌, ◌⊎◌, ℕ, ◌+◌, ◌-◌, ◌≤◌, ◌++◌, ◌∷◌, max, List, [], fold, map, flat_map, nat_lt, option_to_list, Option, Some, None, option_map, slice_get}
use Rattle.std.specs.Prelude.{Bool, true, false, ◌&&◌, if◌then◌else◌}
use Rattle.std.specs.List.{enumerate_from}
use Rattle.moments.specs.Time.{end_of_time, due}
use Rattle.rules_core.specs.Matching.{has_prefix, matches_upload}
use Rattle.rules_core.specs.Configurations.{Configuration}
use Rattle.rules_core.specs.declared.rule.Rule.{Rule}
use Rattle.rules_core.specs.declared.rule.Filter.{Filter}
use Rattle.rules_core.specs.declared.rule.SizeMode.{SizeMode}
use Rattle.rules_core.specs.declared.rule.Noncurrent.{Noncurrent}
use Rattle.rules_core.specs.declared.rule.NoncurrentMove.{NoncurrentMove}
use Rattle.stacks.specs.Stacks.{StackRecord}
use Rattle.stacks.specs.declared.version.Version.{Version}
use Rattle.stacks.specs.declared.version.Kind.{Kind}
use Rattle.stacks.specs.declared.version.Kind.TheVariants.{Object, Marker as DeleteMarker}
use Rattle.uploads.specs.Uploads.{UploadRecord}
use Rattle.due_core.specs.Buckets.{BucketRecord}
use Rattle.due_core.specs.Candidates.{timely}
use Rattle.due_core.specs.RuleActions.{DueAction, Placed, placed_from}
use Rattle.due_core.specs.RuleActions.{version_actions, matches_version, upload_actions, admits_move, keeps_newer}
use Rattle.due_core.specs.Choice.{comes_before}
use Rattle.due_core.specs.declared.action.ActionKind.{ActionKind}
use Rattle.due_core.specs.declared.action.ActionKind.TheVariants.{Remove, Transition, Marker, Abort}
use Rattle.due_core.specs.Search.{sooner}
use Rattle.due_core.specs.declared.action.Target.{Target}
use Rattle.due_core.specs.declared.action.Target.TheVariants as target
use Rattle.due_core.specs.declared.action.Candidate.{Candidate}
use Rattle.due_index.specs.Places.{candidate_of}
use Rattle.due_index.specs.declared.place.Place.{Place}
use Rattle.due_index.specs.declared.asked.Setting.{Setting}
use Rattle.due_index.specs.declared.noncurrent.Step.{Step}

-- the candidate on this key of an action without its key, if there is one
abbrev pub on_key : List ℕ → Option Place → Option Candidate
on_key key place = option_map (candidate_of key) place

-- the first so far, after one more candidate
abbrev pub with_one : Option Candidate → Candidate → Option Candidate
with_one first next = Some (sooner first next)

-- the first so far, after these candidates
abbrev pub with_each : Option Candidate → List Candidate → Option Candidate
with_each first candidates = fold with_one first candidates

-- the aim of a search: a target, a rule that matches it, and the moment before which no action on it takes effect
pub record Aim : Type 0 where
  pub key : List ℕ
  pub target : Target
  pub age : ℕ
  pub rule : ℕ
  pub not_before : ℕ

-- the candidate of an action: it takes effect when it is due, but not before the aim's moment
abbrev pub aimed : Aim → DueAction → Candidate
aimed aim due = record {
  action = record {
    kind = due.0;
    key = aim.key;
    target = aim.target;
    rule = aim.rule;
    since = max due.1 aim.not_before;
  };
  age = aim.age;
}

-- the first so far, after one more action of the rule; an action that is never due does not count
abbrev pub with_due : Aim → Option Candidate → DueAction → Option Candidate
with_due aim first due = if nat_lt due.1 end_of_time then with_one first (aimed aim due) else first

-- the first so far, after all these actions of the rule
abbrev pub with_each_due : Aim → Option Candidate → List DueAction → Option Candidate
with_each_due aim first asked = fold (with_due aim) first asked

-- ---- the first candidate, in any order of the search

-- x is in the list
abbrev pub Among : {X : Type 0} → List X → X → Type 0
Among [] x = ⊥
Among (y ∷ ys) x = (y ≡ x) ⊎ Among ys x

-- there is a first candidate, and this one does not come before it
abbrev pub IsNotBefore : Candidate → Option Candidate → Type 0
IsNotBefore candidate None = ⊥
IsNotBefore candidate (Some first) = comes_before candidate first ≡ false

-- the new first is the old one or one of these, and neither the old one nor any of these comes before it
pub record IsFirstOf (old : Option Candidate) (These : Candidate → Type 0) (new : Option Candidate) : Type 0 where
  pub one : (candidate : Candidate) → new ≡ Some candidate → (old ≡ Some candidate) ⊎ These candidate
  pub old_not_before : (candidate : Candidate) → old ≡ Some candidate → IsNotBefore candidate new
  pub none_before : (candidate : Candidate) → These candidate → IsNotBefore candidate new

-- the same for a list
abbrev pub IsFirstOfList : Option Candidate → List Candidate → Option Candidate → Type 0
IsFirstOfList old asked new = IsFirstOf old (Among asked) new

-- the current version of a key, with this many older ones
abbrev pub current_placed : Version → ℕ → Placed
current_placed version older = record { version = version; newer = 0; older = older }

-- ---- noncurrent versions

-- the step of a removal of noncurrent versions, or of a move
abbrev pub removal_step : Noncurrent → Step
removal_step expiration = record { kind = Remove; newer = expiration.newer; days = expiration.days }

abbrev pub move_step : NoncurrentMove → Step
move_step move = record { kind = Transition move.to; newer = move.newer; days = move.days }

-- the steps that a rule asks for noncurrent versions: its removal, and its moves
abbrev pub steps_of : Rule → List Step
steps_of rule = map removal_step (option_to_list rule.noncurrent_expiration) ++ map move_step rule.noncurrent_moves

-- the kind of step fits the version: a move needs an object that may move to the class
abbrev pub admits_step : SizeMode → Filter → ActionKind → Kind → Bool
admits_step mode filter Remove kind = true
admits_step mode filter Marker kind = true
admits_step mode filter Abort kind = true
admits_step mode filter (Transition to) (Object size class tags entered) = admits_move mode filter class size to
admits_step mode filter (Transition to) DeleteMarker = false

-- the rule's filter matches the version, and the kind of step fits it
abbrev pub takes_step : SizeMode → Filter → ActionKind → List ℕ → Version → Bool
takes_step mode filter kind key version =
    matches_version filter key version && admits_step mode filter kind version.kind

-- the candidates of a removal or a move for one noncurrent version: one, or none
abbrev pub step_of_version : Setting → List ℕ × StackRecord → ℕ × Rule → Step → Placed → List Candidate
step_of_version setting (key, stack) numbered step placed =
    if takes_step setting.mode numbered.1.filter step.kind key placed.version
    then timely key (target.Version placed.version.id) numbered.0 placed.older (max stack.changed setting.rules_since)
    ((step.kind, due placed.version.ceased step.days) ∷ []) else []

-- c is the candidate of a removal or a move, for a noncurrent version with enough newer ones
pub record IsOfStep (setting : Setting) (entry : List ℕ × StackRecord) (numbered : ℕ × Rule) (step : Step)
    (c : Candidate) : Type 0 where
  pub placed : Placed
  pub there : Among (placed_from 0 entry.1.versions) placed
  pub noncurrent : 1 ≤ placed.newer
  pub kept : keeps_newer step.newer (placed.newer - 1) ≡ true
  pub asked : Among (step_of_version setting entry numbered step placed) c

-- c is the candidate of one of these removals and moves
pub record IsOfSteps (setting : Setting) (entry : List ℕ × StackRecord) (numbered : ℕ × Rule) (steps : List Step)
    (c : Candidate) : Type 0 where
  pub step : Step
  pub one : Among steps step
  pub asked : IsOfStep setting entry numbered step c

-- ---- the candidates in the order of the search: each version, and each rule with its place from 1

-- what a search needs of a bucket and its configuration
abbrev pub setting_of : BucketRecord → Configuration → Setting
setting_of bucket rules =
    record { versioning = bucket.versioning; mode = rules.mode; rules_since = bucket.rules_since }

-- what a numbered rule asks for a version, if it is enabled and matches, in a stack that changed last at this moment
abbrev pub asked_of_version : Setting → List ℕ → ℕ → Placed → ℕ × Rule → List Candidate
asked_of_version setting key changed placed numbered =
    if numbered.1.enabled
    then (
    if matches_version numbered.1.filter key placed.version
    then timely key (target.Version placed.version.id) numbered.0 placed.older (max changed setting.rules_since)
    (version_actions setting.versioning setting.mode changed numbered.1 placed) else []
    )
    else []

-- what the enabled rules ask for a version, rule by rule
abbrev pub version_candidates : Setting → List Rule → List ℕ → ℕ → Placed → List Candidate
version_candidates setting rules key changed placed =
    flat_map (asked_of_version setting key changed placed) (enumerate_from 1 rules)

-- what the enabled rules ask for the versions of a key, from the newest on
abbrev pub key_candidates : Setting → List Rule → List ℕ × StackRecord → List Candidate
key_candidates setting rules (key, stack) =
    flat_map (version_candidates setting rules key stack.changed) (placed_from 0 stack.versions)

-- what one rule asks for the versions of a key, from the newest on
abbrev pub rule_candidates : Setting → List ℕ × StackRecord → ℕ × Rule → List Candidate
rule_candidates setting (key, stack) numbered =
    flat_map (λ placed. asked_of_version setting key stack.changed placed numbered) (placed_from 0 stack.versions)

-- what a rule asks for the versions of a key, if it is enabled and the key begins with its prefix
abbrev pub asked_by_rule : Setting → List ℕ × StackRecord → ℕ × Rule → List Candidate
asked_by_rule setting (key, stack) numbered =
    if numbered.1.enabled
    then (if has_prefix numbered.1.filter key then rule_candidates setting (key, stack) numbered else [])
    else []

-- what the rules ask for the versions of a key, rule by rule
abbrev pub asked_by_rules : Setting → List Rule → List ℕ × StackRecord → List Candidate
asked_by_rules setting rules entry = flat_map (asked_by_rule setting entry) (enumerate_from 1 rules)

-- what a numbered rule asks for an upload, if it is enabled and matches
abbrev pub asked_of_one_upload : Setting → ℕ → UploadRecord → ℕ × Rule → List Candidate
asked_of_one_upload setting number upload numbered =
    if numbered.1.enabled
    then (
    if matches_upload numbered.1.filter upload.key
    then timely upload.key (target.Upload number) numbered.0 number (max upload.changed setting.rules_since)
    (upload_actions numbered.1 upload) else []
    )
    else []

-- what the enabled rules ask for an upload, rule by rule
abbrev pub number_candidates : Setting → List Rule → ℕ × UploadRecord → List Candidate
number_candidates setting rules (number, upload) =
    flat_map (asked_of_one_upload setting number upload) (enumerate_from 1 rules)

-- what the rule at a place, from 0, asks for; nothing if there is no such rule
abbrev pub asked_of_place : (ℕ × Rule → List Candidate) → ℕ → Option Rule → List Candidate
asked_of_place asked place None = []
asked_of_place asked place (Some rule) = asked (place + 1, rule)

abbrev pub asked_at : (ℕ × Rule → List Candidate) → List Rule → ℕ → List Candidate
asked_at asked rules place = asked_of_place asked place (slice_get rules place)
