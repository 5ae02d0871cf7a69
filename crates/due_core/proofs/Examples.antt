-- Worked examples of what rules ask, computed.
use Rattle.std.specs.Prelude.{◌≡◌, ℕ, List, [], ◌∷◌, map, refl, true, false, codes, Option, Some, None}
use Rattle.class_rules.specs.declared.class.Class.TheVariants as class
use Rattle.office_base.specs.declared.version_id.VersionId.TheVariants as id
use Rattle.rules_core.specs.declared.rule.Rule.{Rule}
use Rattle.rules_core.specs.declared.rule.When.TheVariants as when
use Rattle.rules_core.specs.declared.rule.SizeMode.TheVariants as mode
use Rattle.stacks.specs.Stacks.{new_version}
use Rattle.stacks.specs.declared.version.Version.{Version}
use Rattle.stacks.specs.declared.version.Versioning.{Versioning}
use Rattle.stacks.specs.declared.version.Versioning.TheVariants as versioning
use Rattle.stacks.specs.declared.version.Kind.TheVariants as kind
use Rattle.due_core.specs.Buckets.{BucketRecord}
use Rattle.due_core.specs.RuleActions.{version_actions}
use Rattle.due_core.specs.Candidates.{eligible, candidates}
use Rattle.due_core.specs.Choice.{choice, IsQueue}
use Rattle.due_core.specs.declared.action.ActionKind.{ActionKind}
use Rattle.due_core.specs.declared.action.ActionKind.TheVariants as action
use Rattle.due_core.specs.declared.action.Action.{Action}
use Rattle.due_core.specs.declared.action.Candidate.{Candidate}
use Rattle.due_core.specs.declared.action.Target.TheVariants as target
use Rattle.due_core.proofs.Queue.{two_turned, two_kept}

-- ---- words

-- 2014-01-15 10:30 UTC, and the midnight three days later, rounded up
abbrev start : ℕ
start = 1_389_781_800_000

abbrev in_three_days : ℕ
in_three_days = 1_390_089_600_000

abbrev a : List ℕ
a = codes "a"

abbrev no_action : Rule
no_action = record {
  id = codes "r";
  enabled = true;
  filter = record { prefix = []; tags = []; greater = None; less = None };
  expiration = None;
  transitions = [];
  noncurrent_expiration = None;
  noncurrent_moves = [];
  abort_days = None;
}

-- 200,000 bytes in STANDARD_IA
abbrev object : ℕ → Version
object number = new_version (id.Number number) (kind.Object 200_000 class.StandardIa [] start) start

abbrev marker : ℕ → Version
marker number = new_version (id.Number number) kind.Marker start

-- a bucket in which `a` has these versions, and one upload of `a`
abbrev bucket : Versioning → List Rule → List Version → BucketRecord
bucket versioning rules versions = record {
  versioning = versioning;
  rules = Some (record { rules = rules; mode = mode.All128K });
  rules_since = start;
  stacks = (a, record { changed = start; versions = versions }) ∷ [];
  uploads = (7, record { key = a; class = class.Standard; tags = []; started = start; changed = start; parts = [] })
      ∷ [];
  next_version = 9;
  next_upload = 8;
}

-- an action on a version of `a` by this rule
abbrev on_version : ActionKind → ℕ → ℕ → ℕ → Action
on_version kind number rule since =
    record { kind = kind; key = a; target = target.Version (id.Number number); rule = rule; since = since }

-- one of the first rule on the oldest version
abbrev on_oldest : ActionKind → ℕ → ℕ → Candidate
on_oldest kind number since = record { action = on_version kind number 1 since; age = 0 }

-- ---- what each action of a rule asks

abbrev expires : Rule
expires = record no_action { expiration = Some (record { days = Some 3; date = None; lone_marker = false }) }

-- a current object is removed for good where the bucket keeps no versions, and else covered by a marker
expired : eligible (bucket versioning.Unversioned (expires ∷ []) (object 1 ∷ [])) ≡ on_oldest action.Remove 1 in_three_days ∷ []
unfolding eligible version_actions
expired = refl

covered : eligible (bucket versioning.Enabled (expires ∷ []) (object 1 ∷ []))
    ≡ on_oldest action.Marker 1 in_three_days ∷ []
unfolding eligible version_actions
covered = refl

-- a date in the past stands at the last change
abbrev on_a_date : Rule
on_a_date = record no_action { expiration = Some (record { days = None; date = Some 0; lone_marker = false }) }

at_the_change : eligible (bucket versioning.Unversioned (on_a_date ∷ []) (object 1 ∷ []))
    ≡ on_oldest action.Remove 1 start ∷ []
unfolding eligible version_actions
at_the_change = refl

-- a marker that is the only version expires as an object does; one above another version does not
marker_expires : eligible (bucket versioning.Enabled (expires ∷ []) (marker 1 ∷ [])) ≡ on_oldest action.Remove 1 in_three_days ∷ []
unfolding eligible version_actions
marker_expires = refl

not_alone : eligible (bucket versioning.Enabled (expires ∷ []) (marker 2 ∷ object 1 ∷ [])) ≡ []
unfolding eligible version_actions
not_alone = refl

-- or it goes at the last change, rounded up to a midnight
abbrev clears : Rule
clears = record no_action { expiration = Some (record { days = None; date = None; lone_marker = true }) }

cleared : eligible (bucket versioning.Enabled (clears ∷ []) (marker 1 ∷ []))
    ≡ on_oldest action.Remove 1 1_389_830_400_000 ∷ []
unfolding eligible version_actions
cleared = refl

-- an object moves to colder classes alone
abbrev moves : Rule
moves = record no_action {
  transitions = map (λ to. record { when = when.Days 3; to = to }) (class.StandardIa ∷ class.GlacierIr ∷ class.Glacier ∷ []);
}

abbrev kinds_in : List Candidate → List (ActionKind × ℕ)
kinds_in found = map (λ (candidate : Candidate). (candidate.action.kind, candidate.action.since)) found

moved : kinds_in (eligible (bucket versioning.Enabled (moves ∷ []) (object 1 ∷ [])))
    ≡ (action.Transition class.GlacierIr, in_three_days) ∷ (action.Transition class.Glacier, in_three_days) ∷ []
unfolding eligible version_actions
moved = refl

-- noncurrent versions and markers are removed; with one newer noncurrent version kept, here only the oldest
abbrev removes : Option ℕ → Rule
removes newer = record no_action { noncurrent_expiration = Some (record { days = 3; newer = newer }) }

noncurrent_removed : eligible
    (bucket versioning.Enabled (removes (Some 1) ∷ []) (object 3 ∷ marker 2 ∷ object 1 ∷ [])) ≡ on_oldest action.Remove 1 in_three_days ∷ []
unfolding eligible version_actions
noncurrent_removed = refl

-- noncurrent objects move; markers do not
abbrev moves_noncurrent : Rule
moves_noncurrent = record no_action { noncurrent_moves = record { days = 3; newer = None; to = class.Glacier } ∷ [] }

noncurrent_moved : eligible (bucket versioning.Enabled (moves_noncurrent ∷ []) (object 3 ∷ marker 2 ∷ object 1 ∷ []))
    ≡ on_oldest (action.Transition class.Glacier) 1 in_three_days ∷ []
unfolding eligible version_actions
noncurrent_moved = refl

-- an upload is aborted
abbrev aborts : Rule
aborts = record no_action { abort_days = Some 3 }

upload_aborted : eligible (bucket versioning.Enabled (aborts ∷ []) [])
    ≡ record {
      action = record { kind = action.Abort; key = a; target = target.Upload 7; rule = 1; since = in_three_days };
      age = 7;
    } ∷ []
unfolding eligible version_actions
upload_aborted = refl

-- a rule that is not enabled asks for nothing
disabled : eligible (bucket versioning.Enabled
    (record expires { enabled = false } ∷ record aborts { enabled = false } ∷ []) (object 1 ∷ [])) ≡ []
unfolding eligible version_actions
disabled = refl

-- what would be due at the end of time or after it is never due
abbrev expires_late : Rule
expires_late = record no_action { expiration = Some (record { days = Some 40_000; date = None; lone_marker = false }) }

never : eligible (bucket versioning.Enabled (expires_late ∷ []) (object 1 ∷ [])) ≡ []
unfolding eligible version_actions
never = refl

-- ---- which comes first

-- among actions of one moment: the removal of the oldest version, whatever the places of the rules
chosen : choice (bucket versioning.Enabled (expires ∷ moves ∷ aborts ∷ removes None ∷ [])
    (object 3 ∷ object 2 ∷ object 1 ∷ [])) in_three_days
    ≡ Some (on_version action.Remove 1 4 in_three_days)
unfolding choice candidates eligible version_actions
chosen = refl

-- without it the colder of the two transitions
chosen_move : choice (bucket versioning.Enabled (expires ∷ moves ∷ aborts ∷ [])
    (object 3 ∷ object 2 ∷ object 1 ∷ [])) in_three_days
    ≡ Some (on_version (action.Transition class.Glacier) 3 2 in_three_days)
unfolding choice candidates eligible version_actions
chosen_move = refl

-- without them the marker, and then the abort
chosen_marker : choice (bucket versioning.Enabled (aborts ∷ expires ∷ []) (object 3 ∷ [])) in_three_days
    ≡ Some (on_version action.Marker 3 2 in_three_days)
unfolding choice candidates eligible version_actions
chosen_marker = refl

-- nothing a millisecond earlier
none_yet : choice (bucket versioning.Enabled (expires ∷ moves ∷ aborts ∷ removes None ∷ [])
    (object 3 ∷ object 1 ∷ [])) 1_390_089_599_999 ≡ None
unfolding choice candidates eligible version_actions
none_yet = refl

-- ---- the queue

-- a transition and an expiration that are due at one midnight (S3 User Guide, "Examples of S3 Lifecycle
-- configurations": conflicting lifecycle rules)
abbrev moves_once : Rule
moves_once = record no_action { transitions = record { when = when.Days 3; to = class.Glacier } ∷ [] }

abbrev both : Versioning → BucketRecord
both versioning = bucket versioning (expires ∷ moves_once ∷ []) (object 1 ∷ [])

abbrev moving : Candidate
moving = record { action = on_version (action.Transition class.Glacier) 1 2 in_three_days; age = 0 }

-- where versions are kept the transition goes before the marker, though the marker's rule stands before it
move_then_marker : IsQueue (candidates (both versioning.Enabled) in_three_days)
    (moving.action ∷ on_version action.Marker 1 1 in_three_days ∷ [])
unfolding candidates eligible version_actions
move_then_marker = two_turned moving (on_oldest action.Marker 1 in_three_days) refl

-- where none are kept the removal comes first
removal_then_move : IsQueue (candidates (both versioning.Unversioned) in_three_days)
    (on_version action.Remove 1 1 in_three_days ∷ moving.action ∷ [])
unfolding candidates eligible version_actions
removal_then_move = two_kept (on_oldest action.Remove 1 in_three_days) moving refl
