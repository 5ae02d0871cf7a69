-- What one rule asks for one version or upload: kinds of action, each with the moment at which it is due. Each line of
-- the table of lifecycle actions is one definition.
use Rattle.std.specs.Prelude.{ℕ, ◌+◌, ◌-◌, Bool, ◌&&◌, List, [], ◌∷◌, ◌++◌, map, filter, flat_map, length, nat_le, ◌==◌, Option, unwrap_or}
use Rattle.std.specs.Prelude.{option_map, option_to_list, if◌then◌else◌}
use Rattle.moments.specs.Time.{due, next_midnight}
use Rattle.class_rules.specs.Classes.{may_move}
use Rattle.class_rules.specs.declared.class.Class.{Class}
use Rattle.rules_core.specs.Matching.{matches_object, matches_marker, size_admits}
use Rattle.rules_core.specs.declared.rule.Rule.{Rule}
use Rattle.rules_core.specs.declared.rule.Filter.{Filter}
use Rattle.rules_core.specs.declared.rule.SizeMode.{SizeMode}
use Rattle.rules_core.specs.declared.rule.When.{When}
use Rattle.rules_core.specs.declared.rule.When.TheVariants.{Days, Date}
use Rattle.rules_core.specs.declared.rule.Expiration.{Expiration}
use Rattle.stacks.specs.declared.version.Versioning.{Versioning}
use Rattle.stacks.specs.declared.version.Versioning.TheVariants.{Unversioned, Enabled, Suspended}
use Rattle.stacks.specs.declared.version.Kind.{Kind}
use Rattle.stacks.specs.declared.version.Kind.TheVariants.{Object, Marker as DeleteMarker}
use Rattle.stacks.specs.declared.version.Version.{Version}
use Rattle.uploads.specs.Uploads.{UploadRecord}
use Rattle.due_core.specs.declared.action.ActionKind.{ActionKind}
use Rattle.due_core.specs.declared.action.ActionKind.TheVariants.{Remove, Transition, Marker, Abort}

-- a kind of action, and the moment at which it is due
abbrev pub DueAction : Type 0
DueAction = ActionKind × ℕ

-- ---- current versions

-- the moments of an expiration: days after the creation, and a date, as far as it has them (S3 User Guide, "Lifecycle
-- configuration elements": expiration action elements)
abbrev pub expirations : ℕ → Expiration → List ℕ
expirations created expiration =
    option_to_list (option_map (due created) expiration.days) ++ option_to_list expiration.date

-- the due moment of a transition: by days from the version's creation, or at a date
abbrev pub due_when : ℕ → When → ℕ
due_when created (Days days) = due created days
due_when created (Date date) = date

-- how a current object expires: for good in a bucket without versioning; in any other a delete marker covers it (S3
-- User Guide, "Expiring objects")
abbrev pub expiring : Versioning → ActionKind
expiring Unversioned = Remove
expiring Enabled = Marker
expiring Suspended = Marker

-- the expirations that a rule asks for a current object, each at its due moment
abbrev pub expiration_actions : Versioning → Rule → ℕ → List DueAction
expiration_actions versioning rule created =
    map (λ at. (expiring versioning, at)) (flat_map (expirations created) (option_to_list rule.expiration))

-- an object of this class and size may move to the other class: the move is supported, and the size condition holds (S3
-- User Guide, "Transitioning objects using Amazon S3 Lifecycle": supported transitions; constraints and considerations
-- for transitions)
abbrev pub admits_move : SizeMode → Filter → Class → ℕ → Class → Bool
admits_move mode filter class size to = may_move class to && size_admits mode filter to size

-- the moves that a rule asks for a current object (S3 User Guide, "Lifecycle configuration elements": transition action
-- element)
abbrev pub transition_actions : SizeMode → Rule → ℕ → Class → ℕ → List DueAction
transition_actions mode rule size class created =
    map (λ transition. (Transition transition.to, due_when created transition.when))
    (filter (λ transition. admits_move mode rule.filter class size transition.to) rule.transitions)

-- all actions that a rule asks for a current object
abbrev pub object_actions : Versioning → SizeMode → Rule → ℕ → Class → ℕ → List DueAction
object_actions versioning mode rule size class created =
    expiration_actions versioning rule created ++ transition_actions mode rule size class created

-- ---- delete markers that are the only version of their key

-- such a marker expires as an object does, and is removed for good (S3 User Guide, "Lifecycle configuration elements":
-- how lifecycle expiration works with delete markers)
abbrev pub marker_expirations : Rule → ℕ → List DueAction
marker_expirations rule created =
    map (λ at. (Remove, at)) (flat_map (expirations created) (option_to_list rule.expiration))

-- a rule may ask that a lone marker is removed (S3 User Guide, "Removing expired object delete markers"). Own: it is
-- due at the first midnight that is not before the stack's last change.
abbrev pub lone_marker_removals : Rule → ℕ → List DueAction
lone_marker_removals rule changed =
    map (λ _. (Remove, next_midnight changed))
    (filter (λ expiration. expiration.lone_marker) (option_to_list rule.expiration))

-- all actions that a rule asks for a delete marker that is the only version of its key
abbrev pub lone_marker_actions : Rule → ℕ → ℕ → List DueAction
lone_marker_actions rule created changed = marker_expirations rule created ++ lone_marker_removals rule changed

-- ---- noncurrent versions

-- there are at least as many newer noncurrent versions of the key as the rule keeps (S3 User Guide, "Lifecycle
-- configuration elements": NewerNoncurrentVersions; own: delete markers count too, and no number means 0)
abbrev pub keeps_newer : Option ℕ → ℕ → Bool
keeps_newer wanted newer = nat_le (unwrap_or wanted 0) newer

-- a noncurrent object or marker is removed this many days after it ceased to be current (S3 User Guide, "Lifecycle
-- configuration elements": NoncurrentVersionExpiration action element)
abbrev pub noncurrent_removals : Rule → ℕ → ℕ → List DueAction
noncurrent_removals rule newer ceased =
    map (λ expiration. (Remove, due ceased expiration.days))
    (filter (λ expiration. keeps_newer expiration.newer newer) (option_to_list rule.noncurrent_expiration))

-- the moves that a rule asks for a noncurrent object (S3 User Guide, "Lifecycle configuration elements":
-- NoncurrentVersionTransition action element)
abbrev pub noncurrent_transitions : SizeMode → Rule → ℕ → Class → ℕ → ℕ → List DueAction
noncurrent_transitions mode rule size class newer ceased =
    map (λ move. (Transition move.to, due ceased move.days))
    (filter (λ move. keeps_newer move.newer newer && admits_move mode rule.filter class size move.to)
    rule.noncurrent_moves)

-- ---- any version

-- a version in its stack: how many versions of the key are newer, and how many are older
pub record Placed : Type 0 where
  pub version : Version
  pub newer : ℕ
  pub older : ℕ

-- each of these versions, newest first, with its place in its stack; before them are this many newer versions of the
-- key
abbrev pub placed_from : ℕ → List Version → List Placed
placed_from newer [] = []
placed_from newer (version ∷ versions) =
    record { version = version; newer = newer; older = length versions } ∷ placed_from (newer + 1) versions

-- what the rule asks for a version that its filter matches, in a stack that changed last at this moment. The version
-- without newer ones is the current one (S3 User Guide, "How S3 Versioning works").
unfoldable pub version_actions : Versioning → SizeMode → ℕ → Rule → Placed → List DueAction
version_actions versioning mode changed rule placed = asked placed.version.kind where
  asked : Kind → List DueAction
  asked (Object size class tags entered) =
      if placed.newer == 0 then object_actions versioning mode rule size class placed.version.created
      else noncurrent_removals rule (placed.newer - 1) placed.version.ceased
      ++ noncurrent_transitions mode rule size class (placed.newer - 1) placed.version.ceased
  asked DeleteMarker =
      if placed.newer == 0
      then (if placed.older == 0 then lone_marker_actions rule placed.version.created changed else [])
      else noncurrent_removals rule (placed.newer - 1) placed.version.ceased

-- the filter matches the version (S3 User Guide, "Adding filters to Lifecycle rules")
abbrev pub matches_version : Filter → List ℕ → Version → Bool
matches_version filter key version = fits version.kind where
  fits : Kind → Bool
  fits (Object size class tags entered) = matches_object filter key tags size
  fits DeleteMarker = matches_marker filter key

-- ---- uploads

-- an unfinished upload is aborted this many days after its start (S3 User Guide, "Configuring a bucket lifecycle
-- configuration to delete incomplete multipart uploads")
abbrev pub upload_actions : Rule → UploadRecord → List DueAction
upload_actions rule upload = map (λ days. (Abort, due upload.started days)) (option_to_list rule.abort_days)
