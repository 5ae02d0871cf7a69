-- Worked examples of lifecycle actions, computed.
use Rattle.std.specs.Prelude.{◌≡◌, ℕ, ◌+◌, ◌*◌, List, [], ◌∷◌, refl, true, false, codes, length, replicate, Some, None, Ok, Err}
use Rattle.moments.specs.Time.{day}
use Rattle.class_rules.specs.declared.class.Class.{Class}
use Rattle.class_rules.specs.declared.class.Class.TheVariants as class
use Rattle.office_base.specs.declared.version_id.VersionId.TheVariants as id
use Rattle.rules_core.specs.declared.rule.Rule.{Rule}
use Rattle.rules_core.specs.declared.rule.When.TheVariants as when
use Rattle.stacks.specs.declared.version.Version.{Version}
use Rattle.stacks.specs.declared.version.Versioning.TheVariants as versioning
use Rattle.due_core.specs.declared.action.ActionKind.TheVariants as action
use Rattle.due_core.specs.declared.action.Target.TheVariants as target
use Rattle.accrual.specs.Meters.{meter, move_count}
use Rattle.office_types.specs.declared.command.Command.TheVariants as command
use Rattle.office_types.specs.declared.command.Query.TheVariants as query
use Rattle.office_types.specs.declared.command.Entry.{Entry}
use Rattle.office_types.specs.declared.reply.Reply.TheVariants as reply
use Rattle.office_types.specs.declared.refusal.Refusal.TheVariants as refusal
use Rattle.office_types.specs.declared.refusal.What.TheVariants as what
use Rattle.office_types.specs.Entries.{entry_at}
use Rattle.plain_office.specs.Office.{Office, empty_office}
use Rattle.plain_office.specs.Answers.{answer}
use Rattle.plain_office.proofs.Examples.{to_compute, after, answers, new_year, january, logs, a, put, no_action, rules_of, ids_in, book_in, tags, beside, with_stack_of}

-- 2023-12-10 09:00 UTC, and the midnight that is due 30 days later
abbrev start : ℕ
start = 1_702_198_800_000

abbrev due_midnight : ℕ
due_midnight = 1_704_844_800_000

abbrev pub expires : List ℕ → ℕ → Rule
expires name days = record (no_action name) {
  expiration = Some (record { days = Some days; date = None; lone_marker = false });
}

abbrev moves : List ℕ → ℕ → Class → Rule
moves name days to = record (no_action name) { transitions = record { when = when.Days days; to = to } ∷ [] }

abbrev act : ℕ → Entry
act t = entry_at t (command.Act logs)

-- a bucket with rules, and one with versions and rules
abbrev ruled : List Rule → List Entry
ruled rules = entry_at start (command.CreateBucket logs) ∷ entry_at start (command.SetRules logs (rules_of rules)) ∷ []

abbrev versioned : List Rule → List Entry
versioned rules = entry_at start (command.CreateBucket logs) ∷ entry_at start (command.SetVersioning logs true)
    ∷ entry_at start (command.SetRules logs (rules_of rules)) ∷ []

-- ---- conflicts

-- without versioning the removal goes before the transition of the same moment
abbrev move_and_expire : List Rule
move_and_expire = moves (codes "r1") 30 class.StandardIa ∷ expires (codes "r2") 30 ∷ []

removal_first : answers (after empty_office (ruled move_and_expire))
    (entry_at start (put 1_000_000 class.Standard) ∷ act due_midnight ∷ act due_midnight ∷ [])
    ≡ Ok (reply.Stored start id.Null)
    ∷ Ok (reply.Chosen action.Remove a (target.Version id.Null) (codes "r2") due_midnight None)
    ∷ Ok reply.NothingDue ∷ []
unfolding to_compute
removal_first = refl

-- nothing is due a millisecond earlier
not_yet : answers (after empty_office (ruled move_and_expire))
    (entry_at start (put 1_000_000 class.Standard) ∷ act 1_704_844_799_999 ∷ [])
    ≡ Ok (reply.Stored start id.Null) ∷ Ok reply.NothingDue ∷ []
unfolding to_compute
not_yet = refl

-- with versions the transition goes before the marker of the same moment
transition_then_marker : answers (after empty_office (versioned move_and_expire))
    (entry_at start (put 1_000_000 class.Standard) ∷ act due_midnight ∷ act due_midnight ∷ act due_midnight ∷ [])
    ≡ Ok (reply.Stored start (id.Number 1))
    ∷ Ok (reply.Chosen (action.Transition class.StandardIa) a (target.Version (id.Number 1))
    (codes "r1") due_midnight None)
    ∷ Ok (reply.Chosen action.Marker a (target.Version (id.Number 1)) (codes "r2") due_midnight (Some (id.Number 2)))
    ∷ Ok reply.NothingDue ∷ []
unfolding to_compute
transition_then_marker = refl

-- of two transitions of one moment the one to the colder class is done, and then none is left
abbrev two_moves : List Rule
two_moves = moves (codes "r1") 30 class.StandardIa ∷ moves (codes "r2") 30 class.Glacier ∷ []

colder_first : answers (after empty_office (ruled two_moves))
    (entry_at start (put 1_000_000 class.Standard) ∷ act due_midnight ∷ act due_midnight ∷ [])
    ≡ Ok (reply.Stored start id.Null)
    ∷ Ok (reply.Chosen (action.Transition class.Glacier) a (target.Version id.Null)
    (codes "r2") due_midnight None) ∷ Ok reply.NothingDue ∷ []
unfolding to_compute
colder_first = refl

-- objects below 128 KiB are not moved
small_objects_stay : answers (after empty_office (ruled two_moves))
    (entry_at start (put 131_071 class.Standard) ∷ act due_midnight ∷ [])
    ≡ Ok (reply.Stored start id.Null) ∷ Ok reply.NothingDue ∷ []
unfolding to_compute
small_objects_stay = refl

-- a change of the version, here of its tags, moves the moment at which its actions take effect; a query shows the
-- action and does not do it
changed_later : answer due_midnight (query.Due logs) (after (after empty_office (ruled (expires (codes "e") 3 ∷ [])))
    (entry_at start (put 5 class.Standard) ∷ entry_at (start + 10 * day) (command.SetTags logs a id.Null tags) ∷ []))
    ≡ Ok (reply.Chosen action.Remove a (target.Version id.Null) (codes "e") (start + 10 * day) None)
unfolding to_compute
changed_later = refl

-- ---- noncurrent versions

-- 30 days after they ceased to be current they go, the oldest first, but one newer noncurrent version is kept
abbrev keeping_one : Rule
keeping_one = record (no_action (codes "n")) { noncurrent_expiration = Some (record { days = 30; newer = Some 1 }) }

abbrev four_puts : List Entry
four_puts = replicate 4 (entry_at start (put 1 class.Standard))

abbrev two_removals : List Entry
two_removals = act due_midnight ∷ act due_midnight ∷ act due_midnight ∷ []

oldest_first : answers (after (after empty_office (versioned (keeping_one ∷ []))) four_puts) two_removals
    ≡ Ok (reply.Chosen action.Remove a (target.Version (id.Number 1)) (codes "n") due_midnight None)
    ∷ Ok (reply.Chosen action.Remove a (target.Version (id.Number 2)) (codes "n") due_midnight None)
    ∷ Ok reply.NothingDue ∷ []
unfolding to_compute
oldest_first = refl

newest_kept : ids_in (after (after (after empty_office (versioned (keeping_one ∷ []))) four_puts) two_removals)
    ≡ id.Number 4 ∷ id.Number 3 ∷ []
unfolding to_compute
newest_kept = refl

-- ---- delete markers

-- in a suspended bucket the null marker of an expiration takes the null version's place, and, alone in its stack, is
-- removed at the same midnight
abbrev lone_marker : List Rule
lone_marker = expires (codes "e") 3
    ∷ record (no_action (codes "m")) { expiration = Some (record { days = None; date = None; lone_marker = true }) }
    ∷ []

marker_goes : answers empty_office (
    entry_at new_year (command.CreateBucket logs) ∷ entry_at new_year (command.SetVersioning logs true)
    ∷ entry_at new_year (command.SetVersioning logs false)
    ∷ entry_at new_year (command.SetRules logs (rules_of lone_marker)) ∷ entry_at new_year (put 5 class.Standard)
    ∷ act (new_year + 3 * day) ∷ act (new_year + 3 * day) ∷ act (new_year + 3 * day) ∷ [])
    ≡ Ok (reply.BucketMade logs) ∷ Ok (reply.VersioningSet versioning.Enabled)
    ∷ Ok (reply.VersioningSet versioning.Suspended) ∷ Ok (reply.RulesSet 2)
    ∷ Ok (reply.Stored new_year id.Null)
    ∷ Ok (reply.Chosen action.Marker a (target.Version id.Null) (codes "e") (new_year + 3 * day) (Some id.Null))
    ∷ Ok (reply.Chosen action.Remove a (target.Version id.Null) (codes "m") (new_year + 3 * day) None)
    ∷ Ok reply.NothingDue ∷ []
unfolding to_compute
marker_goes = refl

-- ---- uploads

-- an upload is aborted this many days after its start
abbrev aborts : Rule
aborts = record (no_action (codes "u")) { abort_days = Some 7 }

aborted : answers empty_office (
    entry_at new_year (command.CreateBucket logs) ∷ entry_at new_year (command.SetRules logs (rules_of (aborts ∷ [])))
    ∷ entry_at new_year (command.StartUpload logs a class.Standard [])
    ∷ entry_at new_year (command.PutPart logs 1 1 5) ∷ act (new_year + 7 * day) ∷ act (new_year + 7 * day) ∷ [])
    ≡ Ok (reply.BucketMade logs) ∷ Ok (reply.RulesSet 1) ∷ Ok (reply.UploadStarted 1) ∷ Ok (reply.PartStored 1)
    ∷ Ok (reply.Chosen action.Abort a (target.Upload 1) (codes "u") (new_year + 7 * day) None) ∷ Ok reply.NothingDue
    ∷ []
unfolding to_compute
aborted = refl

-- ---- lateness

-- a transition that is done 4.5 days late changes the billing from the moment at which it takes effect
abbrev late : ℕ
late = 1_705_233_600_000

abbrev late_move : Office
late_move = after (after empty_office (ruled (moves (codes "r1") 30 class.StandardIa ∷ [])))
    (entry_at start (put 1_000_000 class.Standard) ∷ act late ∷ [])

billed_as_standard : meter january class.Standard late (book_in late_move) ≡ 777_600_000_000_000
unfolding to_compute
billed_as_standard = refl

billed_as_infrequent : meter january class.StandardIa late (book_in late_move) ≡ 388_800_000_000_000
unfolding to_compute
billed_as_infrequent = refl

one_move : move_count january class.StandardIa (book_in late_move) ≡ 1
unfolding to_compute
one_move = refl

-- ---- limits

-- an action is never refused by a limit
marker_at_the_limit : (versions : List Version) → length versions ≡ 199_999
    → answers (after (beside (with_stack_of versions)) (entry_at new_year (command.SetVersioning logs true)
    ∷ entry_at new_year (command.SetRules logs (rules_of (expires (codes "e") 3 ∷ []))) ∷ []))
    (entry_at new_year (command.Put logs (codes "c") 5 class.Standard []) ∷ act (new_year + 3 * day) ∷ [])
    ≡ Err (refusal.Full what.Versions 200_000)
    ∷ Ok (reply.Chosen action.Marker a (target.Version id.Null) (codes "e") (new_year + 3 * day)
    (Some (id.Number 1))) ∷ []
unfolding to_compute
marker_at_the_limit versions many = rw many refl
