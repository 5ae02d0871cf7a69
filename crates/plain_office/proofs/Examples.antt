-- Worked examples of commands and queries, computed.
use Rattle.std.specs.Prelude.{⊤, ◌≡◌, ℕ, ◌+◌, ◌*◌, List, [], ◌∷◌, refl, true, false, codes, length, map, replicate, sum_by, unwrap_or, option_map, Option, Some, None, Result, Ok, Err}
use Rattle.std.specs.Fmt.{digits}
use Rattle.serde_json.proofs.OnLiterals.{serde_json_on_literals}
use Rattle.moments.specs.Texts.{moment_text}
use Rattle.moments.specs.Time.{day}
use Rattle.moments.specs.Months.{days_of_months, first_day, months_over}
use Rattle.class_rules.specs.declared.class.Class.{Class}
use Rattle.class_rules.specs.declared.class.Class.TheVariants as class
use Rattle.office_base.specs.Maps.{at_name}
use Rattle.office_base.specs.declared.version_id.VersionId.{VersionId}
use Rattle.office_base.specs.declared.version_id.VersionId.TheVariants as id
use Rattle.rules_core.specs.Configurations.{Configuration}
use Rattle.rules_core.specs.declared.rule.Rule.{Rule}
use Rattle.rules_core.specs.declared.rule.Filter.{Filter}
use Rattle.rules_core.specs.declared.rule.SizeMode.TheVariants as mode
use Rattle.rules_json.specs.Printing.{printed, configuration_data, rule_data, filter_data, single_data, conjunction_data, tag_data, transition_data, noncurrent_move_data, expiration_data}
use Rattle.rules_json.specs.Printing.{noncurrent_data, abort_data}
use Rattle.stacks.specs.Stacks.{new_version, stack_of}
use Rattle.uploads.specs.Uploads.{new_upload, upload_of}
use Rattle.stacks.specs.declared.version.Kind.TheVariants as kind
use Rattle.stacks.specs.declared.version.Version.{Version}
use Rattle.stacks.specs.declared.version.Versioning.TheVariants as versioning
use Rattle.uploads.specs.declared.part.Part.{Part}
use Rattle.due_core.specs.Buckets.{BucketRecord}
use Rattle.due_core.specs.RuleActions.{version_actions}
use Rattle.due_core.specs.Candidates.{eligible, candidates}
use Rattle.due_core.specs.Choice.{choice}
use Rattle.accrual.specs.Books.{Book, Stay}
use Rattle.accrual.specs.Meters.{meter, early_quantity, move_count}
use Rattle.office_types.specs.declared.command.Command.{Command}
use Rattle.office_types.specs.declared.command.Command.TheVariants as command
use Rattle.office_types.specs.declared.command.Query.TheVariants as query
use Rattle.office_types.specs.declared.command.Entry.{Entry}
use Rattle.office_types.specs.declared.reply.Reply.{Reply}
use Rattle.office_types.specs.declared.reply.Reply.TheVariants as reply
use Rattle.office_types.specs.declared.refusal.Refusal.{Refusal}
use Rattle.office_types.specs.declared.refusal.Refusal.TheVariants as refusal
use Rattle.office_types.specs.declared.refusal.What.TheVariants as what
use Rattle.office_types.specs.Entries.{entry_at}
use Rattle.plain_office.specs.Office.{Office, Account, empty_office, empty_books, book_of}
use Rattle.plain_office.specs.Changes.{effect, versions_of}
use Rattle.plain_office.specs.Counts.{count_of, tag_bytes_of}
use Rattle.plain_office.specs.Step.{step, outcome, new_account, new_bucket}
use Rattle.plain_office.specs.Answers.{answer}
use Rattle.plain_office.specs.Charges.{report_lines}
use Rattle.plain_office.specs.Once.{step_with}
use Rattle.plain_office.specs.Run.{accept, run}

-- what an example unfolds to compute
unfoldable pub to_compute : ⊤
unfolding run accept step_with step outcome count_of answer report_lines effect choice candidates eligible version_actions
    meter early_quantity move_count first_day months_over days_of_months digits moment_text
    printed configuration_data rule_data filter_data single_data conjunction_data tag_data transition_data
    noncurrent_move_data expiration_data noncurrent_data abort_data serde_json_on_literals
to_compute = tt

-- ---- words

-- 2024-01-01 00:00 UTC; January 2024 is month 648, counted from January 1970
abbrev pub new_year : ℕ
new_year = 1_704_067_200_000

abbrev pub january : ℕ
january = 648

abbrev pub logs : List ℕ
logs = codes "logs"

abbrev pub a : List ℕ
a = codes "a"

abbrev pub put : ℕ → Class → Command
put size class = command.Put logs a size class []

-- the office after entries, of which some may be refused, and the answers on the way
abbrev pub after : Office → List Entry → Office
after office [] = office
after office (e ∷ es) = after (step e.moment e.command office).0 es

abbrev pub answers : Office → List Entry → List (Result Reply Refusal)
answers office [] = []
answers office (e ∷ es) = (step e.moment e.command office).1 ∷ answers (step e.moment e.command office).0 es

-- the bucket `logs`
abbrev pub in_logs : {X : Type 0} → (Account → X) → X → Office → X
in_logs tells none office = unwrap_or (option_map tells (at_name logs office.accounts)) none

abbrev pub book_in : Office → Book
book_in office = in_logs (λ account. book_of account.books) (book_of empty_books) office

-- the ids of the versions of `a`, newest first, and when they ceased to be current
abbrev pub ids_in : Office → List VersionId
ids_in office = in_logs (λ account. map (λ version. version.id) (versions_of a account.bucket)) [] office

abbrev pub ceased_in : Office → List ℕ
ceased_in office = in_logs (λ account. map (λ version. version.ceased) (versions_of a account.bucket)) [] office

-- the lines of the stays, and when they ended
abbrev pub stays_in : Office → List (List (Class × ℕ) × Option ℕ)
stays_in office = map (λ (stay : Stay). (stay.lines, stay.to)) (book_in office).stays

-- rules
abbrev pub any : Filter
any = record { prefix = []; tags = []; greater = None; less = None }

abbrev pub no_action : List ℕ → Rule
no_action name = record {
  id = name;
  enabled = true;
  filter = any;
  expiration = None;
  transitions = [];
  noncurrent_expiration = None;
  noncurrent_moves = [];
  abort_days = None;
}

abbrev pub rules_of : List Rule → Configuration
rules_of rules = record { rules = rules; mode = mode.All128K }

-- ---- buckets

-- names stand in byte order, whatever the order of the commands
in_order : run (entry_at new_year (command.CreateBucket logs) ∷ entry_at (new_year + 2) (command.CreateBucket (codes "data")) ∷ [])
    ≡ Some (record {
      last = Some (new_year + 2);
      tariffs = [];
      first_month = Some january;
      closed = [];
      accounts = (codes "data", new_account (new_year + 2)) ∷ (logs, new_account new_year) ∷ [];
      kept = [];
    })
unfolding to_compute
in_order = refl

-- a name is taken once
not_twice : answers empty_office (entry_at 1 (command.CreateBucket logs) ∷ entry_at 1 (command.CreateBucket logs) ∷ [])
    ≡ Ok (reply.BucketMade logs) ∷ Err refusal.BucketExists ∷ []
unfolding to_compute
not_twice = refl

-- time does not go back, but may stand still
not_back : run (entry_at 2 (command.CreateBucket logs) ∷ entry_at 1 (command.CreateBucket (codes "data")) ∷ []) ≡ None
unfolding to_compute
not_back = refl

-- a put asks for its bucket
no_bucket : (step new_year (put 1 class.Standard) empty_office).1 ≡ Err refusal.NoSuchBucket
unfolding to_compute
no_bucket = refl

abbrev pub with_logs : List Entry
with_logs = entry_at new_year (command.CreateBucket logs) ∷ []

-- versioning is suspended only where it was enabled
not_suspended : answers (after empty_office with_logs) (entry_at new_year (command.SetVersioning logs false)
    ∷ entry_at new_year (command.SetVersioning logs true) ∷ entry_at new_year (command.SetVersioning logs false) ∷ [])
    ≡ Err refusal.NotEnabledBefore ∷ Ok (reply.VersioningSet versioning.Enabled)
    ∷ Ok (reply.VersioningSet versioning.Suspended) ∷ []
unfolding to_compute
not_suspended = refl

-- an empty configuration is one, and is dropped once
dropped_once : answers (after empty_office with_logs)
    (entry_at new_year (command.DropRules logs) ∷ entry_at new_year (command.SetRules logs (rules_of []))
    ∷ entry_at new_year (command.DropRules logs) ∷ entry_at new_year (command.DropRules logs) ∷ [])
    ≡ Err refusal.NoRules ∷ Ok (reply.RulesSet 0) ∷ Ok (reply.RulesSet 0) ∷ Err refusal.NoRules ∷ []
unfolding to_compute
dropped_once = refl

-- ---- versions

-- an object of 1,000 bytes, and a day later one of 2,000 bytes under the same key; in a bucket without versioning it
-- is the only version
abbrev pub two_puts : List Entry
two_puts = entry_at new_year (command.CreateBucket logs) ∷ entry_at new_year (put 1_000 class.Standard)
    ∷ entry_at (new_year + day) (put 2_000 class.Standard) ∷ []

one_version : option_map (answer (new_year + 2 * day) (query.Bucket logs)) (run two_puts)
    ≡ Some (Ok (reply.BucketShown logs 0 0 versioning.Unversioned 1))
unfolding to_compute
one_version = refl

-- a delete there removes it, and is refused where there is none
deleted_once : answers (after empty_office two_puts)
    (entry_at (new_year + day) (command.Delete logs a) ∷ entry_at (new_year + day) (command.Delete logs a) ∷ [])
    ≡ Ok (reply.Deleted None) ∷ Err refusal.NoSuchKey ∷ []
unfolding to_compute
deleted_once = refl

-- the null version is put, covered by version 1, and put again in the suspended bucket
abbrev pub suspended : List Entry
suspended =
    entry_at new_year (command.CreateBucket logs) ∷ entry_at new_year (put 200_000 class.StandardIa)
    ∷ entry_at new_year (command.SetVersioning logs true)
    ∷ entry_at new_year (put 1 class.Standard) ∷ entry_at new_year (command.SetVersioning logs false)
    ∷ entry_at (new_year + 10 * day) (put 2 class.Standard) ∷ []

null_on_top : ids_in (after empty_office suspended) ≡ id.Null ∷ id.Number 1 ∷ []
unfolding to_compute
null_on_top = refl

-- the null version that was replaced owes 20 of 30 days
replaced_early : early_quantity january class.StandardIa (book_in (after empty_office suspended)) ≡ 345_600_000_000_000
unfolding to_compute
replaced_early = refl

-- a version is removed once
removed_once : answers (after empty_office suspended) (entry_at (new_year + 10 * day) (command.DeleteVersion logs a id.Null)
    ∷ entry_at (new_year + 10 * day) (command.DeleteVersion logs a id.Null)
    ∷ entry_at (new_year + 10 * day) (command.DeleteVersion logs (codes "b") id.Null) ∷ [])
    ≡ Ok (reply.VersionDeleted id.Null) ∷ Err refusal.NoSuchVersion ∷ Err refusal.NoSuchKey ∷ []
unfolding to_compute
removed_once = refl

-- the version below a current null version that is replaced keeps the moment at which it ceased to be current
ceased_once : ceased_in (after (after empty_office suspended) (entry_at (new_year + 11 * day) (put 3 class.Standard) ∷ []))
    ≡ (new_year + 11 * day) ∷ (new_year + 10 * day) ∷ []
unfolding to_compute
ceased_once = refl

-- a delete puts a marker, which has the next number in an Enabled bucket, and no tags
abbrev pub tags : List (List ℕ × List ℕ)
tags = (codes "kind", codes "raw") ∷ []

marked : answers (after empty_office with_logs)
    (entry_at new_year (command.SetVersioning logs true) ∷ entry_at new_year (put 1 class.Standard)
    ∷ entry_at new_year (command.Delete logs a)
    ∷ entry_at new_year (command.SetTags logs a (id.Number 2) tags)
    ∷ entry_at new_year (command.SetTags logs a (id.Number 1) tags)
    ∷ entry_at new_year (command.SetTags logs a (id.Number 3) tags) ∷ [])
    ≡ Ok (reply.VersioningSet versioning.Enabled) ∷ Ok (reply.Stored new_year (id.Number 1))
    ∷ Ok (reply.Deleted (Some (id.Number 2)))
    ∷ Err refusal.IsMarker ∷ Ok (reply.TagsSet 1) ∷ Err refusal.NoSuchVersion ∷ []
unfolding to_compute
marked = refl

-- a version that is put while versioning is suspended takes no number
unnumbered : answers (after empty_office with_logs)
    (entry_at new_year (command.SetVersioning logs true) ∷ entry_at new_year (put 1 class.Standard)
    ∷ entry_at new_year (command.SetVersioning logs false) ∷ entry_at new_year (put 2 class.Standard)
    ∷ entry_at new_year (command.SetVersioning logs true) ∷ entry_at new_year (put 3 class.Standard) ∷ [])
    ≡ Ok (reply.VersioningSet versioning.Enabled) ∷ Ok (reply.Stored new_year (id.Number 1))
    ∷ Ok (reply.VersioningSet versioning.Suspended) ∷ Ok (reply.Stored new_year id.Null)
    ∷ Ok (reply.VersioningSet versioning.Enabled) ∷ Ok (reply.Stored new_year (id.Number 2)) ∷ []
unfolding to_compute
unnumbered = refl

-- the versions of a key, as they are shown
shown : answer new_year (query.Stack logs a)
    (after (after empty_office with_logs) (entry_at new_year (command.SetVersioning logs true)
    ∷ entry_at new_year (command.Put logs a 5 class.Glacier tags) ∷ entry_at (new_year + day) (command.Delete logs a) ∷ []))
    ≡ Ok (reply.StackShown a (record {
      changed = new_year + day;
      versions = record { id = id.Number 2; kind = kind.Marker; created = new_year + day; ceased = new_year + day }
          ∷ record {
            id = id.Number 1;
            kind = kind.Object 5 class.Glacier tags new_year;
            created = new_year;
            ceased = new_year + day;
          } ∷ [];
    }))
unfolding to_compute
shown = refl

-- ---- uploads

-- a part that is put again replaces the one before; a part of an archive's upload is billed in STANDARD
abbrev pub part_twice : List Entry
part_twice =
    entry_at new_year (command.CreateBucket logs) ∷ entry_at new_year (command.StartUpload logs a class.Glacier [])
    ∷ entry_at new_year (command.PutPart logs 1 1 1_000)
    ∷ entry_at new_year (command.PutPart logs 1 1 1_000) ∷ []

one_open_part : stays_in (after empty_office part_twice)
    ≡ ((class.Standard, 1_000) ∷ [], Some new_year) ∷ ((class.Standard, 1_000) ∷ [], None) ∷ []
unfolding to_compute
one_open_part = refl

-- the upload, as it is shown
upload_shown : answer new_year (query.Upload logs 1) (after empty_office part_twice)
    ≡ Ok (reply.UploadShown 1 (record {
      key = a;
      class = class.Glacier;
      tags = [];
      started = new_year;
      changed = new_year;
      parts = (1, record { size = 1_000; put = new_year }) ∷ [];
    }))
unfolding to_compute
upload_shown = refl

-- completed, its parts end and the object's lines begin
completed : stays_in (after (after empty_office part_twice) (entry_at new_year (command.Complete logs 1) ∷ []))
    ≡ ((class.Standard, 1_000) ∷ [], Some new_year) ∷ ((class.Standard, 1_000) ∷ [], Some new_year)
    ∷ ((class.Glacier, 33_768) ∷ (class.Standard, 8_192) ∷ [], None) ∷ []
unfolding to_compute
completed = refl

-- numbers of parts go to 10,000, an upload needs a part to be completed, and goes once
refused_uploads : answers (after empty_office part_twice)
    (entry_at new_year (command.PutPart logs 1 10_001 1) ∷ entry_at new_year (command.StartUpload logs a class.Standard [])
    ∷ entry_at new_year (command.Complete logs 2) ∷ entry_at new_year (command.Abort logs 2)
    ∷ entry_at new_year (command.Abort logs 2) ∷ [])
    ≡ Err refusal.BadPart ∷ Ok (reply.UploadStarted 2) ∷ Err refusal.NoParts ∷ Ok (reply.Aborted 2)
    ∷ Err refusal.NoSuchUpload ∷ []
unfolding to_compute
refused_uploads = refl

-- ---- limits

-- as many buckets, all of one name before `logs`
abbrev with_buckets : ℕ → Office
with_buckets n = record empty_office {
  last = Some new_year;
  first_month = Some january;
  accounts = replicate n (codes "box", new_account new_year);
}

last_bucket : (step new_year (command.CreateBucket logs) (with_buckets 999)).1 ≡ Ok (reply.BucketMade logs)
unfolding to_compute
last_bucket = refl

no_more_buckets : step new_year (command.CreateBucket logs) (with_buckets 1_000)
    ≡ (with_buckets 1_000, Err (refusal.Full what.Buckets 1_000))
unfolding to_compute
no_more_buckets = refl

-- a name that is taken is refused as such, though there are as many buckets as there may be
taken_at_the_limit : (step new_year (command.CreateBucket (codes "box")) (with_buckets 1_000)).1
    ≡ Err refusal.BucketExists
unfolding to_compute
taken_at_the_limit = refl

-- a bucket `logs` with one object under `a`, and one `more`
abbrev pub beside : BucketRecord → Office
beside more = record empty_office {
  last = Some new_year;
  first_month = Some january;
  accounts = (
    logs,
    record {
      bucket = record (new_bucket new_year) {
        stacks = (a, stack_of new_year (new_version id.Null (kind.Object 1 class.Standard [] new_year) new_year ∷ [])) ∷ [];
        uploads = (1, new_upload a class.Standard [] new_year) ∷ [];
        next_upload = 2;
      };
      books = empty_books;
    },
  )
      ∷ (codes "more", record { bucket = more; books = empty_books }) ∷ [];
}

abbrev pub with_stack_of : List Version → BucketRecord
with_stack_of versions = record (new_bucket new_year) { stacks = (codes "b", stack_of new_year versions) ∷ [] }

-- at the limit a put in the place of the null version is accepted, and one under a new key is not; above it neither
-- is
replaced_at_the_limit : (versions : List Version) → length versions ≡ 199_999 → sum_by tag_bytes_of versions ≡ 0
    → (step new_year (put 5 class.Standard) (beside (with_stack_of versions))).1 ≡ Ok (reply.Stored new_year id.Null)
unfolding to_compute
replaced_at_the_limit versions many untagged = rw (many, untagged) refl

no_more_versions : (versions : List Version) → length versions ≡ 199_999
    → (step new_year (command.Put logs (codes "c") 5 class.Standard []) (beside (with_stack_of versions))).1
    ≡ Err (refusal.Full what.Versions 200_000)
unfolding to_compute
no_more_versions versions many = rw many refl

replaced_above_the_limit : (versions : List Version) → length versions ≡ 200_000
    → (step new_year (put 5 class.Standard) (beside (with_stack_of versions))).1
    ≡ Err (refusal.Full what.Versions 200_000)
unfolding to_compute
replaced_above_the_limit versions many = rw many refl

-- the last bytes of tags, and one too many: the keys `a` of the object and of the upload, and `b` of the others have
-- three bytes
last_tag : (versions : List Version) → sum_by tag_bytes_of versions ≡ 536_870_902
    → (step new_year (command.SetTags logs a id.Null tags) (beside (with_stack_of versions))).1 ≡ Ok (reply.TagsSet 1)
unfolding to_compute
last_tag versions tagged = rw tagged refl

no_more_names : (versions : List Version) → sum_by tag_bytes_of versions ≡ 536_870_903
    → (step new_year (command.SetTags logs a id.Null tags) (beside (with_stack_of versions))).1
    ≡ Err (refusal.Full what.Names 536_870_912)
unfolding to_compute
no_more_names versions tagged = rw tagged refl

-- as many uploads and parts
abbrev with_uploads : ℕ → BucketRecord
with_uploads n = record (new_bucket new_year) {
  uploads = replicate n (1, new_upload a class.Standard [] new_year);
}

last_upload : (step new_year (command.StartUpload logs a class.Standard []) (beside (with_uploads 19_998))).1
    ≡ Ok (reply.UploadStarted 2)
unfolding to_compute
last_upload = refl

no_more_uploads : (step new_year (command.StartUpload logs a class.Standard []) (beside (with_uploads 19_999))).1
    ≡ Err (refusal.Full what.Uploads 20_000)
unfolding to_compute
no_more_uploads = refl

abbrev with_parts : List (ℕ × Part) → BucketRecord
with_parts parts = record (new_bucket new_year) {
  uploads = (1, upload_of a class.Standard [] new_year new_year parts) ∷ [];
}

last_part : (parts : List (ℕ × Part)) → length parts ≡ 499_999
    → (step new_year (command.PutPart logs 1 1 5) (beside (with_parts parts))).1 ≡ Ok (reply.PartStored 1)
unfolding to_compute
last_part parts many = rw many refl

no_more_parts : (parts : List (ℕ × Part)) → length parts ≡ 500_000
    → (step new_year (command.PutPart logs 1 1 5) (beside (with_parts parts))).1 ≡ Err (refusal.Full what.Parts 500_000)
unfolding to_compute
no_more_parts parts many = rw many refl

-- the text of an empty configuration has 76 bytes
abbrev with_rules_of : Configuration → BucketRecord
with_rules_of rules = record (new_bucket new_year) { rules = Some rules }

last_rules : (rules : Configuration) → length (printed rules) ≡ 67_108_788
    → (step new_year (command.SetRules logs (rules_of [])) (beside (with_rules_of rules))).1 ≡ Ok (reply.RulesSet 0)
unfolding to_compute
last_rules rules long = rw long refl

no_more_rules : (rules : Configuration) → length (printed rules) ≡ 67_108_789
    → (step new_year (command.SetRules logs (rules_of [])) (beside (with_rules_of rules))).1
    ≡ Err (refusal.Full what.Rules 67_108_864)
unfolding to_compute
no_more_rules rules long = rw long refl
