-- How a version's coming and going is booked, in meters that stand for a bucket's books.
use Rattle.std.specs.Prelude.{◌≡◌, ℕ, ◌+◌, ◌-◌, ◌≤◌, List, [], ◌∷◌, ◌^◌, Option, Some, None, is_some, unwrap_or, option_map, length, IsSome}
use Rattle.std.specs.Prelude.{◌==◌, if◌then◌else◌}
use Rattle.std.specs.List.{filter}
use Rattle.office_base.specs.Maps.{at_name}
use Rattle.office_base.specs.declared.version_id.VersionId.{VersionId}
use Rattle.office_base.specs.declared.version_id.VersionId.TheVariants.{Null}
use Rattle.moments.specs.Months.{month_at}
use Rattle.stacks.specs.declared.version.Kind.{Kind}
use Rattle.stacks.specs.declared.version.Kind.TheVariants.{Object, Marker}
use Rattle.stacks.specs.declared.version.Versioning.{Versioning}
use Rattle.stacks.specs.declared.version.Versioning.TheVariants.{Unversioned}
use Rattle.stacks.specs.declared.version.Version.{Version}
use Rattle.stacks.specs.Stacks.{StackRecord, new_stack, new_id, version_at, new_version, replaced, after_adding}
use Rattle.stacks.specs.Stacks.{IsFreeNumber}
use Rattle.accrual.specs.Totals.{Totals, HasRow}
use Rattle.plain_office.specs.Office.{Books, of_version}
use Rattle.plain_office.specs.Books.{is_open_stay, with_version, without_option}
use Rattle.plain_office.specs.Counts.{tag_bytes_of}
use Rattle.plain_office.specs.Orderly.{stay_of_version, lines_since}
use Rattle.office_types.specs.declared.refusal.Refusal.{Refusal}
use Rattle.office_types.specs.declared.refusal.Refusal.TheVariants.{NoSuchKey, NoSuchVersion}
use Rattle.bucket_account.specs.declared.counts.Counts.{Counts}
use Rattle.bucket_account.specs.declared.incoming.Incoming.{Incoming}
use Rattle.bucket_account.specs.declared.incoming.Leaving.{Leaving}

-- ---- what is known before a version goes

-- what is known of a version before it goes: since when it has its lines, and the bytes of its tags
abbrev pub leaving_of : Version → Leaving
leaving_of version = record { since = lines_since version; tag_bytes = tag_bytes_of version }

-- since when it has its lines; the moment if nothing goes
abbrev pub leaving_since : ℕ → Option Leaving → ℕ
leaving_since at None = at
leaving_since at (Some leaving) = leaving.since

-- since when a version has its lines; the moment if there is none
abbrev pub since_option : ℕ → Option Version → ℕ
since_option at None = at
since_option at (Some version) = lines_since version

-- the version has exactly one open stay, the one that its record asks for
abbrev pub HasStay : List ℕ → Version → Books → Type 0
HasStay key version books =
    filter (is_open_stay key (of_version version.id)) books.stays ≡ stay_of_version key version ∷ []

-- rows for all months from the one moment's to the other's
abbrev pub HasRowsFrom : ℕ → ℕ → Totals → Type 0
HasRowsFrom from to meters = (month : ℕ) → month_at from ≤ month → month ≤ month_at to → HasRow meters month

-- if there is a version, its one open stay is the one that its record asks for
abbrev pub MayHaveStay : List ℕ → Option Version → Books → Type 0
MayHaveStay key None books = Unit {0}
MayHaveStay key (Some version) books = HasStay key version books

-- if there is a version, there are rows for all months from when it has its lines to the moment
abbrev pub MayHaveRows : Option Version → ℕ → Totals → Type 0
MayHaveRows None at meters = Unit {0}
MayHaveRows (Some version) at meters = HasRowsFrom (lines_since version) at meters

-- if there is a version, it has its lines since this moment or an earlier one
abbrev pub IsSinceBy : ℕ → Option Version → Type 0
IsSinceBy at None = Unit {0}
IsSinceBy at (Some version) = lines_since version ≤ at

-- ---- a version that comes

-- an object enters its class at the moment (own); a delete marker comes only in a bucket that keeps versions (S3 User
-- Guide, "Working with delete markers")
abbrev pub MayCome : Versioning → ℕ → Kind → Type 0
MayCome versioning at (Object size class tags entered) = entered ≡ at
MayCome versioning at Marker = versioning ≡ Unversioned → ⊥

-- the version as it comes: in an Enabled bucket it has the next number, in any other it is the null version
abbrev pub version_of : Incoming → Version
version_of incoming = new_version (new_id incoming.versioning incoming.number) incoming.kind incoming.at

-- the stack after the version came
abbrev pub stack_put : Incoming → StackRecord → StackRecord
stack_put incoming stack =
    after_adding (new_id incoming.versioning incoming.number) incoming.kind incoming.at stack

-- the books after the version came; the one that it replaces, if there is one, has gone
abbrev pub books_put : List ℕ → Incoming → Option Version → Books → Books
books_put key incoming gone books =
    with_version key (version_of incoming) incoming.at (without_option key gone incoming.at books)

-- the bytes of the tags of a version of this kind
abbrev pub bytes_of_kind : Kind → ℕ
bytes_of_kind kind = tag_bytes_of (new_version Null kind 0)

-- how many versions go: 1, or 0 if none does
abbrev pub gone_versions : Option Leaving → ℕ
gone_versions None = 0
gone_versions (Some leaving) = 1

-- the bytes of the tags of the version that goes; 0 if none does
abbrev pub gone_bytes : Option Leaving → ℕ
gone_bytes None = 0
gone_bytes (Some leaving) = leaving.tag_bytes

-- the counts after a version came with these bytes of a new key and of tags; the one that it replaces, if any, has gone
abbrev pub counts_put : ℕ → ℕ → Option Leaving → Counts → Counts
counts_put key_bytes tag_bytes gone counts = record counts {
  versions = counts.versions + 1 - gone_versions gone;
  names = counts.names + key_bytes + tag_bytes - gone_bytes gone;
}

-- ---- a version that comes under a key of these stacks

-- the stack that it is put on: the key's stack, or one without versions
abbrev pub stack_under : List ℕ → List (List ℕ × StackRecord) → StackRecord
stack_under key stacks = unwrap_or (at_name key stacks) (new_stack 0)

-- the version that it replaces: in a bucket that is not Enabled the null version, if the key has it
abbrev pub gone_of : List ℕ → Incoming → List (List ℕ × StackRecord) → Option Version
gone_of key incoming stacks = replaced incoming.versioning (stack_under key stacks).versions

-- the bytes of a new key; 0 if the key is there
abbrev pub new_bytes : List ℕ → List (List ℕ × StackRecord) → ℕ
new_bytes key stacks = if is_some (at_name key stacks) then 0 else length key

-- the counts after it came under the key; the key's bytes are added if the key is new
abbrev pub counts_after : List ℕ → Incoming → List (List ℕ × StackRecord) → Counts → Counts
counts_after key incoming stacks counts =
    counts_put (new_bytes key stacks) (bytes_of_kind incoming.kind)
    (option_map leaving_of (gone_of key incoming stacks)) counts

-- it may be put on this stack, and what goes has its lines since no later moment
pub record MayBePut (incoming : Incoming) (stack : StackRecord) : Type 0 where
  pub comes : MayCome incoming.versioning incoming.at incoming.kind
  pub later : stack.changed ≤ incoming.at
  pub free : IsFreeNumber incoming.versioning incoming.number stack.versions
  pub since : IsSinceBy incoming.at (replaced incoming.versioning stack.versions)

-- a version can come, and one with this many bytes of tags go, without leaving the range of these counts
pub record AreMovable (counts : Counts) (bytes : ℕ) : Type 0 where
  pub versions : counts.versions ≤ 400_000
  pub names : counts.names ≤ 2 ^ 32
  pub gone : bytes ≤ counts.names

-- ---- a version that goes from under a key of these stacks

-- the version that is to go: the one with this id, if the key has it
abbrev pub taken_of : List ℕ → VersionId → List (List ℕ × StackRecord) → Option Version
taken_of key id stacks = version_at id (stack_under key stacks).versions

-- the bytes of a key that goes with its last version; 0 if other versions are left
abbrev pub lost_bytes : List ℕ → List Version → ℕ
lost_bytes key versions = if length versions == 1 then length key else 0

-- the counts after it went, with this many bytes of its key
abbrev pub counts_taken : ℕ → Option Leaving → Counts → Counts
counts_taken key_bytes gone counts = record counts {
  versions = counts.versions - gone_versions gone;
  names = counts.names - (key_bytes + gone_bytes gone);
}

-- the counts after the version with this id went from the stack; if it was the only one, the key went too
abbrev pub counts_from : List ℕ → VersionId → StackRecord → Counts → Counts
counts_from key id stack counts =
    counts_taken (lost_bytes key stack.versions) (option_map leaving_of (version_at id stack.versions)) counts

-- counts from which this can be subtracted
pub record AreTakable (counts : Counts) (key_bytes : ℕ) (gone : Option Leaving) : Type 0 where
  pub versions : gone_versions gone ≤ counts.versions
  pub names : key_bytes + gone_bytes gone ≤ counts.names

-- it may go from this stack: it is there, and neither the stack's last change nor its lines are later than the moment
pub record MayGo (id : VersionId) (at : ℕ) (stack : StackRecord) : Type 0 where
  pub there : IsSome (version_at id stack.versions)
  pub later : stack.changed ≤ at
  pub since : IsSinceBy at (version_at id stack.versions)

-- the refusal of a version that is not under its key; the key is tested before the version (own)
abbrev pub missing_from : VersionId → Option StackRecord → Option Refusal
missing_from id None = Some NoSuchKey
missing_from id (Some stack) = if is_some (version_at id stack.versions) then None else Some NoSuchVersion

-- the same by the stacks of a bucket; no refusal if the version is under the key
abbrev pub missing : List ℕ → VersionId → List (List ℕ × StackRecord) → Option Refusal
missing key id stacks = missing_from id (at_name key stacks)
