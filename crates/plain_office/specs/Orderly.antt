-- What holds for every office that commands can lead to.
use Rattle.std.specs.Prelude.{◌≡◌, ℕ, ◌+◌, ◌<◌, ◌≤◌, Bool, true, false, List, [], ◌∷◌, map, filter, length, count_by, IsTrue, IfSome}
use Rattle.std.specs.Prelude.{IsSome, MatchOption, Option, Some, None, option_map, option_to_list, if◌then◌else◌}
use Rattle.std.specs.List.{AllByRecursion}
use Rattle.std.specs.Ordering.{nat_cmp}
use Rattle.std.specs.Str.{bytes_eq}
use Rattle.moments.specs.Months.{month_end}
use Rattle.class_rules.specs.Lines.{part_line}
use Rattle.office_base.specs.Maps.{bytes_cmp, at_number, Rises}
use Rattle.office_base.specs.Sizes.{largest_size}
use Rattle.office_base.specs.declared.version_id.VersionId.{VersionId}
use Rattle.office_base.specs.declared.version_id.VersionId.TheVariants.{Null, Number}
use Rattle.stacks.specs.Stacks.{StackRecord, IsStack, version_at}
use Rattle.stacks.specs.declared.version.Versioning.{Versioning}
use Rattle.stacks.specs.declared.version.Versioning.TheVariants.{Unversioned, Enabled, Suspended}
use Rattle.stacks.specs.declared.version.Kind.{Kind}
use Rattle.stacks.specs.declared.version.Kind.TheVariants.{Object, Marker}
use Rattle.stacks.specs.declared.version.Version.{Version}
use Rattle.uploads.specs.Uploads.{UploadRecord, IsUpload}
use Rattle.uploads.specs.declared.part.Part.{Part}
use Rattle.tariff.specs.Prices.{Prices}
use Rattle.due_core.specs.Buckets.{BucketRecord}
use Rattle.due_core.specs.Candidates.{eligible}
use Rattle.accrual.specs.Books.{open_stay, IsBookedBy}
use Rattle.office_types.specs.declared.command.Command.{Command}
use Rattle.office_types.specs.declared.command.Command.TheVariants as command
use Rattle.office_types.specs.declared.refusal.What.TheVariants.{Buckets, Uploads, Parts, Names, Rules, Tariffs}
use Rattle.plain_office.specs.Office.{Office, Account, Item, Booked, KeptReply, book_of, of_version, of_part}
use Rattle.plain_office.specs.Books.{lines_of_kind, is_open_stay}
use Rattle.plain_office.specs.Changes.{versions_of}
use Rattle.plain_office.specs.Counts.{count_of, limit_of, over_buckets, version_count}
use Rattle.plain_office.specs.Once.{most_kept, kept_at}

-- ---- a stack

-- a version has no number, or a number that is at least 1 and below the next one
abbrev pub IsNumberBelow : ℕ → VersionId → Type 0
IsNumberBelow next Null = Unit {0}
IsNumberBelow next (Number n) = (0 < n) × (n < next)

-- it is an object, not a delete marker
abbrev pub is_object : Kind → Bool
is_object (Object size class tags entered) = true
is_object Marker = false

-- there is only one version: the null version, which is an object
abbrev pub IsOneNullObject : List Version → Type 0
IsOneNullObject [] = ⊥
IsOneNullObject (version ∷ others) = (others ≡ []) × (version.id ≡ Null) × IsTrue (is_object version.kind)

-- the versions fit the bucket's versioning: an Unversioned bucket has only the null object (S3 User Guide, "How S3
-- Versioning works")
abbrev pub FitsVersioning : Versioning → List Version → Type 0
FitsVersioning Unversioned versions = IsOneNullObject versions
FitsVersioning Enabled versions = Unit {0}
FitsVersioning Suspended versions = Unit {0}

-- the bytes of an object; a delete marker has none
abbrev pub size_of : Kind → ℕ
size_of (Object size class tags entered) = size
size_of Marker = 0

-- a stack of a bucket whose last accepted moment is `last` and whose next version has the number `next`
pub record IsOrderlyStack (versioning : Versioning) (next last : ℕ) (stack : StackRecord) : Type 0 where
  pub some : 0 < length stack.versions
  pub ids_and_moments : IsStack stack
  pub numbers : AllByRecursion (λ version. IsNumberBelow next version.id) stack.versions
  pub fits : FitsVersioning versioning stack.versions
  pub sizes : AllByRecursion (λ version. size_of version.kind ≤ largest_size) stack.versions
  pub changed : stack.changed ≤ last

-- ---- an upload

-- an upload of a bucket whose last accepted moment is `last`
pub record IsOrderlyUpload (last : ℕ) (upload : UploadRecord) : Type 0 where
  pub ranges_and_moments : IsUpload upload
  pub parts : Rises nat_cmp upload.parts
  pub changed : upload.changed ≤ last

-- ---- a bucket

-- a bucket of an office whose last accepted moment is `last`
pub record IsOrderlyBucket (last : ℕ) (bucket : BucketRecord) : Type 0 where
  pub next_version : 0 < bucket.next_version
  pub next_upload : 0 < bucket.next_upload
  pub rules_since : bucket.rules_since ≤ last
  pub keys : Rises bytes_cmp bucket.stacks
  pub stacks : AllByRecursion (λ stack. IsOrderlyStack bucket.versioning bucket.next_version last stack.1) bucket.stacks
  pub numbers : Rises nat_cmp bucket.uploads
  pub uploads : AllByRecursion (λ upload. (upload.0 < bucket.next_upload) × IsOrderlyUpload last upload.1)
      bucket.uploads

-- ---- the stays

-- the moment from which a version has its lines: for an object when it entered its class, for a marker when it was made
abbrev pub lines_since : Version → ℕ
lines_since version = since version.kind where
  since : Kind → ℕ
  since (Object size class tags entered) = entered
  since Marker = version.created

-- the stay that is open for a version under a key
abbrev pub stay_of_version : List ℕ → Version → Booked
stay_of_version key version = (
  record { key = key; item = of_version version.id },
  open_stay (lines_of_kind key version.kind) (lines_since version),
)

-- the stay that is open for a part of an upload
abbrev pub stay_of_part : ℕ → UploadRecord → ℕ → Part → Booked
stay_of_part number upload place part =
    (record { key = upload.key; item = of_part number place }, open_stay (part_line upload.class part.size) part.put)

-- the stay that is open for a part of this upload, if the upload has this key and this part; else none
abbrev pub part_stays_expected : List ℕ → ℕ → ℕ → Option UploadRecord → List Booked
part_stays_expected key number place None = []
part_stays_expected key number place (Some upload) =
    if bytes_eq key upload.key
    then option_to_list (option_map (stay_of_part number upload place) (at_number place upload.parts))
    else []

-- the stays that are open for an item under a key, by the records: one if there is such a version or part, else none
abbrev pub stays_expected : BucketRecord → List ℕ → Item → List Booked
stays_expected bucket key (of_version id) =
    option_to_list (option_map (stay_of_version key) (version_at id (versions_of key bucket)))
stays_expected bucket key (of_part number place) =
    part_stays_expected key number place (at_number number bucket.uploads)

-- the open stays of each item in the books are those that the records give
abbrev pub HasOpenStays : Account → Type 0
HasOpenStays account =
    (key : List ℕ) (item : Item)
    → filter (is_open_stay key item) account.books.stays ≡ stays_expected account.bucket key item

-- ---- the office

-- the months are consecutive, from the given one on
abbrev pub FollowEachOther : ℕ → List ℕ → Type 0
FollowEachOther month [] = Unit {0}
FollowEachOther month (first ∷ others) = (first ≡ month) × FollowEachOther (month + 1) others

-- the first months of the tariffs are in strictly ascending order, so no two are the same
abbrev pub FirstMonthsRise : List Prices → Type 0
FirstMonthsRise [] = Unit {0}
FirstMonthsRise (tariff ∷ others) = AllByRecursion (λ other. tariff.from < other.from) others × FirstMonthsRise others

-- the end of the last closed month; 0 if there is none
abbrev pub last_end : List (ℕ × Prices) → ℕ
last_end [] = 0
last_end (month ∷ []) = month_end month.0
last_end (month ∷ next ∷ others) = last_end (next ∷ others)

-- the end of the office's last closed month; 0 if none is closed
abbrev pub closed_until : Office → ℕ
closed_until office = last_end office.closed

-- the key has a current version, and it is an object
abbrev pub current_is_object : List Version → Bool
current_is_object [] = false
current_is_object (version ∷ others) = is_object version.kind

-- the number of stacks whose current version is an object; a lifecycle action may put a marker on each of them
abbrev pub current_objects : BucketRecord → ℕ
current_objects bucket = count_by (λ stack. current_is_object stack.1.versions) bucket.stacks

-- an office before the first accepted command is empty
pub record IsBlank (office : Office) : Type 0 where
  pub accounts : office.accounts ≡ []
  pub tariffs : office.tariffs ≡ []
  pub closed : office.closed ≡ []
  pub first_month : office.first_month ≡ None
  pub kept : office.kept ≡ []

-- an office after it has a first month, and no moment and no closed month is after the last moment
pub record IsOrderlyUntil (last : ℕ) (office : Office) : Type 0 where
  pub first_month : IsSome office.first_month
  pub buckets : AllByRecursion (λ account. IsOrderlyBucket last account.1.bucket) office.accounts
  pub closed : closed_until office ≤ last

-- the records are orderly. No eligible action takes effect before the end of the last closed month. With a marker for
-- each current object there are at most 400,000 versions.
pub record IsOrderlyRecords (office : Office) : Type 0 where
  pub names : Rises bytes_cmp office.accounts
  pub moments : MatchOption office.last (IsBlank office) (λ last. IsOrderlyUntil last office)
  pub tariffs : FirstMonthsRise office.tariffs
  pub months : IfSome office.first_month (λ first. FollowEachOther first (map (λ month. month.0) office.closed))
  pub nothing_due_in_closed_months : AllByRecursion (λ account.
      AllByRecursion (λ candidate. closed_until office ≤ candidate.action.since) (eligible account.1.bucket))
      office.accounts
  pub versions : over_buckets (λ bucket. version_count bucket + current_objects bucket) office ≤ 400_000
  pub counts : AllByRecursion (λ what. count_of what office ≤ limit_of what)
      (Buckets ∷ Uploads ∷ Parts ∷ Names ∷ Rules ∷ Tariffs ∷ [])

-- no two kept replies have the same token
abbrev pub TokensDiffer : List KeptReply → Type 0
TokensDiffer [] = Unit {0}
TokensDiffer (first ∷ kept) = (kept_at first.token kept ≡ None) × TokensDiffer kept

-- the kept replies are not too many, and each has a token of its own
pub record AreKept (kept : List KeptReply) : Type 0 where
  pub few : length kept ≤ most_kept
  pub differ : TokensDiffer kept

-- the office is orderly: its records are, the open stays are those that the records give, no booked moment is after the
-- last one, and the kept replies are valid
pub record IsOrderly (office : Office) : Type 0 where
  pub records : IsOrderlyRecords office
  pub stays : AllByRecursion (λ account. HasOpenStays account.1) office.accounts
  pub booked : IfSome office.last (λ last.
      AllByRecursion (λ account. IsBookedBy last (book_of account.1.books)) office.accounts)
  pub kept : AreKept office.kept

-- the size of a put is at most the largest size, as in every command of the program
abbrev pub SizeFits : Command → Type 0
SizeFits (command.Put name key size class tags) = size ≤ largest_size
SizeFits other = Unit {0}
