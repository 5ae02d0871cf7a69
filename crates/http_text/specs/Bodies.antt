-- What the replies to commands and queries hold (own: the names of their fields).
use Rattle.std.specs.Prelude.{ℕ, List, [], ◌∷◌, ◌++◌, map, drop, codes, Option, Some, None}
use Rattle.serde_json.specs.Data.{Data, string}
use Rattle.serde_json.specs.Written.{compact_text}
use Rattle.class_rules.specs.Classes.{all_classes, class_name}
use Rattle.class_rules.specs.declared.class.Class.{Class}
use Rattle.office_base.specs.Tags.{Tag}
use Rattle.office_base.specs.declared.version_id.VersionId.{VersionId}
use Rattle.rules_json.specs.Printing.{class_data, configuration_data}
use Rattle.stacks.specs.declared.version.Kind.{Kind}
use Rattle.stacks.specs.declared.version.Kind.TheVariants.{Object, Marker}
use Rattle.stacks.specs.declared.version.Version.{Version}
use Rattle.uploads.specs.declared.part.Part.{Part}
use Rattle.tariff.specs.Prices.{Prices, storage_tiers, move_price}
use Rattle.tariff.specs.declared.tiers.Tier.{Tier}
use Rattle.due_core.specs.declared.action.ActionKind.{ActionKind}
use Rattle.due_core.specs.declared.action.ActionKind.TheVariants as action
use Rattle.due_core.specs.declared.action.Target.{Target}
use Rattle.due_core.specs.declared.action.Target.TheVariants as target
use Rattle.office_types.specs.declared.reply.ClassMeters.{ClassMeters}
use Rattle.office_types.specs.declared.reply.Reply.{Reply}
use Rattle.office_types.specs.declared.reply.Reply.TheVariants.{BucketMade, VersioningSet, RulesSet, Stored, Deleted}
use Rattle.office_types.specs.declared.reply.Reply.TheVariants.{VersionDeleted, TagsSet, UploadStarted, PartStored}
use Rattle.office_types.specs.declared.reply.Reply.TheVariants.{Aborted, Chosen, NothingDue, TariffSet, Closed}
use Rattle.office_types.specs.declared.reply.Reply.TheVariants.{BucketShown, RulesShown, StackShown, UploadShown}
use Rattle.office_types.specs.declared.reply.Reply.TheVariants.{MetersShown, TariffShown, Report}
use Rattle.http_text.specs.Json.{json_object, array_of, whole_data, digits_of, moment_data, id_data, tags_data}
use Rattle.http_text.specs.Names.{month_text, versioning_name, action_name}
use Rattle.usage_report.specs.Csv.{report_csv}

-- a body: JSON, or the text of a report
pub data Body : Type 0 where
  json : Data → Body
  csv : List ℕ → Body

-- ---- a lifecycle action

-- the class that an object moves to; other actions have none
abbrev pub class_fields : ActionKind → List (List ℕ × Data)
class_fields (action.Transition class) = (codes "class", class_data class) ∷ []
class_fields other = []

-- the delete marker that was made, if one was
abbrev pub marker_fields : Option VersionId → List (List ℕ × Data)
marker_fields None = []
marker_fields (Some id) = (codes "marker", id_data id) ∷ []

-- what an action is done to: a version by its id, or an upload by its number
abbrev pub target_field : Target → List ℕ × Data
target_field (target.Version id) = (codes "version", id_data id)
target_field (target.Upload number) = (codes "upload", whole_data number)

-- ---- versions, newest first: the first is the current one (S3 User Guide, "How S3 Versioning works")

-- a delete marker, or an object with its bytes, its class, its tags and when it entered the class
abbrev pub kind_fields : Kind → List (List ℕ × Data)
kind_fields Marker = (codes "kind", string (codes "marker")) ∷ []
kind_fields (Object size class tags entered) =
    (codes "kind", string (codes "object")) ∷ (codes "size", whole_data size) ∷ (codes "class", class_data class)
    ∷ (codes "tags", tags_data tags) ∷ (codes "entered", moment_data entered) ∷ []

-- the id of a version, when it was created, and what it is
abbrev pub version_fields : Version → List (List ℕ × Data)
version_fields version =
    (codes "version", id_data version.id) ∷ (codes "created", moment_data version.created) ∷ kind_fields version.kind

-- a version that has been noncurrent since this moment, or the current one
abbrev pub dated_version : Option ℕ → Version → Data
dated_version None version = json_object (version_fields version)
dated_version (Some since) version =
    json_object ((codes "noncurrent_since", moment_data since) ∷ version_fields version)

-- a version that has been noncurrent since it ceased to be current
abbrev pub noncurrent_version : Version → Data
noncurrent_version version = dated_version (Some version.ceased) version

-- the versions of a stack; each except the current one has the moment since which it has been noncurrent
abbrev pub versions_data : List Version → List Data
versions_data [] = []
versions_data (current ∷ noncurrent) = dated_version None current ∷ map noncurrent_version noncurrent

-- ---- uploads, meters, prices

-- a part of an upload: its number, and its size in bytes
abbrev pub part_data : ℕ × Part → Data
part_data part = json_object ((codes "part", whole_data part.0) ∷ (codes "size", whole_data part.1.size) ∷ [])

-- what was used of a class; byte-milliseconds are texts of digits (own), because they may be too large for the numbers
-- of a reader (RFC 8259, "Numbers")
abbrev pub meters_data : ClassMeters → Data
meters_data meters = json_object (
    (codes "class", class_data meters.class) ∷ (codes "byte_ms", digits_of meters.byte_ms)
    ∷ (codes "early_byte_ms", digits_of meters.early_byte_ms) ∷ (codes "moves", whole_data meters.moves) ∷ [])

-- where a tier ends, in GiB-months; the last one has no end
abbrev pub upto_fields : Option ℕ → List (List ℕ × Data)
upto_fields None = []
upto_fields (Some upto) = (codes "upto", whole_data upto) ∷ []

-- a tier: its price, and where it ends
abbrev pub tier_data : Tier → Data
tier_data tier = json_object ((codes "price", whole_data tier.price) ∷ upto_fields tier.upto)

-- the tiers of a class: a single tier is only its price, several are a list
abbrev pub tiers_data : List Tier → Data
tiers_data (tier ∷ []) = whole_data tier.price
tiers_data tiers = array_of (map tier_data tiers)

-- what each of these classes costs, under the name of the class
abbrev pub price_fields : (Class → Data) → List Class → List (List ℕ × Data)
price_fields price classes = map (λ class. (class_name class, price class)) classes

-- the prices of storage, by rank from STANDARD on
abbrev pub storage_data : Prices → Data
storage_data tariff = json_object (price_fields (λ class. tiers_data (storage_tiers tariff class)) all_classes)

-- the prices of moves, by rank from STANDARD_IA on, because nothing moves to STANDARD
abbrev pub moves_data : Prices → Data
moves_data tariff = json_object (price_fields (λ class. whole_data (move_price tariff class)) (drop 1 all_classes))

-- a tariff: its first month, and what storage and moves cost
abbrev pub tariff_data : Prices → Data
tariff_data tariff = json_object (
    (codes "from", string (month_text tariff.from)) ∷ (codes "storage", storage_data tariff)
    ∷ (codes "transition", moves_data tariff) ∷ [])

-- ---- the same as written

-- what was used of some classes, as a list
unfoldable pub classes_text : List ClassMeters → List ℕ
classes_text classes = compact_text (array_of (map meters_data classes))

-- a version, with the moment since which it has been noncurrent, if any
unfoldable pub version_text : Option ℕ → Version → List ℕ
version_text since version = compact_text (dated_version since version)

-- the versions of a stack, as a list
unfoldable pub versions_text : List Version → List ℕ
versions_text versions = compact_text (array_of (versions_data versions))

-- the tags of an object or of an upload
unfoldable pub tags_text : List Tag → List ℕ
tags_text tags = compact_text (tags_data tags)

-- the parts of an upload, as a list
unfoldable pub parts_text : List (ℕ × Part) → List ℕ
parts_text parts = compact_text (array_of (map part_data parts))

-- the tiers of a class
unfoldable pub tiers_text : List Tier → List ℕ
tiers_text tiers = compact_text (tiers_data tiers)

-- tiers as a list, even a single one
unfoldable pub tier_list_text : List Tier → List ℕ
tier_list_text tiers = compact_text (array_of (map tier_data tiers))

-- the prices of storage
unfoldable pub storage_text : Prices → List ℕ
storage_text tariff = compact_text (storage_data tariff)

-- the prices of moves
unfoldable pub moves_text : Prices → List ℕ
moves_text tariff = compact_text (moves_data tariff)

-- some tariffs, as a list
unfoldable pub tariffs_text : List Prices → List ℕ
tariffs_text tariffs = compact_text (array_of (map tariff_data tariffs))

-- ---- the bodies

-- what each reply holds: the report of a month is CSV, all others are JSON
abbrev pub reply_body : Reply → Body
reply_body (BucketMade bucket) = json (json_object ((codes "bucket", string bucket) ∷ []))
reply_body (VersioningSet versioning) =
    json (json_object ((codes "versioning", string (versioning_name versioning)) ∷ []))
reply_body (RulesSet rules) = json (json_object ((codes "rules", whole_data rules) ∷ []))
reply_body (Stored moment version) =
    json (json_object ((codes "moment", moment_data moment) ∷ (codes "version", id_data version) ∷ []))
reply_body (Deleted (Some marker)) = json (json_object ((codes "marker", id_data marker) ∷ []))
reply_body (Deleted None) = json (json_object ((codes "removed", string (codes "null")) ∷ []))
reply_body (VersionDeleted removed) = json (json_object ((codes "removed", id_data removed) ∷ []))
reply_body (TagsSet tags) = json (json_object ((codes "tags", whole_data tags) ∷ []))
reply_body (UploadStarted upload) = json (json_object ((codes "upload", whole_data upload) ∷ []))
reply_body (PartStored part) = json (json_object ((codes "part", whole_data part) ∷ []))
reply_body (Aborted upload) = json (json_object ((codes "aborted", whole_data upload) ∷ []))
reply_body (Chosen kind key target rule since marker) = json (json_object (
    class_fields kind ++ (marker_fields marker ++ (
    (codes "action", string (action_name kind)) ∷ (codes "key", string key) ∷ target_field target
    ∷ (codes "rule", string rule) ∷ (codes "moment", moment_data since) ∷ []))))
reply_body NothingDue = json (json_object ((codes "action", string (codes "none")) ∷ []))
reply_body TariffSet = json (json_object ((codes "tariff", string (codes "set")) ∷ []))
reply_body (Closed month) = json (json_object ((codes "closed", string (month_text month)) ∷ []))
reply_body (BucketShown bucket rules uploads versioning versions) = json (json_object (
    (codes "bucket", string bucket) ∷ (codes "versioning", string (versioning_name versioning))
    ∷ (codes "rules", whole_data rules) ∷ (codes "versions", whole_data versions)
    ∷ (codes "uploads", whole_data uploads) ∷ []))
reply_body (RulesShown rules) = json (configuration_data rules)
reply_body (StackShown key stack) = json (json_object (
    (codes "key", string key) ∷ (codes "changed", moment_data stack.changed)
    ∷ (codes "versions", array_of (versions_data stack.versions)) ∷ []))
reply_body (UploadShown number upload) = json (json_object (
    (codes "upload", whole_data number) ∷ (codes "key", string upload.key) ∷ (codes "class", class_data upload.class)
    ∷ (codes "tags", tags_data upload.tags) ∷ (codes "started", moment_data upload.started)
    ∷ (codes "parts", array_of (map part_data upload.parts)) ∷ []))
reply_body (MetersShown bucket month classes) = json (json_object (
    (codes "bucket", string bucket) ∷ (codes "month", string (month_text month))
    ∷ (codes "classes", array_of (map meters_data classes)) ∷ []))
reply_body (TariffShown tariffs) =
    json (json_object ((codes "tariffs", array_of (map tariff_data tariffs)) ∷ []))
reply_body (Report lines) = csv (report_csv lines)
