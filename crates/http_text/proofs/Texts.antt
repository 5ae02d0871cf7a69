-- The bodies, written out.
use Rattle.std.proofs.Common.{◌≡◌, ℕ, false, List, ◌++◌, map, codes, decimal, refl, Option, Some, None, Ok, Err}
use Rattle.json.specs.Print.{quoted}
use Rattle.serde_json.specs.View.{items_of}
use Rattle.serde_json.specs.Written.{compact_text, items_text}
use Rattle.serde_json.proofs.OnLiterals.{serde_json_on_literals}
use Rattle.class_rules.specs.Classes.{class_name}
use Rattle.moments.specs.Texts.{moment_text}
use Rattle.office_base.specs.Versions.{id_text}
use Rattle.office_base.specs.declared.version_id.VersionId.{VersionId}
use Rattle.stacks.specs.declared.version.Versioning.{Versioning}
use Rattle.due_core.specs.declared.action.ActionKind.{ActionKind}
use Rattle.due_core.specs.declared.action.ActionKind.TheVariants as action
use Rattle.due_core.specs.declared.action.Target.{Target}
use Rattle.due_core.specs.declared.action.Target.TheVariants as target
use Rattle.office_types.specs.declared.reply.ClassMeters.{ClassMeters}
use Rattle.office_types.specs.declared.reply.Reply.TheVariants.{BucketMade, VersioningSet, RulesSet, Stored, Deleted, VersionDeleted, TagsSet, UploadStarted, PartStored, Aborted, Chosen, NothingDue}
use Rattle.office_types.specs.declared.reply.Reply.TheVariants.{TariffSet, Closed, BucketShown, MetersShown}
use Rattle.office_types.specs.declared.refusal.Refusal.TheVariants.{BucketExists, NoSuchBucket, NoRules, NotEnabledBefore, NoSuchKey, NoSuchVersion, IsMarker, NoSuchUpload, BadPart, NoParts}
use Rattle.office_types.specs.declared.refusal.Refusal.TheVariants.{MonthNotOver, AlreadyClosed, EarlierMonthOpen, NoTariff, DueActions, Full, ClockEnd, TokenReused, NoMemory}
use Rattle.office_types.specs.declared.refusal.What.{What}
use Rattle.http_text.specs.Bodies.{meters_data, classes_text}
use Rattle.http_text.specs.Json.{text_object, number_object}
use Rattle.http_text.specs.Names.{month_text, versioning_name, action_name, what_name}
use Rattle.http_text.specs.Parts.{class_part, marker_part, target_part}
use Rattle.http_text.specs.Refusals.{error_text}
use Rattle.http_text.specs.Replies.{body_text}

-- ---- objects with one member

pub text_object_is : (name text : List ℕ) → (codes "{" ++ quoted name) ++ ((codes ":" ++ quoted text) ++ codes "}") ≡ text_object name text
unfolding serde_json_on_literals text_object
text_object_is name text = refl

pub number_object_is : (name : List ℕ) (n : ℕ) → (codes "{" ++ quoted name) ++ ((codes ":" ++ decimal n) ++ codes "}") ≡ number_object name n
unfolding serde_json_on_literals number_object
number_object_is name n = refl

pub made_is : (b : List ℕ) → text_object (codes "bucket") b ≡ body_text (Ok (BucketMade b))
unfolding text_object body_text
made_is b = refl

pub versioning_is : (v : Versioning) → text_object (codes "versioning") (versioning_name v) ≡ body_text (Ok (VersioningSet v))
unfolding text_object body_text
versioning_is v = refl

pub rules_is : (n : ℕ) → number_object (codes "rules") n ≡ body_text (Ok (RulesSet n))
unfolding number_object body_text
rules_is n = refl

pub marker_is : (v : VersionId) → text_object (codes "marker") (id_text v) ≡ body_text (Ok (Deleted (Some v)))
unfolding text_object body_text
marker_is v = refl

pub null_is : text_object (codes "removed") (codes "null") ≡ body_text (Ok (Deleted None))
unfolding text_object body_text
null_is = refl

pub removed_is : (v : VersionId) → text_object (codes "removed") (id_text v) ≡ body_text (Ok (VersionDeleted v))
unfolding text_object body_text
removed_is v = refl

pub tags_is : (n : ℕ) → number_object (codes "tags") n ≡ body_text (Ok (TagsSet n))
unfolding number_object body_text
tags_is n = refl

pub upload_is : (n : ℕ) → number_object (codes "upload") n ≡ body_text (Ok (UploadStarted n))
unfolding number_object body_text
upload_is n = refl

pub part_is : (n : ℕ) → number_object (codes "part") n ≡ body_text (Ok (PartStored n))
unfolding number_object body_text
part_is n = refl

pub aborted_is : (n : ℕ) → number_object (codes "aborted") n ≡ body_text (Ok (Aborted n))
unfolding number_object body_text
aborted_is n = refl

pub nothing_is : text_object (codes "action") (codes "none") ≡ body_text (Ok NothingDue)
unfolding text_object body_text
nothing_is = refl

pub tariff_is : text_object (codes "tariff") (codes "set") ≡ body_text (Ok TariffSet)
unfolding text_object body_text
tariff_is = refl

pub closed_is : (m : ℕ) → text_object (codes "closed") (month_text m) ≡ body_text (Ok (Closed m))
unfolding text_object body_text
closed_is m = refl

pub ruleset reply_texts = (made_is, versioning_is, rules_is, marker_is, null_is, removed_is, tags_is, upload_is, part_is, aborted_is, nothing_is, tariff_is, closed_is)

-- ---- the other replies

pub stored_is : (m : ℕ) (v : VersionId)
    → (codes "{\"moment\":" ++ quoted (moment_text m)) ++ ((codes ",\"version\":" ++ quoted (id_text v)) ++ codes "}") ≡ body_text (Ok (Stored m v))
unfolding serde_json_on_literals body_text
stored_is m v = refl

pub shown_is : (b : List ℕ) (r u : ℕ) (w : Versioning) (n : ℕ)
    → (codes "{\"bucket\":" ++ quoted b) ++ ((codes ",\"rules\":" ++ decimal r) ++ ((codes ",\"uploads\":" ++ decimal u)
    ++ ((codes ",\"versioning\":" ++ quoted (versioning_name w)) ++ ((codes ",\"versions\":" ++ decimal n) ++ codes "}"))))
    ≡ body_text (Ok (BucketShown b r u w n))
unfolding serde_json_on_literals body_text
shown_is b r u w n = refl

pub meters_is : (m : ClassMeters)
    → codes "{\"byte_ms\":" ++ (quoted (decimal m.byte_ms) ++ ((codes ",\"class\":" ++ quoted (class_name m.class))
    ++ (codes ",\"early_byte_ms\":" ++ (quoted (decimal m.early_byte_ms) ++ (codes ",\"moves\":" ++ (decimal m.moves ++ codes "}"))))))
    ≡ compact_text (meters_data m)
unfolding serde_json_on_literals
meters_is m = refl

pub classes_is : (classes : List ClassMeters) → codes "[" ++ items_text false (items_of (map meters_data classes)) ≡ classes_text classes
unfolding classes_text
classes_is classes = refl

pub usage_is : (b : List ℕ) (m : ℕ) (cs : List ClassMeters)
    → (codes "{\"bucket\":" ++ quoted b) ++ (codes ",\"classes\":" ++ (classes_text cs ++ ((codes ",\"month\":" ++ quoted (month_text m)) ++ codes "}")))
    ≡ body_text (Ok (MetersShown b m cs))
unfolding serde_json_on_literals body_text classes_text
usage_is b m cs = refl

-- an action, by its parts
abbrev pub chosen_parts : ActionKind → List ℕ → Target → List ℕ → ℕ → Option VersionId → List ℕ
chosen_parts kind key on rule since marker =
    (codes "{\"action\":" ++ quoted (action_name kind)) ++ (class_part kind ++ (codes ",\"key\":" ++ (quoted key ++ (marker_part marker
    ++ ((codes ",\"moment\":" ++ quoted (moment_text since)) ++ ((codes ",\"rule\":" ++ quoted rule) ++ (target_part on ++ codes "}")))))))

pub chosen_is : (kind : ActionKind) (key : List ℕ) (on : Target) (rule : List ℕ) (since : ℕ) (marker : Option VersionId)
    → chosen_parts kind key on rule since marker ≡ body_text (Ok (Chosen kind key on rule since marker))
unfolding serde_json_on_literals body_text
chosen_is action.Remove key (target.Version id) rule since None = refl
chosen_is action.Remove key (target.Version id) rule since (Some made) = refl
chosen_is action.Remove key (target.Upload n) rule since None = refl
chosen_is action.Remove key (target.Upload n) rule since (Some made) = refl
chosen_is (action.Transition class) key (target.Version id) rule since None = refl
chosen_is (action.Transition class) key (target.Version id) rule since (Some made) = refl
chosen_is (action.Transition class) key (target.Upload n) rule since None = refl
chosen_is (action.Transition class) key (target.Upload n) rule since (Some made) = refl
chosen_is action.Marker key (target.Version id) rule since None = refl
chosen_is action.Marker key (target.Version id) rule since (Some made) = refl
chosen_is action.Marker key (target.Upload n) rule since None = refl
chosen_is action.Marker key (target.Upload n) rule since (Some made) = refl
chosen_is action.Abort key (target.Version id) rule since None = refl
chosen_is action.Abort key (target.Version id) rule since (Some made) = refl
chosen_is action.Abort key (target.Upload n) rule since None = refl
chosen_is action.Abort key (target.Upload n) rule since (Some made) = refl

-- ---- refusals

pub error_is : (name : List ℕ) (n : ℕ) → (codes "{\"error\":" ++ quoted name) ++ ((codes ",\"number\":" ++ decimal n) ++ codes "}") ≡ error_text name n
unfolding serde_json_on_literals error_text
error_is name n = refl

pub not_over_is : (end : ℕ)
    → (codes "{\"end\":" ++ quoted (moment_text end)) ++ ((codes ",\"error\":\"MonthNotOver\",\"number\":" ++ decimal 84) ++ codes "}") ≡ body_text (Err (MonthNotOver end))
unfolding serde_json_on_literals body_text
not_over_is end = refl

pub earlier_is : (m : ℕ)
    → (codes "{\"error\":\"EarlierMonthOpen\",\"month\":" ++ quoted (month_text m)) ++ ((codes ",\"number\":" ++ decimal 87) ++ codes "}") ≡ body_text (Err (EarlierMonthOpen m))
unfolding serde_json_on_literals body_text
earlier_is m = refl

pub due_is : (b key : List ℕ) (on : Target)
    → (codes "{\"bucket\":" ++ quoted b) ++ (codes ",\"error\":\"DueActions\",\"key\":" ++ (quoted key ++ ((codes ",\"number\":" ++ decimal 85) ++ (target_part on ++ codes "}"))))
    ≡ body_text (Err (DueActions b key on))
unfolding serde_json_on_literals body_text
due_is b key (target.Version id) = refl
due_is b key (target.Upload n) = refl

pub full_is : (w : What) (n : ℕ)
    → (codes "{\"error\":\"Full\",\"limit\":" ++ decimal n) ++ ((codes ",\"number\":" ++ decimal 90) ++ ((codes ",\"what\":" ++ quoted (what_name w)) ++ codes "}"))
    ≡ body_text (Err (Full w n))
unfolding serde_json_on_literals body_text
full_is w n = refl

pub end_is : (n : ℕ)
    → (codes "{\"error\":\"ClockEnd\",\"moment\":" ++ decimal n) ++ ((codes ",\"number\":" ++ decimal 91) ++ codes "}") ≡ body_text (Err (ClockEnd n))
unfolding serde_json_on_literals body_text
end_is n = refl

pub reused_is : (n : ℕ)
    → (codes "{\"error\":\"TokenReused\",\"kind\":" ++ decimal n) ++ ((codes ",\"number\":" ++ decimal 92) ++ codes "}") ≡ body_text (Err (TokenReused n))
unfolding serde_json_on_literals body_text
reused_is n = refl

pub exists_is : error_text (codes "BucketExists") 80 ≡ body_text (Err BucketExists)
unfolding body_text error_text
exists_is = refl

pub missing_is : error_text (codes "NoSuchBucket") 81 ≡ body_text (Err NoSuchBucket)
unfolding body_text error_text
missing_is = refl

pub no_rules_is : error_text (codes "NoRules") 82 ≡ body_text (Err NoRules)
unfolding body_text error_text
no_rules_is = refl

pub not_enabled_is : error_text (codes "NotEnabledBefore") 83 ≡ body_text (Err NotEnabledBefore)
unfolding body_text error_text
not_enabled_is = refl

pub no_key_is : error_text (codes "NoSuchKey") 50 ≡ body_text (Err NoSuchKey)
unfolding body_text error_text
no_key_is = refl

pub no_version_is : error_text (codes "NoSuchVersion") 51 ≡ body_text (Err NoSuchVersion)
unfolding body_text error_text
no_version_is = refl

pub is_marker_is : error_text (codes "IsMarker") 52 ≡ body_text (Err IsMarker)
unfolding body_text error_text
is_marker_is = refl

pub no_upload_is : error_text (codes "NoSuchUpload") 60 ≡ body_text (Err NoSuchUpload)
unfolding body_text error_text
no_upload_is = refl

pub bad_part_is : error_text (codes "BadPart") 61 ≡ body_text (Err BadPart)
unfolding body_text error_text
bad_part_is = refl

pub no_parts_is : error_text (codes "NoParts") 62 ≡ body_text (Err NoParts)
unfolding body_text error_text
no_parts_is = refl

pub already_closed_is : error_text (codes "AlreadyClosed") 86 ≡ body_text (Err AlreadyClosed)
unfolding body_text error_text
already_closed_is = refl

pub no_tariff_is : error_text (codes "NoTariff") 88 ≡ body_text (Err NoTariff)
unfolding body_text error_text
no_tariff_is = refl

pub no_memory_is : error_text (codes "NoMemory") 115 ≡ body_text (Err NoMemory)
unfolding body_text error_text
no_memory_is = refl

pub ruleset refusal_texts = (
  exists_is,
  missing_is,
  no_rules_is,
  not_enabled_is,
  no_key_is,
  no_version_is,
  is_marker_is,
  no_upload_is,
  bad_part_is,
  no_parts_is,
  already_closed_is,
  no_tariff_is,
  no_memory_is,
)
