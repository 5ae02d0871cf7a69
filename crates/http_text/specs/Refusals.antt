-- The bodies of replies to refused commands and queries: a name, a number (own), and further details.
use Rattle.std.specs.Prelude.{ℕ, List, [], ◌∷◌, codes}
use Rattle.serde_json.specs.Data.{Data, string}
use Rattle.serde_json.specs.Written.{compact_text}
use Rattle.office_types.specs.declared.refusal.Refusal.{Refusal}
use Rattle.office_types.specs.declared.refusal.Refusal.TheVariants.{BucketExists, NoSuchBucket, NoRules}
use Rattle.office_types.specs.declared.refusal.Refusal.TheVariants.{NotEnabledBefore, NoSuchKey, NoSuchVersion}
use Rattle.office_types.specs.declared.refusal.Refusal.TheVariants.{IsMarker, NoSuchUpload, BadPart, NoParts}
use Rattle.office_types.specs.declared.refusal.Refusal.TheVariants.{MonthNotOver, AlreadyClosed, EarlierMonthOpen}
use Rattle.office_types.specs.declared.refusal.Refusal.TheVariants.{NoTariff, DueActions, Full, ClockEnd, TokenReused}
use Rattle.office_types.specs.declared.refusal.Refusal.TheVariants.{NoMemory}
use Rattle.http_text.specs.Bodies.{target_field}
use Rattle.http_text.specs.Json.{json_object, whole_data, moment_data}
use Rattle.http_text.specs.Names.{month_text, what_name}

-- a body with the name and the number of a refusal, and with further members if there are any
abbrev pub error_data : List ℕ → ℕ → List (List ℕ × Data) → Data
error_data name n more = json_object ((codes "error", string name) ∷ (codes "number", whole_data n) ∷ more)

-- the same, as written, without further members
unfoldable pub error_text : List ℕ → ℕ → List ℕ
error_text name n = compact_text (error_data name n [])

-- the body of each refusal, with the month, the moment, the limit or the due action that it names
abbrev pub refusal_data : Refusal → Data
refusal_data BucketExists = error_data (codes "BucketExists") 80 []
refusal_data NoSuchBucket = error_data (codes "NoSuchBucket") 81 []
refusal_data NoRules = error_data (codes "NoRules") 82 []
refusal_data NotEnabledBefore = error_data (codes "NotEnabledBefore") 83 []
refusal_data NoSuchKey = error_data (codes "NoSuchKey") 50 []
refusal_data NoSuchVersion = error_data (codes "NoSuchVersion") 51 []
refusal_data IsMarker = error_data (codes "IsMarker") 52 []
refusal_data NoSuchUpload = error_data (codes "NoSuchUpload") 60 []
refusal_data BadPart = error_data (codes "BadPart") 61 []
refusal_data NoParts = error_data (codes "NoParts") 62 []
refusal_data (MonthNotOver end) = error_data (codes "MonthNotOver") 84 ((codes "end", moment_data end) ∷ [])
refusal_data AlreadyClosed = error_data (codes "AlreadyClosed") 86 []
refusal_data (EarlierMonthOpen month) =
    error_data (codes "EarlierMonthOpen") 87 ((codes "month", string (month_text month)) ∷ [])
refusal_data NoTariff = error_data (codes "NoTariff") 88 []
refusal_data (DueActions bucket key target) =
    error_data (codes "DueActions") 85
    ((codes "bucket", string bucket) ∷ (codes "key", string key) ∷ target_field target ∷ [])
refusal_data (Full what limit) =
    error_data (codes "Full") 90 ((codes "what", string (what_name what)) ∷ (codes "limit", whole_data limit) ∷ [])
refusal_data (ClockEnd moment) = error_data (codes "ClockEnd") 91 ((codes "moment", whole_data moment) ∷ [])
refusal_data (TokenReused kind) = error_data (codes "TokenReused") 92 ((codes "kind", whole_data kind) ∷ [])
refusal_data NoMemory = error_data (codes "NoMemory") 115 []
