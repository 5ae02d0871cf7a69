-- Storage classes: their names, their order, the moves between them and their minimum storage durations.
use Rattle.std.specs.Prelude.{ℕ, ◌*◌, Bool, false, List, [], ◌∷◌, nat_lt, codes, Option}
use Rattle.std.specs.List.{find}
use Rattle.std.specs.Str.{bytes_eq}
use Rattle.moments.specs.Time.{day}
use Rattle.class_rules.specs.declared.class.Class.{Class}
use Rattle.class_rules.specs.declared.class.Class.TheVariants.{Standard, StandardIa, OnezoneIa, GlacierIr, Glacier, DeepArchive}

-- all classes, warmest first (S3 User Guide, "Understanding and managing Amazon S3 storage classes")
abbrev pub all_classes : List Class
all_classes = Standard ∷ StandardIa ∷ OnezoneIa ∷ GlacierIr ∷ Glacier ∷ DeepArchive ∷ []

-- the name that configurations and reports write
abbrev pub class_name : Class → List ℕ
class_name Standard = codes "STANDARD"
class_name StandardIa = codes "STANDARD_IA"
class_name OnezoneIa = codes "ONEZONE_IA"
class_name GlacierIr = codes "GLACIER_IR"
class_name Glacier = codes "GLACIER"
class_name DeepArchive = codes "DEEP_ARCHIVE"

-- the class with this name (S3 User Guide, "Understanding and managing Amazon S3 storage classes")
abbrev pub class_with : List ℕ → Option Class
class_with name = find (λ class. bytes_eq name (class_name class)) all_classes

-- the place of a class from the warmest, 0, to the coldest, 5
abbrev pub rank_of : Class → ℕ
rank_of Standard = 0
rank_of StandardIa = 1
rank_of OnezoneIa = 2
rank_of GlacierIr = 3
rank_of Glacier = 4
rank_of DeepArchive = 5

-- a lifecycle transition may go to a colder class (S3 User Guide, "Transitioning objects using Amazon S3 Lifecycle"),
-- but not from ONEZONE_IA to GLACIER_IR (own: this one move is left out)
abbrev pub may_move : Class → Class → Bool
may_move OnezoneIa GlacierIr = false
may_move from to = nat_lt (rank_of from) (rank_of to)

-- the minimum storage duration in days (S3 User Guide, "Understanding and managing Amazon S3 storage classes"); 0 for
-- none
abbrev pub least_days : Class → ℕ
least_days Standard = 0
least_days StandardIa = 30
least_days OnezoneIa = 30
least_days GlacierIr = 90
least_days Glacier = 90
least_days DeepArchive = 180

-- the minimum storage duration in milliseconds
abbrev pub least_stay : Class → ℕ
least_stay class = least_days class * day
