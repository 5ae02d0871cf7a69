-- How replies name things (own, but for the words of the S3 User Guide).
use Rattle.std.specs.Prelude.{ℕ, ◌/◌, List, ◌++◌, codes}
use Rattle.moments.specs.Months.{year_of, month_of_year}
use Rattle.moments.specs.Texts.{two_digits}
use Rattle.stacks.specs.declared.version.Versioning.{Versioning}
use Rattle.stacks.specs.declared.version.Versioning.TheVariants.{Unversioned, Enabled, Suspended}
use Rattle.due_core.specs.declared.action.ActionKind.{ActionKind}
use Rattle.due_core.specs.declared.action.ActionKind.TheVariants.{Remove, Transition, Marker, Abort}
use Rattle.office_types.specs.declared.refusal.What.{What}
use Rattle.office_types.specs.declared.refusal.What.TheVariants.{Buckets, Versions, Uploads, Parts, Names, Rules}
use Rattle.office_types.specs.declared.refusal.What.TheVariants.{Tariffs}

-- a month as 2024-01
unfoldable pub month_text : ℕ → List ℕ
month_text month =
    two_digits (year_of month / 100) ++ (two_digits (year_of month) ++ (codes "-" ++ two_digits (month_of_year month)))

-- whether versioning is on (S3 User Guide, "How S3 Versioning works")
abbrev pub versioning_name : Versioning → List ℕ
versioning_name Unversioned = codes "Unversioned"
versioning_name Enabled = codes "Enabled"
versioning_name Suspended = codes "Suspended"

-- what a lifecycle action does
abbrev pub action_name : ActionKind → List ℕ
action_name Remove = codes "remove"
action_name (Transition class) = codes "transition"
action_name Marker = codes "marker"
action_name Abort = codes "abort"

-- what the office holds a limited number of
abbrev pub what_name : What → List ℕ
what_name Buckets = codes "Buckets"
what_name Versions = codes "Versions"
what_name Uploads = codes "Uploads"
what_name Parts = codes "Parts"
what_name Names = codes "Names"
what_name Rules = codes "Rules"
what_name Tariffs = codes "Tariffs"
