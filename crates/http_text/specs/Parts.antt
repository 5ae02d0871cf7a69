-- Members of objects as written, with the comma before them.
use Rattle.std.specs.Prelude.{ℕ, Bool, List, [], ◌++◌, codes, decimal, Option, Some, None}
use Rattle.json.specs.Print.{quoted}
use Rattle.serde_json.specs.Written.{comma_if, compact_text}
use Rattle.moments.specs.Texts.{moment_text}
use Rattle.class_rules.specs.Classes.{class_name}
use Rattle.office_base.specs.Tags.{Tag}
use Rattle.office_base.specs.Versions.{id_text}
use Rattle.office_base.specs.declared.version_id.VersionId.{VersionId}
use Rattle.serde_json.specs.Data.{Data}
use Rattle.uploads.specs.declared.part.Part.{Part}
use Rattle.due_core.specs.declared.action.ActionKind.{ActionKind}
use Rattle.due_core.specs.declared.action.ActionKind.TheVariants.{Transition}
use Rattle.due_core.specs.declared.action.Target.{Target}
use Rattle.due_core.specs.declared.action.Target.TheVariants.{Version, Upload}
use Rattle.http_text.specs.Bodies.{part_data}

-- the class that an object moves to; other actions have none
abbrev pub class_part : ActionKind → List ℕ
class_part (Transition class) = codes ",\"class\":" ++ quoted (class_name class)
class_part other = []

-- the delete marker that was made, if one was
abbrev pub marker_part : Option VersionId → List ℕ
marker_part None = []
marker_part (Some id) = codes ",\"marker\":" ++ quoted (id_text id)

-- what an action is done to: a version by its id, or an upload by its number
abbrev pub target_part : Target → List ℕ
target_part (Version id) = codes ",\"version\":" ++ quoted (id_text id)
target_part (Upload number) = codes ",\"upload\":" ++ decimal number

-- the moment since which a version has been noncurrent; the current one has none
abbrev pub since_part : Option ℕ → List ℕ
since_part None = []
since_part (Some since) = codes ",\"noncurrent_since\":" ++ quoted (moment_text since)

-- a tag as a member, after a comma unless it is the first
abbrev pub tag_part : Bool → Tag → List ℕ
tag_part later tag = comma_if later ++ (quoted tag.0 ++ (codes ":" ++ quoted tag.1))

-- where a tier ends; the last one has no end
abbrev pub upto_part : Option ℕ → List ℕ
upto_part None = []
upto_part (Some upto) = codes ",\"upto\":" ++ decimal upto

-- a value of a list, after a comma unless it is the first
abbrev pub item_part : Bool → Data → List ℕ
item_part later value = comma_if later ++ compact_text value

-- a part of an upload, the same way
abbrev pub upload_part : Bool → ℕ × Part → List ℕ
upload_part later part = comma_if later ++ compact_text (part_data part)
