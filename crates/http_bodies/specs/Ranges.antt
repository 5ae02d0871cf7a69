-- The ranges of the values of fields.
use Rattle.std.specs.Prelude.{ℕ, List, [], Option, Some, None, Result, Ok, Err, ok_or, nat_lt, if◌then◌else◌}
use Rattle.office_base.specs.Sizes.{largest_size}
use Rattle.office_base.specs.Tags.{Tag, are_tags, by_key}
use Rattle.class_rules.specs.Classes.{class_with}
use Rattle.class_rules.specs.declared.class.Class.{Class}
use Rattle.class_rules.specs.declared.class.Class.TheVariants.{Standard}
use Rattle.http_bodies.specs.Flaws.{BodyFlaw, bad_size, unsupported_class, bad_tags}

-- a size has at most 5 TiB (S3 User Guide, "Uploading objects")
abbrev pub size_in_range : ℕ → Result ℕ BodyFlaw
size_in_range bytes = if nat_lt largest_size bytes then Err bad_size else Ok bytes

-- a missing class is STANDARD (S3 User Guide, "Uploading objects")
abbrev pub class_in_range : Option (List ℕ) → Result Class BodyFlaw
class_in_range None = Ok Standard
class_in_range (Some name) = ok_or (class_with name) (unsupported_class name)

-- the tags in the order of their keys (S3 User Guide, "Categorizing your objects using tags"); no tags if they are
-- missing (own)
abbrev pub tags_in_range : Option (List Tag) → Result (List Tag) BodyFlaw
tags_in_range None = Ok []
tags_in_range (Some pairs) = if are_tags pairs then Ok (by_key pairs) else Err bad_tags
