-- What is billed: the lines of an object, a delete marker and a part of an upload. A line is a class and bytes.
use Rattle.std.specs.Prelude.{ℕ, ◌+◌, ◌==◌, max, Bool, true, false, List, [], ◌∷◌, if◌then◌else◌}
use Rattle.class_rules.specs.declared.class.Class.{Class}
use Rattle.class_rules.specs.declared.class.Class.TheVariants.{Standard, StandardIa, OnezoneIa, GlacierIr, Glacier, DeepArchive}
use Rattle.class_rules.specs.declared.billing.Lines.{Lines}

-- the minimum billed size in bytes (S3 User Guide, "Understanding and managing Amazon S3 storage classes"); 0 for none
abbrev pub least_billed : Class → ℕ
least_billed StandardIa = 131_072
least_billed OnezoneIa = 131_072
least_billed GlacierIr = 131_072
least_billed class = 0

-- the archive classes; their objects have an index and a name of their own (S3 User Guide, "Understanding S3 Glacier
-- storage classes for long-term data storage")
abbrev pub is_archive : Class → Bool
is_archive Glacier = true
is_archive DeepArchive = true
is_archive class = false

-- the billed bytes of an object in its own class: in an archive its size plus 32 KiB of index, else at least the
-- minimum
abbrev pub own_bytes : Class → ℕ → ℕ
own_bytes class size = if is_archive class then size + 32_768 else max size (least_billed class)

-- the lines of an object: its own, and in an archive also 8 KiB of name and metadata in STANDARD
abbrev pub object_lines : Class → ℕ → List (Class × ℕ)
object_lines class size = (class, own_bytes class size) ∷ (if is_archive class then (Standard, 8_192) ∷ [] else [])

-- the line of a delete marker: the bytes of its key (S3 User Guide, "Working with delete markers"), in STANDARD (own)
abbrev pub marker_line : ℕ → List (Class × ℕ)
marker_line key_bytes = (Standard, key_bytes) ∷ []

-- the line of a part of an unfinished upload: in the upload's class, or in STANDARD if that is an archive (S3 User
-- Guide, "Multipart upload and pricing"); without a minimum size (own)
abbrev pub part_line : Class → ℕ → List (Class × ℕ)
part_line class size = (if is_archive class then Standard else class, size) ∷ []

-- the lines that a value of the program represents
abbrev pub lines_of : Lines → List (Class × ℕ)
lines_of lines = (lines.class, lines.bytes) ∷ (if lines.standard == 0 then [] else (Standard, lines.standard) ∷ [])
