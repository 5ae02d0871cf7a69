-- Numbers and ids, as parts of a path spell them.
use Rattle.std.specs.Prelude.{ℕ, ◌^◌, Bool, ◌&&◌, nat_lt, nat_le, List, length, codes, if◌then◌else◌}
use Rattle.std.specs.Prelude.{Option, Some, None, option_map}
use Rattle.std.specs.Char.{is_ascii_digit}
use Rattle.std.specs.List.{list_all}
use Rattle.std.specs.Str.{bytes_eq}
use Rattle.std.specs.Str.Parse.{digits_value}
use Rattle.office_base.specs.Versions.{begins_with_number}
use Rattle.office_base.specs.declared.version_id.VersionId.{VersionId}
use Rattle.office_base.specs.declared.version_id.VersionId.TheVariants.{Null, Number}

-- each byte is a digit
abbrev pub are_digits : List ℕ → Bool
are_digits text = list_all is_ascii_digit text

-- digits, without a leading zero, of a number from 1 to 2^64 - 1
abbrev pub is_number : List ℕ → Bool
is_number text = are_digits text && begins_with_number text && nat_lt (digits_value 10 text) (2 ^ 64)

-- the number that such digits spell (own)
unfoldable pub number_in : List ℕ → Option ℕ
number_in text = if is_number text then Some (digits_value 10 text) else None

-- the id of a version: the null version (S3 User Guide, "How S3 Versioning works"), or a number (own)
unfoldable pub version_in : List ℕ → Option VersionId
version_in text = if bytes_eq text (codes "null") then Some Null else option_map Number (number_in text)

-- 1 to 5 digits
abbrev pub is_part_number : List ℕ → Bool
is_part_number text = nat_lt 0 (length text) && nat_le (length text) 5 && are_digits text

-- the number of a part of an upload, with or without leading zeros (own)
unfoldable pub part_in : List ℕ → Option ℕ
part_in text = if is_part_number text then Some (digits_value 10 text) else None
