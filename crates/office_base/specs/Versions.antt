-- How the versions of a key are named.
use Rattle.std.specs.Prelude.{ℕ, ◌^◌, ◌<◌, Bool, false, ◌&&◌, nat_le, List, [], ◌∷◌, codes, decimal}
use Rattle.office_base.specs.declared.version_id.VersionId.{VersionId}
use Rattle.office_base.specs.declared.version_id.VersionId.TheVariants.{Null, Number}

-- the text of a version id: `null` (S3 User Guide, "How S3 Versioning works"), or the number in digits without a
-- leading zero (own)
abbrev pub id_text : VersionId → List ℕ
id_text Null = codes "null"
id_text (Number n) = decimal n

-- a version id in range: null, or a number from 1 to 2^64 - 1
abbrev pub IsVersionId : VersionId → Type 0
IsVersionId Null = Unit {0}
IsVersionId (Number n) = (0 < n) × (n < 2 ^ 64)

-- the first byte is a digit from 1 to 9
abbrev pub begins_with_number : List ℕ → Bool
begins_with_number [] = false
begins_with_number (first ∷ text) = nat_le 49 first && nat_le first 57
