-- The fields of entries, each with its format (own).
use Rattle.std.specs.Prelude.{ℕ, Bool, true, false, ◌&&◌, nat_lt, nat_le, ◌==◌, List, Option, Some, None, option_and_then, option_map, unwrap_or, if◌then◌else◌}
use Rattle.std.specs.Prelude.{is_none}
use Rattle.std.specs.Result.{result_ok}
use Rattle.std.specs.Int.{w8, w16, w32, w64}
use Rattle.std.specs.List.{find, list_all}
use Rattle.std.specs.Str.{is_utf8, bytes_eq}
use Rattle.moments.specs.Time.{end_of_time}
use Rattle.office_base.specs.Names.{is_bucket_name}
use Rattle.office_base.specs.Keys.{is_key}
use Rattle.office_base.specs.Sizes.{largest_size}
use Rattle.office_base.specs.Tags.{Tag, is_tag, keys_rise}
use Rattle.office_base.specs.declared.version_id.VersionId.{VersionId}
use Rattle.office_base.specs.declared.version_id.VersionId.TheVariants as version
use Rattle.class_rules.specs.Classes.{all_classes, rank_of}
use Rattle.class_rules.specs.declared.class.Class.{Class}
use Rattle.rules_core.specs.Conditions.{first_flaw}
use Rattle.rules_core.specs.Configurations.{Configuration, has_name, has_midnights, has_texts}
use Rattle.rules_json.specs.Printing.{printed}
use Rattle.rules_json.specs.Reading.{rules_of}
use Rattle.tariff.specs.Prices.{is_price, are_tiers}
use Rattle.tariff.specs.declared.tiers.Tier.{Tier}
use Rattle.office_types.specs.Tokens.{is_token}
use Rattle.entry_codec.specs.Formats.{Format, number, counted_text, ◌such_that◌, pair, list, Code, coded}

-- ---- values that are written as numbers, and configurations, which are written as their texts

-- a class by its rank
abbrev pub ranks : Code ℕ Class
ranks = record {
  code = rank_of;
  has = λ class. true;
  value = λ rank. find (λ class. rank_of class == rank) all_classes;
}

-- versioning that is set (S3 User Guide, "Using versioning in S3 buckets"): 1 to enabled, 2 to suspended
abbrev pub status_code : Bool → ℕ
status_code true = 1
status_code false = 2

-- what such a number sets; none for any other number
abbrev pub status_value : ℕ → Option Bool
status_value status = if status == 1 then Some true else if status == 2 then Some false else None

-- the setting of versioning, written as such a number
abbrev pub statuses : Code ℕ Bool
statuses = record { code = status_code; has = λ enabled. true; value = status_value }

-- the id of a version by its number, the null version (S3 User Guide, "How S3 Versioning works") by 0
abbrev pub id_code : VersionId → ℕ
id_code version.Null = 0
id_code (version.Number n) = n

-- an id that can be written so: the null version, or a number from 1 on
abbrev pub is_id : VersionId → Bool
is_id version.Null = true
is_id (version.Number n) = nat_lt 0 n

-- the id that has this number: the null version for 0
abbrev pub id_value : ℕ → Option VersionId
id_value n = Some (if n == 0 then version.Null else version.Number n)

-- the ids of versions, written as such numbers
abbrev pub ids : Code ℕ VersionId
ids = record { code = id_code; has = is_id; value = id_value }

-- a tier as two numbers: its end, 0 if it has none, and its price
abbrev pub tier_code : Tier → ℕ × ℕ
tier_code tier = (unwrap_or tier.upto 0, tier.price)

-- a tier that can be written so: its end, if it has one, is not 0
abbrev pub is_tier : Tier → Bool
is_tier tier = unwrap_or (option_map (nat_lt 0) tier.upto) true

-- the tier that these two numbers stand for
abbrev pub tier_value : ℕ × ℕ → Option Tier
tier_value numbers = Some (record { upto = (if numbers.0 == 0 then None else Some numbers.0); price = numbers.1 })

-- tiers, written as such numbers
abbrev pub tier_numbers : Code (ℕ × ℕ) Tier
tier_numbers = record { code = tier_code; has = is_tier; value = tier_value }

-- a tier: its end and its price
unfoldable pub tier_format : Format Tier
tier_format = coded (pair (number w32) (number w32)) tier_numbers

-- a text in UTF-8 after its length in two bytes
unfoldable pub utf8_text : Format (List ℕ)
utf8_text = counted_text (number w16) such_that is_utf8

-- a tag: its key and its value
unfoldable pub tag_format : Format Tag
tag_format = pair utf8_text utf8_text

-- tags as an object keeps them, except for their number: each is a tag (S3 User Guide, "Categorizing your objects using
-- tags"), and their keys rise (own)
abbrev pub are_kept : List Tag → Bool
are_kept tags = list_all is_tag tags && keys_rise tags

-- a configuration as it is kept
abbrev pub is_configuration : Configuration → Bool
is_configuration configuration =
    is_none (first_flaw configuration.rules) && list_all has_name configuration.rules
    && list_all has_midnights configuration.rules && list_all has_texts configuration.rules

-- the configuration, if this is its one text
abbrev pub if_printed : List ℕ → Configuration → Option Configuration
if_printed t configuration =
    if is_configuration configuration && bytes_eq t (printed configuration) then Some configuration else None

-- configurations by their texts
abbrev pub rules_texts : Code (List ℕ) Configuration
rules_texts = record {
  code = printed;
  has = is_configuration;
  value = λ t. option_and_then (if_printed t) (result_ok (rules_of t));
}

-- ---- fields

-- a field of an entry, after its kind; Number4 and Number8 have four and eight bytes
pub data Field : Type 0 where
  Name Key Size Rank Tags Rules Status Id Number4 Number8 Price Tiers Year Month : Field

-- what a field holds
abbrev pub ValueOf : Field → Type 0
ValueOf Name = List ℕ
ValueOf Key = List ℕ
ValueOf Size = ℕ
ValueOf Rank = Class
ValueOf Tags = List Tag
ValueOf Rules = Configuration
ValueOf Status = Bool
ValueOf Id = VersionId
ValueOf Number4 = ℕ
ValueOf Number8 = ℕ
ValueOf Price = ℕ
ValueOf Tiers = List Tier
ValueOf Year = ℕ
ValueOf Month = ℕ

-- how each field is written, and its range
unfoldable pub format : (field : Field) → Format (ValueOf field)
format Name = counted_text (number w16) such_that is_bucket_name
format Key = counted_text (number w16) such_that is_key
format Size = number w64 such_that λ size. nat_le size largest_size
format Rank = coded (number w8) ranks
format Tags = list (number w8 such_that λ n. nat_le n 10) tag_format such_that are_kept
format Rules = coded (counted_text (number w32)) rules_texts
format Status = coded (number w8) statuses
format Id = coded (number w64) ids
format Number4 = number w32
format Number8 = number w64
format Price = number w32 such_that is_price
format Tiers = list (number w8 such_that λ n. nat_le n 8) tier_format such_that are_tiers
format Year = number w16 such_that λ year. nat_le 1970 year && nat_le year 2099
format Month = number w8 such_that λ month. nat_le 1 month && nat_le month 12

-- the moment at which an entry begins, in ms
unfoldable pub moment_format : Format ℕ
moment_format = number w64 such_that λ moment. nat_lt moment end_of_time

-- a token after its length in one byte
unfoldable pub token_format : Format (List ℕ)
token_format = counted_text (number w8) such_that is_token
