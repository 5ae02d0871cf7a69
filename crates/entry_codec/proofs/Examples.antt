-- Worked examples, computed.
use Rattle.std.proofs.Common.{◌≡◌, ℕ, ◌-◌, ◌^◌, false, List, [], ◌∷◌, ◌++◌, length, take, drop, Some, None, refl}
use Rattle.std.specs.Prelude.{Ok, Err, codes, ⊤}
use Rattle.std.specs.List.{repeat}
use Rattle.std.specs.Str.{is_utf8, chars}
use Rattle.std.proofs.Math.Utf8.{encode}
use Rattle.office_types.specs.declared.command.Command.TheVariants as command
use Rattle.office_types.specs.Entries.{entry_at, entry_with}
use Rattle.office_types.specs.Tokens.{is_token}
use Rattle.office_types.specs.declared.command.Entry.{Entry}
use Rattle.class_rules.specs.declared.class.Class.TheVariants.{Glacier}
use Rattle.tariff.specs.declared.tiers.Tier.{Tier}
use Rattle.tariff.specs.Prices.{Prices, one_tier}
use Rattle.office_base.specs.Names.{is_bucket_name}
use Rattle.office_base.specs.Keys.{is_key}
use Rattle.office_base.specs.Tags.{is_tag}
use Rattle.office_base.specs.declared.version_id.VersionId.TheVariants.{Null, Number}
use Rattle.entry_codec.specs.Formats.{front_items}
use Rattle.entry_codec.specs.Fields.{format, moment_format, token_format, utf8_text, tag_format, tier_format}
use Rattle.entry_codec.specs.Kinds.{head_format, fields_of}
use Rattle.entry_codec.specs.declared.kinds.Kind.TheVariants as kind
use Rattle.entry_codec.specs.Spelling.{fields_spelling, head_spelling, command_spelling, spelling}
use Rattle.entry_codec.specs.Reading.{value_at, values_at, kind_at, token_at, command_at, entry_of}

-- what an example unfolds to compute
unfoldable to_compute : ⊤
unfolding entry_of command_at token_at kind_at value_at spelling command_spelling head_spelling fields_spelling moment_format head_format token_format
    format front_items tag_format tier_format utf8_text is_token is_bucket_name is_key is_tag is_utf8 chars encode
to_compute = tt

-- ---- a bucket is made at 2024-01-01 00:00 UTC

abbrev logs_made : Entry
logs_made = entry_at 1_704_067_200_000 (command.CreateBucket (codes "logs"))

-- 2024-01-01 00:00 UTC in ms
abbrev moment_bytes : List ℕ
moment_bytes = 0x00 ∷ 0x00 ∷ 0x01 ∷ 0x8C ∷ 0xC2 ∷ 0x51 ∷ 0xF4 ∷ 0x00 ∷ []

-- `logs`
abbrev name_bytes : List ℕ
name_bytes = 0x00 ∷ 0x04 ∷ 0x6C ∷ 0x6F ∷ 0x67 ∷ 0x73 ∷ []

abbrev logs_bytes : List ℕ
logs_bytes = moment_bytes ++ 0x01 ∷ name_bytes

made_spelled : spelling logs_made ≡ logs_bytes
unfolding to_compute
made_spelled = refl

made_read : entry_of logs_bytes ≡ Ok logs_made
unfolding to_compute
made_read = refl

-- a byte after the last field is a fault at its own offset
made_longer : entry_of (logs_bytes ++ 0x00 ∷ []) ≡ Err 15
unfolding to_compute
made_longer = refl

-- a name that is cut off is a fault at the offset of its length
made_shorter : entry_of (take 14 logs_bytes) ≡ Err 9
unfolding to_compute
made_shorter = refl

-- `Logs` is no name
capital : entry_of (moment_bytes ++ 0x01 ∷ 0x00 ∷ 0x04 ∷ 0x4C ∷ drop 3 name_bytes) ≡ Err 9
unfolding to_compute
capital = refl

nothing : entry_of [] ≡ Err 0
unfolding to_compute
nothing = refl

moment_cut : entry_of (take 7 logs_bytes) ≡ Err 0
unfolding to_compute
moment_cut = refl

-- 2100-01-01 00:00 UTC, 00 00 03 bb 2c c3 d8 00, is no moment
moment_past : entry_of (0x00 ∷ 0x00 ∷ 0x03 ∷ 0xBB ∷ 0x2C ∷ 0xC3 ∷ 0xD8 ∷ 0x00 ∷ drop 8 logs_bytes) ≡ Err 0
unfolding to_compute
moment_past = refl

no_kind : entry_of moment_bytes ≡ Err 8
unfolding to_compute
no_kind = refl

kind_00 : entry_of (moment_bytes ++ 0x00 ∷ name_bytes) ≡ Err 8
unfolding to_compute
kind_00 = refl

kind_11 : entry_of (moment_bytes ++ 0x11 ∷ name_bytes) ≡ Err 8
unfolding to_compute
kind_11 = refl

-- ---- the same with the token `t1`

abbrev once_made : Entry
once_made = entry_with 1_704_067_200_000 (Some (codes "t1")) (command.CreateBucket (codes "logs"))

-- the kind is 80 higher, and the token stands after it
abbrev once_bytes : List ℕ
once_bytes = moment_bytes ++ 0x81 ∷ 0x02 ∷ 0x74 ∷ 0x31 ∷ name_bytes

once_spelled : spelling once_made ≡ once_bytes
unfolding to_compute
once_spelled = refl

once_read : entry_of once_bytes ≡ Ok once_made
unfolding to_compute
once_read = refl

-- an empty token, one with a space, and one that is cut off are faults at the offset of the length
token_empty : entry_of (moment_bytes ++ 0x81 ∷ 0x00 ∷ name_bytes) ≡ Err 9
unfolding to_compute
token_empty = refl

token_space : entry_of (moment_bytes ++ 0x81 ∷ 0x02 ∷ 0x74 ∷ 0x20 ∷ name_bytes) ≡ Err 9
unfolding to_compute
token_space = refl

token_cut : entry_of (take 11 once_bytes) ≡ Err 9
unfolding to_compute
token_cut = refl

no_token : entry_of (take 9 once_bytes) ≡ Err 9
unfolding to_compute
no_token = refl

-- the name after the token is a field of its own
once_shorter : entry_of (take 17 once_bytes) ≡ Err 12
unfolding to_compute
once_shorter = refl

-- a token of 64 bytes is one, and of 65 none
longest : entry_of (moment_bytes ++ 0x81 ∷ 0x40 ∷ repeat 64 (0x61 ∷ []) ++ name_bytes)
    ≡ Ok (entry_with 1_704_067_200_000 (Some (repeat 64 (0x61 ∷ []))) (command.CreateBucket (codes "logs")))
unfolding to_compute
longest = refl

too_long : entry_of (moment_bytes ++ 0x81 ∷ 0x41 ∷ repeat 65 (0x61 ∷ []) ++ name_bytes) ≡ Err 9
unfolding to_compute
too_long = refl

-- rules, acts and prices carry none, and no kind is 80 or 90
rules_once : entry_of (moment_bytes ++ 0x83 ∷ 0x02 ∷ 0x74 ∷ 0x31 ∷ name_bytes) ≡ Err 8
unfolding to_compute
rules_once = refl

act_once : entry_of (moment_bytes ++ 0x8D ∷ 0x02 ∷ 0x74 ∷ 0x31 ∷ name_bytes) ≡ Err 8
unfolding to_compute
act_once = refl

prices_once : entry_of (moment_bytes ++ 0x8E ∷ 0x02 ∷ 0x74 ∷ 0x31 ∷ name_bytes) ≡ Err 8
unfolding to_compute
prices_once = refl

kind_80 : entry_of (moment_bytes ++ 0x80 ∷ 0x02 ∷ 0x74 ∷ 0x31 ∷ name_bytes) ≡ Err 8
unfolding to_compute
kind_80 = refl

kind_90 : entry_of (moment_bytes ++ 0x90 ∷ 0x02 ∷ 0x74 ∷ 0x31 ∷ name_bytes) ≡ Err 8
unfolding to_compute
kind_90 = refl

-- ---- 1,000 bytes are put at that moment under the key `a`, in GLACIER, with the tags keep: no and kind: raw

abbrev a_put : Entry
a_put = record {
  moment = 1_704_067_200_000;
  token = None;
  command = command.Put (codes "logs") (codes "a") 1_000 Glacier ((codes "keep", codes "no") ∷ (codes "kind", codes "raw") ∷ []);
}

-- up to the key: 05, `logs`, `a`
abbrev key_bytes : List ℕ
key_bytes = moment_bytes ++ 0x05 ∷ name_bytes ++ 0x00 ∷ 0x01 ∷ 0x61 ∷ []

abbrev size_bytes : List ℕ
size_bytes = 0x00 ∷ 0x00 ∷ 0x00 ∷ 0x00 ∷ 0x00 ∷ 0x00 ∷ 0x03 ∷ 0xE8 ∷ []

-- up to the class, which has rank 4
abbrev class_bytes : List ℕ
class_bytes = key_bytes ++ size_bytes ++ 0x04 ∷ []

abbrev keep_bytes : List ℕ
keep_bytes = 0x00 ∷ 0x04 ∷ 0x6B ∷ 0x65 ∷ 0x65 ∷ 0x70 ∷ 0x00 ∷ 0x02 ∷ 0x6E ∷ 0x6F ∷ []

abbrev kind_bytes : List ℕ
kind_bytes = 0x00 ∷ 0x04 ∷ 0x6B ∷ 0x69 ∷ 0x6E ∷ 0x64 ∷ 0x00 ∷ 0x03 ∷ 0x72 ∷ 0x61 ∷ 0x77 ∷ []

abbrev put_bytes : List ℕ
put_bytes = class_bytes ++ 0x02 ∷ keep_bytes ++ kind_bytes

put_spelled : spelling a_put ≡ put_bytes
unfolding to_compute
put_spelled = refl

put_read : entry_of put_bytes ≡ Ok a_put
unfolding to_compute
put_read = refl

-- the number of tags is missing, or above 10
no_tags : entry_of class_bytes ≡ Err 27
unfolding to_compute
no_tags = refl

eleven_tags : entry_of (class_bytes ++ 0x0B ∷ keep_bytes ++ kind_bytes) ≡ Err 27
unfolding to_compute
eleven_tags = refl

-- whatever breaks in the tags: they are one field
tag_cut : entry_of (take 48 put_bytes) ≡ Err 27
unfolding to_compute
tag_cut = refl

same_key : entry_of (class_bytes ++ 0x02 ∷ keep_bytes ++ keep_bytes) ≡ Err 27
unfolding to_compute
same_key = refl

falling_keys : entry_of (class_bytes ++ 0x02 ∷ kind_bytes ++ keep_bytes) ≡ Err 27
unfolding to_compute
falling_keys = refl

empty_key_of_tag : entry_of (class_bytes ++ 0x01 ∷ 0x00 ∷ 0x00 ∷ 0x00 ∷ 0x00 ∷ []) ≡ Err 27
unfolding to_compute
empty_key_of_tag = refl

-- one tag, and bytes after it
one_tag : entry_of (class_bytes ++ 0x01 ∷ keep_bytes ++ kind_bytes) ≡ Err 38
unfolding to_compute
one_tag = refl

put_longer : entry_of (put_bytes ++ 0x00 ∷ []) ≡ Err 49
unfolding to_compute
put_longer = refl

-- a name of 65,535 bytes
name_too_long : entry_of (moment_bytes ++ 0x05 ∷ 0xFF ∷ 0xFF ∷ drop 11 put_bytes) ≡ Err 9
unfolding to_compute
name_too_long = refl

empty_key : entry_of (moment_bytes ++ 0x05 ∷ name_bytes ++ 0x00 ∷ 0x00 ∷ drop 18 put_bytes) ≡ Err 15
unfolding to_compute
empty_key = refl

-- 5 x 2^40 + 1 bytes
size_too_large : entry_of (key_bytes ++ 0x00 ∷ 0x00 ∷ 0x05 ∷ 0x00 ∷ 0x00 ∷ 0x00 ∷ 0x00 ∷ 0x01 ∷ drop 26 put_bytes) ≡ Err 18
unfolding to_compute
size_too_large = refl

size_cut : entry_of (take 25 put_bytes) ≡ Err 18
unfolding to_compute
size_cut = refl

no_such_class : entry_of (key_bytes ++ size_bytes ++ 0x06 ∷ 0x00 ∷ []) ≡ Err 26
unfolding to_compute
no_such_class = refl

no_class : entry_of (take 26 put_bytes) ≡ Err 26
unfolding to_compute
no_class = refl

abbrev zeros : List ℕ
zeros = repeat 32 (0x00 ∷ [])

abbrev all_ones : List ℕ
all_ones = repeat 8 (0xFF ∷ [])

-- ---- the other kinds, each in an entry of that moment

suspended : command_spelling None (command.SetVersioning (codes "logs") false) ≡ 0x02 ∷ name_bytes ++ 0x02 ∷ []
unfolding to_compute
suspended = refl

null_deleted : command_spelling None (command.DeleteVersion (codes "logs") (codes "a") Null)
    ≡ 0x07 ∷ name_bytes ++ 0x00 ∷ 0x01 ∷ 0x61 ∷ 0x00 ∷ 0x00 ∷ 0x00 ∷ 0x00 ∷ 0x00 ∷ 0x00 ∷ 0x00 ∷ 0x00 ∷ []
unfolding to_compute
null_deleted = refl

third_deleted : command_spelling None (command.DeleteVersion (codes "logs") (codes "a") (Number 3))
    ≡ 0x07 ∷ name_bytes ++ 0x00 ∷ 0x01 ∷ 0x61 ∷ 0x00 ∷ 0x00 ∷ 0x00 ∷ 0x00 ∷ 0x00 ∷ 0x00 ∷ 0x00 ∷ 0x03 ∷ []
unfolding to_compute
third_deleted = refl

part_put : command_spelling None (command.PutPart (codes "logs") 1 5 1_000)
    ≡ 0x0A ∷ name_bytes ++ (0x00 ∷ 0x00 ∷ 0x00 ∷ 0x00 ∷ 0x00 ∷ 0x00 ∷ 0x00 ∷ 0x01 ∷ []) ++ (0x00 ∷ 0x00 ∷ 0x00 ∷ 0x05 ∷ []) ++ size_bytes
unfolding to_compute
part_put = refl

abbrev one_bytes : List ℕ
one_bytes = 0x00 ∷ 0x00 ∷ 0x00 ∷ 0x00 ∷ 0x00 ∷ 0x00 ∷ 0x00 ∷ 0x01 ∷ []

abbrev key_a : List ℕ
key_a = 0x00 ∷ 0x01 ∷ 0x61 ∷ []

dropped : command_spelling None (command.DropRules (codes "logs")) ≡ 0x04 ∷ name_bytes
unfolding to_compute
dropped = refl

deleted : command_spelling None (command.Delete (codes "logs") (codes "a")) ≡ 0x06 ∷ name_bytes ++ key_a
unfolding to_compute
deleted = refl

tagged : command_spelling None (command.SetTags (codes "logs") (codes "a") (Number 1) []) ≡ 0x08 ∷ name_bytes ++ key_a ++ one_bytes ++ 0x00 ∷ []
unfolding to_compute
tagged = refl

started : command_spelling None (command.StartUpload (codes "logs") (codes "a") Glacier []) ≡ 0x09 ∷ name_bytes ++ key_a ++ 0x04 ∷ 0x00 ∷ []
unfolding to_compute
started = refl

completed : command_spelling None (command.Complete (codes "logs") 1) ≡ 0x0B ∷ name_bytes ++ one_bytes
unfolding to_compute
completed = refl

aborted : command_spelling None (command.Abort (codes "logs") 1) ≡ 0x0C ∷ name_bytes ++ one_bytes
unfolding to_compute
aborted = refl

acted : command_spelling None (command.Act (codes "logs")) ≡ 0x0D ∷ name_bytes
unfolding to_compute
acted = refl

-- 2024-01 is the month of this number
january_closed : command_spelling None (command.Close 648) ≡ 0x0F ∷ 0x07 ∷ 0xE8 ∷ 0x01 ∷ []
unfolding to_compute
january_closed = refl

january_read : values_at (fields_of kind.Close) 12 (0x07 ∷ 0xE8 ∷ 0x01 ∷ []) ≡ Ok ((2024, (1, tt)), [])
unfolding to_compute
january_read = refl

-- the year and the month are two fields
year_2100 : values_at (fields_of kind.Close) 12 (0x08 ∷ 0x34 ∷ 0x01 ∷ []) ≡ Err 9
unfolding to_compute
year_2100 = refl

month_13 : values_at (fields_of kind.Close) 12 (0x07 ∷ 0xE8 ∷ 0x0D ∷ []) ≡ Err 11
unfolding to_compute
month_13 = refl

-- each price is a field: here the third, 1,048,577, is too large
third_price : values_at (fields_of kind.SetTariff) 53 ((0x00 ∷ 0x10 ∷ 0x00 ∷ 0x00 ∷ []) ++ (0x00 ∷ 0x00 ∷ 0x00 ∷ 0x01 ∷ []) ++ 0x00 ∷ 0x10 ∷ 0x00 ∷ 0x01 ∷ zeros) ≡ Err 17
unfolding to_compute
third_price = refl

-- part numbers and sizes of parts are read whatever they are, and no id is too large
part_read : values_at (fields_of kind.PutPart) 35 (name_bytes ++ all_ones ++ take 4 all_ones ++ all_ones)
    ≡ Ok ((codes "logs", (2 ^ 64 - 1, (2 ^ 32 - 1, (2 ^ 64 - 1, tt)))), [])
unfolding to_compute
part_read = refl

-- a status that is neither
status_3 : values_at (fields_of kind.SetVersioning) 16 (name_bytes ++ 0x03 ∷ []) ≡ Err 15
unfolding to_compute
status_3 = refl

-- ---- tariffs

-- storage in STANDARD in tiers from a month on, all else at one price for any quantity
abbrev tiered : ℕ → List Tier → Prices
tiered from tiers = record {
  from = from;
  storage = tiers ∷ one_tier 1 ∷ one_tier 2 ∷ one_tier 3 ∷ one_tier 4 ∷ one_tier 5 ∷ [];
  transition = 6 ∷ 7 ∷ 8 ∷ 9 ∷ 10 ∷ [];
}

-- the first GiB-month at 23,000 (0x59D8), all others at 20,000 (0x4E20)
abbrev two_prices : List Tier
two_prices = record { upto = Some 1; price = 23_000 } ∷ record { upto = None; price = 20_000 } ∷ []

abbrev four : ℕ → List ℕ
four n = 0x00 ∷ 0x00 ∷ 0x00 ∷ n ∷ []

-- one tier in nine bytes: one, no end, and the price
abbrev flat_tier : ℕ → List ℕ
flat_tier price = 0x01 ∷ four 0x00 ++ four price

abbrev other_tiers : List ℕ
other_tiers = flat_tier 1 ++ flat_tier 2 ++ flat_tier 3 ++ flat_tier 4 ++ flat_tier 5

abbrev move_prices : List ℕ
move_prices = four 6 ++ four 7 ++ four 8 ++ four 9 ++ four 10

abbrev tiered_bytes : List ℕ
tiered_bytes =
    0x10 ∷ 0x07 ∷ 0xE8 ∷ 0x01 ∷ 0x02 ∷ four 0x01 ++ 0x00 ∷ 0x00 ∷ 0x59 ∷ 0xD8 ∷ four 0x00 ++ 0x00 ∷ 0x00 ∷ 0x4E ∷ 0x20 ∷ other_tiers ++ move_prices

tiers_spelled : command_spelling None (command.SetTariff (tiered 648 two_prices)) ≡ tiered_bytes
unfolding to_compute
tiers_spelled = refl

tiers_read : command_at 94 tiered_bytes ≡ Ok (None, command.SetTariff (tiered 648 two_prices))
unfolding to_compute
tiers_read = refl

-- an entry of it has 94 bytes
tiers_long : length (moment_bytes ++ tiered_bytes) ≡ 94
tiers_long = refl

-- with one tier a class a tariff from January 1970 on has the shorter kind, and a later one has not
plain_spelled : command_spelling None (command.SetTariff (tiered 0 (one_tier 11))) ≡ 0x0E ∷ four 11 ++ four 1 ++ four 2 ++ four 3 ++ four 4 ++ four 5 ++ move_prices
unfolding to_compute
plain_spelled = refl

later_spelled : command_spelling None (command.SetTariff (tiered 1 (one_tier 11))) ≡ 0x10 ∷ 0x07 ∷ 0xB2 ∷ 0x02 ∷ flat_tier 11 ++ other_tiers ++ move_prices
unfolding to_compute
later_spelled = refl

-- so the longer kind of the first one is a fault of the kind, which stands in front of the 77 bytes
plain_in_tiers : command_at 86 (0x10 ∷ 0x07 ∷ 0xB2 ∷ 0x01 ∷ flat_tier 11 ++ other_tiers ++ move_prices) ≡ Err 8
unfolding to_compute
plain_in_tiers = refl

-- the tiers of a class are one field: here those of the second one end twice at the same place
second_tiers : command_at 102 (0x10 ∷ 0x07 ∷ 0xE8 ∷ 0x01 ∷ flat_tier 11 ++ 0x03 ∷ four 5 ++ four 1 ++ four 5 ++ four 1 ++ four 0 ++ four 1 ++ take 36 other_tiers ++ move_prices) ≡ Err 21
unfolding to_compute
second_tiers = refl
