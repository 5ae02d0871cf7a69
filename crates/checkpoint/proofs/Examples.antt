-- Worked examples, computed.
use Rattle.std.proofs.Common.{◌≡◌, ℕ, List, [], ◌∷◌, ◌++◌, true, false, Some, None, refl, arith}
use Rattle.std.specs.Prelude.{codes, ⊤}
use Rattle.std.specs.List.{repeat}
use Rattle.std.specs.Str.{is_utf8, chars}
use Rattle.std.proofs.Math.Utf8.{encode}
use Rattle.class_rules.specs.declared.class.Class.TheVariants.{Standard}
use Rattle.office_base.specs.Names.{is_bucket_name}
use Rattle.office_base.specs.Keys.{is_key}
use Rattle.office_base.specs.declared.version_id.VersionId.TheVariants.{Null}
use Rattle.tariff.specs.Prices.{Prices, one_tier}
use Rattle.stacks.specs.declared.version.Kind.TheVariants.{Object}
use Rattle.stacks.specs.declared.version.Versioning.TheVariants.{Unversioned}
use Rattle.accrual.specs.declared.monthly.MonthSums.{MonthSums}
use Rattle.office_types.specs.Tokens.{is_token}
use Rattle.office_types.specs.declared.command.Command.TheVariants as command
use Rattle.entry_codec.specs.Fields.{format, moment_format, token_format, utf8_text, tag_format, tier_format}
use Rattle.entry_codec.specs.Kinds.{head_format}
use Rattle.entry_codec.specs.Spelling.{fields_spelling, head_spelling, command_spelling}
use Rattle.slots.specs.Slots.{HoldsBody, text_of}
use Rattle.office_snapshot.specs.Snapshots.{SnapshotRecord}
use Rattle.checkpoint.specs.Combining.{flag_format}
use Rattle.checkpoint.specs.Parts.{four, eight, sixteen, last_format, month_format, open_format, tariff_format, version_head, object_format, version_format, stack_format, stacks_format, part_format}
use Rattle.checkpoint.specs.Parts.{upload_parts_format, fields_format, upload_format, uploads_format, sums_format, rules_format, head_format as bucket_head_format, command_format, kept_format}
use Rattle.checkpoint.specs.Bodies.{front_format, lists_format, buckets_format, parts_format, body_format}

-- what an example unfolds to compute
unfoldable to_compute : ⊤
unfolding body_format parts_format buckets_format lists_format front_format kept_format command_format bucket_head_format rules_format sums_format
    uploads_format upload_format fields_format upload_parts_format part_format stacks_format stack_format version_format object_format version_head
    tariff_format open_format month_format last_format sixteen eight four flag_format command_spelling head_spelling fields_spelling head_format
    format moment_format token_format utf8_text tag_format tier_format is_token is_bucket_name is_key is_utf8 chars encode text_of
to_compute = tt

-- ---- a bucket with one object, both made at 2024-01-01 00:00 UTC, the bucket with the token `t1`

abbrev small : SnapshotRecord
small = record {
  last = Some 1_704_067_200_000;
  first_open = Some 648;
  tariffs = [];
  closed = [];
  buckets = record {
    name = codes "logs";
    bucket = record {
      versioning = Unversioned;
      rules = None;
      rules_since = 1_704_067_200_000;
      stacks = (
        codes "a",
        record {
          changed = 1_704_067_200_000;
          versions = record {
            id = Null;
            kind = Object 5 Standard [] 1_704_067_200_000;
            created = 1_704_067_200_000;
            ceased = 1_704_067_200_000;
          } ∷ [];
        },
      ) ∷ [];
      uploads = [];
      next_version = 1;
      next_upload = 1;
    };
    sums = [];
  } ∷ [];
  kept = record {
    token = codes "t1";
    moment = 1_704_067_200_000;
    marker = false;
    told = 0;
    command = command.CreateBucket (codes "logs");
  } ∷ [];
}

-- 2024-01-01 00:00 UTC in ms
abbrev moment_bytes : List ℕ
moment_bytes = 0x00 ∷ 0x00 ∷ 0x01 ∷ 0x8C ∷ 0xC2 ∷ 0x51 ∷ 0xF4 ∷ 0x00 ∷ []

-- a number below 256 in four bytes, and in eight
abbrev in_four : ℕ → List ℕ
in_four n = 0x00 ∷ 0x00 ∷ 0x00 ∷ n ∷ []

abbrev in_eight : ℕ → List ℕ
in_eight n = 0x00 ∷ 0x00 ∷ 0x00 ∷ 0x00 ∷ 0x00 ∷ 0x00 ∷ 0x00 ∷ n ∷ []

-- `logs`
abbrev name_bytes : List ℕ
name_bytes = 0x00 ∷ 0x04 ∷ 0x6C ∷ 0x6F ∷ 0x67 ∷ 0x73 ∷ []

-- 160 bytes
abbrev small_bytes : List ℕ
small_bytes =
    -- the last moment; January 2024 is open; no tariff, no closed month
    (moment_bytes ++ 0x07 ∷ 0xE8 ∷ 0x01 ∷ 0x00 ∷ in_four 0)
    -- one bucket: its name, unversioned, without rules since then, the next version and the next upload are 1
    ++ (in_four 1 ++ name_bytes ++ 0x00 ∷ moment_bytes ++ in_four 0 ++ in_eight 1 ++ in_eight 1)
    -- one stack: the key `a`, changed, one version: the null version, an object
    ++ (in_four 1 ++ 0x00 ∷ 0x01 ∷ 0x61 ∷ moment_bytes ++ in_four 1 ++ in_eight 0 ++ 0x00 ∷ [])
    -- created, ceased, 5 bytes, STANDARD since it was created, no tags
    ++ (moment_bytes ++ moment_bytes ++ in_eight 5 ++ 0x00 ∷ moment_bytes ++ 0x00 ∷ [])
    -- no upload, no month of sums
    ++ (in_four 0 ++ in_four 0)
    -- one kept reply: `t1`, the moment, no marker, no number, and the 7 bytes of the command
    ++ (in_four 1 ++ 0x02 ∷ 0x74 ∷ 0x31 ∷ moment_bytes ++ 0x00 ∷ in_eight 0 ++ in_four 7 ++ 0x01 ∷ name_bytes)

pub small_spelled : body_format.written small ≡ small_bytes
unfolding to_compute
small_spelled = refl

pub small_in_range : body_format.has small ≡ true
unfolding to_compute
small_in_range = refl

-- the slot, after both entries of the journal, which ends at 66
pub small_slot : HoldsBody 66 small_bytes (0xA7 ∷ in_eight 0x42 ++ in_eight 0xA0 ++ small_bytes)
unfolding to_compute
small_slot = record { rest = []; parts = refl; position_fits = omega arith; body_fits = omega arith }

-- ---- parts that are not in it

-- a tariff from 2024-01, of one tier at price 1 for each class, and with moves at price 2
abbrev flat : Prices
flat = record { from = 648; storage = repeat 6 (one_tier 1 ∷ []); transition = repeat 5 (2 ∷ []) }

tariff_spelled : tariff_format.written flat
    ≡ 0x07 ∷ 0xE8 ∷ 0x01 ∷ repeat 6 (0x01 ∷ in_four 0 ++ in_four 1) ++ repeat 5 (in_four 2)
unfolding to_compute
tariff_spelled = refl

-- no moment yet, and no month
none_spelled : last_format.written None ++ open_format.written None ≡ repeat 8 (0xFF ∷ []) ++ repeat 3 (0x00 ∷ [])
unfolding to_compute
none_spelled = refl

-- in January 1970 two byte-milliseconds of STANDARD, of which one more is early, and three moves to it
abbrev some_sums : MonthSums
some_sums = record {
  month = 0;
  ended = 2 ∷ repeat 5 (0 ∷ []);
  early = 1 ∷ repeat 5 (0 ∷ []);
  moves = 3 ∷ repeat 5 (0 ∷ []);
}

sums_spelled : sums_format.written some_sums
    ≡ 0x07 ∷ 0xB2 ∷ 0x01 ∷ in_eight 0 ++ in_eight 2 ++ in_eight 0 ++ in_eight 1 ++ in_eight 3 ++ repeat 200 (0x00 ∷ [])
unfolding to_compute
sums_spelled = refl
