-- How long the parts of the reply that shows the versions of a key are.
use Rattle.std.proofs.Common.{◌≡◌, ℕ, ◌+◌, ◌*◌, ◌^◌, ◌<◌, ◌≤◌, Bool, true, false, List, [], ◌∷◌, ◌++◌, length, codes, decimal, arith, ap, length-append, unwrap_or, Option, Some, None}
use Rattle.std.specs.Prelude.{nat_le, ◌&&◌}
use Rattle.std.specs.List.{list_all}
use Rattle.std.specs.Str.{is_utf8}
use Rattle.std.proofs.lemmas.Bool.{and_parts, leb-true}
use Rattle.std.proofs.lemmas.Fmt.{length-decimal-le}
use Rattle.std.proofs.lemmas.Str.{IsUtf8-from_is_utf8}
use Rattle.json.specs.Print.{quoted}
use Rattle.serde_json.specs.Written.{comma_if, members_text}
use Rattle.moments.specs.Texts.{moment_text}
use Rattle.class_rules.specs.Classes.{class_name}
use Rattle.class_rules.specs.declared.class.Class.{Class}
use Rattle.office_base.specs.Tags.{Tag, AreTags, char_count, is_tag}
use Rattle.office_base.specs.Versions.{id_text}
use Rattle.rules_json.proofs.Sizes.{quoted_small, text_small}
use Rattle.stacks.specs.Stacks.{StackRecord}
use Rattle.stacks.specs.declared.version.Kind.TheVariants.{Object, Marker}
use Rattle.stacks.specs.declared.version.Version.{Version}
use Rattle.http_text.specs.Bodies.{version_text, tags_text}
use Rattle.http_text.specs.Parts.{since_part}
use Rattle.http_text.specs.Pieces.{first_text, front_text}
use Rattle.http_text.specs.Replies.{head_text}
use Rattle.http.specs.StatusCode.{reason_phrase}
use Rattle.http_text.proofs.Going.{row, tags_in_row}
use Rattle.http_text.proofs.LongTexts.{object_is, marker_is}
use Rattle.http_text.proofs.Small.{text_then, number_then, moment_length, class_small}
use Rattle.http_text.proofs.Whole.{head_parts}

-- a tag in range has at most 384 characters
tag_in_range : (tag : Tag) → is_tag tag ≡ true → length (quoted tag.0) + length (quoted tag.1) ≤ 9_220
unfolding is_tag
tag_in_range tag is =
    let fourth = and_parts (is_utf8 tag.0 && is_utf8 tag.1 && nat_le 1 (char_count tag.0) && nat_le (char_count tag.0) 128) (nat_le (char_count tag.1) 256) is in
    let third = and_parts (is_utf8 tag.0 && is_utf8 tag.1 && nat_le 1 (char_count tag.0)) (nat_le (char_count tag.0) 128) fourth.0 in
    let second = and_parts (is_utf8 tag.0 && is_utf8 tag.1) (nat_le 1 (char_count tag.0)) third.0 in
    let first = and_parts (is_utf8 tag.0) (is_utf8 tag.1) second.0 in
    let key : char_count tag.0 ≤ 128 = leb-true (char_count tag.0) 128 third.1 in
    let value : char_count tag.1 ≤ 256 = leb-true (char_count tag.1) 256 fourth.1 in
    omega (
      arith,
      quoted_small tag.0,
      quoted_small tag.1,
      text_small tag.0 (IsUtf8-from_is_utf8 tag.0 first.0),
      text_small tag.1 (IsUtf8-from_is_utf8 tag.1 first.1),
      key,
      value,
    )

comma_small : (later : Bool) → length (comma_if later) ≤ 1
comma_small true = omega arith
comma_small false = omega arith

row_small : (later : Bool) (tags : List Tag) → list_all is_tag tags ≡ true → length (members_text later (row tags)) ≤ 9_300 * length tags + 1
row_small later [] all = omega arith
row_small later (tag ∷ tags) all =
    let parts = and_parts (is_tag tag) (list_all is_tag tags) all in
    let rest = members_text true (row tags) in
    omega (
      arith,
      length-append (comma_if later) (quoted tag.0 ++ 58 ∷ (quoted tag.1 ++ rest)),
      length-append (quoted tag.0) (58 ∷ (quoted tag.1 ++ rest)),
      length-append (quoted tag.1) rest,
      comma_small later,
      tag_in_range tag parts.0,
      row_small true tags parts.1,
    )

pub tags_small : (tags : List Tag) → AreTags tags → length (tags_text tags) ≤ 93_100
tags_small tags are =
    omega (arith, ap length (tags_in_row tags are.in_order), row_small false tags are.in_range, are.few)

since_small : (since : Option ℕ) → length (since_part since) ≤ 200
since_small None = omega arith
since_small (Some since) = omega (arith, length-append (codes ",\"noncurrent_since\":") (quoted (moment_text since)), quoted_small (moment_text since), moment_length since)

pub object_small : (since : Option ℕ) (v : Version) (size : ℕ) (class : Class) (tags : List Tag) (entered : ℕ) → v.kind ≡ Object size class tags entered
    → length (decimal size) ≤ 20 → length (tags_text tags) ≤ 93_100 → length (id_text v.id) ≤ 20 → length (version_text since v) ≤ 94_000
object_small since v size class tags entered is digits few id =
    let ninth = (codes ",\"version\":" ++ quoted (id_text v.id)) ++ codes "}" in
    let eighth = tags_text tags ++ ninth in
    let sixth = (codes ",\"size\":" ++ decimal size) ++ (codes ",\"tags\":" ++ eighth) in
    let fifth = since_part since ++ sixth in
    let third = (codes ",\"entered\":" ++ quoted (moment_text entered)) ++ (codes ",\"kind\":\"object\"" ++ fifth) in
    let second = (codes ",\"created\":" ++ quoted (moment_text v.created)) ++ third in
    omega (
      arith,
      ap length (object_is since v size class tags entered is),
      text_then (codes "{\"class\":") (class_name class) second,
      class_small class,
      text_then (codes ",\"created\":") (moment_text v.created) third,
      moment_length v.created,
      text_then (codes ",\"entered\":") (moment_text entered) (codes ",\"kind\":\"object\"" ++ fifth),
      moment_length entered,
      length-append (since_part since) sixth,
      since_small since,
      number_then (codes ",\"size\":") (decimal size) (codes ",\"tags\":" ++ eighth),
      digits,
      length-append (tags_text tags) ninth,
      few,
      text_then (codes ",\"version\":") (id_text v.id) (codes "}"),
      id,
    )

pub marker_small : (since : Option ℕ) (v : Version) → v.kind ≡ Marker → length (id_text v.id) ≤ 20 → length (version_text since v) ≤ 94_000
marker_small since v is id =
    let fourth = (codes ",\"version\":" ++ quoted (id_text v.id)) ++ codes "}" in
    let third = since_part since ++ fourth in
    omega (
      arith,
      ap length (marker_is since v is),
      text_then (codes "{\"created\":") (moment_text v.created) (codes ",\"kind\":\"marker\"" ++ third),
      moment_length v.created,
      length-append (since_part since) fourth,
      since_small since,
      text_then (codes ",\"version\":") (id_text v.id) (codes "}"),
      id,
    )

-- the head of a body of any size
head_short : (status size : ℕ) → status < 1_000 → size < 2 ^ 64 → length (unwrap_or (reason_phrase status) []) ≤ 100 → length (head_text status size) ≤ 300
head_short status size low fits short =
    let last = decimal size ++ codes "\r\n\r\n" in
    let fields = codes "\r\ncontent-type: application/json\r\ncontent-length: " ++ last in
    let phrase = unwrap_or (reason_phrase status) [] ++ fields in
    omega (
      arith,
      ap length (head_parts status size),
      length-append (decimal status) (codes " " ++ phrase),
      length-append (unwrap_or (reason_phrase status) []) fields,
      length-append (decimal size) (codes "\r\n\r\n"),
      length-decimal-le 20 status (omega arith) (omega (arith, low)) (omega (arith, low)),
      length-decimal-le 20 size (omega arith) (omega (arith, fits)) fits,
      short,
    )

pub front_small : (key : List ℕ) (stack : StackRecord) (size : ℕ) → size < 2 ^ 64 → length key ≤ 1_024 → length (first_text stack.versions) ≤ 94_000
    → length (head_text 200 size ++ front_text key stack) ≤ 102_000
front_small key stack size fits short first =
    let fourth = codes ",\"versions\":[" ++ first_text stack.versions in
    let third = quoted key ++ fourth in
    omega (
      arith,
      length-append (head_text 200 size) (front_text key stack),
      head_short 200 size (omega arith) fits (omega arith),
      text_then (codes "{\"changed\":") (moment_text stack.changed) (codes ",\"key\":" ++ third),
      moment_length stack.changed,
      length-append (quoted key) fourth,
      quoted_small key,
      short,
      first,
    )
