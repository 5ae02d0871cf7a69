-- How long the bodies are.
use Rattle.std.proofs.Common.{◌≡◌, ℕ, ◌+◌, ◌*◌, ◌^◌, ◌<◌, ◌≤◌, Bool, true, false, List, map, ◌++◌, length, codes, decimal, refl, ap, arith, length-append, Option, Ok, Err}
use Rattle.std.specs.Str.{is_utf8}
use Rattle.std.proofs.lemmas.Fmt.{length-decimal-le, length-decimal-le_wide}
use Rattle.std.proofs.lemmas.Str.{IsUtf8-from_is_utf8}
use Rattle.json.specs.Print.{quoted}
use Rattle.serde_json.specs.View.{items_of}
use Rattle.serde_json.specs.Written.{comma_if, compact_text, items_text}
use Rattle.class_rules.specs.Classes.{class_name}
use Rattle.class_rules.specs.declared.class.Class.{Class}
use Rattle.class_rules.specs.declared.class.Class.TheVariants.{Standard, StandardIa, OnezoneIa, GlacierIr, Glacier, DeepArchive}
use Rattle.moments.specs.Texts.{moment_text}
use Rattle.office_base.specs.Tags.{char_count}
use Rattle.office_base.specs.Versions.{id_text}
use Rattle.office_base.specs.declared.version_id.VersionId.{VersionId}
use Rattle.rules_json.proofs.Sizes.{quoted_small, text_small}
use Rattle.stacks.specs.declared.version.Versioning.{Versioning}
use Rattle.stacks.specs.declared.version.Versioning.TheVariants.{Unversioned, Enabled, Suspended}
use Rattle.due_core.specs.declared.action.ActionKind.{ActionKind}
use Rattle.due_core.specs.declared.action.ActionKind.TheVariants as action
use Rattle.due_core.specs.declared.action.Target.{Target}
use Rattle.office_types.specs.declared.reply.ClassMeters.{ClassMeters}
use Rattle.office_types.specs.declared.reply.Reply.TheVariants.{Stored, Chosen, BucketShown, MetersShown}
use Rattle.office_types.specs.declared.refusal.Refusal.TheVariants.{MonthNotOver, EarlierMonthOpen, DueActions, Full, ClockEnd, TokenReused}
use Rattle.office_types.specs.declared.refusal.What.{What}
use Rattle.office_types.specs.declared.refusal.What.TheVariants.{Buckets, Versions, Uploads, Parts, Names, Rules, Tariffs}
use Rattle.http_text.specs.Bodies.{meters_data, classes_text}
use Rattle.http_text.specs.Json.{text_object, number_object}
use Rattle.http_text.specs.Names.{month_text, versioning_name, action_name, what_name}
use Rattle.http_text.specs.Parts.{class_part, marker_part, target_part, item_part}
use Rattle.http_text.specs.Refusals.{error_text}
use Rattle.http_text.specs.Replies.{body_text}
use Rattle.http_text.proofs.Texts.{text_object_is, number_object_is, stored_is, shown_is, meters_is, classes_is, usage_is, chosen_is, error_is, not_over_is, earlier_is, due_is, full_is, end_is, reused_is}

-- ---- parts

pub decimal_small : (n : ℕ) → n < 2 ^ 64 → length (decimal n) ≤ 20
decimal_small n fits = length-decimal-le 20 n (omega arith) (omega (arith, fits)) fits

pub wide_small : (n : ℕ) → n < 2 ^ 128 → length (decimal n) ≤ 39
wide_small n fits = length-decimal-le_wide 39 n (omega arith) (omega (arith, fits)) (omega (arith, fits))

pub moment_length : (m : ℕ) → length (moment_text m) ≡ 24
unfolding moment_text
moment_length m = refl

month_length : (m : ℕ) → length (month_text m) ≡ 7
unfolding month_text
month_length m = refl

pub class_small : (c : Class) → length (class_name c) ≤ 12
class_small Standard = omega arith
class_small StandardIa = omega arith
class_small OnezoneIa = omega arith
class_small GlacierIr = omega arith
class_small Glacier = omega arith
class_small DeepArchive = omega arith

what_small : (w : What) → length (what_name w) ≤ 8
what_small Buckets = omega arith
what_small Versions = omega arith
what_small Uploads = omega arith
what_small Parts = omega arith
what_small Names = omega arith
what_small Rules = omega arith
what_small Tariffs = omega arith

versioning_small : (v : Versioning) → length (versioning_name v) ≤ 11
versioning_small Unversioned = omega arith
versioning_small Enabled = omega arith
versioning_small Suspended = omega arith

action_small : (k : ActionKind) → length (action_name k) ≤ 10
action_small action.Remove = omega arith
action_small (action.Transition c) = omega arith
action_small action.Marker = omega arith
action_small action.Abort = omega arith

class_part_small : (k : ActionKind) → length (class_part k) ≤ 100
class_part_small action.Remove = omega arith
class_part_small (action.Transition c) = omega (arith, length-append (codes ",\"class\":") (quoted (class_name c)), quoted_small (class_name c), class_small c)
class_part_small action.Marker = omega arith
class_part_small action.Abort = omega arith

pub id_part_small : (before text : List ℕ) → length before ≤ 20 → length text ≤ 20 → length (before ++ quoted text) ≤ 200
id_part_small before text short small = omega (arith, length-append before (quoted text), quoted_small text, short, small)

pub number_part_small : (before text : List ℕ) → length before ≤ 20 → length text ≤ 20 → length (before ++ text) ≤ 200
number_part_small before text short small = omega (arith, length-append before text, short, small)

-- a text with what stands before it, and the rest
pub text_then : (before text rest : List ℕ) → length ((before ++ quoted text) ++ rest) ≤ length before + (6 * length text + 2) + length rest
text_then before text rest = omega (arith, length-append (before ++ quoted text) rest, length-append before (quoted text), quoted_small text)

pub number_then : (before digits rest : List ℕ) → length ((before ++ digits) ++ rest) ≡ length before + length digits + length rest
number_then before digits rest = omega (arith, length-append (before ++ digits) rest, length-append before digits)

-- ---- objects with one member

pub text_object_small : (name text : List ℕ) → length name + length text ≤ 1_000 → length (text_object name text) ≤ 16_000
text_object_small name text short =
    let value = (codes ":" ++ quoted text) ++ codes "}" in
    omega (arith, ap length (text_object_is name text), text_then (codes "{") name value, text_then (codes ":") text (codes "}"), short)

pub number_object_small : (name : List ℕ) (n : ℕ) → length name ≤ 1_000 → length (decimal n) ≤ 20 → length (number_object name n) ≤ 16_000
number_object_small name n short digits =
    let value = (codes ":" ++ decimal n) ++ codes "}" in
    omega (arith, ap length (number_object_is name n), text_then (codes "{") name value, number_then (codes ":") (decimal n) (codes "}"), short, digits)

pub id_object_small : (name : List ℕ) (v : VersionId) → length name ≤ 900 → length (id_text v) ≤ 20 → length (text_object name (id_text v)) ≤ 16_000
id_object_small name v short small = text_object_small name (id_text v) (omega (arith, short, small))

pub month_object_small : (name : List ℕ) (m : ℕ) → length name ≤ 900 → length (text_object name (month_text m)) ≤ 16_000
month_object_small name m short = text_object_small name (month_text m) (omega (arith, short, month_length m))

-- ---- the other replies

pub stored_small : (m : ℕ) (v : VersionId) → length (id_text v) ≤ 20 → length (body_text (Ok (Stored m v))) ≤ 16_000
stored_small m v id =
    let version = (codes ",\"version\":" ++ quoted (id_text v)) ++ codes "}" in
    omega (
      arith,
      ap length (stored_is m v),
      text_then (codes "{\"moment\":") (moment_text m) version,
      text_then (codes ",\"version\":") (id_text v) (codes "}"),
      moment_length m,
      id,
    )

pub shown_small : (b : List ℕ) (r u : ℕ) (w : Versioning) (n : ℕ) → length b ≤ 63 → length (decimal r) ≤ 20 → length (decimal u) ≤ 20 → length (decimal n) ≤ 20
    → length (body_text (Ok (BucketShown b r u w n))) ≤ 16_000
shown_small b r u w n short rules uploads versions =
    let last = (codes ",\"versions\":" ++ decimal n) ++ codes "}" in
    let third = (codes ",\"versioning\":" ++ quoted (versioning_name w)) ++ last in
    let second = (codes ",\"uploads\":" ++ decimal u) ++ third in
    let first = (codes ",\"rules\":" ++ decimal r) ++ second in
    omega (
      arith,
      ap length (shown_is b r u w n),
      text_then (codes "{\"bucket\":") b first,
      number_then (codes ",\"rules\":") (decimal r) second,
      number_then (codes ",\"uploads\":") (decimal u) third,
      text_then (codes ",\"versioning\":") (versioning_name w) last,
      number_then (codes ",\"versions\":") (decimal n) (codes "}"),
      short,
      rules,
      uploads,
      versioning_small w,
      versions,
    )

comma_small : (later : Bool) → length (comma_if later) ≤ 1
comma_small true = omega arith
comma_small false = omega arith

pub meters_small : (later : Bool) (m : ClassMeters) → length (decimal m.byte_ms) ≤ 39 → length (decimal m.early_byte_ms) ≤ 39 → length (decimal m.moves) ≤ 39
    → length (item_part later (meters_data m)) ≤ 1_000
meters_small later m byte_ms early_ms moves_short =
    let moves = decimal m.moves ++ codes "}" in
    let early = quoted (decimal m.early_byte_ms) ++ (codes ",\"moves\":" ++ moves) in
    let class = (codes ",\"class\":" ++ quoted (class_name m.class)) ++ (codes ",\"early_byte_ms\":" ++ early) in
    omega (
      arith,
      length-append (comma_if later) (compact_text (meters_data m)),
      comma_small later,
      ap length (meters_is m),
      length-append (quoted (decimal m.byte_ms)) class,
      text_then (codes ",\"class\":") (class_name m.class) (codes ",\"early_byte_ms\":" ++ early),
      length-append (quoted (decimal m.early_byte_ms)) (codes ",\"moves\":" ++ moves),
      length-append (decimal m.moves) (codes "}"),
      quoted_small (decimal m.byte_ms),
      byte_ms,
      class_small m.class,
      quoted_small (decimal m.early_byte_ms),
      early_ms,
      moves_short,
    )

-- of some items one more is written
pub item_more : (whole i : ℕ) (left x more : List ℕ) → whole ≤ 1_000 * i + length left → left ≡ x ++ more → length x ≤ 1_000 → whole ≤ 1_000 * (i + 1) + length more
item_more whole i left x more most parts small = omega (arith, most, ap length parts, length-append x more, small)

pub classes_small : (cs : List ClassMeters) → length cs ≤ 6 → (i : ℕ) → i ≤ length cs → length (items_text false (items_of (map meters_data cs))) ≤ 1_000 * i + 1
    → length (classes_text cs) ≤ 7_000
classes_small cs six i inside most = omega (arith, ap length (classes_is cs), six, inside, most)

pub usage_small : (b : List ℕ) (m : ℕ) (cs : List ClassMeters) → length b ≤ 63 → length (classes_text cs) ≤ 7_000 → length (body_text (Ok (MetersShown b m cs))) ≤ 16_000
usage_small b m cs short few =
    let month = (codes ",\"month\":" ++ quoted (month_text m)) ++ codes "}" in
    let classes = classes_text cs ++ month in
    omega (
      arith,
      ap length (usage_is b m cs),
      text_then (codes "{\"bucket\":") b (codes ",\"classes\":" ++ classes),
      length-append (classes_text cs) month,
      text_then (codes ",\"month\":") (month_text m) (codes "}"),
      month_length m,
      short,
      few,
    )

-- a key has at most 1,024 bytes, and the id of a rule at most 255 characters of up to four
pub chosen_small : (kind : ActionKind) (key : List ℕ) (on : Target) (rule : List ℕ) (since : ℕ) (marker : Option VersionId)
    → length key ≤ 1_024 → is_utf8 rule ≡ true → char_count rule ≤ 255 → length (marker_part marker) ≤ 200 → length (target_part on) ≤ 200
    → length (body_text (Ok (Chosen kind key on rule since marker))) ≤ 16_000
chosen_small kind key on rule since marker short text few made target =
    let last = target_part on ++ codes "}" in
    let fifth = (codes ",\"rule\":" ++ quoted rule) ++ last in
    let fourth = (codes ",\"moment\":" ++ quoted (moment_text since)) ++ fifth in
    let third = marker_part marker ++ fourth in
    let second = quoted key ++ third in
    let first = class_part kind ++ (codes ",\"key\":" ++ second) in
    omega (
      arith,
      ap length (chosen_is kind key on rule since marker),
      text_then (codes "{\"action\":") (action_name kind) first,
      action_small kind,
      length-append (class_part kind) (codes ",\"key\":" ++ second),
      class_part_small kind,
      length-append (quoted key) third,
      quoted_small key,
      short,
      length-append (marker_part marker) fourth,
      made,
      text_then (codes ",\"moment\":") (moment_text since) fifth,
      moment_length since,
      text_then (codes ",\"rule\":") rule last,
      text_small rule (IsUtf8-from_is_utf8 rule text),
      few,
      length-append (target_part on) (codes "}"),
      target,
    )

-- ---- refusals

pub error_small : (name : List ℕ) (n : ℕ) → length name ≤ 100 → length (decimal n) ≤ 20 → length (error_text name n) ≤ 16_000
error_small name n short digits =
    let number = (codes ",\"number\":" ++ decimal n) ++ codes "}" in
    omega (arith, ap length (error_is name n), text_then (codes "{\"error\":") name number, number_then (codes ",\"number\":") (decimal n) (codes "}"), short, digits)

pub not_over_small : (end : ℕ) → length (body_text (Err (MonthNotOver end))) ≤ 16_000
not_over_small end =
    let number = (codes ",\"error\":\"MonthNotOver\",\"number\":" ++ decimal 84) ++ codes "}" in
    omega (
      arith,
      ap length (not_over_is end),
      text_then (codes "{\"end\":") (moment_text end) number,
      number_then (codes ",\"error\":\"MonthNotOver\",\"number\":") (decimal 84) (codes "}"),
      moment_length end,
      decimal_small 84 (omega arith),
    )

pub earlier_small : (m : ℕ) → length (body_text (Err (EarlierMonthOpen m))) ≤ 16_000
earlier_small m =
    let number = (codes ",\"number\":" ++ decimal 87) ++ codes "}" in
    omega (
      arith,
      ap length (earlier_is m),
      text_then (codes "{\"error\":\"EarlierMonthOpen\",\"month\":") (month_text m) number,
      number_then (codes ",\"number\":") (decimal 87) (codes "}"),
      month_length m,
      decimal_small 87 (omega arith),
    )

pub due_small : (b key : List ℕ) (on : Target) → length b ≤ 63 → length key ≤ 1_024 → length (target_part on) ≤ 200 → length (body_text (Err (DueActions b key on))) ≤ 16_000
due_small b key on short small target =
    let last = target_part on ++ codes "}" in
    let number = (codes ",\"number\":" ++ decimal 85) ++ last in
    let rest = quoted key ++ number in
    omega (
      arith,
      ap length (due_is b key on),
      text_then (codes "{\"bucket\":") b (codes ",\"error\":\"DueActions\",\"key\":" ++ rest),
      length-append (quoted key) number,
      number_then (codes ",\"number\":") (decimal 85) last,
      length-append (target_part on) (codes "}"),
      quoted_small key,
      decimal_small 85 (omega arith),
      short,
      small,
      target,
    )

pub full_small : (w : What) (n : ℕ) → length (decimal n) ≤ 20 → length (body_text (Err (Full w n))) ≤ 16_000
full_small w n digits =
    let what = (codes ",\"what\":" ++ quoted (what_name w)) ++ codes "}" in
    let number = (codes ",\"number\":" ++ decimal 90) ++ what in
    omega (
      arith,
      ap length (full_is w n),
      number_then (codes "{\"error\":\"Full\",\"limit\":") (decimal n) number,
      number_then (codes ",\"number\":") (decimal 90) what,
      text_then (codes ",\"what\":") (what_name w) (codes "}"),
      digits,
      decimal_small 90 (omega arith),
      what_small w,
    )

pub end_small : (n : ℕ) → length (decimal n) ≤ 20 → length (body_text (Err (ClockEnd n))) ≤ 16_000
end_small n digits =
    let number = (codes ",\"number\":" ++ decimal 91) ++ codes "}" in
    omega (
      arith,
      ap length (end_is n),
      number_then (codes "{\"error\":\"ClockEnd\",\"moment\":") (decimal n) number,
      number_then (codes ",\"number\":") (decimal 91) (codes "}"),
      digits,
      decimal_small 91 (omega arith),
    )

pub reused_small : (n : ℕ) → length (decimal n) ≤ 20 → length (body_text (Err (TokenReused n))) ≤ 16_000
reused_small n digits =
    let number = (codes ",\"number\":" ++ decimal 92) ++ codes "}" in
    omega (
      arith,
      ap length (reused_is n),
      number_then (codes "{\"error\":\"TokenReused\",\"kind\":") (decimal n) number,
      number_then (codes ",\"number\":") (decimal 92) (codes "}"),
      digits,
      decimal_small 92 (omega arith),
    )
