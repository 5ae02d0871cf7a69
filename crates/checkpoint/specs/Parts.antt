-- The parts of the body of a slot, each with its format (own).
use Rattle.std.specs.Prelude.{◌≡◌, ℕ, ◌+◌, ◌*◌, ◌/◌, ◌%◌, ◌-◌, ◌^◌, ◌≤◌, drop, Bool, true, false, not, ◌&&◌, ◌==◌, List, [], ◌∷◌, ◌++◌, map, length, nat_lt, Option, Some, None, option_and_then, if◌then◌else◌}
use Rattle.std.specs.Prelude.{is_none}
use Rattle.std.specs.Int.{w8, w16, w32, w64}
use Rattle.std.specs.List.{list_all}
use Rattle.std.specs.Ordering.{nat_cmp, is_lt}
use Rattle.std.specs.Result.{result_ok}
use Rattle.std.specs.Str.{bytes_eq}
use Rattle.std.specs.declared.cmp.Ordering.{Ordering}
use Rattle.moments.specs.Time.{end_of_time}
use Rattle.moments.specs.Months.{months, year_of, month_of_year, month_number, has_month}
use Rattle.office_base.specs.Maps.{bytes_cmp}
use Rattle.office_base.specs.Tags.{Tag}
use Rattle.office_base.specs.declared.version_id.VersionId.{VersionId}
use Rattle.class_rules.specs.declared.class.Class.{Class}
use Rattle.rules_core.specs.Configurations.{Configuration}
use Rattle.rules_json.specs.Printing.{printed}
use Rattle.tariff.specs.Prices.{Prices}
use Rattle.stacks.specs.Stacks.{StackRecord, is_stack}
use Rattle.stacks.specs.declared.version.Versioning.{Versioning}
use Rattle.stacks.specs.declared.version.Versioning.TheVariants.{Unversioned, Enabled, Suspended}
use Rattle.stacks.specs.declared.version.Kind.{Kind}
use Rattle.stacks.specs.declared.version.Kind.TheVariants.{Object, Marker}
use Rattle.stacks.specs.declared.version.Version.{Version}
use Rattle.uploads.specs.Uploads.{UploadRecord, upload_of, are_parts}
use Rattle.uploads.specs.declared.part.Part.{Part}
use Rattle.accrual.specs.declared.monthly.MonthSums.{MonthSums}
use Rattle.office_types.specs.Tokens.{takes_token}
use Rattle.office_types.specs.declared.command.Command.{Command}
use Rattle.office_types.specs.declared.command.Entry.{Entry}
use Rattle.office_types.specs.declared.kept.Kept.{Kept}
use Rattle.entry_codec.specs.Formats.{Format, ◌>>=◌, number, pair, list, counted_text, ◌such_that◌, Code, coded}
use Rattle.entry_codec.specs.Fields as field
use Rattle.entry_codec.specs.Fields.{format, moment_format, token_format}
use Rattle.entry_codec.specs.Kinds.{parts_of, fields_of}
use Rattle.entry_codec.specs.Reading.{entry_of}
use Rattle.entry_codec.specs.Spelling.{are_values, command_spelling}
use Rattle.checkpoint.specs.Combining.{after, exactly, as_some, as_none, renamed, flag_format}

-- ---- numbers, moments and months

-- a count of what follows
unfoldable pub four : Format ℕ
four = number w32

-- a number in eight bytes
unfoldable pub eight : Format ℕ
eight = number w64

-- a number in sixteen bytes, as its upper and its lower half
abbrev pub halves : Code (ℕ × ℕ) ℕ
halves = record {
  code = λ n. (n / 2 ^ 64, n % 2 ^ 64);
  has = λ n. true;
  value = λ parts. if nat_lt parts.1 (2 ^ 64) then Some (parts.0 * 2 ^ 64 + parts.1) else None;
}

-- a number in sixteen bytes
unfoldable pub sixteen : Format ℕ
sixteen = coded (pair eight eight) halves

-- the last moment; all ones for none
abbrev pub last_code : Option ℕ → ℕ
last_code None = 2 ^ 64 - 1
last_code (Some last) = last

-- there is no last moment, or one before the end of time
abbrev pub last_has : Option ℕ → Bool
last_has None = true
last_has (Some last) = nat_lt last end_of_time

-- the last moment that is written so
abbrev pub last_value : ℕ → Option (Option ℕ)
last_value n = if n == 2 ^ 64 - 1 then Some None else if nat_lt n end_of_time then Some (Some n) else None

-- last moments by numbers
abbrev pub lasts : Code ℕ (Option ℕ)
lasts = record { code = last_code; has = last_has; value = last_value }

-- the last moment
unfoldable pub last_format : Format (Option ℕ)
last_format = coded eight lasts

-- a month by its year and its month of the year
abbrev pub months_code : Code (ℕ × ℕ) ℕ
months_code = record {
  code = λ month. (year_of month, month_of_year month);
  has = λ month. nat_lt month months;
  value = λ parts. if has_month parts.0 parts.1 then Some (month_number parts.0 parts.1) else None;
}

-- a month
unfoldable pub month_format : Format ℕ
month_format = coded (pair (number w16) (number w8)) months_code

-- the first open month; zeros for none
abbrev pub open_code : Option ℕ → ℕ × ℕ
open_code None = (0, 0)
open_code (Some month) = (year_of month, month_of_year month)

-- there is no first open month, or one that is a month
abbrev pub open_has : Option ℕ → Bool
open_has None = true
open_has (Some month) = nat_lt month months

-- the first open month that is written so
abbrev pub open_value : ℕ × ℕ → Option (Option ℕ)
open_value parts =
    if (parts.0 == 0) && (parts.1 == 0) then Some None
    else if has_month parts.0 parts.1 then Some (Some (month_number parts.0 parts.1)) else None

-- first open months by year and month of the year
abbrev pub opens : Code (ℕ × ℕ) (Option ℕ)
opens = record { code = open_code; has = open_has; value = open_value }

-- the first open month
unfoldable pub open_format : Format (Option ℕ)
open_format = coded (pair (number w16) (number w8)) opens

-- the keys strictly rise
abbrev pub keys_rise : {K X : Type 0} → (K → K → Ordering) → List (K × X) → Bool
keys_rise cmp [] = true
keys_rise cmp (e ∷ es) = list_all (λ other. is_lt (cmp e.0 other.0)) es && keys_rise cmp es

-- ---- tariffs

-- a tariff: its first month, the tiers of each class, and the prices of moves
unfoldable pub tariff_format : Format Prices
tariff_format = coded (pair month_format (pair (exactly 6 (format field.Tiers)) (exactly 5 (format field.Price))))
    (renamed (λ tariff. (tariff.from, (tariff.storage, tariff.transition)))
    (λ parts. record { from = parts.0; storage = parts.1.0; transition = parts.1.1 }))

-- ---- stacks

-- the head of a version: its id, whether it is a marker, when it was made and when it ceased to be current
unfoldable pub version_head : Format (VersionId × (Bool × (ℕ × ℕ)))
version_head = pair (format field.Id) (pair flag_format (pair moment_format moment_format))

-- the fields of an object: its size, its class, when it entered the class, and its tags
unfoldable pub object_format : Format (ℕ × (Class × (ℕ × List Tag)))
object_format = pair (format field.Size) (pair (format field.Rank) (pair moment_format (format field.Tags)))

-- what follows the head: nothing for a marker, the fields for an object
abbrev pub object_or_none : Bool → Format (Option (ℕ × (Class × (ℕ × List Tag))))
object_or_none true = as_none
object_or_none false = as_some object_format

-- the head of a version, and the fields of an object
abbrev pub VersionParts : Type 0
VersionParts = (VersionId × (Bool × (ℕ × ℕ))) × Option (ℕ × (Class × (ℕ × List Tag)))

-- it is a delete marker
abbrev pub is_marker : Kind → Bool
is_marker (Object size class tags entered) = false
is_marker Marker = true

-- the fields of an object; none for a marker
abbrev pub object_of : Kind → Option (ℕ × (Class × (ℕ × List Tag)))
object_of (Object size class tags entered) = Some (size, (class, (entered, tags)))
object_of Marker = None

-- the version with these parts; none if the fields do not fit the marker flag
abbrev pub version_value : VersionParts → Option Version
version_value ((id, (false, (created, ceased))), Some (size, (class, (entered, tags)))) =
    Some (record { id = id; kind = Object size class tags entered; created = created; ceased = ceased })
version_value ((id, (false, (created, ceased))), None) = None
version_value ((id, (true, (created, ceased))), Some object) = None
version_value ((id, (true, (created, ceased))), None) =
    Some (record { id = id; kind = Marker; created = created; ceased = ceased })

-- versions by their parts
abbrev pub versions_code : Code VersionParts Version
versions_code = record {
  code = λ v. ((v.id, (is_marker v.kind, (v.created, v.ceased))), object_of v.kind);
  has = λ v. true;
  value = version_value;
}

-- a version
unfoldable pub version_format : Format Version
version_format = coded (after version_head (λ head. object_or_none head.1.0)) versions_code

-- a key's stack: when it changed last, and its versions, newest first, as a stack may hold them
unfoldable pub stack_format : Format (List ℕ × StackRecord)
stack_format = coded (pair (format field.Key) (pair moment_format (list four version_format)))
    (renamed (λ s. (s.0, (s.1.changed, s.1.versions))) (λ p. (p.0, record { changed = p.1.0; versions = p.1.1 })))
    such_that λ s. is_stack s.1.changed s.1.versions

-- a bucket's stacks, in byte order of the keys
unfoldable pub stacks_format : Format (List (List ℕ × StackRecord))
stacks_format = list four stack_format such_that keys_rise bytes_cmp

-- ---- uploads

-- a part: its number, its size, and when it was put
unfoldable pub part_format : Format (ℕ × Part)
part_format = coded (pair four (pair eight moment_format))
    (renamed (λ p. (p.0, (p.1.size, p.1.put))) (λ p. (p.0, record { size = p.1.0; put = p.1.1 })))

-- the parts of an upload, by their numbers
unfoldable pub upload_parts_format : Format (List (ℕ × Part))
upload_parts_format = list four part_format such_that keys_rise nat_cmp

-- the fields of an upload
abbrev pub UploadFields : Type 0
UploadFields = ℕ × (List ℕ × (Class × (List Tag × (ℕ × (ℕ × List (ℕ × Part))))))

-- what is written of an upload: its number, key, class and tags, when it started and changed last, and its parts
unfoldable pub fields_format : Format UploadFields
fields_format = pair eight (pair (format field.Key) (pair (format field.Rank) (pair (format field.Tags)
    (pair moment_format (pair moment_format upload_parts_format)))))

-- an upload's fields, one by one
abbrev pub upload_fields : ℕ × UploadRecord → UploadFields
upload_fields u = (u.0, (u.1.key, (u.1.class, (u.1.tags, (u.1.started, (u.1.changed, u.1.parts))))))

-- the upload of these fields
abbrev pub upload_with : UploadFields → ℕ × UploadRecord
upload_with (number, (key, (class, (tags, (started, (changed, parts)))))) =
    (number, upload_of key class tags started changed parts)

-- an upload whose parts are some that an upload may have
unfoldable pub upload_format : Format (ℕ × UploadRecord)
upload_format = coded fields_format (renamed upload_fields upload_with)
    such_that λ u. are_parts u.1.started u.1.changed u.1.parts

-- a bucket's uploads, by their numbers
unfoldable pub uploads_format : Format (List (ℕ × UploadRecord))
uploads_format = list four upload_format such_that keys_rise nat_cmp

-- ---- sums

-- the three numbers of a class
abbrev pub Triple : Type 0
Triple = ℕ × (ℕ × ℕ)

-- the three numbers of each class, class by class
abbrev pub triples : List ℕ → List ℕ → List ℕ → List Triple
triples (a ∷ as') (b ∷ bs) (c ∷ cs) = (a, (b, c)) ∷ triples as' bs cs
triples as' bs cs = []

-- each of the three lists has six numbers, one for each class
abbrev pub are_six : MonthSums → Bool
are_six sums = (length sums.ended == 6) && (length sums.early == 6) && (length sums.moves == 6)

-- the sums of a month with these three numbers of each class
abbrev pub sums_with : ℕ → List Triple → MonthSums
sums_with month numbers = record {
  month = month;
  ended = map (λ t. t.0) numbers;
  early = map (λ t. t.1.0) numbers;
  moves = map (λ t. t.1.1) numbers;
}

-- sums by their month and their numbers, class by class
abbrev pub month_parts : Code (ℕ × List Triple) MonthSums
month_parts = record {
  code = λ s. (s.month, triples s.ended s.early s.moves);
  has = are_six;
  value = λ p. if length p.1 == 6 then Some (sums_with p.0 p.1) else None;
}

-- the sums of a month: of each class the byte-milliseconds of ended stays, the early quantity, and the moves
unfoldable pub sums_format : Format MonthSums
sums_format = coded (pair month_format (exactly 6 (pair sixteen (pair sixteen eight)))) month_parts

-- ---- buckets

-- versioning as a number
abbrev pub versioning_code : Versioning → ℕ
versioning_code Unversioned = 0
versioning_code Enabled = 1
versioning_code Suspended = 2

-- the versioning that is written so
abbrev pub versioning_value : ℕ → Option Versioning
versioning_value n =
    if n == 0 then Some Unversioned else if n == 1 then Some Enabled else if n == 2 then Some Suspended else None

-- versioning by numbers
abbrev pub versionings : Code ℕ Versioning
versionings = record { code = versioning_code; has = λ v. true; value = versioning_value }

-- a configuration as its text after its length; a length of 0 if there is none
abbrev pub rules_written : Option Configuration → List ℕ
rules_written None = four.written 0
rules_written (Some rules) = (format field.Rules).written rules

-- there is no configuration, or one that can be written and whose text is not empty
abbrev pub rules_has : Option Configuration → Bool
rules_has None = true
rules_has (Some rules) = (format field.Rules).has rules && not (length (printed rules) == 0)

-- the configuration at the front of the bytes, or that there is none if the length is 0
abbrev pub rules_front : List ℕ → Option (Option Configuration × List ℕ)
rules_front bytes = four.front bytes >>= λ n.
    if n.0 == 0 then Some (None, n.1) else (format field.Rules).front bytes >>= λ r. Some (Some r.0, r.1)

-- a configuration, or none
unfoldable pub rules_format : Format (Option Configuration)
rules_format = record { written = rules_written; has = rules_has; front = rules_front }

-- what is written of a bucket before the lists of all: its name, its versioning, since when it has its rules, the
-- rules, and the numbers of its next version and its next upload
abbrev pub Head : Type 0
Head = List ℕ × (Versioning × (ℕ × (Option Configuration × (ℕ × ℕ))))

-- the head of a bucket
unfoldable pub head_format : Format Head
head_format = pair (format field.Name)
    (pair (coded (number w8) versionings) (pair moment_format (pair rules_format (pair eight eight))))

-- ---- kept replies

-- a command that may carry a token, with values in the range of its fields
abbrev pub is_kept_command : Command → Bool
is_kept_command command =
    takes_token command && are_values (fields_of (parts_of command).kind) (parts_of command).values

-- the bytes are the 8 bytes of a moment, and the text of the command
pub record HasText (command : Command) (bytes : List ℕ) : Type 0 where
  pub moment : 8 ≤ length bytes
  pub text : drop 8 bytes ≡ command_spelling None command

-- the command of an entry, if this is the one text of it without a token
abbrev pub if_spelled : List ℕ → Entry → Option Command
if_spelled text entry =
    if is_none entry.token && is_kept_command entry.command && bytes_eq text (command_spelling None entry.command)
    then Some entry.command else None

-- commands by their texts: the bytes after the moment in an entry without a token
abbrev pub command_texts : Code (List ℕ) Command
command_texts = record {
  code = command_spelling None;
  has = is_kept_command;
  value = λ text. option_and_then (if_spelled text) (result_ok (entry_of (moment_format.written 0 ++ text)));
}

-- a command's text after its length
unfoldable pub command_format : Format Command
command_format = coded (counted_text four) command_texts

-- the fields of a kept reply: its token, the moment, whether the reply reports a marker, the number that it reports,
-- and the command
abbrev pub KeptFields : Type 0
KeptFields = List ℕ × (ℕ × (Bool × (ℕ × Command)))

-- these fields, one by one
abbrev pub kept_fields : Kept → KeptFields
kept_fields kept = (kept.token, (kept.moment, (kept.marker, (kept.told, kept.command))))

-- the kept reply with these fields
abbrev pub kept_with : KeptFields → Kept
kept_with (token, (moment, (marker, (told, command)))) =
    record { token = token; moment = moment; marker = marker; told = told; command = command }

-- what is kept of a command with a token
unfoldable pub kept_format : Format Kept
kept_format = coded (pair token_format (pair moment_format (pair flag_format (pair eight command_format))))
    (renamed kept_fields kept_with)
