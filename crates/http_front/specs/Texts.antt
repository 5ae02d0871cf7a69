-- What is said.
use Rattle.std.specs.Prelude.{ℕ, nat_lt, length, Bool, false, List, [], ◌∷◌, codes, Option, Some, None, Result, Ok, Err}
use Rattle.office_types.specs.declared.refusal.Refusal.{Refusal}
use Rattle.office_types.specs.declared.reply.Reply.{Reply}
use Rattle.office_types.specs.declared.reply.Reply.TheVariants.{StackShown}
use Rattle.std.specs.List.{flat_map}
use Rattle.serde_json.specs.Data.{string}
use Rattle.serde_json.specs.Written.{compact_text}
use Rattle.class_rules.specs.Classes.{class_name}
use Rattle.class_rules.specs.declared.class.Class.{Class}
use Rattle.rules_core.specs.declared.flaw.RuleFlaw.{RuleFlaw}
use Rattle.rules_core.specs.declared.flaw.RuleFlaw.TheVariants as flaws
use Rattle.rules_json.specs.declared.fault.RulesFault.{RulesFault}
use Rattle.rules_json.specs.declared.fault.RulesFault.TheVariants as rules
use Rattle.tariff.specs.Faults.{TariffFlaw}
use Rattle.tariff.specs.Faults as tariffs
use Rattle.tariff.specs.Reading.{table_name}
use Rattle.tariff.specs.declared.fault.TariffTable.{TariffTable}
use Rattle.http_bodies.specs.Flaws.{BodyFlaw, bad_body, bad_size, unsupported_class, bad_tags}
use Rattle.http_text.specs.Replies.{whole_data, error_data, error_text, reply_with, answer_text}
use Rattle.http_asks.specs.Faults.{refused_of}
use Rattle.http_asks.specs.Meaning.{Refused, not_a_month, bad_bucket_name, bad_key, no_such_version, no_such_upload}
use Rattle.http_asks.specs.Meaning.{bad_part, in_body, in_rules, in_tariff, in_framing, no_route, bad_method}
use Rattle.http_asks.specs.Meaning.{bad_token, token_not_served}
use Rattle.http_wire.specs.declared.framing.FramingRefusal.{FramingRefusal}
use Rattle.http_wire.specs.declared.framing.FramingRefusal.TheVariants as framings
use Rattle.meter_journal.specs.declared.fault.OpenFault.{OpenFault}
use Rattle.meter_journal.specs.declared.fault.OpenFault.TheVariants as opening
use Rattle.desk_core.specs.Answers.{Answer}
use Rattle.desk_core.specs.declared.fault.DeskFault.{DeskFault}
use Rattle.desk_core.specs.declared.fault.DeskFault.TheVariants as faults
use Rattle.http_front.specs.declared.bad.Bad.{Bad}
use Rattle.http_front.specs.declared.bad.Bad.TheVariants.{Message, Desk}
use Rattle.http_front.specs.Exchanges.{Exchange, answered, refused}

-- the reply to a refusal that has only its name and its number
abbrev pub error_reply : ℕ → List ℕ → ℕ → List ℕ
error_reply status name number = reply_with status (error_text name number)

-- the reply that says that memory ran out
abbrev pub no_memory_text : List ℕ
no_memory_text = error_reply 500 (codes "NoMemory") 115

-- ---- a message that is refused

-- the body of a refusal with a name
unfoldable pub named_text : List ℕ → ℕ → List ℕ → List ℕ
named_text error number name = compact_text (error_data error number ((codes "name", string name) ∷ []))

-- the body of a refusal with the field that is wrong
unfoldable pub field_text : List ℕ → ℕ → List ℕ → List ℕ
field_text error number field = compact_text (error_data error number ((codes "field", string field) ∷ []))

-- the body of a refusal with the place of a rule
unfoldable pub rule_text : List ℕ → ℕ → ℕ → List ℕ
rule_text error number rule = compact_text (error_data error number ((codes "rule", whole_data rule) ∷ []))

-- the body of a refusal with a class
unfoldable pub class_text : List ℕ → ℕ → Class → List ℕ
class_text error number class =
    compact_text (error_data error number ((codes "class", string (class_name class)) ∷ []))

-- the body of a refusal with a class and the table of a tariff
unfoldable pub price_text : List ℕ → ℕ → TariffTable → Class → List ℕ
price_text error number table class =
    compact_text (error_data error number
    ((codes "class", string (class_name class)) ∷ (codes "table", string (table_name table)) ∷ []))

-- the name of a condition of rules
abbrev pub flaw_name : RuleFlaw → List ℕ
flaw_name flaws.TooManyRules = codes "TooManyRules"
flaw_name flaws.LongId = codes "LongId"
flaw_name flaws.DoubleId = codes "DoubleId"
flaw_name flaws.NoAction = codes "NoAction"
flaw_name flaws.BadFilter = codes "BadFilter"
flaw_name flaws.BadSizeRange = codes "BadSizeRange"
flaw_name flaws.BadDays = codes "BadDays"
flaw_name flaws.BadNewer = codes "BadNewer"
flaw_name flaws.EarlyInfrequent = codes "EarlyInfrequent"
flaw_name flaws.ExpiresTooSoon = codes "ExpiresTooSoon"
flaw_name flaws.MixedDates = codes "MixedDates"
flaw_name flaws.BadOrder = codes "BadOrder"
flaw_name flaws.MarkerRule = codes "MarkerRule"
flaw_name flaws.AbortFilter = codes "AbortFilter"
flaw_name flaws.BadExpiration = codes "BadExpiration"

-- the number of a condition of rules
abbrev pub flaw_number : RuleFlaw → ℕ
flaw_number flaws.TooManyRules = 20
flaw_number flaws.LongId = 21
flaw_number flaws.DoubleId = 22
flaw_number flaws.NoAction = 23
flaw_number flaws.BadFilter = 24
flaw_number flaws.BadSizeRange = 25
flaw_number flaws.BadDays = 26
flaw_number flaws.BadNewer = 27
flaw_number flaws.EarlyInfrequent = 28
flaw_number flaws.ExpiresTooSoon = 29
flaw_number flaws.MixedDates = 30
flaw_number flaws.BadOrder = 31
flaw_number flaws.MarkerRule = 32
flaw_number flaws.AbortFilter = 33
flaw_number flaws.BadExpiration = 34

-- the body of the refusal of a message whose body has a flaw
abbrev pub flaw_body : BodyFlaw → List ℕ
flaw_body bad_tags = error_text (codes "BadTags") 12
flaw_body bad_size = error_text (codes "BadSize") 13
flaw_body (unsupported_class name) = named_text (codes "UnsupportedClass") 43 name
flaw_body (bad_body field) = field_text (codes "BadBody") 123 field

-- the body of the refusal of a lifecycle configuration
abbrev pub rules_fault_body : RulesFault → List ℕ
rules_fault_body rules.NotADate = error_text (codes "NotADate") 2
rules_fault_body rules.NotMidnight = error_text (codes "NotMidnight") 3
rules_fault_body rules.NotJson = error_text (codes "NotJson") 40
rules_fault_body (rules.UnknownField name) = named_text (codes "UnknownField") 41 name
rules_fault_body (rules.WrongShape field) = field_text (codes "WrongShape") 42 field
rules_fault_body (rules.UnsupportedClass name) = named_text (codes "UnsupportedClass") 43 name
rules_fault_body (rules.Flaw flaw rule) = rule_text (flaw_name flaw) (flaw_number flaw) rule
rules_fault_body rules.NoMemory = error_text (codes "NoMemory") 115

-- the body of the refusal of a tariff
abbrev pub tariff_flaw_body : TariffFlaw → List ℕ
tariff_flaw_body tariffs.not_toml = error_text (codes "NotToml") 70
tariff_flaw_body (tariffs.missing_class table class) = price_text (codes "MissingClass") 71 table class
tariff_flaw_body (tariffs.bad_price table class) = price_text (codes "BadPrice") 72 table class
tariff_flaw_body (tariffs.unknown_field name) = named_text (codes "UnknownField") 73 name
tariff_flaw_body (tariffs.bad_tiers class) = class_text (codes "BadTiers") 74 class
tariff_flaw_body tariffs.bad_from = error_text (codes "BadFrom") 75

-- the body of the refusal of a message for its framing
abbrev pub framing_body : FramingRefusal → List ℕ
framing_body framings.BadHead = error_text (codes "BadHead") 120
framing_body framings.BodyTooLarge = error_text (codes "BodyTooLarge") 124
framing_body framings.ChunkedBody = error_text (codes "ChunkedBody") 125
framing_body framings.HeadTooLarge = error_text (codes "HeadTooLarge") 126
framing_body framings.CutShort = error_text (codes "CutShort") 127

-- the body of any refusal
abbrev pub refused_body : Refused → List ℕ
refused_body (in_framing bad) = framing_body bad
refused_body no_route = error_text (codes "NoRoute") 121
refused_body bad_method = error_text (codes "BadMethod") 122
refused_body not_a_month = error_text (codes "NotAMonth") 4
refused_body bad_bucket_name = error_text (codes "BadBucketName") 10
refused_body bad_key = error_text (codes "BadKey") 11
refused_body no_such_version = error_text (codes "NoSuchVersion") 51
refused_body no_such_upload = error_text (codes "NoSuchUpload") 60
refused_body bad_part = error_text (codes "BadPart") 61
refused_body (in_body flaw) = flaw_body flaw
refused_body (in_rules fault) = rules_fault_body fault
refused_body (in_tariff flaw) = tariff_flaw_body flaw
refused_body bad_token = error_text (codes "BadToken") 128
refused_body token_not_served = error_text (codes "TokenNotServed") 129

-- Bad Request, Payload Too Large, Not Implemented (RFC 9110, "Status Codes"), or Request Header Fields Too Large (RFC
-- 6585)
abbrev pub framing_status : FramingRefusal → ℕ
framing_status framings.BadHead = 400
framing_status framings.BodyTooLarge = 413
framing_status framings.ChunkedBody = 501
framing_status framings.HeadTooLarge = 431
framing_status framings.CutShort = 400

-- Not Found, Method Not Allowed, Conflict, or Bad Request (RFC 9110, "Status Codes")
abbrev pub refused_status : Refused → ℕ
refused_status (in_framing bad) = framing_status bad
refused_status no_route = 404
refused_status bad_method = 405
refused_status no_such_version = 404
refused_status no_such_upload = 404
refused_status bad_part = 409
refused_status other = 400

-- the text of a refusal
abbrev pub bad_text : Refused → List ℕ
bad_text broken = reply_with (refused_status broken) (refused_body broken)

-- the body of the reply to a refusal; None stands for memory that ran out, which is never heard as a refusal
abbrev pub told_body : Option Refused → List ℕ
told_body None = error_text (codes "NoMemory") 115
told_body (Some broken) = refused_body broken

-- the status of that reply
abbrev pub told_status : Option Refused → ℕ
told_status None = 500
told_status (Some broken) = refused_status broken

-- the reply to a refusal, with that status and that body
abbrev pub told_text : Option Refused → List ℕ
told_text told = reply_with (told_status told) (told_body told)

-- ---- a message that is asked

-- the body with the offset of the gate whose frame is damaged
unfoldable pub damaged_text : ℕ → List ℕ
damaged_text offset = compact_text (error_data (codes "Damaged") 112 ((codes "offset", whole_data offset) ∷ []))

-- why the journal was not opened again
abbrev pub open_body : OpenFault → List ℕ
open_body opening.NotMade = error_text (codes "NotMade") 110
open_body opening.Foreign = error_text (codes "Foreign") 111
open_body (opening.Damaged offset) = damaged_text offset
open_body opening.StoreFault = error_text (codes "StoreFault") 114
open_body opening.NoMemory = error_text (codes "NoMemory") 115

-- the body of the text of a call without an answer of the office
abbrev pub fault_body : DeskFault → List ℕ
fault_body (faults.StoreFault told count) = error_text (codes "StoreFault") 114
fault_body faults.JournalFull = error_text (codes "JournalFull") 113
fault_body (faults.Broken fault) = open_body fault
fault_body faults.NoMemory = error_text (codes "NoMemory") 115

-- Internal Server Error, or Service Unavailable (RFC 9110, "Status Codes")
abbrev pub open_status : OpenFault → ℕ
open_status opening.NotMade = 500
open_status opening.Foreign = 500
open_status (opening.Damaged offset) = 500
open_status opening.StoreFault = 503
open_status opening.NoMemory = 500

-- or Insufficient Storage (RFC 4918, "Status Code Extensions to HTTP/1.1")
abbrev pub fault_status : DeskFault → ℕ
fault_status (faults.StoreFault told count) = 503
fault_status faults.JournalFull = 507
fault_status (faults.Broken fault) = open_status fault
fault_status faults.NoMemory = 500

-- the text of a call without an answer of the office
abbrev pub fault_text : DeskFault → List ℕ
fault_text fault = reply_with (fault_status fault) (fault_body fault)

-- the text of what a call was answered
abbrev pub text_of : Result Answer DeskFault → List ℕ
text_of (Ok answer) = answer_text answer.reply
text_of (Err fault) = fault_text fault

-- the text of a refusal, or of a call without an answer
abbrev pub bad_text_of : Bad → List ℕ
bad_text_of (Message bad) = told_text (refused_of bad)
bad_text_of (Desk fault) = fault_text fault

-- the reply is said in pieces: it shows more than 32 versions of a key (own)
abbrev pub is_said_in_pieces : Result Reply Refusal → Bool
is_said_in_pieces (Ok (StackShown key stack)) = nat_lt 32 (length stack.versions)
is_said_in_pieces other = false

-- ---- a session

-- the text of an exchange: that of its call's answer, or of its refusal
abbrev pub exchange_text : Exchange → List ℕ
exchange_text (answered call) = text_of call.said
exchange_text (refused broken) = bad_text broken

-- the texts of the exchanges, in order
abbrev pub texts : List Exchange → List ℕ
texts exchanges = flat_map exchange_text exchanges
