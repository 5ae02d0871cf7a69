-- The reply to an answer of the office: a status, the media type and length of the body, and the body.
use Rattle.std.specs.Prelude.{ℕ, List, [], ◌∷◌, ◌++◌, codes, decimal, length, unwrap_or, Result, Ok, Err}
use Rattle.http.specs.StatusCode.{reason_phrase}
use Rattle.serde_json.specs.Written.{compact_text}
use Rattle.office_types.specs.declared.reply.Reply.{Reply}
use Rattle.office_types.specs.declared.reply.Reply.TheVariants.{BucketMade, Stored, UploadStarted}
use Rattle.office_types.specs.declared.refusal.Refusal.{Refusal}
use Rattle.office_types.specs.declared.refusal.Refusal.TheVariants.{BucketExists, NoSuchBucket, NoRules}
use Rattle.office_types.specs.declared.refusal.Refusal.TheVariants.{NotEnabledBefore, NoSuchKey, NoSuchVersion}
use Rattle.office_types.specs.declared.refusal.Refusal.TheVariants.{IsMarker, NoSuchUpload, BadPart, NoParts}
use Rattle.office_types.specs.declared.refusal.Refusal.TheVariants.{MonthNotOver, AlreadyClosed, EarlierMonthOpen}
use Rattle.office_types.specs.declared.refusal.Refusal.TheVariants.{NoTariff, DueActions, Full, ClockEnd, TokenReused}
use Rattle.office_types.specs.declared.refusal.Refusal.TheVariants.{NoMemory}
pub use Rattle.http_text.specs.Json.{whole_data}
pub use Rattle.http_text.specs.Refusals.{error_data, error_text}
use Rattle.http_text.specs.Bodies.{Body, json, csv, reply_body}
use Rattle.http_text.specs.Refusals.{refusal_data}

-- ---- statuses (RFC 9110, "Status Codes"; own: which one an answer has)

-- Created if something new gets a name, otherwise OK
abbrev pub reply_status : Reply → ℕ
reply_status (BucketMade bucket) = 201
reply_status (Stored moment version) = 201
reply_status (UploadStarted upload) = 201
reply_status other = 200

-- Not Found, Conflict, Insufficient Storage (RFC 4918, "Status Code Extensions to HTTP/1.1"), Internal Server Error
abbrev pub refusal_status : Refusal → ℕ
refusal_status BucketExists = 409
refusal_status NoSuchBucket = 404
refusal_status NoRules = 404
refusal_status NotEnabledBefore = 409
refusal_status NoSuchKey = 404
refusal_status NoSuchVersion = 404
refusal_status IsMarker = 409
refusal_status NoSuchUpload = 404
refusal_status BadPart = 409
refusal_status NoParts = 409
refusal_status (MonthNotOver end) = 409
refusal_status AlreadyClosed = 409
refusal_status (EarlierMonthOpen month) = 409
refusal_status NoTariff = 409
refusal_status (DueActions bucket key target) = 409
refusal_status (Full what limit) = 507
refusal_status (ClockEnd moment) = 409
refusal_status (TokenReused kind) = 409
refusal_status NoMemory = 500

-- the status of an answer: that of its reply, or of its refusal
abbrev pub status_of : Result Reply Refusal → ℕ
status_of (Ok reply) = reply_status reply
status_of (Err refusal) = refusal_status refusal

-- ---- bodies

-- the body of an answer; that of a refusal is JSON
abbrev pub answer_body : Result Reply Refusal → Body
answer_body (Ok reply) = reply_body reply
answer_body (Err refusal) = json (refusal_data refusal)

-- a body as written: JSON has no spaces, and the members of each object are in byte order (own)
abbrev pub text_of_body : Body → List ℕ
text_of_body (json value) = compact_text value
text_of_body (csv text) = text

-- the body of an answer, as it is written
unfoldable pub body_text : Result Reply Refusal → List ℕ
body_text answer = text_of_body (answer_body answer)

-- ---- replies (RFC 9112, "Message Format")

-- the end of a line in a head: a carriage return and a line feed
abbrev pub crlf : List ℕ
crlf = 13 ∷ 10 ∷ []

-- the head of a reply whose body has size bytes of this media type
abbrev pub head_with : List ℕ → ℕ → ℕ → List ℕ
head_with media status size =
    codes "HTTP/1.1 " ++ (decimal status ++ (codes " " ++ (unwrap_or (reason_phrase status) [] ++ (crlf
    ++ (codes "content-type: " ++ (media ++ (crlf
    ++ (codes "content-length: " ++ (decimal size ++ (crlf ++ crlf))))))))))

-- the head of a reply with a JSON body of size bytes
unfoldable pub head_text : ℕ → ℕ → List ℕ
head_text status size = head_with (codes "application/json") status size

-- a reply with this status and JSON body
unfoldable pub reply_with : ℕ → List ℕ → List ℕ
reply_with status body = head_text status (length body) ++ body

-- a reply with this status and body; its head names the media type of the body
abbrev pub reply_of : ℕ → Body → List ℕ
reply_of status (json value) = reply_with status (compact_text value)
reply_of status (csv text) = head_with (codes "text/csv") status (length text) ++ text

-- the whole reply to an answer
abbrev pub answer_text : Result Reply Refusal → List ℕ
answer_text answer = reply_of (status_of answer) (answer_body answer)
