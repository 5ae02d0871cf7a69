-- A head and a body behind it.
use Rattle.std.proofs.Common.{◌≡◌, ℕ, ◌<◌, ◌≤◌, List, [], ◌++◌, length, take, ◌∙◌, ◌^◌, sym, codes, decimal, refl, ap, arith, length-append, unwrap_or, Some, None, Result, Ok, Err}
use Rattle.std.proofs.lemmas.Fmt.{length-decimal-le}
use Rattle.std.proofs.lemmas.List.{take_all}
use Rattle.http.specs.StatusCode.{reason_phrase}
use Rattle.http_text.specs.Room.{HoldsText, Puts}
use Rattle.rules_core.specs.Configurations.{Configuration}
use Rattle.rules_json.specs.Printing.{printed}
use Rattle.office_types.specs.declared.reply.Reply.{Reply}
use Rattle.office_types.specs.declared.reply.Reply.TheVariants.{Deleted, RulesShown, Report}
use Rattle.office_types.specs.declared.refusal.Refusal.{Refusal}
use Rattle.http_text.specs.Bodies.{Body, json, csv}
use Rattle.http_text.specs.Replies.{head_text, head_with, reply_with, reply_of, status_of, answer_body, answer_text, body_text, text_of_body}
use Rattle.http_text.specs.Shorts.{IsInParts, IsInPartsReply, IsShort, IsShortReply}
use Rattle.http_text.proofs.RoomLemmas.{puts_then, puts_same}

pub head_parts : (status size : ℕ) → codes "HTTP/1.1 " ++ (decimal status ++ (codes " " ++ (unwrap_or (reason_phrase status) []
    ++ (codes "\r\ncontent-type: application/json\r\ncontent-length: " ++ (decimal size ++ codes "\r\n\r\n")))))
    ≡ head_text status size
unfolding head_text
head_parts status size = refl

pub head_with_parts : (media : List ℕ) (status size : ℕ) → codes "HTTP/1.1 " ++ (decimal status ++ (codes " " ++ (unwrap_or (reason_phrase status) []
    ++ (codes "\r\ncontent-type: " ++ (media ++ (codes "\r\ncontent-length: " ++ (decimal size ++ codes "\r\n\r\n")))))))
    ≡ head_with media status size
head_with_parts media status size = refl

-- a text that is put into no room is counted
pub counted : (none some text : List ℕ) (size : ℕ) → length none ≡ 0 → length text ≤ 16_000 → Puts none 0 some size text → size ≡ length text
counted none some text size empty small puts =
    let nothing : HoldsText none 0 [] = record { counts = refl; written = λ _. refl } in
    omega (arith, (puts [] nothing).counts, small)

pub whole : {old mid new : List ℕ} {at end : ℕ} (status size : ℕ) (body : List ℕ) → size ≡ length body
    → Puts old 0 mid at (head_text status size) → Puts mid at new end body → Puts old 0 new end (reply_with status body)
unfolding reply_with
whole status size body is head rest = puts_same _ (reply_with status body) (ap (λ (n : ℕ). head_text status n ++ body) is) (puts_then (head_text status size) body head rest)

-- of a status whose phrase is short
pub head_small : (status size : ℕ) → status < 1_000 → size ≤ 16_000 → length (unwrap_or (reason_phrase status) []) ≤ 100 → length (head_text status size) ≤ 300
head_small status size low few short =
    let last = decimal size ++ codes "\r\n\r\n" in
    let fields = codes "\r\ncontent-type: application/json\r\ncontent-length: " ++ last in
    let phrase = unwrap_or (reason_phrase status) [] ++ fields in
    omega (
      arith,
      ap length (head_parts status size),
      length-append (decimal status) (codes " " ++ phrase),
      length-append (unwrap_or (reason_phrase status) []) fields,
      length-append (decimal size) (codes "\r\n\r\n"),
      length-decimal-le 20 status (omega arith) (omega (arith, low)) (omega (arith, low)),
      length-decimal-le 20 size (omega arith) (omega (arith, few)) (omega (arith, few)),
      short,
    )

pub reply_small : (status : ℕ) (body : List ℕ) → status < 1_000 → length (unwrap_or (reason_phrase status) []) ≤ 100 → length body ≤ 16_000 → length (reply_with status body) ≤ 16384
unfolding reply_with
reply_small status body low short few = omega (arith, length-append (head_text status (length body)) body, head_small status (length body) low few short, few)

-- a text that is written into a room of the size that was counted
pub filled : {first counts old new : List ℕ} {whole end : ℕ} (text : List ℕ) → Puts first 0 counts whole text → Puts old 0 new end text → length new ≡ whole → whole < 2 ^ 63 → new ≡ text
filled {first} {counts} {old} {new} {whole} {end} text counted puts fits short =
    let all = (counted [] (record { counts = refl; written = λ _. refl })).counts in
    let is_whole : length text ≡ length new = omega (arith, all, fits, short) in
    sym (take_all (length new) new (omega arith)) ∙ ap (λ (n : ℕ). take n new) (sym is_whole)
    ∙ (puts [] (record { counts = refl; written = λ _. refl })).written (omega (arith, is_whole))

-- the same of a reply whose body was counted in another room
pub whole_reply : {first second counts more old new : List ℕ} {size whole end : ℕ} (status : ℕ) (body : List ℕ) → Puts first 0 counts size body
    → Puts second 0 more whole (head_text status size ++ body) → Puts old 0 new end (head_text status size ++ body) → length new ≡ whole → whole < 2 ^ 63 → new ≡ reply_with status body
unfolding reply_with
whole_reply {first} {second} {counts} {more} {old} {new} {size} {whole} {end} status body counted long puts fits short =
    let text = head_text status size ++ body in
    let some = (counted [] (record { counts = refl; written = λ _. refl })).counts in
    let all = (long [] (record { counts = refl; written = λ _. refl })).counts in
    let is_size : size ≡ length body = omega (arith, some, all, short, length-append (head_text status size) body) in
    filled text long puts fits short ∙ ap (λ (n : ℕ). head_text status n ++ body) is_size

-- an answer whose body is JSON
abbrev pub IsJson : Body → Type 0
IsJson (json value) = Unit {0}
IsJson (csv text) = ⊥

json_reply : (status : ℕ) (body : Body) → IsJson body → reply_with status (text_of_body body) ≡ reply_of status body
json_reply status (json value) is = refl
json_reply status (csv text) is = absurd is

json_in_parts : (a : Result Reply Refusal) → IsInParts a → IsJson (answer_body a)
json_in_parts (Ok (Report lines)) parts = absurd parts
json_in_parts (Ok (Deleted None)) parts = tt
json_in_parts (Ok (Deleted (Some marker))) parts = tt
json_in_parts (Ok other) parts = tt
json_in_parts (Err refusal) parts = tt

pub answer_is : (a : Result Reply Refusal) → IsInParts a → reply_with (status_of a) (body_text a) ≡ answer_text a
unfolding body_text
answer_is a parts = json_reply (status_of a) (answer_body a) (json_in_parts a parts)

short_parts : (reply : Reply) → IsShortReply reply → IsInPartsReply reply
short_parts (RulesShown rules) short = absurd short
short_parts (Report lines) short = absurd short
short_parts other short = tt

-- a short answer is written from its parts
pub short_in_parts : (a : Result Reply Refusal) → IsShort a → IsInParts a
short_in_parts (Ok reply) short = short_parts reply short
short_in_parts (Err refusal) short = tt

-- a configuration is shown as it is printed
pub rules_reply : (rules : Configuration) (text : List ℕ) → text ≡ printed rules → head_with (codes "application/json") 200 (length text) ++ text ≡ answer_text (Ok (RulesShown rules))
unfolding printed reply_with head_text
rules_reply rules text is = ap (λ (t : List ℕ). head_with (codes "application/json") 200 (length t) ++ t) is
