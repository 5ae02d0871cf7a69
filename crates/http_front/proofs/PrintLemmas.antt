-- The texts, written out, and how long they are.
use Rattle.std.proofs.Common.{◌≡◌, ℕ, ◌+◌, ◌*◌, ◌/◌, ◌%◌, ◌^◌, ◌<◌, ◌≤◌, List, [], ◌∷◌, ◌++◌, length, take, codes, decimal, refl, sym, ap, ◌∙◌, arith, append_assoc}
use Rattle.std.proofs.Common.{length-append, unwrap_or, IfOk, OnOk, OnErr, Result, Ok, Err, IsOk}
use Rattle.std.proofs.lemmas.Fmt.{decimal_digit, decimal_step}
use Rattle.http.specs.StatusCode.{reason_phrase}
use Rattle.json.specs.Print.{escape_byte, quoted}
use Rattle.serde_json.proofs.OnLiterals.{serde_json_on_literals}
use Rattle.http_text.specs.Room.{HoldsText, Puts}
use Rattle.http_text.specs.Replies.{error_text, head_text, reply_with}
use Rattle.http_text.proofs.Texts.{error_is}
use Rattle.http_text.proofs.Whole.{head_parts}
use Rattle.http_text.proofs.Small.{decimal_small}
use Rattle.http_text.proofs.Statuses.{IsLow}
use Rattle.meter_journal.specs.declared.fault.OpenFault.{OpenFault}
use Rattle.meter_journal.specs.declared.fault.OpenFault.TheVariants as opening
use Rattle.desk_core.specs.declared.fault.DeskFault.{DeskFault}
use Rattle.desk_core.specs.declared.fault.DeskFault.TheVariants as faults
use Rattle.class_rules.specs.Classes.{class_name}
use Rattle.class_rules.specs.declared.class.Class.{Class}
use Rattle.tariff.specs.Reading.{table_name}
use Rattle.tariff.specs.declared.fault.TariffTable.{TariffTable}
use Rattle.http_front.specs.Texts.{error_reply, no_memory_text, named_text, field_text, rule_text, class_text, price_text, damaged_text, open_status, fault_status}

-- ---- numbers

pub two_digits : (a b : ℕ) → 0 < a → a < 10 → b < 10 → (n : ℕ) → n ≡ a * 10 + b → decimal n ≡ (48 + a) ∷ (48 + b) ∷ []
two_digits a b some fa fb n is =
    decimal_step n (omega arith) (omega arith)
    ∙ ap (λ (t : List ℕ). t ++ (48 + n % 10) ∷ []) (ap decimal (omega arith) ∙ decimal_digit a fa)
    ∙ ap (λ (d : ℕ). (48 + a) ∷ (48 + d) ∷ []) (omega arith)

pub three_digits : (a b c : ℕ) → 0 < a → a < 10 → b < 10 → c < 10 → (n : ℕ) → n ≡ a * 100 + b * 10 + c → decimal n ≡ (48 + a) ∷ (48 + b) ∷ (48 + c) ∷ []
three_digits a b c some fa fb fc n is =
    decimal_step n (omega arith) (omega arith)
    ∙ ap (λ (t : List ℕ). t ++ (48 + n % 10) ∷ []) (two_digits a b some fa fb (n / 10) (omega arith))
    ∙ ap (λ (d : ℕ). (48 + a) ∷ (48 + b) ∷ (48 + d) ∷ []) (omega arith)

is_33 : decimal 33 ≡ codes "33"
is_33 = two_digits 3 3 (omega arith) (omega arith) (omega arith) 33 (omega arith)

is_115 : decimal 115 ≡ codes "115"
is_115 = three_digits 1 1 5 (omega arith) (omega arith) (omega arith) (omega arith) 115 (omega arith)

is_500 : decimal 500 ≡ codes "500"
is_500 = three_digits 5 0 0 (omega arith) (omega arith) (omega arith) (omega arith) 500 (omega arith)

-- ---- refusals

abbrev body_with : List ℕ → List ℕ → List ℕ
body_with name digits = codes "{\"error\":\"" ++ (name ++ (codes "\",\"number\":" ++ (digits ++ codes "}")))

abbrev head_with : List ℕ → List ℕ → List ℕ → List ℕ
head_with status phrase size = codes "HTTP/1.1 " ++ (status ++ (codes " " ++ (phrase ++ (codes "\r\ncontent-type: application/json\r\ncontent-length: " ++ (size ++ codes "\r\n\r\n")))))

-- a name that has nothing to escape
abbrev IsPlain : List ℕ → Type 0
IsPlain name = quoted name ≡ codes "\"" ++ (name ++ codes "\"")

body_is : (name digits : List ℕ) (number : ℕ) → IsPlain name → decimal number ≡ digits → body_with name digits ≡ error_text name number
body_is name digits number plain is =
    ap (λ (l : List ℕ). codes "{\"error\":\"" ++ l) (sym (append_assoc name (codes "\"") (codes ",\"number\":" ++ (digits ++ codes "}"))))
    ∙ ap (λ (l : List ℕ). codes "{\"error\":" ++ (l ++ (codes ",\"number\":" ++ (digits ++ codes "}")))) (sym plain)
    ∙ ap (λ (d : List ℕ). codes "{\"error\":" ++ (quoted name ++ (codes ",\"number\":" ++ (d ++ codes "}")))) (sym is)
    ∙ error_is name number

reply_is : (status number : ℕ) (digits phrase size name text : List ℕ) → decimal status ≡ digits → unwrap_or (reason_phrase status) [] ≡ phrase
    → body_with name text ≡ error_text name number → decimal (length (body_with name text)) ≡ size
    → head_with digits phrase size ++ body_with name text ≡ error_reply status name number
unfolding reply_with
reply_is status number digits phrase size name text is_status is_phrase is_body is_size =
    ap (λ (d : List ℕ). head_with d phrase size ++ body_with name text) (sym is_status)
    ∙ ap (λ (p : List ℕ). head_with (decimal status) p size ++ body_with name text) (sym is_phrase)
    ∙ ap (λ (s : List ℕ). head_with (decimal status) (unwrap_or (reason_phrase status) []) s ++ body_with name text) (sym is_size)
    ∙ ap (λ (h : List ℕ). h ++ body_with name text) (head_parts status (length (body_with name text)))
    ∙ ap (λ (b : List ℕ). head_text status (length b) ++ b) is_body

no_memory_plain : IsPlain (codes "NoMemory")
unfolding escape_byte
no_memory_plain = refl

pub no_memory_is : codes "HTTP/1.1 500 Internal Server Error\r\ncontent-type: application/json\r\ncontent-length: 33\r\n\r\n{\"error\":\"NoMemory\",\"number\":115}" ≡ no_memory_text
no_memory_is =
    reply_is 500 115 (codes "500") (codes "Internal Server Error") (codes "33") (codes "NoMemory") (codes "115") is_500
    refl (body_is (codes "NoMemory") (codes "115") 115 no_memory_plain is_115) is_33

-- ---- bodies that tell more

pub named_is : (error : List ℕ) (number : ℕ) (name : List ℕ)
    → codes "{\"error\":" ++ (quoted error ++ (codes ",\"name\":" ++ (quoted name ++ (codes ",\"number\":" ++ (decimal number ++ codes "}"))))) ≡ named_text error number name
unfolding serde_json_on_literals named_text
named_is error number name = refl

pub field_is : (error : List ℕ) (number : ℕ) (field : List ℕ)
    → codes "{\"error\":" ++ (quoted error ++ (codes ",\"field\":" ++ (quoted field ++ (codes ",\"number\":" ++ (decimal number ++ codes "}"))))) ≡ field_text error number field
unfolding serde_json_on_literals field_text
field_is error number field = refl

pub rule_is : (error : List ℕ) (number rule : ℕ)
    → codes "{\"error\":" ++ (quoted error ++ (codes ",\"number\":" ++ (decimal number ++ (codes ",\"rule\":" ++ (decimal rule ++ codes "}"))))) ≡ rule_text error number rule
unfolding serde_json_on_literals rule_text
rule_is error number rule = refl

pub class_is : (error : List ℕ) (number : ℕ) (class : Class)
    → codes "{\"class\":" ++ (quoted (class_name class) ++ (codes ",\"error\":" ++ (quoted error ++ (codes ",\"number\":" ++ (decimal number ++ codes "}")))))
    ≡ class_text error number class
unfolding serde_json_on_literals class_text
class_is error number class = refl

pub price_is : (error : List ℕ) (number : ℕ) (table : TariffTable) (class : Class)
    → codes "{\"class\":"
    ++ (quoted (class_name class)
    ++ (codes ",\"error\":"
    ++ (quoted error
    ++ (codes ",\"number\":"
    ++ (decimal number
    ++ (codes ",\"table\":" ++ (quoted (table_name table) ++ codes "}")))))))
    ≡ price_text error number table class
unfolding serde_json_on_literals price_text
price_is error number table class = refl

pub damaged_is : (offset : ℕ) → codes "{\"error\":\"Damaged\",\"number\":" ++ (decimal 112 ++ (codes ",\"offset\":" ++ (decimal offset ++ codes "}"))) ≡ damaged_text offset
unfolding serde_json_on_literals damaged_text
damaged_is offset = refl

pub damaged_small : (offset : ℕ) → offset < 2 ^ 64 → length (damaged_text offset) ≤ 16_000
damaged_small offset fits =
    let last = decimal offset ++ codes "}" in
    omega (
      arith,
      ap length (damaged_is offset),
      length-append (decimal 112) (codes ",\"offset\":" ++ last),
      length-append (decimal offset) (codes "}"),
      decimal_small 112 (omega arith),
      decimal_small offset fits,
    )

open_low : (fault : OpenFault) → IsLow (open_status fault)
open_low opening.NotMade = (omega arith, omega arith)
open_low opening.Foreign = (omega arith, omega arith)
open_low (opening.Damaged offset) = (omega arith, omega arith)
open_low opening.StoreFault = (omega arith, omega arith)
open_low opening.NoMemory = (omega arith, omega arith)

pub fault_low : (fault : DeskFault) → IsLow (fault_status fault)
fault_low (faults.StoreFault told count) = (omega arith, omega arith)
fault_low faults.JournalFull = (omega arith, omega arith)
fault_low (faults.Broken fault) = open_low fault
fault_low faults.NoMemory = (omega arith, omega arith)

-- ---- the room

-- a text that was put whole
pub printed : (old new text : List ℕ) (end : ℕ) → Puts old 0 new end text → length new < 2 ^ 63 → end ≤ length new → (end ≡ length text) × (take end new ≡ text)
printed old new text end puts fits ends =
    let start : HoldsText old 0 [] = record { counts = refl; written = λ _. refl } in
    let all = puts [] start in
    let is_end : end ≡ length text = omega (arith, all.counts, fits, ends) in
    (is_end, ap (λ (n : ℕ). take n new) is_end ∙ all.written (omega (arith, is_end, ends)))

-- a text that is longer than the room
pub too_long : (old new text : List ℕ) (end : ℕ) → Puts old 0 new end text → length new < 2 ^ 63 → length new < end → length new < length text
too_long old new text end puts fits ends =
    let start : HoldsText old 0 [] = record { counts = refl; written = λ _. refl } in
    let all = puts [] start in
    omega (arith, all.counts, fits, ends)

-- what printing answers, by whether the text ends in the room
module _ {E : Type 0} (old new text : List ℕ) (end : ℕ) (puts : Puts old 0 new end text) (fits : length new < 2 ^ 63) where
  pub print_text : (result : Result ℕ E) → IfOk result (λ size. (size ≡ end) × (end ≤ length new))
      → IfOk result (λ size. (size ≡ length text) × (take size new ≡ text))
  print_text (Ok size) (same, ends) =
      let whole = printed old new text end puts fits ends in
      (same ∙ whole.0, ap (λ (n : ℕ). take n new) same ∙ whole.1)
  print_text (Err e) ok = tt

  pub print_fits : (result : Result ℕ E) → length new ≡ length old → IfOk result (λ size. (size ≡ end) × (end ≤ length new)) → OnOk result (length text ≤ length old)
  print_fits (Ok size) same (is, ends) = omega (arith, same, ends, (printed old new text end puts fits ends).0)
  print_fits (Err e) same ok = tt

  pub print_no_room : (result : Result ℕ E) → length new ≡ length old → OnErr result (length new < end) → OnErr result (length old < length text)
  print_no_room (Ok size) same err = tt
  print_no_room (Err e) same err = omega (arith, same, too_long old new text end puts fits err)

  pub print_enough : (result : Result ℕ E) → length new ≡ length old → length text ≤ 16384 → OnErr result (length new < end) → 16384 ≤ length old → IsOk result
  print_enough (Ok size) same small err enough = refl
  print_enough (Err e) same small err enough = absurd (omega (arith, same, small, enough, too_long old new text end puts fits err))
