-- Texts of refusals and faults, and the calls and moments among exchanges, computed.
use Rattle.std.proofs.Common.{◌≡◌, ℕ, true, false, List, [], ◌∷◌, ◌++◌, codes, decimal, refl, ap, ◌∙◌, arith, Option, Ok, Err}
use Rattle.std.proofs.lemmas.Fmt.{decimal_digit}
use Rattle.json.specs.Print.{escape_byte}
use Rattle.serde_json.proofs.OnLiterals.{serde_json_on_literals}
use Rattle.office_types.specs.declared.command.Ask.{Ask}
use Rattle.desk_core.specs.Answers.{Answer, Call}
use Rattle.desk_core.specs.declared.fault.DeskFault.TheVariants.{StoreFault, JournalFull}
use Rattle.class_rules.specs.declared.class.Class.TheVariants.{Standard}
use Rattle.tariff.specs.Faults as tariffs
use Rattle.http_bodies.specs.Flaws.{bad_size}
use Rattle.http_wire.specs.declared.framing.FramingRefusal.TheVariants.{BadHead, BodyTooLarge, ChunkedBody, HeadTooLarge, CutShort}
use Rattle.http_asks.specs.Meaning.{not_a_month, bad_key, in_body, in_tariff, in_framing, no_route, bad_method, bad_token, token_not_served}
use Rattle.http_front.specs.Exchanges.{answered, refused, calls_of, moments_of, ends_unframed}
use Rattle.http_front.specs.Texts.{named_text, field_text, rule_text, damaged_text, class_text, refused_body, refused_status, fault_status, bad_text, error_reply}
use Rattle.http_front.proofs.PrintLemmas.{two_digits, three_digits}

field_told : field_text (codes "BadBody") 123 (codes "size") ≡ codes "{\"error\":\"BadBody\",\"field\":\"size\",\"number\":123}"
unfolding serde_json_on_literals field_text escape_byte
field_told =
    ap (λ (digits : List ℕ). codes "{\"error\":\"BadBody\",\"field\":\"size\",\"number\":" ++ (digits ++ codes "}"))
    (three_digits 1 2 3 (omega arith) (omega arith) (omega arith) (omega arith) 123 (omega arith))

quote_escaped : named_text (codes "UnsupportedClass") 43 (codes "A\"B") ≡ codes "{\"error\":\"UnsupportedClass\",\"name\":\"A\\\"B\",\"number\":43}"
unfolding serde_json_on_literals named_text escape_byte
quote_escaped =
    ap (λ (digits : List ℕ). codes "{\"error\":\"UnsupportedClass\",\"name\":\"A\\\"B\",\"number\":" ++ (digits ++ codes "}"))
    (two_digits 4 3 (omega arith) (omega arith) (omega arith) 43 (omega arith))

rule_told : rule_text (codes "MarkerRule") 32 1 ≡ codes "{\"error\":\"MarkerRule\",\"number\":32,\"rule\":1}"
unfolding serde_json_on_literals rule_text escape_byte
rule_told =
    ap (λ (digits : List ℕ). codes "{\"error\":\"MarkerRule\",\"number\":" ++ (digits ++ (codes ",\"rule\":" ++ (decimal 1 ++ codes "}"))))
    (two_digits 3 2 (omega arith) (omega arith) (omega arith) 32 (omega arith))
    ∙ ap (λ (digits : List ℕ). codes "{\"error\":\"MarkerRule\",\"number\":32,\"rule\":" ++ (digits ++ codes "}")) (decimal_digit 1 (omega arith))

damaged_told : damaged_text 30 ≡ codes "{\"error\":\"Damaged\",\"number\":112,\"offset\":30}"
unfolding serde_json_on_literals damaged_text
damaged_told =
    ap (λ (digits : List ℕ). codes "{\"error\":\"Damaged\",\"number\":" ++ (digits ++ (codes ",\"offset\":" ++ (decimal 30 ++ codes "}"))))
    (three_digits 1 1 2 (omega arith) (omega arith) (omega arith) (omega arith) 112 (omega arith))
    ∙ ap (λ (digits : List ℕ). codes "{\"error\":\"Damaged\",\"number\":112,\"offset\":" ++ (digits ++ codes "}"))
    (two_digits 3 0 (omega arith) (omega arith) (omega arith) 30 (omega arith))

store_is_unavailable : (number : Option ℕ) (count : ℕ) → fault_status (StoreFault number count) ≡ 503
store_is_unavailable number count = refl

size_is_bad_request : refused_status (in_body bad_size) ≡ 400
size_is_bad_request = refl

-- ---- what is told of a message that leads nowhere, or whose framing is refused

nowhere : bad_text no_route ≡ error_reply 404 (codes "NoRoute") 121
nowhere = refl

not_served : bad_text bad_method ≡ error_reply 405 (codes "BadMethod") 122
not_served = refl

no_head : bad_text (in_framing BadHead) ≡ error_reply 400 (codes "BadHead") 120
no_head = refl

large_body : bad_text (in_framing BodyTooLarge) ≡ error_reply 413 (codes "BodyTooLarge") 124
large_body = refl

coded_body : bad_text (in_framing ChunkedBody) ≡ error_reply 501 (codes "ChunkedBody") 125
coded_body = refl

large_head : bad_text (in_framing HeadTooLarge) ≡ error_reply 431 (codes "HeadTooLarge") 126
large_head = refl

cut_message : bad_text (in_framing CutShort) ≡ error_reply 400 (codes "CutShort") 127
cut_message = refl

-- ---- what is told of a token, and of the tiers and the first month of a tariff

wrong_token : bad_text bad_token ≡ error_reply 400 (codes "BadToken") 128
wrong_token = refl

unserved_token : bad_text token_not_served ≡ error_reply 400 (codes "TokenNotServed") 129
unserved_token = refl

wrong_tiers : class_text (codes "BadTiers") 74 Standard ≡ codes "{\"class\":\"STANDARD\",\"error\":\"BadTiers\",\"number\":74}"
unfolding serde_json_on_literals class_text escape_byte
wrong_tiers =
    ap (λ (digits : List ℕ). codes "{\"class\":\"STANDARD\",\"error\":\"BadTiers\",\"number\":" ++ (digits ++ codes "}"))
    (two_digits 7 4 (omega arith) (omega arith) (omega arith) 74 (omega arith))

tiers_told : refused_body (in_tariff (tariffs.bad_tiers Standard)) ≡ class_text (codes "BadTiers") 74 Standard
tiers_told = refl

wrong_first_month : bad_text (in_tariff tariffs.bad_from) ≡ error_reply 400 (codes "BadFrom") 75
wrong_first_month = refl

tiers_are_bad_request : refused_status (in_tariff (tariffs.bad_tiers Standard)) ≡ 400
tiers_are_bad_request = refl

-- such a message ends the exchanges that it is the last of
framing_ends : (call : Call) → ends_unframed (answered call ∷ refused (in_framing CutShort) ∷ []) ≡ true
framing_ends call = refl

-- a refused token is not the last of its session
token_does_not : (call : Call) → ends_unframed (answered call ∷ refused bad_token ∷ []) ≡ false
token_does_not call = refl

others_do_not : (call : Call) → ends_unframed (answered call ∷ refused no_route ∷ []) ≡ false
others_do_not call = refl

-- refusals are no calls
calls_alone : (first second : Call) → calls_of (answered first ∷ refused bad_key ∷ answered second ∷ refused not_a_month ∷ []) ≡ first ∷ second ∷ []
calls_alone first second = refl

-- neither a refusal nor a fault has a moment
moments_alone : (first second last : Ask) (answer : Answer)
    → moments_of (answered (record { ask = first; said = Ok answer }) ∷ refused bad_key ∷ answered (record { ask = second; said = Err JournalFull })
    ∷ answered (record { ask = last; said = Ok answer }) ∷ []) ≡ answer.disk_moment ∷ answer.disk_moment ∷ []
moments_alone first second last answer = refl
