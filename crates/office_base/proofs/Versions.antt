-- The texts of version ids.
use Rattle.std.proofs.Common.{◌≡◌, ◌≢◌, ◌∙◌, sym, ℕ, zero, suc, ◌+◌, ◌%◌, ◌<◌, ◌≤◌, ◌^◌, true, false, List, [], ◌∷◌, ◌++◌, length, get_or, Result, Ok, Err, decimal, codes, subst, ap, arith}
use Rattle.std.proofs.lemmas.Bool.Decides.{nat_tests}
use Rattle.std.specs.Str.Parse.{AllDigits, digits_value, ParsesUnsigned}
use Rattle.std.proofs.lemmas.Str.Parse.{IsNumeralModel, numerals_by_value, tells_digits, parse_plain}
use Rattle.std.proofs.lemmas.Fmt.{decimal_digit, decimal_by_steps, decimal-digits_value, parse-decimal}
use Rattle.office_base.specs.Versions.{id_text, IsVersionId, begins_with_number}
use Rattle.office_base.specs.declared.version_id.VersionId.{VersionId}
use Rattle.office_base.specs.declared.version_id.VersionId.TheVariants.{Null, Number}

more_digits : (ds : List ℕ) (d : ℕ) → begins_with_number ds ≡ true → begins_with_number (ds ++ d ∷ []) ≡ true
more_digits [] d begins = absurd cc
more_digits (c ∷ ds) d begins = begins

-- what is written of a number from 1 on begins with no zero
number_begins : (n : ℕ) → n < 2 ^ 64 → 0 < n → begins_with_number (decimal n) ≡ true
number_begins =
    decimal_by_steps (λ n ds. 0 < n → begins_with_number ds ≡ true)
    (λ n small from. grind (arith, nat_tests))
    (λ n ds big before from. more_digits ds (48 + n % 10) (before (omega (arith, big))))

pub no_number : (text : List ℕ) → begins_with_number text ≡ false → (n : ℕ) → IsVersionId (Number n) → text ≢ decimal n
no_number text not n is e =
    let begins : begins_with_number text ≡ true = subst (λ t. begins_with_number t ≡ true) (sym e) (number_begins n is.1 is.0) in
    absurd cc

pub no_id : (text : List ℕ) → text ≢ codes "null" → ((n : ℕ) → IsVersionId (Number n) → text ≢ decimal n) → (id : VersionId) → IsVersionId id → text ≢ id_text id
no_id text null number Null is = null
no_id text null number (Number n) is = number n is

own : IsNumeralModel (AllDigits 10) (digits_value 10)
own = numerals_by_value _ tells_digits

-- a text that begins so has a first byte from 49 to 57
first_byte : (text : List ℕ) → begins_with_number text ≡ true → (0 < length text) × (49 ≤ get_or text 0 0) × (get_or text 0 0 ≤ 57)
first_byte [] begins = absurd cc
first_byte (c ∷ text) begins = (omega arith, grind (arith, nat_tests), grind (arith, nat_tests))

-- its number is not 0
above : (n : ℕ) (text : List ℕ) → begins_with_number text ≡ true → text ≡ decimal n → 0 < n
above zero text begins is =
    let zero_begins : begins_with_number (decimal 0) ≡ true = subst (λ t. begins_with_number t ≡ true) is begins in
    let digit : decimal 0 ≡ 48 ∷ [] = decimal_digit 0 (omega arith) in
    let not : begins_with_number (48 ∷ []) ≡ true = subst (λ t. begins_with_number t ≡ true) digit zero_begins in
    absurd cc
above (suc n) text begins is = omega arith

read_number : (E : Type 0) (text : List ℕ) (n : ℕ) → begins_with_number text ≡ true → ParsesUnsigned {E = E} 64 10 text (Ok n) → IsVersionId (Number n) × (text ≡ decimal n)
read_number E text n begins read =
    let first = first_byte text begins in
    let plain = parse_plain own {E = E} 64 text (Ok n) read (λ e. omega (arith, first, e)) in
    let written : decimal (digits_value 10 text) ≡ text = decimal-digits_value own text plain.0.0 first.0 (λ e. absurd (omega (arith, first, e))) plain.0.2 in
    let is : text ≡ decimal n = sym (ap decimal plain.1 ∙ written) in
    let small : n < 2 ^ 64 = omega (arith, plain) in
    ((above n text begins is, small), is)

pub number_read : {E : Type 0} (text : List ℕ) (r : Result ℕ E) (n : ℕ) → r ≡ Ok n → begins_with_number text ≡ true → ParsesUnsigned 64 10 text r → IsVersionId (Number n) × (text ≡ decimal n)
number_read {E} text r n is begins read = read_number E text n begins (subst (λ q. ParsesUnsigned 64 10 text q) is read)

pub number_not_read : {E : Type 0} (text : List ℕ) (r : Result ℕ E) (e : E) → r ≡ Err e → ParsesUnsigned 64 10 text r → (n : ℕ) → IsVersionId (Number n) → text ≢ decimal n
number_not_read text r e is read n in_range written =
    let ok : r ≡ Ok n = parse-decimal 64 n text r in_range.1 in_range.1 written read in
    absurd cc
