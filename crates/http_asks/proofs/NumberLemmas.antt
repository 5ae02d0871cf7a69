-- Numbers and ids, as parts of a path write them.
use Rattle.std.proofs.Common.{◌≡◌, ◌≢◌, ◌∙◌, sym, ap, subst, refl, ℕ, zero, suc, ◌<◌, ◌≤◌, ◌^◌, Bool, true, false, ◌&&◌, List, [], ◌∷◌, length, get_or, Some, None, Result, Ok, decimal, codes, arith}
use Rattle.std.specs.Prelude.{nat_lt, nat_le, option_map, if◌then◌else◌}
use Rattle.std.specs.Char.{is_ascii_digit}
use Rattle.std.specs.Str.{all_ascii_digits, bytes_eq}
use Rattle.std.specs.Str.Parse.{digits_value, ParsesUnsigned}
use Rattle.std.proofs.lemmas.Bool.Decides.{nat_tests}
use Rattle.std.proofs.lemmas.Slice.Eq.{bytes_eq-Decides}
use Rattle.std.proofs.lemmas.Str.Parse.{IsNumeralModel, numerals_by_value, tells_all_ascii_digits, digits_value_short, parse_gives}
use Rattle.std.proofs.lemmas.Fmt.{decimal_digit, decimal-digits_value, digits_decimal, digits_value-decimal}
use Rattle.office_base.proofs.Versions.{no_number}
use Rattle.office_base.specs.Versions.{id_text, IsVersionId, begins_with_number}
use Rattle.office_base.specs.declared.version_id.VersionId.{VersionId}
use Rattle.office_base.specs.declared.version_id.VersionId.TheVariants.{Null, Number}
use Rattle.http_asks.specs.Numbers.{are_digits, is_number, number_in, version_in, is_part_number}

own : IsNumeralModel (λ ds. all_ascii_digits ds ≡ true) (digits_value 10)
own = numerals_by_value _ tells_all_ascii_digits

digits_all : (bs : List ℕ) → are_digits bs ≡ all_ascii_digits bs
digits_all [] = refl
digits_all (c ∷ cs) = ap (λ rest. is_ascii_digit c && rest) (digits_all cs)

-- ---- numbers without a leading zero

-- what is written of a number from 1 on begins with no zero
begins_so : (text : List ℕ) (n : ℕ) → text ≡ decimal n → IsVersionId (Number n) → (b : Bool) → begins_with_number text ≡ b → begins_with_number text ≡ true
begins_so text n written is true begins = begins
begins_so text n written is false begins = absurd (no_number text begins n is written)

small_passes : (n : ℕ) → n < 2 ^ 64 → nat_lt n (2 ^ 64) ≡ true
small_passes n small = grind (arith, nat_tests)

passes : (text : List ℕ) (n : ℕ) → are_digits text ≡ true → begins_with_number text ≡ true → digits_value 10 text ≡ n → n < 2 ^ 64 → is_number text ≡ true
passes text n digits begins value small = rw (digits, begins, value) (small_passes n small)

-- the number of what is written of it
pub number_is : (text : List ℕ) (n : ℕ) → text ≡ decimal n → IsVersionId (Number n) → number_in text ≡ Some n
unfolding number_in
number_is text n written is =
    let digits : are_digits text ≡ true = digits_all text ∙ subst (λ t. all_ascii_digits t ≡ true) (sym written) (digits_decimal own n is.1) in
    let value : digits_value 10 text ≡ n = ap (digits_value 10) written ∙ digits_value-decimal own n is.1 in
    let begins : begins_with_number text ≡ true = begins_so text n written is (begins_with_number text) refl in
    rw (passes text n digits begins value is.1, value) refl

-- digits of which the first is not 0 write no 0
above : (n : ℕ) (text : List ℕ) → begins_with_number text ≡ true → decimal n ≡ text → 0 < n
above zero text begins is =
    let zero_begins : begins_with_number (decimal 0) ≡ true = subst (λ t. begins_with_number t ≡ true) (sym is) begins in
    let digit : decimal 0 ≡ 48 ∷ [] = decimal_digit 0 (omega arith) in
    let not : begins_with_number (48 ∷ []) ≡ true = subst (λ t. begins_with_number t ≡ true) digit zero_begins in
    absurd cc
above (suc n) text begins is = omega arith

pub record Tells (text : List ℕ) : Type 0 where
  pub digits : are_digits text ≡ true
  pub begins : begins_with_number text ≡ true
  pub small : digits_value 10 text < 2 ^ 64

tells_by : (text : List ℕ) (a b c : Bool) → are_digits text ≡ a → begins_with_number text ≡ b → nat_lt (digits_value 10 text) (2 ^ 64) ≡ c → (a && b && c) ≡ true → Tells text
tells_by text true true true digits begins small all = record { digits = digits; begins = begins; small = grind (arith, nat_tests) }
tells_by text true true false digits begins small all = absurd cc
tells_by text true false c digits begins small all = absurd cc
tells_by text false b c digits begins small all = absurd cc

first_digit : (text : List ℕ) → begins_with_number text ≡ true → (0 < length text) × (49 ≤ get_or text 0 0)
first_digit [] begins = absurd cc
first_digit (c ∷ text) begins = (omega arith, grind (arith, nat_tests))

-- such digits are what is written of their number
written_so : (text : List ℕ) → Tells text → (text ≡ decimal (digits_value 10 text)) × IsVersionId (Number (digits_value 10 text))
written_so text t =
    let first = first_digit text t.begins in
    let is : decimal (digits_value 10 text) ≡ text = decimal-digits_value own text (sym (digits_all text) ∙ t.digits) first.0 (λ e. absurd (omega (arith, first, e))) t.small in
    (sym is, (above (digits_value 10 text) text t.begins is, t.small))

pub no_number_in : (text : List ℕ) → ((n : ℕ) → IsVersionId (Number n) → text ≢ decimal n) → number_in text ≡ None
unfolding number_in
no_number_in text none = go (is_number text) refl
  where
    go : (b : Bool) → is_number text ≡ b → (if b then Some (digits_value 10 text) else None) ≡ None
    go true is =
        let so = written_so text (tells_by text _ _ _ refl refl refl is) in
        absurd (none (digits_value 10 text) so.1 so.0)
    go false is = refl

-- the text of the null version is no number
pub null_no_number : (text : List ℕ) → text ≡ codes "null" → number_in text ≡ None
unfolding number_in
null_no_number text is = subst (λ t. (if is_number t then Some (digits_value 10 t) else None) ≡ None) (sym is) refl

-- ---- ids of versions

null_is : (text : List ℕ) → text ≡ codes "null" → version_in text ≡ Some Null
unfolding version_in
null_is text is = subst (λ t. (if bytes_eq t (codes "null") then Some Null else option_map Number (number_in t)) ≡ Some Null) (sym is) refl

no_null : (text : List ℕ) → text ≢ codes "null" → version_in text ≡ option_map Number (number_in text)
unfolding version_in
no_null text other = go (bytes_eq text (codes "null")) refl
  where
    go : (b : Bool) → bytes_eq text (codes "null") ≡ b → (if b then Some Null else option_map Number (number_in text)) ≡ option_map Number (number_in text)
    go true is = absurd (other ((bytes_eq-Decides text (codes "null")).0 is))
    go false is = refl

number_not_null : (text : List ℕ) (n : ℕ) → text ≡ decimal n → IsVersionId (Number n) → text ≢ codes "null"
number_not_null text n written is null = no_number text (ap begins_with_number null) n is written

pub version_is : (text : List ℕ) (id : VersionId) → IsVersionId id → text ≡ id_text id → version_in text ≡ Some id
version_is text Null is written = null_is text written
version_is text (Number n) is written = no_null text (number_not_null text n written is) ∙ ap (option_map Number) (number_is text n written is)

pub no_version : (text : List ℕ) → ((id : VersionId) → IsVersionId id → text ≢ id_text id) → version_in text ≡ None
no_version text none = no_null text (none Null tt) ∙ ap (option_map Number) (no_number_in text (λ n is. none (Number n) is))

-- ---- numbers of parts

pub part_read : {E : Type 0} (text : List ℕ) (r : Result ℕ E) → is_part_number text ≡ true → ParsesUnsigned 32 10 text r → r ≡ Ok (digits_value 10 text)
part_read {E} text r is read = by_tests (nat_lt 0 (length text)) (nat_le (length text) 5) (are_digits text) refl refl refl is
  where
    by_tests : (a b c : Bool) → nat_lt 0 (length text) ≡ a → nat_le (length text) 5 ≡ b → are_digits text ≡ c → (a && b && c) ≡ true → r ≡ Ok (digits_value 10 text)
    by_tests true true true some short digits all =
        let each = sym (digits_all text) ∙ digits in
        let value : digits_value 10 text < 10 ^ 5 = digits_value_short own text 5 each (grind (arith, nat_tests)) in
        parse_gives own 32 text r read each (grind (arith, nat_tests)) (omega (arith, value))
    by_tests true true false some short digits all = absurd cc
    by_tests true false c some short digits all = absurd cc
    by_tests false b c some short digits all = absurd cc

-- ---- numbers of uploads

-- a text that is the id of no version is no number
pub no_upload : (text : List ℕ) → ((id : VersionId) → IsVersionId id → text ≢ id_text id) → number_in text ≡ None
no_upload text none = no_number_in text (λ n is. none (Number n) is)

pub ruleset upload_texts = (number_is, null_no_number, no_upload)
