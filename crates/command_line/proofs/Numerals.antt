-- Numbers that words give.
use Rattle.std.proofs.Common.{◌≡◌, ◌∙◌, sym, ap, subst, refl, ℕ, zero, suc, ◌<◌, ◌≤◌, ◌^◌, ◌&&◌, Bool, true, false, cond, nat_le, List, Some, None, Result, Ok, Err, decimal, codes, arith}
use Rattle.std.specs.Fmt.{digits}
use Rattle.std.proofs.lemmas.Bool.Decides.{nat_tests}
use Rattle.std.proofs.lemmas.Slice.Eq.{bytes_eq-Decides}
use Rattle.std.specs.Cmp.Derive.{both_true}
use Rattle.std.proofs.lemmas.Fmt.{decimal_is_IsNumeral, parse-decimal}
use Rattle.std.specs.Str.{bytes_eq}
use Rattle.std.specs.Str.Parse.{digits_value, ParsesUnsigned}
use Rattle.office_base.specs.Versions.{begins_with_number}
use Rattle.office_base.proofs.Versions.{no_number, number_read as id_read}
use Rattle.command_line.specs.Lines.{number_between}
use Rattle.command_line.specs.Laws.{HasExactNumbers}

-- the text writes this number, which is in range
abbrev Writes : ℕ → ℕ → List ℕ → ℕ → Type 0
Writes least most text n = (text ≡ decimal n) × (least ≤ n) × (n ≤ most)

abbrev test : ℕ → ℕ → List ℕ → ℕ → Bool
test least most text n = bytes_eq text (decimal n) && (nat_le least n && nat_le n most)

parts : (a b c : Bool) → (a && (b && c)) ≡ true → (a ≡ true) × (b ≡ true) × (c ≡ true)
parts true true true e = (refl, refl, refl)
parts true true false e = absurd cc
parts true false c e = absurd cc
parts false b c e = absurd cc

tested : (least most : ℕ) (text : List ℕ) (n : ℕ) → test least most text n ≡ true → Writes least most text n
tested least most text n e =
    let (same, from, to) = parts (bytes_eq text (decimal n)) (nat_le least n) (nat_le n most) e in
    ((bytes_eq-Decides text (decimal n)).0 same, grind (arith, nat_tests), grind (arith, nat_tests))

passes : (least most : ℕ) (text : List ℕ) (n : ℕ) → Writes least most text n → test least most text n ≡ true
passes least most text n w =
    let from : nat_le least n ≡ true = grind (arith, nat_tests) in
    let to : nat_le n most ≡ true = grind (arith, nat_tests) in
    both_true ((bytes_eq-Decides text (decimal n)).1 w.0) (both_true from to)

by_test : (b : Bool) (n : ℕ) → (b ≡ true → ⊥) → cond b (Some n) None ≡ None
by_test true n not = absurd (not refl)
by_test false n not = refl

pub none_in : (least most : ℕ) (text : List ℕ) → ((n : ℕ) → Writes least most text n → ⊥) → None ≡ number_between least most text
none_in least most text not = sym (by_test (test least most text (digits_value 10 text)) _ (λ e. not _ (tested least most text _ e)))

pub some_in : (least most : ℕ) (text : List ℕ) (n : ℕ) → n < 2 ^ 64 → Writes least most text n → Some n ≡ number_between least most text
some_in least most text n small w =
    let value : digits_value 10 text ≡ n = ap (digits_value 10) w.0 ∙ (decimal_is_IsNumeral n small).1 in
    rw (value, passes least most text n w) refl

from_some : (b : Bool) (v n : ℕ) → cond b (Some v) None ≡ Some n → (b ≡ true) × (v ≡ n)
from_some true v n e = (refl, cc)
from_some false v n e = absurd cc

pub exact : HasExactNumbers
exact least most n text small = (
  λ some.
      let (passed, value) = from_some (test least most text (digits_value 10 text)) (digits_value 10 text) n some in
      subst (Writes least most text) value (tested least most text (digits_value 10 text) passed),
  λ writes. sym (some_in least most text n (omega (arith, writes)) writes),
)

-- ---- zero

zero_text : decimal 0 ≡ codes "0"
unfolding digits
zero_text = refl

pub zero_in : (least most : ℕ) → least ≡ 0 → Some 0 ≡ number_between least most (codes "0")
zero_in least most is = some_in least most (codes "0") 0 (omega arith) (sym zero_text, omega (arith, is), omega arith)

-- ---- other texts

-- a text that is not 0 and does not begin with a digit above 0 writes none
pub none_begins : (least most : ℕ) (text : List ℕ) → most < 2 ^ 64 → (text ≡ codes "0" → ⊥) → begins_with_number text ≡ false → None ≡ number_between least most text
none_begins least most text small other not = none_in least most text (λ n w. numbered n w)
  where
    numbered : (n : ℕ) → Writes least most text n → ⊥
    numbered zero w = other (w.0 ∙ zero_text)
    numbered (suc n) w = no_number text not (suc n) (omega (arith, w), omega (arith, w, small)) w.0

pub number_read : {E : Type 0} (least most : ℕ) (text : List ℕ) (r : Result ℕ E) (n : ℕ) → r ≡ Ok n → begins_with_number text ≡ true → ParsesUnsigned 64 10 text r → least ≤ n → n ≤ most
    → Some n ≡ number_between least most text
number_read {E} least most text r n is begins read from to =
    let wide : ParsesUnsigned {E = E} 64 10 text (Ok n) = subst (λ q. ParsesUnsigned 64 10 text q) is read in
    let id = id_read {E = E} text (Ok n) n refl begins wide in
    some_in least most text n id.0.1 (id.1, from, to)

pub number_not_read : {E : Type 0} (least most : ℕ) (text : List ℕ) (r : Result ℕ E) (e : E) → most < 2 ^ 64 → r ≡ Err e → ParsesUnsigned 64 10 text r → None ≡ number_between least most text
number_not_read least most text r e small is read =
    none_in least most text (λ n w. let ok : r ≡ Ok n = parse-decimal 64 n text r (omega arith) (omega (arith, w)) w.0 read in absurd cc)
