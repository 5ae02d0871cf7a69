-- The sign of a number, by the first byte of its text.
use Rattle.std.proofs.Common.{◌≡◌, ℕ, Bool, true, false, ◌&&◌, ◌==◌, List, [], ◌∷◌, take, drop, nat_eq, refl, sym, ap, ◌∙◌}
use Rattle.std.specs.Prelude.{slice_index}
use Rattle.std.specs.Cmp.Lexicographic.{pointwise}
use Rattle.fast_float.specs.Text.{scan}
use Rattle.serde_json.specs.Read.{number_of, number_from}

-- a text begins with a minus sign
abbrev pub has_sign : List ℕ → Bool
has_sign text = pointwise nat_eq (take 1 text) (45 ∷ [])

and_true : (b : Bool) → (b && true) ≡ b
and_true true = refl
and_true false = refl

first_byte : (text : List ℕ) → has_sign text ≡ (slice_index text 0 == 45)
first_byte [] = refl
first_byte (byte ∷ text) = and_true (nat_eq byte 45)

pub below_zero : (text digits : List ℕ) → has_sign text ≡ true → digits ≡ drop 1 text → number_from true (scan digits) ≡ number_of text
unfolding number_of
below_zero text digits sign is =
    let minus : (slice_index text 0 == 45) ≡ true = sym (first_byte text) ∙ sign in
    ap (λ rest. number_from true (scan rest)) is ∙ rw minus refl

pub from_zero_on : (text : List ℕ) → has_sign text ≡ false → number_from false (scan text) ≡ number_of text
unfolding number_of
from_zero_on text none =
    let other : (slice_index text 0 == 45) ≡ false = sym (first_byte text) ∙ none in
    rw other refl
