-- Names and keys are texts.
use Rattle.std.proofs.Common.{◌≡◌, ℕ, ◌<◌, true, false, List, [], ◌∷◌, arith}
use Rattle.std.specs.List.{list_all}
use Rattle.std.specs.Str.{IsAscii, IsUtf8, is_utf8}
use Rattle.std.proofs.lemmas.Bool.Decides.{nat_tests}
use Rattle.std.proofs.lemmas.Str.{IsUtf8-from_ascii, IsUtf8-from_is_utf8, is_utf8-from_IsUtf8}
use Rattle.std.proofs.lemmas.Str.Ascii.{IsAscii-nil, IsAscii-cons}
use Rattle.std.proofs.lemmas.Bool.{and_parts, false_from_ne_true}
use Rattle.office_base.specs.Names.{is_bucket_name, is_name_char}

byte_small : (b : ℕ) → is_name_char b ≡ true → b < 128
byte_small b is = grind (arith, nat_tests)

all_ascii : (bytes : List ℕ) → list_all is_name_char bytes ≡ true → IsAscii bytes
all_ascii [] is = IsAscii-nil
all_ascii (b ∷ bytes) is =
    let parts = and_parts (is_name_char b) (list_all is_name_char bytes) is in
    IsAscii-cons b bytes (byte_small b parts.0) (all_ascii bytes parts.1)

name_bytes : (bytes : List ℕ) → is_bucket_name bytes ≡ true → list_all is_name_char bytes ≡ true
unfolding is_bucket_name
name_bytes bytes is = grind (arith, nat_tests)

pub name_is_text : (bytes : List ℕ) → ¬ (IsUtf8 bytes) → is_bucket_name bytes ≡ false
name_is_text bytes not = false_from_ne_true (is_bucket_name bytes) (λ is. not (IsUtf8-from_ascii bytes (all_ascii bytes (name_bytes bytes is))))

pub utf8_is : (bytes : List ℕ) → IsUtf8 bytes → is_utf8 bytes ≡ true
utf8_is bytes is = is_utf8-from_IsUtf8 bytes is

pub utf8_is_not : (bytes : List ℕ) → ¬ (IsUtf8 bytes) → is_utf8 bytes ≡ false
utf8_is_not bytes not = false_from_ne_true (is_utf8 bytes) (λ is. not (IsUtf8-from_is_utf8 bytes is))

-- both ways
pub ruleset utf8_tests = (utf8_is, utf8_is_not)
