-- The document that a text is.
use Rattle.std.proofs.Common.{◌≡◌, ℕ, Bool, true, false, List, Some, None, Ok, Err, ok_or, refl}
use Rattle.std.specs.Str.{IsUtf8, is_utf8}
use Rattle.std.proofs.lemmas.Str.{IsUtf8-from_is_utf8, is_utf8-from_IsUtf8}
use Rattle.toml.specs.Data.{Members}
use Rattle.toml.specs.Parse.{parse_document}
use Rattle.tariff.specs.Reading.{document_of}
use Rattle.tariff.specs.Faults.{TariffFlaw}

-- a text that the parser takes is a document
pub document_is : (text : List ℕ) (document : Members) (flaw : TariffFlaw) → IsUtf8 text → parse_document text ≡ Some document → ok_or (document_of text) flaw ≡ Ok document
unfolding document_of
document_is text document flaw utf8 is = rw (is_utf8-from_IsUtf8 text utf8, is) refl

none_by : (text : List ℕ) (b : Bool) → is_utf8 text ≡ b → (IsUtf8 text → parse_document text ≡ None) → document_of text ≡ None
unfolding document_of
none_by text true is none = rw is (none (IsUtf8-from_is_utf8 text is))
none_by text false is none = rw is refl

-- another text is none
pub no_document : (text : List ℕ) (flaw : TariffFlaw) → (IsUtf8 text → parse_document text ≡ None) → ok_or (document_of text) flaw ≡ Err flaw
no_document text flaw none = rw (none_by text _ refl none) refl
