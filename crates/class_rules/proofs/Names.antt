-- The names of the classes.
use Rattle.std.proofs.Common.{◌≡◌, ◌≢◌, ℕ, Bool, true, false, List, Some, None, refl, sym, ap, ◌∙◌}
use Rattle.std.specs.Prelude.{codes}
use Rattle.std.specs.Str.{bytes_eq}
use Rattle.std.proofs.lemmas.Slice.Eq.{bytes_eq-Decides}
use Rattle.class_rules.specs.Classes.{class_name, class_with}
use Rattle.class_rules.specs.declared.class.Class.{Class}
use Rattle.class_rules.specs.declared.class.Class.TheVariants.{Standard, StandardIa, OnezoneIa, GlacierIr, Glacier, DeepArchive}

-- a name finds its class
pub with_name : (name : List ℕ) (class : Class) → name ≡ class_name class → class_with name ≡ Some class
with_name name Standard is = rw is refl
with_name name StandardIa is = rw is refl
with_name name OnezoneIa is = rw is refl
with_name name GlacierIr is = rw is refl
with_name name Glacier is = rw is refl
with_name name DeepArchive is = rw is refl

differ : (a b : List ℕ) (same : Bool) → bytes_eq a b ≡ same → a ≢ b → same ≡ false
differ a b true is other = absurd (other ((bytes_eq-Decides a b).0 is))
differ a b false is other = refl

-- a text that is none of the six names finds none
pub with_no_name : (text : List ℕ)
    → text ≢ codes "STANDARD" → text ≢ codes "STANDARD_IA" → text ≢ codes "ONEZONE_IA" → text ≢ codes "GLACIER_IR" → text ≢ codes "GLACIER" → text ≢ codes "DEEP_ARCHIVE"
    → class_with text ≡ None
with_no_name text n0 n1 n2 n3 n4 n5 = rw (
  differ text (codes "STANDARD") _ refl n0,
  differ text (codes "STANDARD_IA") _ refl n1,
  differ text (codes "ONEZONE_IA") _ refl n2,
  differ text (codes "GLACIER_IR") _ refl n3,
  differ text (codes "GLACIER") _ refl n4,
  differ text (codes "DEEP_ARCHIVE") _ refl n5,
) refl

some_injective : {a b : Class} → Some a ≡ Some b → a ≡ b
some_injective same = cc

-- a name is that of one class
pub same_class : (a b : Class) → class_name a ≡ class_name b → a ≡ b
same_class a b same = some_injective (sym (with_name (class_name a) a refl) ∙ ap class_with same ∙ with_name (class_name b) b refl)
