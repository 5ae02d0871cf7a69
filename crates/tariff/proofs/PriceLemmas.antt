-- The prices of a table, class by class.
use Rattle.std.proofs.Common.{◌≡◌, ◌∙◌, ap, ap₂, ℕ, zero, suc, ◌&&◌, ◌+◌, ◌<◌, true, List, [], ◌∷◌, ◌++◌, length, get_or, drop}
use Rattle.std.proofs.Common.{Result, Ok, Err, arith, append-nil}
use Rattle.std.proofs.lemmas.List.{drop_more, drop_all}
use Rattle.std.proofs.lemmas.Bool.{and_parts}
use Rattle.std.proofs.Math.ListN.{set}
use Rattle.std.specs.List.{list_all}
use Rattle.class_rules.specs.declared.class.Class.{Class}
use Rattle.office_base.specs.Results.{◌>>=◌}
use Rattle.office_base.proofs.Results.{joined, joined-push, told_on}
use Rattle.tariff.specs.declared.fault.TariffFault.{TariffFault}
use Rattle.tariff.specs.Faults.{TariffFlaw, tariff_flaw_of, TariffGives}
use Rattle.tariff.specs.Prices.{is_price}
use Rattle.tariff.specs.Reading.{each_of}

module _ {X : Type 0} (read : Class → Result X TariffFlaw) where
  each_from : (classes : List Class) (i : ℕ) (d : Class) → i < length classes
      → each_of read (drop i classes) ≡ (read (get_or classes i d) >>= λ x. each_of read (drop (i + 1) classes) >>= λ xs. Ok (x ∷ xs))
  each_from classes i d inside = ap (each_of read) (drop_more classes i d inside)

  -- one was read
  pub each_on : (classes : List Class) (i : ℕ) (d : Class) (xs : List X) (x : X) → i < length classes
      → read (get_or classes i d) ≡ Ok x → joined xs (each_of read (drop i classes)) ≡ joined (xs ++ x ∷ []) (each_of read (drop (i + 1) classes))
  each_on classes i d xs x inside is =
      ap (joined xs) (each_from classes i d inside ∙ ap (λ r. r >>= λ x. each_of read (drop (i + 1) classes) >>= λ xs. Ok (x ∷ xs)) is)
      ∙ joined-push xs x (each_of read (drop (i + 1) classes))

  -- one was refused
  pub each_refused : (classes : List Class) (i : ℕ) (d : Class) (xs : List X) (flaw : TariffFlaw) → i < length classes
      → read (get_or classes i d) ≡ Err flaw → joined xs (each_of read (drop i classes)) ≡ Err flaw
  unfolding joined
  each_refused classes i d xs flaw inside refused =
      ap (joined xs) (each_from classes i d inside ∙ ap (λ r. r >>= λ x. each_of read (drop (i + 1) classes) >>= λ xs. Ok (x ∷ xs)) refused)

  -- all were read
  pub each_read : (classes : List Class) (xs : List X) → joined xs (each_of read (drop (length classes) classes)) ≡ Ok xs
  unfolding joined
  each_read classes xs =
      ap (λ cs. joined xs (each_of read cs)) (drop_all (length classes) classes (omega arith)) ∙ ap Ok (append-nil xs)

-- a fault is passed on
pub passed_on : {X Y X' Y' : Type 0} (see : X → Y) (see' : X' → Y') (fault : TariffFault) (part : Result Y TariffFlaw) (whole : Result Y' TariffFlaw)
    → ((flaw : TariffFlaw) → part ≡ Err flaw → whole ≡ Err flaw) → TariffGives see (Err fault) part → TariffGives see' (Err fault) whole
passed_on see see' fault part whole pass is = told_on (tariff_flaw_of fault) part whole pass is

-- a price in place of another one
pub prices_set : (ps : List ℕ) (i p : ℕ) → list_all is_price ps ≡ true → is_price p ≡ true → list_all is_price (set ps i p) ≡ true
prices_set [] i p are is = are
prices_set (q ∷ ps) zero p are is = ap₂ (λ a b. a && b) is (and_parts (is_price q) (list_all is_price ps) are).1
prices_set (q ∷ ps) (suc i) p are is =
    let parts = and_parts (is_price q) (list_all is_price ps) are in ap₂ (λ a b. a && b) parts.0 (prices_set ps i p parts.1 is)
