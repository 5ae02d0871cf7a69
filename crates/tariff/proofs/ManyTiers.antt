-- More than eight tiers are refused, whatever they say.
use Rattle.std.proofs.Common.{◌≡◌, ◌∙◌, ◌⊎◌, ◌<◌, ◌&&◌, ℕ, Bool, false, cond, List, [], ◌∷◌, length, ap, refl, arith, inl, inr, Option, Some, None, Ok, Err, ok_or}
use Rattle.std.proofs.lemmas.Bool.{cases_Bool, leb-true}
use Rattle.std.specs.Prelude.{nat_le}
use Rattle.toml.specs.Data.{Data, array, as_array}
use Rattle.toml_rows.specs.Walking.{items_of}
use Rattle.class_rules.specs.declared.class.Class.{Class}
use Rattle.office_base.specs.Results.{◌>>=◌}
use Rattle.tariff.specs.declared.fault.TariffTable.TheVariants.{Storage}
use Rattle.tariff.specs.declared.tiers.Tier.{Tier}
use Rattle.tariff.specs.Faults.{bad_price, bad_tiers}
use Rattle.tariff.specs.Prices.{are_priced, rise_from}
use Rattle.tariff.specs.Reading.{tier_said, tiers_said, in_range, tiers_of}

-- a list is refused as one of bad tiers, or has as many tiers as elements
abbrev Said : Class → List Data → Type 0
Said class ds =
    (tiers_said class (items_of ds) ≡ Err (bad_tiers class)) ⊎ ((tiers : List Tier) × (tiers_said class (items_of ds) ≡ Ok tiers) × (length tiers ≡ length ds))

said_next : (class : Class) (d : Data) (ds : List Data) (o : Option Tier) → tier_said d ≡ o → Said class ds → Said class (d ∷ ds)
said_next class d ds None is rest = inl (ap (λ o. ok_or o (bad_tiers class) >>= λ tier. tiers_said class (items_of ds) >>= λ tiers. Ok (tier ∷ tiers)) is)
said_next class d ds (Some tier) is (inl refused) =
    inl (ap (λ o. ok_or o (bad_tiers class) >>= λ tier. tiers_said class (items_of ds) >>= λ tiers. Ok (tier ∷ tiers)) is
    ∙ ap (λ r. r >>= λ tiers. Ok (tier ∷ tiers)) refused)
said_next class d ds (Some tier) is (inr (tiers, said, same)) =
    inr (
      tier ∷ tiers,
      ap (λ o. ok_or o (bad_tiers class) >>= λ tier. tiers_said class (items_of ds) >>= λ tiers. Ok (tier ∷ tiers)) is
          ∙ ap (λ r. r >>= λ tiers. Ok (tier ∷ tiers)) said,
      omega (arith, same),
    )

said_all : (class : Class) (ds : List Data) → Said class ds
said_all class [] = inr ([], refl, refl)
said_all class (d ∷ ds) = said_next class d ds (tier_said d) refl (said_all class ds)

few_not : (n : ℕ) → 8 < n → nat_le n 8 ≡ false
few_not n many = elim (cases_Bool (nat_le n 8)) [
  | inl few ↦ absurd (omega (arith, many, leb-true n 8 few))
  | inr not_few ↦ not_few
]

range_many : (class : Class) (tiers : List Tier) → 8 < length tiers → in_range class tiers ≡ Err (bad_tiers class)
range_many class tiers many =
    ap (λ (few : Bool). cond (few && rise_from 0 tiers) (cond (are_priced tiers) (Ok tiers) (Err (bad_price Storage class))) (Err (bad_tiers class)))
    (few_not (length tiers) many)

refused : (class : Class) (ds : List Data) → 8 < length ds → Said class ds → tiers_said class (items_of ds) >>= in_range class ≡ Err (bad_tiers class)
refused class ds many (inl bad) = ap (λ r. r >>= in_range class) bad
refused class ds many (inr (tiers, said, same)) = ap (λ r. r >>= in_range class) said ∙ range_many class tiers (omega (arith, many, same))

pub too_many : (class : Class) (ds : List Data) → 8 < length ds → tiers_of class (array (items_of ds)) ≡ Err (bad_tiers class)
too_many class ds many = refused class ds many (said_all class ds)

-- a value that is a list of so many
pub too_many_of : (class : Class) (d : Data) (ds : List Data) → as_array d ≡ Some (items_of ds) → 8 < length ds → tiers_of class d ≡ Err (bad_tiers class)
too_many_of class (array items) ds is many = let same : items ≡ items_of ds = cc in ap (λ is. tiers_of class (array is)) same ∙ too_many class ds many
too_many_of class other ds is many = absurd cc
