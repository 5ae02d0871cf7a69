-- A tariff is in the range of its format.
use Rattle.std.proofs.Common.{◌≡◌, ℕ, true, eqb, List, length, refl, arith}
use Rattle.std.specs.Prelude.{Result, Ok, Err, OnOk}
use Rattle.std.specs.List.{list_all}
use Rattle.std.proofs.lemmas.Bool.{and_from}
use Rattle.std.proofs.lemmas.Bool.Decides.{nat_tests}
use Rattle.tariff.specs.Prices.{is_price, are_tiers}
use Rattle.tariff.specs.declared.tiers.Tier.{Tier}
use Rattle.entry_codec.proofs.PriceLemmas.{prices_have}
use Rattle.entry_codec.proofs.TierLemmas.{all_have}
use Rattle.checkpoint.specs.Parts.{month_format, tariff_format}

same_eqb : (m n : ℕ) → m ≡ n → eqb m n ≡ true
same_eqb m n is = grind (arith, nat_tests)

pub tariff_has : (from : ℕ) (storage : List (List Tier)) (transition : List ℕ) → month_format.has from ≡ true → length storage ≡ 6 → list_all are_tiers storage ≡ true
    → length transition ≡ 5 → list_all is_price transition ≡ true → tariff_format.has (record { from = from; storage = storage; transition = transition }) ≡ true
unfolding tariff_format
tariff_has from storage transition month six tiers five prices =
    and_from _ _ (and_from _ _ month (and_from _ _ (and_from _ _ (same_eqb _ _ six) (all_have storage tiers)) (and_from _ _ (same_eqb _ _ five) (prices_have transition prices)))) refl

pub when_ok : {T E : Type 0} {P : Type 0} (r : Result T E) → P → OnOk r P
when_ok (Ok x) p = p
when_ok (Err e) p = tt
