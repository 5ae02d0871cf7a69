-- The reading of a tariff from each of its steps on: after its prices of storage, its tables, its first month and its
-- fields.
use Rattle.std.proofs.Common.{ℕ, List, Result, Ok}
use Rattle.office_base.specs.Results.{◌>>=◌}
use Rattle.toml.specs.Data.{Members, get_member}
use Rattle.tariff.specs.declared.fault.TariffTable.TheVariants.{Storage, Transition}
use Rattle.tariff.specs.declared.tiers.Tier.{Tier}
use Rattle.tariff.specs.Faults.{TariffFlaw}
use Rattle.tariff.specs.Prices.{Prices}
use Rattle.tariff.specs.Reading.{from_name, from_of, members_of, with_classes, each_of, tiers_in, price_in, classes_of}

abbrev pub with_stored : ℕ → Members → List (List Tier) → Result Prices TariffFlaw
with_stored from transition storage_tiers = do
  transition_prices ← each_of (price_in Transition transition) (classes_of Transition)
  Ok (record { from = from; storage = storage_tiers; transition = transition_prices })

abbrev pub with_tables : ℕ → Members → Members → Result Prices TariffFlaw
with_tables from storage transition = each_of (tiers_in storage) (classes_of Storage) >>= with_stored from transition

abbrev pub with_storage : Members → ℕ → Members → Result Prices TariffFlaw
with_storage document from storage = with_classes Transition (members_of Transition document) >>= with_tables from storage

abbrev pub with_month : Members → ℕ → Result Prices TariffFlaw
with_month document from = with_classes Storage (members_of Storage document) >>= with_storage document from

abbrev pub with_document : Members → Result Prices TariffFlaw
with_document document = from_of (get_member from_name document) >>= with_month document
