-- How what is read from a row of parts stands to the members of a document.
use Rattle.std.specs.Prelude.{◌≡◌, ℕ, pos, negsuc, Bool, true, false, ◌&&◌, nat_le, List, if◌then◌else◌, Option, Some, None, option_map, Result, Ok, Err, ok_or, IfSome}
use Rattle.std.specs.Prelude.{ℤ}
use Rattle.office_base.specs.Results.{◌>>=◌}
use Rattle.toml.specs.Data.{Members, no_members, get_member}
use Rattle.toml_rows.specs.declared.keys.Keys.{Keys}
use Rattle.toml_rows.specs.Rows.{Row, row_of}
use Rattle.toml_rows.specs.Documents.{IsTable}
use Rattle.class_rules.specs.declared.class.Class.{Class}
use Rattle.tariff.specs.declared.read.Opened.{Opened}
use Rattle.tariff.specs.declared.read.Opened.TheVariants.{Inside, Own, Missing}
use Rattle.tariff.specs.declared.fault.TariffTable.TheVariants.{Storage, Transition}
use Rattle.tariff.specs.declared.fault.TariffFault.{TariffFault}
use Rattle.tariff.specs.declared.tiers.Tier.{Tier}
use Rattle.tariff.specs.Faults.{TariffFlaw, not_toml, bad_price, tariff_flaw_of}
use Rattle.tariff.specs.Prices.{Prices, is_price, one_tier}
use Rattle.tariff.specs.Reading.{document_of, from_name, from_of, members_of, with_fields, with_classes, each_of, tiers_in, price_in, classes_of}

-- the row of the document, or the fault
abbrev pub ReadsDocument : List ℕ → Result Keys TariffFault → Type 0
ReadsDocument text (Ok keys) = (ms : Members) × IsTable 80 (row_of keys) 0 ms × (ok_or (document_of text) not_toml ≡ Ok ms)
ReadsDocument text (Err fault) = IfSome (tariff_flaw_of fault) (λ flaw. ok_or (document_of text) not_toml ≡ Err flaw)

-- there is such a table
abbrev pub is_there : Opened → Bool
is_there (Inside table) = true
is_there (Own keys) = true
is_there (Missing keys) = false

-- what was opened is the table, or there is none
abbrev pub IsOpened : Row → Opened → Option Members → Type 0
IsOpened row (Inside table) expected = (ms : Members) × IsTable 80 row table ms × (expected ≡ Some ms)
IsOpened row (Own keys) expected = (ms : Members) × IsTable 79 (row_of keys) 0 ms × (expected ≡ Some ms)
IsOpened row (Missing keys) expected = IsTable 79 (row_of keys) 0 no_members × (expected ≡ None)

-- the price and the end that an integer is
abbrev pub price_by : Option ℤ → Option ℕ
price_by (Some (pos price)) = if is_price price then Some price else None
price_by (Some (negsuc n)) = None
price_by None = None

abbrev pub upto_by : Option ℤ → Option ℕ
upto_by (Some (pos upto)) = if nat_le 1 upto && nat_le upto 4_294_967_295 then Some upto else None
upto_by (Some (negsuc n)) = None
upto_by None = None

-- one tier with this price
abbrev pub one_at : Class → Option ℕ → Result (List Tier) TariffFlaw
one_at class price = ok_or (option_map one_tier price) (bad_price Storage class)

-- the tariff of a document, or its first fault
abbrev pub tariff_in : Members → Result Prices TariffFlaw
tariff_in read = do
  document ← with_fields read
  from ← from_of (get_member from_name document)
  storage ← with_classes Storage (members_of Storage document)
  transition ← with_classes Transition (members_of Transition document)
  storage_tiers ← each_of (tiers_in storage) (classes_of Storage)
  transition_prices ← each_of (price_in Transition transition) (classes_of Transition)
  Ok (record { from = from; storage = storage_tiers; transition = transition_prices })
