-- What reading a tariff gives: its prices, or the first fault.
use Rattle.std.specs.Prelude.{ℕ, List, Option, Some, None, Result, string_bytes}
use Rattle.office_base.specs.Results.{GivesBy}
use Rattle.class_rules.specs.declared.class.Class.{Class}
use Rattle.tariff.specs.declared.fault.TariffTable.{TariffTable}
use Rattle.tariff.specs.declared.fault.TariffFault.{TariffFault}
use Rattle.tariff.specs.declared.fault.TariffFault.TheVariants.{NotToml, MissingClass, BadPrice, UnknownField, BadTiers, BadFrom, NoMemory}

-- the faults of a text; names are bytes
pub data TariffFlaw : Type 0 where
  not_toml : TariffFlaw
  missing_class : TariffTable → Class → TariffFlaw
  bad_price : TariffTable → Class → TariffFlaw
  unknown_field : List ℕ → TariffFlaw
  bad_tiers : Class → TariffFlaw
  bad_from : TariffFlaw

-- the flaw that a fault reports; none if memory ran out
abbrev pub tariff_flaw_of : TariffFault → Option TariffFlaw
tariff_flaw_of NotToml = Some not_toml
tariff_flaw_of (MissingClass table class) = Some (missing_class table class)
tariff_flaw_of (BadPrice table class) = Some (bad_price table class)
tariff_flaw_of (UnknownField name) = Some (unknown_field (string_bytes name))
tariff_flaw_of (BadTiers class) = Some (bad_tiers class)
tariff_flaw_of BadFrom = Some bad_from
tariff_flaw_of NoMemory = None

-- an answer, seen by view, is what reading gives, unless memory ran out
abbrev pub TariffGives : {X Y : Type 0} → (X → Y) → Result X TariffFault → Result Y TariffFlaw → Type 0
TariffGives view answer read = GivesBy tariff_flaw_of view answer read
