-- What a month costs, line by line.
use Rattle.std.specs.Prelude.{ℕ, Bool, not, ◌==◌, nat_le, List, [], ◌∷◌, filter, find, reverse, flat_map, Option, Some, None}
use Rattle.class_rules.specs.Classes.{all_classes}
use Rattle.class_rules.specs.declared.class.Class.{Class}
use Rattle.office_base.specs.Maps.{at_number}
use Rattle.tariff.specs.Prices.{Prices, storage_tiers, move_price}
use Rattle.tariff.specs.declared.tiers.Tier.{Tier}
use Rattle.tariff.specs.Charges.{charge_of, move_charge_of}
use Rattle.accrual.specs.Books.{Book}
use Rattle.accrual.specs.Meters.{meter, early_quantity, move_count}
use Rattle.office_types.specs.declared.reply.ClassMeters.{ClassMeters}
use Rattle.office_types.specs.declared.reply.LineKind.{LineKind}
use Rattle.office_types.specs.declared.reply.LineKind.TheVariants.{Storage, Early, Transitions}
use Rattle.office_types.specs.declared.reply.Price.{Price}
use Rattle.office_types.specs.declared.reply.Price.TheVariants.{One, Tiered}
use Rattle.office_types.specs.declared.reply.ReportLine.{ReportLine}
use Rattle.plain_office.specs.Office.{Office, book_of}

-- the price in a line: that of a single tier; for several tiers only that there are several (own)
abbrev pub price_told : List Tier → Price
price_told (tier ∷ []) = One tier.price
price_told tiers = Tiered

-- a line for byte-milliseconds, stored or early, at the prices of storage (S3 User Guide, "Understanding your AWS
-- billing and usage reports for Amazon S3"). Own: each quantity fills the tiers of the class separately, from the
-- first.
abbrev pub storage_line : LineKind → Prices → ℕ → List ℕ → Class → ℕ → ReportLine
storage_line kind tariff month name class quantity = let tiers = storage_tiers tariff class in record {
  bucket = name;
  kind = kind;
  class = class;
  quantity = quantity;
  price = price_told tiers;
  charge = charge_of quantity tiers month;
}

-- a line for lifecycle transitions to a class, at its price for them (S3 User Guide, "Transitioning objects using
-- Amazon S3 Lifecycle")
abbrev pub transition_line : Prices → List ℕ → Class → ℕ → ReportLine
transition_line tariff name class moves = let price = move_price tariff class in record {
  bucket = name;
  kind = Transitions;
  class = class;
  quantity = moves;
  price = One price;
  charge = move_charge_of moves price;
}

-- what a bucket used of one class in a month, as seen at the moment (S3 User Guide, "Understanding your AWS billing and
-- usage reports for Amazon S3")
abbrev pub class_meters : ℕ → ℕ → Book → Class → ClassMeters
class_meters month t book class = record {
  class = class;
  byte_ms = meter month class t book;
  early_byte_ms = early_quantity month class book;
  moves = move_count month class book;
}

-- the quantity of the line is not 0; its charge may be 0
abbrev pub has_quantity : ReportLine → Bool
has_quantity line = not (line.quantity == 0)

-- the lines for what a bucket used of a class, without those whose quantity is 0 (own)
abbrev pub metered_lines : Prices → ℕ → List ℕ → ClassMeters → List ReportLine
metered_lines tariff month name used = filter has_quantity (
    storage_line Storage tariff month name used.class used.byte_ms
    ∷ storage_line Early tariff month name used.class used.early_byte_ms
    ∷ transition_line tariff name used.class used.moves
    ∷ [])

-- the lines of a bucket and a class, as seen at the moment
abbrev pub class_lines : Prices → ℕ → ℕ → List ℕ → Book → Class → List ReportLine
class_lines tariff month t name book class = metered_lines tariff month name (class_meters month t book class)

-- the tariff in force in a month: the one with the latest first month that is not after it (own)
abbrev pub in_force : ℕ → List Prices → Option Prices
in_force month tariffs = find (λ tariff. nat_le tariff.from month) (reverse tariffs)

-- the tariff of a closing, if there is one; else the one in force
abbrev pub kept_or : Option Prices → Option Prices → Option Prices
kept_or None tariff = tariff
kept_or (Some kept) tariff = Some kept

-- a closed month keeps the tariff of its closing (own)
abbrev pub tariff_for : ℕ → Office → Option Prices
tariff_for month office = kept_or (at_number month office.closed) (in_force month office.tariffs)

-- the lines of a month's report, as seen at the moment: buckets in the byte order of their names, classes from the
-- warmest (own order)
unfoldable pub report_lines : Prices → ℕ → ℕ → Office → List ReportLine
report_lines tariff month t office =
    flat_map (λ account. flat_map (class_lines tariff month t account.0 (book_of account.1.books)) all_classes)
    office.accounts
