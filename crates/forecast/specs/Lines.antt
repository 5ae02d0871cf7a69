-- What a month would cost a bucket, line by line.
use Rattle.std.specs.Prelude.{ℕ, Bool, not, ◌==◌, List, [], ◌∷◌, filter, flat_map, Option, option_map}
use Rattle.class_rules.specs.Classes.{all_classes}
use Rattle.class_rules.specs.declared.class.Class.{Class}
use Rattle.tariff.specs.Prices.{Prices, storage_tiers, move_price}
use Rattle.tariff.specs.Charges.{charge_of, move_charge_of}
use Rattle.accrual.specs.Books.{Book}
use Rattle.office_types.specs.declared.reply.ClassMeters.{ClassMeters}
use Rattle.office_types.specs.declared.reply.LineKind.{LineKind}
use Rattle.office_types.specs.declared.reply.LineKind.TheVariants.{Storage, Early, Transitions}
use Rattle.plain_office.specs.Charges.{class_meters}
use Rattle.forecast.specs.declared.lines.ForecastLine.{ForecastLine}

-- a quantity of byte-milliseconds (S3 User Guide, "Understanding your AWS billing and usage reports for Amazon
-- S3"), also an early one, at the prices of storage; there is no charge without a tariff (own)
abbrev pub storage_line : Option Prices → ℕ → LineKind → Class → ℕ → ForecastLine
storage_line tariff month kind class quantity = record {
  kind = kind;
  class = class;
  quantity = quantity;
  charge = option_map (λ (tariff : Prices). charge_of quantity (storage_tiers tariff class) month) tariff;
}

-- lifecycle transitions to a class, at its price for them (S3 User Guide, "Transitioning objects using Amazon S3
-- Lifecycle")
abbrev pub transition_line : Option Prices → Class → ℕ → ForecastLine
transition_line tariff class moves = record {
  kind = Transitions;
  class = class;
  quantity = moves;
  charge = option_map (λ (tariff : Prices). move_charge_of moves (move_price tariff class)) tariff;
}

-- the quantity of the line is not 0, whatever its charge is
abbrev pub has_quantity : ForecastLine → Bool
has_quantity line = not (line.quantity == 0)

-- the lines of what was used of a class: those whose quantity is not 0 (own)
abbrev pub class_lines : Option Prices → ℕ → ClassMeters → List ForecastLine
class_lines tariff month used = filter has_quantity (
    storage_line tariff month Storage used.class used.byte_ms
    ∷ storage_line tariff month Early used.class used.early_byte_ms
    ∷ transition_line tariff used.class used.moves
    ∷ [])

-- the lines of a month by what is booked of a bucket, as seen at the moment: classes from the warmest (own order)
unfoldable pub book_lines : Option Prices → ℕ → ℕ → Book → List ForecastLine
book_lines tariff month t book =
    flat_map (λ class. class_lines tariff month (class_meters month t book class)) all_classes
