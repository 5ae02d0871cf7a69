-- A tariff as a TOML document (TOML v1.1.0): two tables, each with a price for each of its classes, and the first
-- month. For storage a class may have a list of tiers in place of a price.
use Rattle.std.specs.Prelude.{ℕ, pos, Bool, ◌&&◌, ◌||◌, nat_le, List, [], ◌∷◌, map, drop, codes, if◌then◌else◌}
use Rattle.std.specs.Prelude.{Option, Some, None, option_and_then, option_map, is_some, is_none, unwrap_or, Result, Ok, Err, ok_or}
use Rattle.std.specs.Str.{is_utf8, bytes_eq}
use Rattle.moments.specs.Months.{month_number}
use Rattle.moments.specs.Dates.{is_month, year_in, month_in}
use Rattle.office_base.specs.Results.{◌>>=◌}
use Rattle.office_base.specs.Texts.{is_among}
use Rattle.toml.specs.Data.{Data, string, integer, array, Items, no_items, item, Members, no_members, member, get_member, as_table}
use Rattle.toml.specs.Parse.{parse_document}
use Rattle.class_rules.specs.Classes.{all_classes, class_name}
use Rattle.class_rules.specs.declared.class.Class.{Class}
use Rattle.tariff.specs.declared.fault.TariffTable.{TariffTable}
use Rattle.tariff.specs.declared.fault.TariffTable.TheVariants.{Storage, Transition}
use Rattle.tariff.specs.declared.tiers.Tier.{Tier}
use Rattle.tariff.specs.Faults.{TariffFlaw, not_toml, missing_class, bad_price, unknown_field, bad_tiers, bad_from}
use Rattle.tariff.specs.Prices.{Prices, is_price, one_tier, have_ends, are_priced}

-- the document of a text in UTF-8; a table has its names in byte order. A text that nests more than 80 deep, or has an
-- integer outside 64 bits, is not a document (own; TOML v1.1.0, "Integer", requires 64 bits and leaves the rest open).
unfoldable pub document_of : List ℕ → Option Members
document_of text = if is_utf8 text then parse_document text else None

-- the names of the two tables (own)
abbrev pub table_name : TariffTable → List ℕ
table_name Storage = codes "storage"
table_name Transition = codes "transition"

-- both of them
abbrev pub table_names : List (List ℕ)
table_names = table_name Storage ∷ table_name Transition ∷ []

-- the name of the field for the first month (own)
abbrev pub from_name : List ℕ
from_name = codes "from"

-- the classes for which a table has a price, by rank; for moves all but the warmest
abbrev pub classes_of : TariffTable → List Class
classes_of Storage = all_classes
classes_of Transition = drop 1 all_classes

-- ---- names

-- the name of the first member, in the byte order of the names, that fails the test
abbrev pub first_other : (List ℕ → Data → Bool) → Members → Option (List ℕ)
first_other test no_members = None
first_other test (member name value ms) = if test name value then first_other test ms else Some name

-- a known field of a tariff: `from` with any value, or one of the two names with a table
abbrev pub is_field : List ℕ → Data → Bool
is_field name value = bytes_eq name from_name || (is_among table_names name && is_some (as_table value))

-- a known name of a table: that of one of its classes
abbrev pub is_class_name : TariffTable → List ℕ → Data → Bool
is_class_name table name value = is_among (map class_name (classes_of table)) name

-- the members, or a fault with the unknown name if there is one
abbrev pub unless_other : Members → Option (List ℕ) → Result Members TariffFlaw
unless_other ms None = Ok ms
unless_other ms (Some name) = Err (unknown_field name)

-- the document, if it has only the two tables and the first month
abbrev pub with_fields : Members → Result Members TariffFlaw
with_fields document = unless_other document (first_other is_field document)

-- the members of a table, if it has only its classes; some may still be missing
abbrev pub with_classes : TariffTable → Members → Result Members TariffFlaw
with_classes table ms = unless_other ms (first_other (is_class_name table) ms)

-- the members of a table of the document; a missing table is empty (own)
abbrev pub members_of : TariffTable → Members → Members
members_of table document = unwrap_or (option_and_then as_table (get_member (table_name table) document)) no_members

-- ---- the first month

-- the month of a text `YYYY-MM`; any other value says none
abbrev pub month_said : Data → Option ℕ
month_said (string text) = if is_month text then Some (month_number (year_in text) (month_in text)) else None
month_said value = None

-- the first month of the tariff; January 1970 if the field is missing (own)
abbrev pub from_of : Option Data → Result ℕ TariffFlaw
from_of None = Ok 0
from_of (Some value) = ok_or (month_said value) bad_from

-- ---- prices

-- a price, written as an integer, not as 1.0 (own)
abbrev pub price_of : Data → Option ℕ
price_of (integer (pos price)) = if is_price price then Some price else None
price_of value = None

-- the price of a class, given the value that its table has; a missing or invalid value is a fault
abbrev pub price_at : TariffTable → Class → Option Data → Result ℕ TariffFlaw
price_at table class None = Err (missing_class table class)
price_at table class (Some value) = ok_or (price_of value) (bad_price table class)

-- the price that a table has for a class; a missing or invalid one is a fault
abbrev pub price_in : TariffTable → Members → Class → Result ℕ TariffFlaw
price_in table ms class = price_at table class (get_member (class_name class) ms)

-- reads each of these classes in turn, up to the first fault
abbrev pub each_of : {X : Type 0} → (Class → Result X TariffFlaw) → List Class → Result (List X) TariffFlaw
each_of read [] = Ok []
each_of read (class ∷ classes) = do
  first ← read class
  others ← each_of read classes
  Ok (first ∷ others)

-- ---- tiers

-- the end of a tier: a whole number of GiB-months from 1 to 2^32 - 1, written as an integer (own)
abbrev pub upto_of : Data → Option ℕ
upto_of (integer (pos upto)) = if nat_le 1 upto && nat_le upto 4_294_967_295 then Some upto else None
upto_of value = None

-- the optional end of a tier; none if the value is invalid
abbrev pub end_said : Option Data → Option (Option ℕ)
end_said None = Some None
end_said (Some value) = option_map Some (upto_of value)

-- the names in a tier (own)
abbrev pub is_tier_name : List ℕ → Data → Bool
is_tier_name name value = is_among (codes "price" ∷ codes "upto" ∷ []) name

-- a tier with this end and this price. An invalid price is kept as a number above all prices, so that the ends of all
-- tiers are checked first (own).
abbrev pub tier_with : Option ℕ → Data → Tier
tier_with end price = record { upto = end; price = unwrap_or (price_of price) 1_048_577 }

-- a tier, given its price and its optional end; none if the price is missing or the end is invalid
abbrev pub tier_by : Option Data → Option (Option ℕ) → Option Tier
tier_by None end = None
tier_by (Some price) None = None
tier_by (Some price) (Some end) = Some (tier_with end price)

-- the tier that a table says; none if the table has an unknown name
abbrev pub tier_among : Members → Option Tier
tier_among ms =
    if is_none (first_other is_tier_name ms)
    then tier_by (get_member (codes "price") ms) (end_said (get_member (codes "upto") ms))
    else None

abbrev pub tier_said : Data → Option Tier
tier_said element = option_and_then tier_among (as_table element)

-- the tiers that the elements of a list say, up to the first invalid one
abbrev pub tiers_said : Class → Items → Result (List Tier) TariffFlaw
tiers_said class no_items = Ok []
tiers_said class (item element items) = do
  tier ← ok_or (tier_said element) (bad_tiers class)
  tiers ← tiers_said class items
  Ok (tier ∷ tiers)

-- the tiers, if they are valid; ends are checked before prices (own)
abbrev pub in_range : Class → List Tier → Result (List Tier) TariffFlaw
in_range class tiers =
    if have_ends tiers then (if are_priced tiers then Ok tiers else Err (bad_price Storage class))
    else Err (bad_tiers class)

-- the tiers that a value says for a class: those of a list, else one tier with the price
abbrev pub tiers_of : Class → Data → Result (List Tier) TariffFlaw
tiers_of class (array items) = tiers_said class items >>= in_range class
tiers_of class value = ok_or (option_map one_tier (price_of value)) (bad_price Storage class)

-- the tiers of a class, given the value that the storage table has; a missing value is a fault
abbrev pub tiers_at : Class → Option Data → Result (List Tier) TariffFlaw
tiers_at class None = Err (missing_class Storage class)
tiers_at class (Some value) = tiers_of class value

-- the tiers that the storage table has for a class
abbrev pub tiers_in : Members → Class → Result (List Tier) TariffFlaw
tiers_in ms class = tiers_at class (get_member (class_name class) ms)

-- ---- tariffs

-- the tariff of a text, or its first fault (own order)
unfoldable pub tariff_of : List ℕ → Result Prices TariffFlaw
tariff_of text = do
  read ← ok_or (document_of text) not_toml
  document ← with_fields read
  from ← from_of (get_member from_name document)
  storage ← with_classes Storage (members_of Storage document)
  transition ← with_classes Transition (members_of Transition document)
  storage_tiers ← each_of (tiers_in storage) (classes_of Storage)
  transition_prices ← each_of (price_in Transition transition) (classes_of Transition)
  Ok (record { from = from; storage = storage_tiers; transition = transition_prices })
