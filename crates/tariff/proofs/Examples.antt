-- Charges and tariffs computed on examples.
use Rattle.std.specs.Prelude.{◌≡◌, ◌*◌, ℕ, pos, List, [], ◌∷◌, Some, None, Ok, Err, codes, refl}
use Rattle.moments.specs.Months.{month_number, month_length, days_of_months, first_day}
use Rattle.moments.specs.Dates.{is_month, begins_with_month}
use Rattle.class_rules.specs.declared.class.Class.TheVariants.{Standard}
use Rattle.toml.specs.Data.{Data, string, integer, array, table, no_items, item, no_members, member}
use Rattle.tariff.specs.declared.tiers.Tier.{Tier}
use Rattle.tariff.specs.declared.fault.TariffTable.TheVariants.{Storage}
use Rattle.tariff.specs.Faults.{bad_price, bad_tiers, bad_from}
use Rattle.tariff.specs.Prices.{one_tier}
use Rattle.tariff.specs.Charges.{charge_of, move_charge_of, parts_of}
use Rattle.tariff.specs.Reading.{from_of, tiers_of}

-- a GiB in STANDARD for the whole of January 2024
whole_month : 1_073_741_824 * month_length (month_number 2024 1) ≡ 2_875_910_101_401_600_000
unfolding first_day days_of_months
whole_month = refl

charge_of_a_gib : charge_of 2_875_910_101_401_600_000 (one_tier 23_000) (month_number 2024 1) ≡ 23_000
unfolding first_day days_of_months
charge_of_a_gib = refl

-- one byte
byte_for_a_month : 1 * month_length (month_number 2024 1) ≡ 2_678_400_000
unfolding first_day days_of_months
byte_for_a_month = refl

charge_of_a_byte : charge_of 2_678_400_000 (one_tier 23_000) (month_number 2024 1) ≡ 0
unfolding first_day days_of_months
charge_of_a_byte = refl

-- ---- tiers

-- the first GiB-month at 23,000, and all others at 20,000
two_prices : List Tier
two_prices = record { upto = Some 1; price = 23_000 } ∷ record { upto = None; price = 20_000 } ∷ []

-- three GiB: one in the first tier, two in the second
parts_of_three_gib : parts_of 8_627_730_304_204_800_000 two_prices (month_number 2024 1)
    ≡ (2_875_910_101_401_600_000, 23_000) ∷ (5_751_820_202_803_200_000, 20_000) ∷ []
unfolding two_prices first_day days_of_months
parts_of_three_gib = refl

charge_of_three_gib : charge_of 8_627_730_304_204_800_000 two_prices (month_number 2024 1) ≡ 63_000
unfolding two_prices first_day days_of_months
charge_of_three_gib = refl

-- one GiB is all in the first tier, and half a GiB too
charge_at_the_end : charge_of 2_875_910_101_401_600_000 two_prices (month_number 2024 1) ≡ 23_000
unfolding two_prices first_day days_of_months
charge_at_the_end = refl

charge_of_half_a_gib : charge_of 1_437_955_050_700_800_000 two_prices (month_number 2024 1) ≡ 11_500
unfolding two_prices first_day days_of_months
charge_of_half_a_gib = refl

-- the largest quantity of 128 bits
charge_of_all : charge_of 340_282_366_920_938_463_463_374_607_431_768_211_455 (one_tier 1_048_576) (month_number 2024 1)
    ≡ 124_069_220_036_674_495_305_388_203
unfolding first_day days_of_months
charge_of_all = refl

-- ---- reading

tier_text : ℕ → ℕ → Data
tier_text upto price = table (member (codes "price") (integer (pos price)) (member (codes "upto") (integer (pos upto)) no_members))

last_text : ℕ → Data
last_text price = table (member (codes "price") (integer (pos price)) no_members)

tiers_are_read : tiers_of Standard (array (item (tier_text 1 23_000) (item (last_text 20_000) no_items))) ≡ Ok two_prices
unfolding tier_text last_text two_prices
tiers_are_read = refl

-- an end that does not rise, even where a price is bad too; a list that ends with an end; an empty list
end_twice : tiers_of Standard (array (item (tier_text 5 2_000_000) (item (tier_text 5 1) (item (last_text 1) no_items)))) ≡ Err (bad_tiers Standard)
unfolding tier_text last_text
end_twice = refl

no_last : tiers_of Standard (array (item (tier_text 5 1) no_items)) ≡ Err (bad_tiers Standard)
unfolding tier_text
no_last = refl

no_tiers : tiers_of Standard (array no_items) ≡ Err (bad_tiers Standard)
no_tiers = refl

-- a price that is none, with good ends
price_too_large : tiers_of Standard (array (item (tier_text 5 1) (item (last_text 1_048_577) no_items))) ≡ Err (bad_price Storage Standard)
unfolding tier_text last_text
price_too_large = refl

from_none : from_of None ≡ Ok 0
from_none = refl

from_a_month : from_of (Some (string (codes "2024-01"))) ≡ Ok 648
unfolding is_month begins_with_month
from_a_month = refl

from_no_month : from_of (Some (string (codes "2024-13"))) ≡ Err bad_from
unfolding is_month begins_with_month
from_no_month = refl

-- ---- moves

moves : move_charge_of 1_999 3 ≡ 5
moves = refl
