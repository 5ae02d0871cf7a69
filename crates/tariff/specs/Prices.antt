-- A tariff: the prices of each storage class, from a month on.
use Rattle.std.specs.Prelude.{ℕ, ◌-◌, nat_le, nat_lt, Bool, false, ◌&&◌, ◌==◌, List, [], ◌∷◌, length, slice_index, get_or, None, option_map, unwrap_or}
use Rattle.std.specs.List.{list_all}
use Rattle.class_rules.specs.Classes.{rank_of}
use Rattle.class_rules.specs.declared.class.Class.{Class}
use Rattle.class_rules.specs.declared.class.Class.TheVariants.{Standard}
use Rattle.tariff.specs.declared.tiers.Tier.{Tier}

-- a tariff as contracts see it: its first month, the tiers of storage by rank, and the prices of moves by rank from
-- STANDARD_IA on
pub record Prices : Type 0 where
  pub from : ℕ
  pub storage : List (List Tier)
  pub transition : List ℕ

-- a price is a whole number of units from 0 to 2^20 (own)
abbrev pub is_price : ℕ → Bool
is_price price = nat_le price 1_048_576

-- the price of each tier is in range
abbrev pub are_priced : List Tier → Bool
are_priced tiers = list_all (λ (tier : Tier). is_price tier.price) tiers

-- the end of a tier is valid: above this number, and a whole number of GiB-months of at most 2^32 - 1 (own)
abbrev pub is_end : ℕ → ℕ → Bool
is_end above upto = nat_lt above upto && nat_le upto 4_294_967_295

-- the first tier ends above this number, each other one above the one before it; only the last has no end (own)
abbrev pub rise_from : ℕ → List Tier → Bool
rise_from above [] = false
rise_from above (tier ∷ tiers) =
    unwrap_or (option_map (λ upto. is_end above upto && rise_from upto tiers) tier.upto) (length tiers == 0)

-- there are one to eight tiers, and their ends ascend (own)
abbrev pub have_ends : List Tier → Bool
have_ends tiers = nat_le (length tiers) 8 && rise_from 0 tiers

-- valid tiers of a class: their ends and their prices are valid
abbrev pub are_tiers : List Tier → Bool
are_tiers tiers = have_ends tiers && are_priced tiers

-- the prices of storage and those of moves are in range
abbrev pub are_prices : List ℕ → List ℕ → Bool
are_prices storage transition = list_all is_price storage && list_all is_price transition

-- a single tier without end, at this price
abbrev pub one_tier : ℕ → List Tier
one_tier price = record { upto = None; price = price } ∷ []

-- the tiers of a class; its GiB-months fill them in order
abbrev pub storage_tiers : Prices → Class → List Tier
storage_tiers tariff class = get_or tariff.storage (rank_of class) []

-- the price of 1,000 moves to the class; 0 for the warmest, to which nothing moves
abbrev pub move_price : Prices → Class → ℕ
move_price tariff Standard = 0
move_price tariff class = slice_index tariff.transition (rank_of class - 1)
