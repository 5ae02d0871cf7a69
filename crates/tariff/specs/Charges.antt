-- What a quantity costs: storage per GiB-month, through the tiers of its class, and moves per thousand.
use Rattle.std.specs.Prelude.{ℕ, ◌+◌, ◌-◌, ◌*◌, ◌/◌, ◌^◌, ◌<◌, ◌≤◌, min, sum_by, List, [], ◌∷◌, Option, Some, None, option_map, unwrap_or}
use Rattle.moments.specs.Months.{month_length}
use Rattle.tariff.specs.declared.tiers.Tier.{Tier}

-- the byte-milliseconds of a GiB-month: 2^30 bytes for the whole month (S3 User Guide, "Understanding your AWS billing
-- and usage reports for Amazon S3")
abbrev pub gib_month : ℕ → ℕ
gib_month month = 2 ^ 30 * month_length month

-- the part of a quantity that is above begin, and not above the end if there is one
abbrev pub part_between : ℕ → Option ℕ → ℕ → ℕ
part_between begin None quantity = quantity - begin
part_between begin (Some end) quantity = min end quantity - begin

-- For each tier, its part of a quantity and its price. The first tier begins at the given number of units, each other
-- one at the end of the one before it; the last has no end. The unit is a number of the quantity's own units: for
-- storage, the byte-milliseconds of a GiB-month (own).
abbrev pub parts_from : ℕ → ℕ → ℕ → List Tier → List (ℕ × ℕ)
parts_from begin unit quantity [] = []
parts_from begin unit quantity (tier ∷ tiers) =
    (part_between (begin * unit) (option_map (λ upto. upto * unit) tier.upto) quantity, tier.price)
    ∷ parts_from (unwrap_or tier.upto begin) unit quantity tiers

-- the sum of all parts, each times its price; prices are per GiB-month, so this is the amount times the unit
abbrev pub priced : List (ℕ × ℕ) → ℕ
priced parts = sum_by (λ part. part.0 * part.1) parts

-- the parts of a month's quantity of byte-milliseconds; the first tier begins at 0 (own)
abbrev pub parts_of : ℕ → List Tier → ℕ → List (ℕ × ℕ)
parts_of quantity tiers month = parts_from 0 (gib_month month) quantity tiers

-- the charge of a quantity: the exact amount, rounded down (own)
abbrev pub charge_of : ℕ → List Tier → ℕ → ℕ
charge_of quantity tiers month = priced (parts_of quantity tiers month) / gib_month month

-- charge is the greatest whole number that is not above the exact amount
pub record IsCharge (quantity : ℕ) (tiers : List Tier) (month charge : ℕ) : Type 0 where
  pub not_above : charge * gib_month month ≤ priced (parts_of quantity tiers month)
  pub greatest : priced (parts_of quantity tiers month) < (charge + 1) * gib_month month

-- the charge of moves to a class, at a price per 1,000, rounded down (own)
abbrev pub move_charge_of : ℕ → ℕ → ℕ
move_charge_of moves price = moves * price / 1_000
