-- Amounts of money in whole units.
use Rattle.std.proofs.Common.{◌≤◌, ◌<◌, ◌+◌, ◌*◌, ◌/◌, ℕ, zero, arith, List}
use Rattle.std.proofs.Math.Nat.{div-mul-le_self, lt-div-mul-add}
use Rattle.moments.specs.Months.{month_start, month_end}
use Rattle.moments.proofs.Calendar.{month_has_days}
use Rattle.tariff.specs.declared.tiers.Tier.{Tier}
use Rattle.tariff.specs.Charges.{gib_month, charge_of, IsCharge, priced, parts_of}

-- a month has 28 to 31 days
pub month_bounds : (m : ℕ) → (month_start m + 2_419_200_000 ≤ month_end m) × (month_end m ≤ month_start m + 2_678_400_000)
month_bounds m =
    let b = month_has_days m in
    (omega (arith, b), omega (arith, b))

unit_above : (m : ℕ) → zero < gib_month m
unit_above m = let b = month_bounds m in omega (arith, b)

pub whole_part : (quantity : ℕ) (tiers : List Tier) (month : ℕ) → IsCharge quantity tiers month (charge_of quantity tiers month)
whole_part quantity tiers month =
    let amount = priced (parts_of quantity tiers month) in
    record {
      not_above = div-mul-le_self amount (gib_month month);
      greatest = let l : amount < amount / gib_month month * gib_month month + gib_month month = lt-div-mul-add (unit_above month) in omega (arith, l);
    }
