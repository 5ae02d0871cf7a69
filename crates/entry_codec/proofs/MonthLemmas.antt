-- Months by their year and their month of the year.
use Rattle.std.proofs.Common.{◌≡◌, ℕ, true, ◌&&◌, arith}
use Rattle.std.specs.Prelude.{nat_le}
use Rattle.std.proofs.lemmas.Bool.Decides.{nat_tests}
use Rattle.moments.specs.Months.{month_of_year, month_number, has_month}

pub month_back : (year month : ℕ) → has_month year month ≡ true → month_of_year (month_number year month) ≡ month
month_back year month has = grind (arith, nat_tests)

pub month_has : (year month : ℕ) → has_month year 1 ≡ true → nat_le 1 month && nat_le month 12 ≡ has_month year month
month_has year month has = grind (arith, nat_tests)

-- the months of a year
pub ruleset months_of_year = (month_back, month_has)
