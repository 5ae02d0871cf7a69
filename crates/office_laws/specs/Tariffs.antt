-- The tariff in force in a month.
use Rattle.std.specs.Prelude.{◌≡◌, ℕ, ◌≤◌, List, ◌∷◌, ◌++◌}
use Rattle.std.specs.List.{AllByRecursion}
use Rattle.tariff.specs.Prices.{Prices}

-- the tariff is among these, and is the one with the latest first month that is not after the month (own)
pub record IsInForce (month : ℕ) (tariff : Prices) (tariffs : List Prices) : Type 0 where
  pub earlier : List Prices
  pub later : List Prices
  pub among : tariffs ≡ earlier ++ tariff ∷ later
  pub begun : tariff.from ≤ month
  pub latest : AllByRecursion (λ other. other.from ≤ month → other.from ≤ tariff.from) tariffs
