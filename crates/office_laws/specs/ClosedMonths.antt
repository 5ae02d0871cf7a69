-- A closed month, before and after later commands.
use Rattle.std.specs.Prelude.{◌≡◌, ℕ, ◌≤◌, IsSome}
use Rattle.moments.specs.Months.{month_end}
use Rattle.class_rules.specs.declared.class.Class.{Class}
use Rattle.office_base.specs.Maps.{at_number}
use Rattle.accrual.specs.Books.{Book}
use Rattle.accrual.specs.Meters.{meter, early_quantity, move_count}
use Rattle.plain_office.specs.Office.{Office}
use Rattle.plain_office.specs.Orderly.{IsOrderly}

-- the month is closed in this office, and the moments u (now) and v (later) are not before its end
pub record IsClosedMonth (month u v : ℕ) (office : Office) : Type 0 where
  pub orderly : IsOrderly office
  pub closed : IsSome (at_number month office.closed)
  pub over_now : month_end month ≤ u
  pub over_later : month_end month ≤ v

-- the readings of a class in the month are the same in both books, at u and at v
pub record ReadsSame (month : ℕ) (class : Class) (u v : ℕ) (before after : Book) : Type 0 where
  pub meter_stays : meter month class v after ≡ meter month class u before
  pub early_stays : early_quantity month class after ≡ early_quantity month class before
  pub moves_stay : move_count month class after ≡ move_count month class before
