-- How large the kept numbers are after a number of bookings, so that no sum leaves its range.
use Rattle.std.specs.Prelude.{ℕ, ◌≡◌, ◌+◌, ◌*◌, ◌^◌, ◌≤◌, ◌<◌, length}
use Rattle.moments.specs.Months.{months}
use Rattle.class_rules.specs.Classes.{rank_of}
use Rattle.class_rules.specs.declared.class.Class.{Class}
use Rattle.accrual.specs.declared.rows.Rows.{Rows}
use Rattle.accrual.specs.Rows.{kept_in, running_to, arrived_to, departed_to, gross_in, excess_in}
use Rattle.accrual.specs.Totals.{most_bookings}

-- the rows are bounded by the number of bookings. A booking adds less than 2 ^ 44 bytes, a month has less than 2 ^ 32
-- milliseconds, and no early quantity is above 5 * 2 ^ 74 byte-milliseconds. A stay without an end counts for 2 ^ 32
-- milliseconds of every month, so that its end adds nothing.
pub record IsBounded (rows : Rows) (booked : ℕ) : Type 0 where
  pub run : rows.first + length rows.rows.items ≤ months
  pub few : booked ≤ most_bookings
  pub used : (month : ℕ) (class : Class)
      → gross_in rows month (rank_of class) + running_to rows (rank_of class) months * 2 ^ 32
      < 2 ^ 120 + booked * 2 ^ 76 + excess_in rows month (rank_of class)
  pub covered : (month : ℕ) (class : Class) → excess_in rows month (rank_of class) ≤ gross_in rows month (rank_of class)
  pub edges : (month : ℕ) (class : Class)
      → (kept_in rows month (rank_of class)).edges + running_to rows (rank_of class) months * 2 ^ 33
      < 2 ^ 120 + booked * 2 ^ 77
  pub bytes : (class : Class)
      → arrived_to rows (rank_of class) months + running_to rows (rank_of class) months ≤ booked * 2 ^ 44
  pub balanced : (class : Class) → departed_to rows (rank_of class) months ≡ arrived_to rows (rank_of class) months
  pub lead : (month : ℕ) (class : Class) → (kept_in rows month (rank_of class)).lead ≤ booked * 2 ^ 76
  pub early : (month : ℕ) (class : Class) → (kept_in rows month (rank_of class)).early < 2 ^ 120 + booked * 5 * 2 ^ 74
  pub moves : (month : ℕ) (class : Class) → (kept_in rows month (rank_of class)).moves < 2 ^ 62 + booked

-- the rows are bounded by some number of bookings
abbrev pub IsSound : Rows → Type 0
IsSound rows = (booked : ℕ) × IsBounded rows booked
