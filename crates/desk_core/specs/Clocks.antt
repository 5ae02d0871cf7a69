-- The numbers that a clock of a list tells.
use Rattle.std.specs.Prelude.{ℕ, zero, suc, ◌-◌, List, [], ◌∷◌, ◌++◌, length, get_or}
use Rattle.desk_core.specs.declared.clock.ListClock.{ListClock}
use Rattle.desk_core.specs.declared.clock.SystemClock.{SystemClock}

-- the number at this place, counted from 0; the last one behind the end, and 0 of an empty list
abbrev pub number_at : List ℕ → ℕ → ℕ
number_at moments place = get_or moments place (get_or moments (length moments - 1) 0)

-- the first numbers that are told, this many
abbrev pub numbers_told : List ℕ → ℕ → List ℕ
numbers_told moments zero = []
numbers_told moments (suc n) = numbers_told moments n ++ number_at moments n ∷ []

-- what contracts see of a clock of a list: the list, and how many numbers were told
pub record ListNumbers : Type 0 where
  pub moments : List ℕ
  pub count : ℕ

-- of this clock
abbrev pub list_numbers : ListClock → ListNumbers
list_numbers clock = record { moments = clock.moments.items; count = clock.count }

-- how many numbers the machine's clock told
abbrev pub system_count : {T : Type 0} → SystemClock T → ℕ
system_count clock = clock.count
