-- Worked examples, computed.
use Rattle.std.proofs.Common.{◌≡◌, ℕ, ◌+◌, ◌*◌, [], ◌∷◌, refl}
use Rattle.std.specs.Prelude.{replicate}
use Rattle.moments.specs.Time.{day}
use Rattle.moments.specs.Months.{days_of_months, first_day}
use Rattle.class_rules.specs.Lines.{object_lines}
use Rattle.class_rules.specs.declared.class.Class.TheVariants.{Standard, StandardIa, Glacier}
use Rattle.accrual.specs.Books.{Book, empty_book, open_stay, ended_stay, book_with_early}
use Rattle.accrual.specs.Meters.{meter, early_quantity, move_count}
use Rattle.accrual.specs.Totals.{ended_sum, running_sum, lead_sum, with_early_of}
use Rattle.accrual.specs.Sums.{listed}
use Rattle.accrual.specs.declared.monthly.MonthSums.{MonthSums}

-- 2024-01-01 00:00 UTC; January 2024 is month 648, counted from January 1970
abbrev new_year : ℕ
new_year = 1_704_067_200_000

abbrev january : ℕ
january = 648

-- 1,000 bytes for a day and then 2,000 bytes for a day
abbrev two_puts : Book
two_puts = record empty_book { stays = ended_stay (object_lines Standard 1_000) new_year (new_year + day) ∷ open_stay (object_lines Standard 2_000) (new_year + day) ∷ [] }

two_days : meter january Standard (new_year + 2 * day) two_puts ≡ 259_200_000_000
unfolding meter first_day days_of_months
two_days = refl

-- a month later the stay without an end fills the rest of January, and has begun to fill February
rest_of_january : meter january Standard (new_year + 40 * day) two_puts ≡ (1_000 + 2_000 * 30) * day
unfolding meter first_day days_of_months
rest_of_january = refl

february : meter (january + 1) Standard (new_year + 40 * day) two_puts ≡ 2_000 * 9 * day
unfolding meter first_day days_of_months
february = refl

-- a transition at 2024-01-10, looked at on 2024-01-14 12:00
abbrev moved_on_the_tenth : Book
moved_on_the_tenth = record empty_book {
  stays = ended_stay (object_lines Standard 1_000_000) 1_702_198_800_000 1_704_844_800_000
      ∷ open_stay (object_lines StandardIa 1_000_000) 1_704_844_800_000 ∷ [];
  moves = record { class = StandardIa; moment = 1_704_844_800_000 } ∷ [];
}

warm : meter january Standard 1_705_233_600_000 moved_on_the_tenth ≡ 777_600_000_000_000
unfolding meter first_day days_of_months
warm = refl

cold : meter january StandardIa 1_705_233_600_000 moved_on_the_tenth ≡ 388_800_000_000_000
unfolding meter first_day days_of_months
cold = refl

one_move : move_count january StandardIa moved_on_the_tenth ≡ 1
unfolding move_count first_day days_of_months
one_move = refl

-- an archived object has bytes in two classes
archived : meter january Standard (new_year + day) (record empty_book { stays = open_stay (object_lines Glacier 6_144) new_year ∷ [] }) ≡ 8_192 * day
unfolding meter first_day days_of_months
archived = refl

-- what was deleted after 10 of 30 days
early : early_quantity january StandardIa (record empty_book { early = record { class = StandardIa; amount = 131_072 * 20 * day; moment = new_year + 10 * day } ∷ [] }) ≡ 226_492_416_000_000
unfolding early_quantity first_day days_of_months
early = refl

-- what is kept of the two days: the first stay has ended, the second began a day after the month's start
ended_in_january : ended_sum january Standard two_puts ≡ 1_000 * day
unfolding ended_sum first_day days_of_months
ended_in_january = refl

running_in_january : running_sum january Standard two_puts ≡ 2_000
unfolding running_sum first_day days_of_months
running_in_january = refl

lead_in_january : lead_sum january Standard two_puts ≡ 2_000 * day
unfolding lead_sum first_day days_of_months
lead_in_january = refl

-- what a list says of a month that it has, and of one that it has not
abbrev sums_of_january : MonthSums
sums_of_january = record { month = january; ended = 1_000 * day ∷ 0 ∷ 0 ∷ 0 ∷ 0 ∷ 0 ∷ []; early = replicate 6 0; moves = replicate 6 0 }

listed_in_january : listed (λ s. s.ended) (sums_of_january ∷ []) january Standard ≡ 1_000 * day
listed_in_january = refl

not_listed : listed (λ s. s.ended) (sums_of_january ∷ []) (january + 1) Standard ≡ 0
not_listed = refl

-- what leaves after 10 days owes 20 more, what leaves after exactly 30 days owes nothing
owed : with_early_of StandardIa 131_072 new_year (new_year + 10 * day) empty_book
    ≡ book_with_early (record { class = StandardIa; amount = 226_492_416_000_000; moment = new_year + 10 * day }) empty_book
owed = refl

not_owed : with_early_of StandardIa 131_072 new_year (new_year + 30 * day) empty_book ≡ empty_book
not_owed = refl
