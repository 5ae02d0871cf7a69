-- How months are written in the table.
use Rattle.std.specs.Prelude.{ℕ, ◌+◌, ◌/◌, ◌%◌, List, [], ◌∷◌}
use Rattle.moments.specs.Months.{year_of, month_of_year}

-- the last decimal digit of a number, as text
abbrev pub last_digit : ℕ → ℕ
last_digit number = 48 + number % 10

-- as 2024-01
unfoldable pub month_text : ℕ → List ℕ
month_text month =
    let year = year_of month in
    let number = month_of_year month in
    last_digit (year / 1_000) ∷ last_digit (year / 100) ∷ last_digit (year / 10) ∷ last_digit year
    ∷ 45 ∷ last_digit (number / 10) ∷ last_digit number ∷ []
