-- What holds of command lines.
use Rattle.std.specs.Prelude.{◌≡◌, ◌↔◌, ◌⊎◌, ℕ, ◌^◌, ◌<◌, ◌≤◌, List, Some, decimal}
use Rattle.command_line.specs.Lines.{asked, number_between, serve, explain}

-- a text spells the number n if and only if it is the decimal digits of n, and n is in range
abbrev pub HasExactNumbers : Type 0
HasExactNumbers =
    (least most n : ℕ) (text : List ℕ) → most < 2 ^ 64
    → (number_between least most text ≡ Some n) ↔ ((text ≡ decimal n) × (least ≤ n) × (n ≤ most))

-- a line that asks for `serve` or `explain` has 1 to 64 workers
abbrev pub HasFewWorkers : Type 0
HasFewWorkers =
    (words : List (List ℕ)) (listen : List ℕ) (workers connections : ℕ)
    → (asked words ≡ Some (serve listen workers connections)) ⊎ (asked words ≡ Some (explain workers))
    → (0 < workers) × (workers ≤ 64)
