-- Lists of calls.
use Rattle.std.specs.Prelude.{ℕ, List, map, filter, length, ◌==◌, if◌then◌else◌, nat_lt}
use Rattle.turn_core.specs.declared.view.TurnCall.{TurnCall}

module _ {A S : Type 0} where
  -- the calls without their own numbers and the numbers of their passes
  abbrev pub plain : List (TurnCall A S) → List (A × S)
  plain = map (λ c. (c.ask, c.say))

  -- the calls that were made under this pass number, in order
  abbrev pub calls_under : ℕ → List (TurnCall A S) → List (TurnCall A S)
  calls_under number = filter (λ c. c.by == number)

  -- the longer of two lists; the first if they have the same length
  abbrev pub longer : List (TurnCall A S) → List (TurnCall A S) → List (TurnCall A S)
  longer xs ys = if nat_lt (length xs) (length ys) then ys else xs

  -- the other one of the two lists
  abbrev pub shorter : List (TurnCall A S) → List (TurnCall A S) → List (TurnCall A S)
  shorter xs ys = if nat_lt (length xs) (length ys) then xs else ys
