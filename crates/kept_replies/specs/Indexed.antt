-- The index of the queue, with which one search finds a reply.
use Rattle.std.specs.Prelude.{◌≡◌, ℕ, ◌+◌, ◌-◌, nat_lt, List, [], ◌∷◌, slice_get, Option, Some, None, option_and_then, if◌then◌else◌}
use Rattle.std.specs.Str.{bytes_eq}
use Rattle.office_base.specs.Maps.{at_name, without_name}
use Rattle.office_types.specs.declared.command.Command.{Command}
use Rattle.office_types.specs.declared.kept.Kept.{Kept}

-- the index has for each token of the queue the number of its reply, counted from first on
abbrev pub IsIndexed : ℕ → List (List ℕ × ℕ) → List Kept → Type 0
IsIndexed first numbers [] = Unit {0}
IsIndexed first numbers (kept ∷ queue) = (at_name kept.token numbers ≡ Some first) × IsIndexed (first + 1) numbers queue

-- a held token, whose reply is not known yet, has the number after the last
abbrev pub IsHeld : ℕ → List (List ℕ × ℕ) → Option (List ℕ × Command) → Type 0
IsHeld next numbers None = Unit {0}
IsHeld next numbers (Some held) = at_name held.0 numbers ≡ Some next

-- the index without a held token
abbrev pub without_held : Option (List ℕ × Command) → List (List ℕ × ℕ) → List (List ℕ × ℕ)
without_held None numbers = numbers
without_held (Some held) numbers = without_name held.0 numbers

-- the kept reply, if it has this token
abbrev pub if_its : List ℕ → Kept → Option Kept
if_its token kept = if bytes_eq kept.token token then Some kept else None

-- the reply with the number that the index has for a token, if it has this token
abbrev pub found_at : ℕ → List ℕ → List Kept → Option ℕ → Option Kept
found_at first token queue None = None
found_at first token queue (Some number) =
    if nat_lt number first then None else option_and_then (if_its token) (slice_get queue (number - first))
