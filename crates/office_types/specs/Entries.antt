-- The entries of a history.
use Rattle.std.specs.Prelude.{ℕ, List, Option, None}
use Rattle.office_types.specs.declared.command.Command.{Command}
use Rattle.office_types.specs.declared.command.Entry.{Entry}

-- the entry of a command, with a token or without, at a moment
abbrev pub entry_with : ℕ → Option (List ℕ) → Command → Entry
entry_with t token command = record { moment = t; token = token; command = command }

-- the entry of a command without a token at a moment
abbrev pub entry_at : ℕ → Command → Entry
entry_at t command = entry_with t None command
