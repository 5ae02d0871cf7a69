-- A sweep: every lifecycle action of a bucket that has come by a moment, one after another.
use Rattle.std.specs.Prelude.{◌≡◌, ℕ, List, [], ◌∷◌, Some, None}
use Rattle.due_core.specs.Choice.{choice}
use Rattle.due_core.specs.declared.action.Action.{Action}
use Rattle.plain_office.specs.Office.{Account}
use Rattle.plain_office.specs.Changes.{effect}

-- the actions lead from one account to the other. Each is the choice at the moment u in the account that the ones
-- before it left, and after the last one there is no choice.
abbrev pub IsSwept : ℕ → List Action → Account → Account → Type 0
IsSwept u [] before after = (choice before.bucket u ≡ None) × (after ≡ before)
IsSwept u (action ∷ actions) before after =
    (choice before.bucket u ≡ Some action) × IsSwept u actions (effect action before) after
