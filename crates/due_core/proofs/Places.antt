-- The place of a version in its stack.
use Rattle.std.proofs.Common.{◌≡◌, ℕ, ◌+◌, ◌-◌, List, drop, length, arith}
use Rattle.std.proofs.lemmas.List.{length-drop}
use Rattle.stacks.specs.declared.version.Version.{Version}
use Rattle.due_core.specs.RuleActions.{Placed}

-- a version with the older ones after it
abbrev pub placed : ℕ → Version → List Version → Placed
placed newer version older = record { version = version; newer = newer; older = length older }

-- the older versions are those after it
pub older_left : {X : Type 0} (xs : List X) (i : ℕ) → length xs - i - 1 ≡ length (drop (i + 1) xs)
older_left xs i = omega (arith, length-drop (i + 1) xs)
