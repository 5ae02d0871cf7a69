-- The forms in which a stack keeps its versions.
use Rattle.std.specs.Prelude.{[], ◌∷◌}
use Rattle.std.specs.Bool.{IsTrue}
use Rattle.stacks.specs.declared.stack.Form.{Form}
use Rattle.stacks.specs.declared.stack.Form.TheVariants.{Bare, One, Many}
use Rattle.stacks.specs.Stacks.{StackRecord, stack_of, new_stack, is_stack}

-- the stack that is kept in this form
abbrev pub kept_stack : Form → StackRecord
kept_stack (Bare changed alloc) = new_stack changed
kept_stack (One changed version) = stack_of changed (version.value ∷ [])
kept_stack (Many list) = list.value

-- the versions are valid; a list has the same as its own invariant
abbrev pub IsKept : Form → Type 0
IsKept (Bare changed alloc) = Unit {0}
IsKept (One changed version) = IsTrue (is_stack changed (version.value ∷ []))
IsKept (Many list) = Unit {0}
