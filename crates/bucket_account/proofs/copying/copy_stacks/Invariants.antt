use Rattle.std.proofs.Common.{◌≡◌, ◌++◌}
use Rattle.bucket_account.proofs.copying.copy_stacks.Given as goal

-- those that are left come after those that were copied
abbrev pub invariant-loop-key : goal.invariant-loop-key
invariant-loop-key l = l.copies.entries ++ l.key-iterator ≡ l.stacks.entries
