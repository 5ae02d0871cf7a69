use Rattle.std.proofs.Common.{◌≡◌, ◌++◌}
use Rattle.bucket_account.proofs.copying.copy_uploads.Given as goal

-- those that are left come after those that were copied
abbrev pub invariant-loop-number : goal.invariant-loop-number
invariant-loop-number l = l.copies.entries ++ l.number-iterator ≡ l.uploads.entries
