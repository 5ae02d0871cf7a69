use Rattle.std.proofs.Common.{◌≡◌, ◌++◌}
use Rattle.stay_explain.proofs.pages.divide.Given as goal

-- the buckets that are left come after those that stand on pages
abbrev pub invariant-loop-bucket : goal.invariant-loop-bucket
invariant-loop-bucket l = l.pages ++ l.bucket-iterator ≡ l.tables.entries
