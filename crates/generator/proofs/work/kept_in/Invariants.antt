use Rattle.generator.proofs.Made.{Keeps}
use Rattle.generator.proofs.work.kept_in.Given as goal

abbrev pub invariant-loop-bucket : goal.invariant-loop-bucket
invariant-loop-bucket l = Keeps l.bucket l.fn.desk l.desk l.kept
