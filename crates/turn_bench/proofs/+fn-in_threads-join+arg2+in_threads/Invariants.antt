use Rattle.std.proofs.Common.{◌*◌, ◌-◌}
use Rattle.turn_bench.proofs.+fn-in_threads-join+arg2+in_threads.Given as goal

-- the threads left, twice, so that the call of the closure is below that of the function
abbrev pub decreases-join+arg2 : goal.decreases-join+arg2
decreases-join+arg2 g l = 2 * l.threads - 1

abbrev pub decreases-in_threads : goal.decreases-in_threads
decreases-in_threads g l = 2 * l.threads
