use Rattle.due_core.proofs.Queue.{one_queue}
use Rattle.due_core.proofs.laws.the_queue_is_one.Goals as goal

pub returns : goal.returns
returns c = one_queue
