-- What is said in place of a long answer.
use Rattle.std.proofs.Common.{inr, Result, Err}
use Rattle.desk_core.specs.Answers.{Answer}
use Rattle.desk_core.specs.declared.fault.DeskFault.{DeskFault}
use Rattle.http_front.specs.declared.answering.SessionEnd.{SessionEnd}
use Rattle.http_front.specs.declared.answering.SessionEnd.TheVariants as ends
use Rattle.http_front.specs.declared.replies.Replies as sinks
use Rattle.http_front.specs.Session.{IsLong}
use Rattle.http_front.specs.Talk.{IsSaid, SaysNoMemory}

-- said in place of a long answer: memory ran out
pub said_instead : {W : Type 0} (w : sinks.Ghosts W) (old new : W) (told : Result Answer DeskFault) (end : SessionEnd) → IsLong told → SaysNoMemory w old new end → IsSaid w old new told (Err end)
said_instead w old new told ends.NoMemory long says = inr (long, says)
said_instead w old new told ends.WriteFault long says = inr (long, says)
said_instead w old new told ends.Ended long says = absurd says
said_instead w old new told ends.ReadFault long says = absurd says
said_instead w old new told ends.Spent long says = absurd says
