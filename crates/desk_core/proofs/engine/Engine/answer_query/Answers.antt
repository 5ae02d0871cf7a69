use Rattle.desk_core.proofs.Offices.{other_lack}
use Rattle.desk_core.proofs.engine.Engine.answer_query.Goals as goal

pub answer-requires-in_default-clause-enough : goal.answer-requires-in_default-clause-enough
answer-requires-in_default-clause-enough g c = other_lack c.in-Err.refusal c.in_default.not-NoMemory
