use Rattle.checkpoint.proofs.BodyLaws.{body_again, body_takes, one_value}
use Rattle.checkpoint.proofs.laws.each_body_reads_back.Goals as goal

pub returns-clause-again : goal.returns-clause-again
returns-clause-again c = body_again

pub returns-clause-only : goal.returns-clause-only
returns-clause-only c = body_takes

pub returns-clause-one : goal.returns-clause-one
returns-clause-one c = one_value
