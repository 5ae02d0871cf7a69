use Rattle.office_laws.proofs.Replies.{acts_once}
use Rattle.office_laws.proofs.tokens.a_command_with_a_token_acts_once.Goals as goal

pub returns : goal.returns
returns c = acts_once
