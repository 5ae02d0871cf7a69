use Rattle.office_laws.proofs.Replies.{first_reply, apart}
use Rattle.office_laws.proofs.tokens.tokens_are_far_apart.Goals as goal

pub returns : goal.returns
returns c = record { first = first_reply; apart = apart }
