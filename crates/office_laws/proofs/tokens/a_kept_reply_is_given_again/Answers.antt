use Rattle.office_laws.proofs.Replies.{again, reused}
use Rattle.office_laws.proofs.tokens.a_kept_reply_is_given_again.Goals as goal

pub returns : goal.returns
returns c = record { again = again; reused = reused }
