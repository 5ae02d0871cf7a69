use Rattle.std.proofs.Common.{refl}
use Rattle.kept_replies.proofs.Anew.{same_kept, is_told}
use Rattle.kept_replies.proofs.replies.copy_of.Goals as goal

pub returns-clause-same : goal.returns-clause-same
returns-clause-same c =
    same_kept c.args.kept.now
    (record { token = c.in_ok-token.token; moment = c.args.kept.now.moment; marker = c.in_ok-marker.marker; told = c.in_ok-marker.told; command = c.in_ok-token.command })
    c.in_ok-token.ensures.0 refl c.in_ok-token.ensures.1 c.in_ok-marker.ensures.0 c.in_ok-marker.ensures.1

pub returns-clause-told : goal.returns-clause-told
returns-clause-told c =
    is_told c.args.kept.now
    (record { token = c.in_ok-token.token; moment = c.args.kept.now.moment; marker = c.in_ok-marker.marker; told = c.in_ok-marker.told; command = c.in_ok-token.command })
    c.in_ok-token.ensures.0 refl c.in_ok-token.ensures.1 c.in_ok-marker.ensures.0 c.in_ok-marker.ensures.1
