use Rattle.std.proofs.Common.{◌≡◌, ◌⊎◌, ap, sym, subst, ◌∙◌, inl, Option, Err}
use Rattle.std.specs.Prelude.{option_map}
use Rattle.office_types.specs.declared.refusal.Refusal.TheVariants.{NoMemory}
use Rattle.plain_office.specs.Office.{KeptReply}
use Rattle.plain_office.specs.Once.{recalled}
use Rattle.kept_replies.specs.Queue.{plain_reply}
use Rattle.kept_replies.proofs.Indexes.{plain_found}
use Rattle.kept_replies.proofs.replies.KeptReplies.recall.Goals as goal

pub returns-in-Some : goal.returns-in-Some
returns-in-Some c =
    subst (λ (o : Option KeptReply). (c.told_again.result ≡ recalled o c.args.command.now) ⊎ (c.told_again.result ≡ Err NoMemory))
    (ap (option_map plain_reply) c.in-Some.ensures ∙ sym (plain_found c.args.token.now c.args.self.now.queue)) c.told_again.ensures

pub returns-in-None : goal.returns-in-None
returns-in-None c =
    inl (ap (λ (o : Option KeptReply). recalled o c.args.command.now) (ap (option_map plain_reply) c.in-None.ensures ∙ sym (plain_found c.args.token.now c.args.self.now.queue)))
