use Rattle.std.proofs.Common.{◌≡◌, ◌∙◌, ap, subst, Result, Ok, Err}
use Rattle.std.specs.Prelude.{IsErrOf}
use Rattle.std.specs.Result.{IsErrAnd}
use Rattle.http_wire.specs.declared.message.MessageStop.{MessageStop}
use Rattle.http_wire.specs.declared.message.Next.{Next}
use Rattle.http_wire.specs.declared.message.MessageStop.TheVariants.{ReadFault, Spent}
use Rattle.http_wire.specs.Answers.{Gave, Tells}
use Rattle.http_wire.specs.Messages.{IsUnsettled}
use Rattle.http_wire.proofs.MessageLemmas.{request_part, refused_part, end_part, spent_part, failed_part, given_part, uses_part, fits_part, told_more, open_head, head_settled, unsettled_front}
use Rattle.http_wire.proofs.message.read_message.Given as given
use Rattle.http_wire.proofs.message.read_message.Goals as goal
use Rattle.http_wire.proofs.message.read_message.Goals.{After-next_of}

err_of : (result : Result Next MessageStop) (stop other : MessageStop) → IsErrAnd result (λ (e : MessageStop). e ≡ stop) → IsErrOf result other → stop ≡ other
err_of (Ok x) stop other same is = absurd same
err_of (Err e) stop other same is = cc

told : (g : given.Over) (c : goal.After-next_of g)
    → Gave c.args.buffer.now c.next_of.new.buffer (g.R.Source.left c.args.source.now) (g.R.Source.left c.next_of.new.source)
    (Tells c.next_of.new.buffer (g.R.Source.left c.next_of.new.source) c.next_of.result)
told g c = told_more _ _ _ _ _ _ c.next_of.result c.in_ok-heading.ensures.took c.next_of.ensures.tells

pub returns-clause-request : goal.returns-clause-request
returns-clause-request g c = request_part _ _ _ _ _ (told g (goal.at.returns-clause-request g c).After-next_of)

pub returns-clause-refused : goal.returns-clause-refused
returns-clause-refused g c = refused_part _ _ _ _ _ (told g (goal.at.returns-clause-refused g c).After-next_of)

pub returns-clause-end : goal.returns-clause-end
returns-clause-end g c = end_part _ _ _ _ _ (told g (goal.at.returns-clause-end g c).After-next_of)

pub returns-clause-spent : goal.returns-clause-spent
returns-clause-spent g c = spent_part _ _ _ _ _ (told g (goal.at.returns-clause-spent g c).After-next_of)

pub returns-clause-failed : goal.returns-clause-failed
returns-clause-failed g c = failed_part _ _ _ _ _ (told g (goal.at.returns-clause-failed g c).After-next_of)

pub returns-clause-given : goal.returns-clause-given
returns-clause-given g c = given_part _ _ _ _ _ (told g (goal.at.returns-clause-given g c).After-next_of)

pub returns-clause-uses : goal.returns-clause-uses
returns-clause-uses g c = uses_part _ _ _ _ _ (told g (goal.at.returns-clause-uses g c).After-next_of)

pub returns-clause-fits : goal.returns-clause-fits
returns-clause-fits g c = fits_part _ _ _ _ _ (told g (goal.at.returns-clause-fits g c).After-next_of)

pub returns-clause-settled : goal.returns-clause-settled
returns-clause-settled g c settled =
    let took = c.in_ok-heading.ensures.took in
    c.next_of.ensures.settled (λ none. settled (unsettled_front c.args.buffer.now.bytes took.given (subst IsUnsettled took.held none)))
    ∙ head_settled c.args.buffer.now (c.read_head.new.source ≡ c.args.source.now) c.in_ok-heading.ensures.settled c.in_ok-heading.ensures.full settled

pub returns-in_err-heading-clause-spent : goal.returns-in_err-heading-clause-spent
returns-in_err-heading-clause-spent g c is =
    let left = g.R.Source.left in
    let stop = err_of c.from_residual.result c.in_err-heading.field-0.0 Spent c.from_residual.ensures.1 is in
    let spent = c.in_err-heading.ensures.spent (ap Err stop) in
    (spent.0, open_head c.args.buffer.now c.read_head.new.buffer (left c.args.source.now) (left c.read_head.new.source) c.in_err-heading.ensures.took spent.1 spent.2)

pub returns-in_err-heading-clause-failed : goal.returns-in_err-heading-clause-failed
returns-in_err-heading-clause-failed g c is =
    let left = g.R.Source.left in
    let stop = err_of c.from_residual.result c.in_err-heading.field-0.0 ReadFault c.from_residual.ensures.1 is in
    let failed = c.in_err-heading.ensures.failed (ap Err stop) in
    open_head c.args.buffer.now c.read_head.new.buffer (left c.args.source.now) (left c.read_head.new.source) c.in_err-heading.ensures.took failed.0 failed.1

pub returns-in_err-heading-clause-settled : goal.returns-in_err-heading-clause-settled
returns-in_err-heading-clause-settled g c settled =
    head_settled c.args.buffer.now (c.read_head.new.source ≡ c.args.source.now) c.in_err-heading.ensures.settled c.in_err-heading.ensures.full settled
