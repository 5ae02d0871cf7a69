use Rattle.std.proofs.Common.{◌≡◌, ap, refl, Err}
use Rattle.office_commands.specs.Forecasting.{proposal}
use Rattle.office_commands.proofs.Foretold.{begun, failed}
use Rattle.office_commands.proofs.Refusing.{may_fail}
use Rattle.office_commands.proofs.forecasting.propose.Goals as goal

pub refuse_proposal-status-requires : goal.refuse_proposal-status-requires
refuse_proposal-status-requires g c =
    let p = c.requires.stands in
    may_fail (proposal c.args.asked.now c.args.rules c.args.t) p.0 c.in-Err.fault (λ refusal is. c.in-Err.ensures.refused p.0 refusal p.1 (ap Err is))

pub returns-in-Ok-clause-tells : goal.returns-in-Ok-clause-tells
returns-in-Ok-clause-tells g c p stands =
    begun g.W.Replies (proposal c.args.asked.now c.args.rules c.args.t) p c.args.out.now c.say_forecast-status.new.out c.say_forecast-status.result c.in-Ok.forecast
    (λ before. absurd (let no = (c.in-Ok.ensures.past_day c.args.t).1 (refl, before) in cc))
    (c.in-Ok.ensures.begun p stands) c.say_forecast-status.ensures.tells

pub returns-in-Err-clause-tells : goal.returns-in-Err-clause-tells
returns-in-Err-clause-tells g c p stands =
    failed g.W.Replies (proposal c.args.asked.now c.args.rules c.args.t) p c.args.out.now c.refuse_proposal-status.new.out c.refuse_proposal-status.result c.in-Err.fault
    (λ day is. ((c.in-Err.ensures.past_day day).0 (ap Err is)).1) (λ refusal is. c.in-Err.ensures.refused p refusal stands (ap Err is)) c.refuse_proposal-status.ensures.tells
