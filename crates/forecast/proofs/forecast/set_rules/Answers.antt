use Rattle.forecast.proofs.Steps.{set_in}
use Rattle.forecast.proofs.forecast.set_rules.Goals as goal

pub returns-in-Ok-clause-set : goal.returns-in-Ok-clause-set
returns-in-Ok-clause-set c = λ p stands.
    set_in (record { bucket = c.args.bucket.now; rules = c.args.rules; from = c.args.t; until = c.args.t }) p c.in_ok-bucket.bucket c.in_ok-bucket.ensures c.apply-applied.new.self c.apply-applied.result c.in-Ok.reply
    c.in-Ok.is (c.apply-applied.ensures.step p stands)
