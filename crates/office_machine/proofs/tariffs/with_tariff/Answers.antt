use Rattle.std.proofs.Common.{ap}
use Rattle.tariff.specs.Prices.{Prices}
use Rattle.office_machine.proofs.ByMonths.{put_together}
use Rattle.office_machine.proofs.tariffs.with_tariff.Goals as goal

pub returns-clause-exact : goal.returns-clause-exact
returns-clause-exact c =
    put_together c.args.tariff.now c.tariff.inside.from c.args.others.now c.new-all.result.items c.push_earlier.new.all.items c.push.new.all.items c.push_later.new.all.items
    (ap (λ (p : Prices). p.from) c.tariff.view_is) c.new-all.ensures.items c.in_ok-push_earlier.ensures.pushed c.in_ok-push.ensures.pushed c.in_ok-push_later.ensures.pushed
