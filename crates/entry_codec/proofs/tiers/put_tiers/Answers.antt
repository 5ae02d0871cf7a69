use Rattle.std.proofs.Common.{◌∙◌, ◌++◌, ap}
use Rattle.entry_codec.proofs.TierLemmas.{tiers_written}
use Rattle.entry_codec.proofs.tiers.put_tiers.Goals as goal

pub returns-clause-bytes : goal.returns-clause-bytes
returns-clause-bytes c =
    c.loop-tier.invariant
    ∙ ap (λ bytes. c.args.out.now.items ++ bytes) (tiers_written c.loop-tier.tier-index c.list-list.result.now c.args.tiers.now c.loop-tier-test.false c.list-list.ensures.same)
