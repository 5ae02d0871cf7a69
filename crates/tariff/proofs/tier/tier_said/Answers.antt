use Rattle.std.proofs.Common.{◌-◌, Some, option_and_then, ap, sym, ◌∙◌}
use Rattle.toml_rows.specs.Walking.{IsInline}
use Rattle.tariff.specs.Reading.{tier_among}
use Rattle.tariff.proofs.tier.tier_said.Goals as goal

pub returns-in_ok-tier-in-Some : goal.returns-in_ok-tier-in-Some
returns-in_ok-tier-in-Some c =
    let found : IsInline c.args.depth c.args.text.now (Some c.in-Some.keys) = rw c.in-Some.is at c.in_ok-keys.ensures in
    let (ms, is, at) = found in
    c.in_ok-tier-in-Some.ensures (c.args.depth - 1) ms is ∙ sym (ap (option_and_then tier_among) at)
