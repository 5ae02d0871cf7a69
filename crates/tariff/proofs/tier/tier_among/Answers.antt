use Rattle.std.proofs.Common.{refl, None, cond, is_none, codes, ap, ◌∙◌}
use Rattle.toml.specs.Data.{get_member}
use Rattle.tariff.specs.Reading.{is_tier_name, tier_by, end_said}
use Rattle.tariff.proofs.RowReading.{first_same, agree_all}
use Rattle.tariff.proofs.tier.tier_among.Goals as goal

pub returns-in-Some : goal.returns-in-Some
returns-in-Some c depth ms is =
    let other = c.in-Some.ensures depth ms is ∙ first_same _ is_tier_name ms (agree_all _ is_tier_name (λ k d. refl) ms) in
    rw (← other)

pub returns-in_ok-tier-in-None : goal.returns-in_ok-tier-in-None
returns-in_ok-tier-in-None c depth ms is =
    let none = c.in-None.ensures depth ms is ∙ first_same _ is_tier_name ms (agree_all _ is_tier_name (λ k d. refl) ms) in
    c.in_ok-tier-in-None.ensures depth ms is
    ∙ ap (λ o. cond (is_none o) (tier_by (get_member (codes "price") ms) (end_said (get_member (codes "upto") ms))) None) none
