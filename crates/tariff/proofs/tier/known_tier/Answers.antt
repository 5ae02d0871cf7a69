use Rattle.std.proofs.Common.{ap, ◌∙◌, codes}
use Rattle.toml.specs.Data.{get_member}
use Rattle.toml_rows.specs.Rows.{row_of}
use Rattle.tariff.specs.Reading.{tier_by}
use Rattle.tariff.proofs.tier.known_tier.Goals as goal

pub returns : goal.returns
returns c depth ms is =
    let row = row_of c.args.keys.now in
    c.in_ok-tier.ensures depth row (get_member (codes "price") ms) (c.get-price.ensures depth ms is)
    ∙ ap (λ e. tier_by (get_member (codes "price") ms) e)
    (c.in_ok-end.ensures depth row (get_member (codes "upto") ms) (c.get-upto.ensures depth ms is))
