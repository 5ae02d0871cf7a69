use Rattle.std.proofs.Common.{◌≡◌, drop}
use Rattle.toml_rows.specs.Walking.{items_of, data_of_all}
use Rattle.office_base.proofs.Results.{joined}
use Rattle.tariff.specs.Reading.{tiers_said}
use Rattle.tariff.proofs.tier.tiers_in_list.Given as goal

abbrev pub invariant-loop-text : goal.invariant-loop-text
invariant-loop-text l =
    tiers_said l.class (items_of (data_of_all l.depth l.texts)) ≡ joined l.tiers.items (tiers_said l.class (items_of (data_of_all l.depth (drop l.text-index l.texts))))
