use Rattle.std.proofs.Common.{length, arith, ◌∙◌}
use Rattle.std.specs.Prelude.{nat_le}
use Rattle.std.proofs.lemmas.Bool.{and_parts}
use Rattle.tariff.specs.Prices.{have_ends, are_priced, rise_from}
use Rattle.tariff.specs.Charges.{gib_month}
use Rattle.tariff.proofs.TierLemmas.{parts_are_all}
use Rattle.tariff.proofs.charges.the_tiers_share_a_quantity.Goals as goal

pub returns-clause-shared : goal.returns-clause-shared
returns-clause-shared c = λ quantity tiers month are.
    let ends = and_parts (have_ends tiers) (are_priced tiers) are in
    let rise = and_parts (nat_le (length tiers) 8) (rise_from 0 tiers) ends.0 in
    parts_are_all (gib_month month) quantity 0 tiers rise.1 ∙ omega arith
