use Rattle.std.proofs.Common.{◌≡◌, ◌-◌, List, arith, Some}
use Rattle.std.proofs.lemmas.List.{length-map}
use Rattle.toml.specs.Data.{Data, as_array}
use Rattle.toml_rows.specs.Reading.{data_at}
use Rattle.toml_rows.specs.Walking.{data_of_all, items_of}
use Rattle.tariff.proofs.ManyTiers.{too_many_of}
use Rattle.tariff.proofs.tier.tiers_of_text.Goals as goal

pub returns-then-len-gt-MOST_TIERS : goal.returns-then-len-gt-MOST_TIERS
returns-then-len-gt-MOST_TIERS c =
    let depth = c.args.depth - 1 in
    let texts = c.in-Some.texts.items in
    let read : List Data = data_of_all depth texts in
    let is : as_array (data_at c.args.depth c.args.text.now) ≡ Some (items_of read) = rw c.in-Some.is at c.in_ok-texts.ensures in
    let m = length-map texts (λ t. data_at depth t.now) in
    too_many_of c.args.class (data_at c.args.depth c.args.text.now) read is (omega (arith, m, c.len.ensures, c.if-len-gt-MOST_TIERS.true))
