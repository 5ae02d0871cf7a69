use Rattle.std.proofs.Common.{◌≡◌, ◌∙◌, ℕ, true, ◌==◌, List, map, length, sym, ap, ap₂, subst, arith}
use Rattle.std.proofs.lemmas.Bool.{and_parts, eqb-true}
use Rattle.std.proofs.lemmas.List.{length-map}
use Rattle.std.specs.List.{list_all}
use Rattle.tariff.specs.declared.tiers.Tier.{Tier}
use Rattle.tariff.specs.Prices.{is_price, one_tier}
use Rattle.office_types.specs.declared.command.Command.TheVariants as command
use Rattle.entry_codec.specs.Kinds.{is_plain, has_one, first_price}
use Rattle.entry_codec.specs.Spelling.{CommandFits}
use Rattle.entry_codec.proofs.PriceLemmas.{tariff_put, tariff_fits}
use Rattle.entry_codec.proofs.TierLemmas.{ones_are}
use Rattle.entry_codec.proofs.command_writers.put_plain.Goals as goal

pub returns-clause-bytes : goal.returns-clause-bytes
returns-clause-bytes c =
    let from = c.tariff.inside.from in
    let s : List (List Tier) = c.tariff.inside.storage in
    let t = c.tariff.inside.transition in
    let plain = and_parts (from == 0) (list_all has_one s) (ap is_plain c.tariff.view_is ∙ c.requires) in
    let ones = ones_are s c.in_ok-put_first_prices.ensures.are plain.1 in
    let is : c.args.tariff.now ≡ record { from = 0; storage = map one_tier (map first_price s); transition = t } =
    sym c.tariff.view_is ∙ ap₂ (λ (m : ℕ) (ss : List (List Tier)). record { from = m; storage = ss; transition = t }) (eqb-true from 0 plain.0) (sym ones.0) in
    let six : length (map first_price s) ≡ 6 = omega (arith, length-map s first_price) in
    tariff_put c.args.tariff.now (map first_price s) t c.args.out.now.items c.put_first_prices.new.out.items c.put_prices.new.out.items
    is six (omega arith) c.in_ok-put_first_prices.ensures.bytes c.in_ok-put_prices.ensures

pub returns-clause-fits : goal.returns-clause-fits
returns-clause-fits c =
    let from = c.tariff.inside.from in
    let s : List (List Tier) = c.tariff.inside.storage in
    let t = c.tariff.inside.transition in
    let plain = and_parts (from == 0) (list_all has_one s) (ap is_plain c.tariff.view_is ∙ c.requires) in
    let ones = ones_are s c.in_ok-put_first_prices.ensures.are plain.1 in
    let is : c.args.tariff.now ≡ record { from = 0; storage = map one_tier (map first_price s); transition = t } =
    sym c.tariff.view_is ∙ ap₂ (λ (m : ℕ) (ss : List (List Tier)). record { from = m; storage = ss; transition = t }) (eqb-true from 0 plain.0) (sym ones.0) in
    let six : length (map first_price s) ≡ 6 = omega (arith, length-map s first_price) in
    let all : list_all is_price t ≡ true = c.tariff.invariant in
    subst (λ tariff. CommandFits (command.SetTariff tariff)) (sym is) (tariff_fits (map first_price s) t six (omega arith) ones.1 all)
