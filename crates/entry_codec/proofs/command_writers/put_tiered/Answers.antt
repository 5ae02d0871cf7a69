use Rattle.std.proofs.Common.{◌≡◌, ◌∙◌, true, false, List, sym, ap, subst, arith}
use Rattle.std.specs.List.{list_all}
use Rattle.tariff.specs.declared.tiers.Tier.{Tier}
use Rattle.tariff.specs.Prices.{is_price}
use Rattle.office_types.specs.declared.command.Command.TheVariants as command
use Rattle.entry_codec.specs.Kinds.{is_plain}
use Rattle.entry_codec.specs.Spelling.{CommandFits}
use Rattle.entry_codec.proofs.TierSpelling.{tiered_put, tiered_fits}
use Rattle.entry_codec.proofs.command_writers.put_tiered.Goals as goal

pub returns-clause-bytes : goal.returns-clause-bytes
returns-clause-bytes c =
    let from = c.tariff.inside.from in
    let s : List (List Tier) = c.tariff.inside.storage in
    let t = c.tariff.inside.transition in
    let other : is_plain (record { from = from; storage = s; transition = t }) ≡ false = ap is_plain c.tariff.view_is ∙ c.requires in
    let all : list_all is_price t ≡ true = c.tariff.invariant in
    tiered_put from s t c.in_ok-put_from.ensures.among (omega arith) (omega arith) c.in_ok-put_storage.ensures.are all other
    c.args.tariff.now c.args.out.now.items c.put_from.new.out.items c.put_storage.new.out.items c.put_prices.new.out.items
    (sym c.tariff.view_is) c.in_ok-put_from.ensures.bytes c.in_ok-put_storage.ensures.bytes c.in_ok-put_prices.ensures

pub returns-clause-fits : goal.returns-clause-fits
returns-clause-fits c =
    let from = c.tariff.inside.from in
    let s : List (List Tier) = c.tariff.inside.storage in
    let t = c.tariff.inside.transition in
    let other : is_plain (record { from = from; storage = s; transition = t }) ≡ false = ap is_plain c.tariff.view_is ∙ c.requires in
    let all : list_all is_price t ≡ true = c.tariff.invariant in
    subst (λ tariff. CommandFits (command.SetTariff tariff)) c.tariff.view_is
    (tiered_fits from s t c.in_ok-put_from.ensures.among (omega arith) (omega arith) c.in_ok-put_storage.ensures.are all other)
