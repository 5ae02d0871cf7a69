use Rattle.std.proofs.Common.{◌∙◌, sym, ap, arith, Ok}
use Rattle.std.proofs.lemmas.Bool.{and_from, false≢true}
use Rattle.tariff.specs.Prices.{Prices}
use Rattle.office_types.specs.declared.command.Command.TheVariants as command
use Rattle.entry_codec.proofs.PriceLemmas.{storage_fails, transition_fails, tariff_read}
use Rattle.entry_codec.proofs.command_readers.plain_tariff.Goals as goal

pub returns-in-Err : goal.returns-in-Err
returns-in-Err c = storage_fails c.args.total c.args.bytes.now c.in-Err.e c.in-Err.ensures.read

pub returns-in-Err-prices_of : goal.returns-in-Err-prices_of
returns-in-Err-prices_of c = transition_fails c.args.total c.args.bytes.now c.prices_of.new.room c.in-Ok.rest.now c.in-Err-prices_of.e c.in-Ok.ensures.read c.in-Err-prices_of.ensures.read

pub returns-in_ok-boxed-in-Some : goal.returns-in_ok-boxed-in-Some
returns-in_ok-boxed-in-Some c =
    tariff_read c.args.total c.args.bytes.now c.prices_of.new.room c.in-Ok.rest.now c.prices_of-2.new.room c.in-Ok-prices_of.rest.now c.in-Ok.ensures.read c.in-Ok-prices_of.ensures.read
    (omega arith) (omega arith)
    ∙ ap (λ (p : Prices). Ok (command.SetTariff p, c.in-Ok-prices_of.rest.now)) (sym c.in-Some.ensures.some.0 ∙ sym c.in_ok-boxed-in-Some.ensures.ok)

pub returns-in-None : goal.returns-in-None
returns-in-None c = absurd (false≢true (sym c.in-None.ensures.none ∙ and_from _ _ c.in-Ok.ensures.prices c.in-Ok-prices_of.ensures.prices))
