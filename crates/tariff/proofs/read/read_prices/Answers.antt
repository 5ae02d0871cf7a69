use Rattle.std.proofs.Common.{◌≡◌, ◌∙◌, sym, ap, rules, arith, length, drop, take, ◌+◌, Ok, Err}
use Rattle.std.proofs.lemmas.List.{length-set, take_more_set, take_all}
use Rattle.tariff.specs.Reading.{classes_of, each_of, price_in}
use Rattle.office_base.proofs.Results.{joined, joined-nil}
use Rattle.tariff.proofs.PriceLemmas.{passed_on, each_on, each_refused, each_read, prices_set}
use Rattle.tariff.proofs.read.read_prices.Goals as goal

pub loop-place-init : goal.loop-place-init
loop-place-init c =
    let is = c.classes-class-items.ensures in (
      is,
      rw is c.requires,
      λ ranged. ranged,
      λ depth ms table_is. ap (each_of (price_in c.args.table ms)) (sym is) ∙ sym (joined-nil (each_of (price_in c.args.table ms) c.classes-class-items.result.now)),
    )

pub returns-in_err-prices-clause-value : goal.returns-in_err-prices-clause-value
returns-in_err-prices-clause-value c depth ms table_is =
    let fault = c.in_err-prices.field-0.0 in
    let is : c.from_residual.result ≡ Err fault = search rules in
    rw is (passed_on (λ price. price) (λ prices. prices) fault _ (each_of (price_in c.args.table ms) (classes_of c.args.table))
    (λ flaw refused. c.loop-place.invariant.3 depth ms table_is
    ∙ each_refused (price_in c.args.table ms) c.classes-class-items.result.now c.loop-place.place _
    (take c.loop-place.place c.loop-place.prices) flaw c.loop-place-test.true refused)
    (c.in_err-prices.ensures.value depth ms table_is))

pub loop-place-preserved : goal.loop-place-preserved
loop-place-preserved c =
    let inside = c.loop-place-test.true in
    let held = c.loop-place.invariant in
    let price = c.in_ok-prices.field-0 in (
      held.0,
      length-set c.loop-place.prices c.loop-place.place price ∙ held.1,
      λ ranged. prices_set c.loop-place.prices c.loop-place.place price (held.2 ranged) c.in_ok-prices.ensures.range,
      λ depth ms table_is. held.3 depth ms table_is
          ∙ each_on (price_in c.args.table ms) c.classes-class-items.result.now c.loop-place.place _
          (take c.loop-place.place c.loop-place.prices) price inside (c.in_ok-prices.ensures.value depth ms table_is)
          ∙ ap (λ xs. joined xs (each_of (price_in c.args.table ms) (drop (c.loop-place.place + 1) c.classes-class-items.result.now)))
          (sym (take_more_set c.loop-place.prices c.loop-place.place price (omega (arith, inside, held.1)))),
    )

pub returns-clause-value : goal.returns-clause-value
returns-clause-value c depth ms table_is =
    let held = c.loop-place.invariant in
    let end : c.loop-place.place ≡ length c.classes-class-items.result.now = omega arith in
    held.3 depth ms table_is
    ∙ ap (λ i. joined (take c.loop-place.place c.loop-place.prices) (each_of (price_in c.args.table ms) (drop i c.classes-class-items.result.now))) end
    ∙ each_read (price_in c.args.table ms) c.classes-class-items.result.now (take c.loop-place.place c.loop-place.prices)
    ∙ ap Ok (take_all c.loop-place.place c.loop-place.prices (omega (arith, end, held.1)))
