use Rattle.std.proofs.Common.{◌≡◌, ◌+◌, ◌++◌, ◌∷◌, [], map, take, get_or, List, ap, sym, ◌∙◌, rules}
use Rattle.std.proofs.lemmas.List.{take_more}
use Rattle.std.proofs.lemmas.Grind.{common_steps}
use Rattle.sqlite_rules.proofs.ListLemmas.{all_more}
use Rattle.sqlite.specs.Order.{Row}
use Rattle.bill_rows.specs.Answers.{answer_bill, NamesBucket}
use Rattle.bill_keeper.specs.Reading.{IsWritten}
use Rattle.bill_keeper.proofs.Spelled.{map_more}
use Rattle.bill_keeper.proofs.row_bills.all_bills.Goals as goal

pub loop-row-preserved : goal.loop-row-preserved
loop-row-preserved c =
    let it = c.row-item.result in
    let rows = c.args.rows.now in
    let at = c.loop-row.row-index in (
      c.in_ok-push_bill.ensures ∙ map_more answer_bill rows at it c.in_ok-bill.bill c.loop-row.bills.items c.loop-row-test.true c.row-item.is c.in_ok-bill.ensures.bill_is c.loop-row.invariant.0,
      all_more NamesBucket rows at it c.loop-row-test.true c.row-item.is c.loop-row.invariant.1 c.in_ok-bill.ensures.named,
      all_more IsWritten rows at it c.loop-row-test.true c.row-item.is c.loop-row.invariant.2 c.in_ok-bill.ensures.written,
    )
