use Rattle.std.proofs.Common.{◌≡◌, ◌≤◌, ◌+◌, ◌∙◌, ◌++◌, ◌∷◌, [], Ok, List, take, get_or, IsTrue, arith, sym, subst, ap}
use Rattle.std.proofs.lemmas.List.{take_more}
use Rattle.sqlite.specs.Held.{state}
use Rattle.sqlite.specs.State.{HasCleanDisk}
use Rattle.bill_book.specs.declared.bill.Bill.{Bill}
use Rattle.bill_rows.specs.Puts.{PutsBills}
use Rattle.bill_keeper.specs.Steps.{Works, WorksBy}
use Rattle.bill_keeper.proofs.Inside.{keeps_then, bills_more}
use Rattle.bill_keeper.proofs.statements.put_bills.Goals as goal

pub bills-preserved : goal.bills-preserved
bills-preserved g c =
    let old = state g.S.Store c.args.tx.now.conn.now in
    let mid = state g.S.Store c.bills.tx.conn.now in
    let new = state g.S.Store c.put_bill.new.tx.conn.now in
    let inv = c.bills.invariant in
    let it = c.bill-item.result in
    let more : take (c.bills.bill-index + 1) c.args.bills.now ≡ take c.bills.bill-index c.args.bills.now ++ it ∷ [] =
    let got : it ≡ get_or c.args.bills.now c.bills.bill-index it = c.bill-item.is in
    take_more c.args.bills.now c.bills.bill-index it c.bills-test.true ∙ ap (λ (b : Bill). take c.bills.bill-index c.args.bills.now ++ b ∷ []) (sym got) in
    let before : HasCleanDisk new → HasCleanDisk mid = λ clean. omega (arith, c.in_ok-put_bill.ensures.clean, clean) in (
      c.in_ok-put_bill.ensures.same_reference ∙ inv.0,
      omega (arith, inv.1, c.in_ok-put_bill.ensures.clean),
      λ clean begun.
          let first = inv.2 (before clean) begun in
          let then = c.in_ok-put_bill.ensures.works clean first.stays in
          record {
            kept = keeps_then old mid new first.kept then.kept;
            stays = then.stays;
            done = λ has.
                let a = first.done has in
                let b = then.done a.0 in
                (b.0, subst (λ (l : List Bill). PutsBills c.args.month.now l (old.now.trees 0) (new.now.trees 0)) (sym more) (bills_more c.args.month.now (take c.bills.bill-index c.args.bills.now) it (old.now.trees 0) (mid.now.trees 0) (new.now.trees 0) a.1 b.1));
          },
    )
