use Rattle.std.proofs.Common.{◌+◌, [], ◌∷◌, true, false, drop, map}
use Rattle.std.proofs.lemmas.List.{drop_all}
use Rattle.serde_json.specs.View.{items_of}
use Rattle.serde_json.specs.Written.{items_text}
use Rattle.http_text.specs.Bodies.{tariff_data}
use Rattle.http_text.proofs.Going.{going_on, going_end, item_left}
use Rattle.http_text.proofs.LongTexts.{tariff_list_is}
use Rattle.http_text.proofs.RoomLemmas.{puts_then, puts_same}
use Rattle.http_text.proofs.price_body.put_each.Goals as goal

pub loop-tariff-preserved : goal.loop-tariff-preserved
loop-tariff-preserved c =
    let all = c.args.tariffs.now in
    let i = c.loop-tariff.tariff-index in
    going_on _ _ _ (items_text true (items_of (map tariff_data (drop (i + 1) all)))) c.loop-tariff.invariant (item_left tariff_data c.loop-tariff.later all i c.tariff-item.result c.loop-tariff-test.true)
    (rw c.tariff-item.is at c.put_tariff-at.ensures)

pub returns : goal.returns
returns c =
    let all = c.args.tariffs.now in
    puts_same _ _ (tariff_list_is all) (puts_then (91 ∷ []) (items_text false (items_of (map tariff_data all))) c.put-at.ensures
    (going_end (93 ∷ []) _ (rw (drop_all c.loop-tariff.tariff-index all c.loop-tariff-test.false) at c.loop-tariff.invariant) c.put.ensures))
