use Rattle.std.proofs.Common.{◌+◌, [], ◌∷◌, true, false, drop, map, arith}
use Rattle.std.proofs.lemmas.List.{drop_all}
use Rattle.serde_json.specs.View.{items_of}
use Rattle.serde_json.specs.Written.{items_text}
use Rattle.http_text.specs.Bodies.{meters_data}
use Rattle.http_text.proofs.Going.{going_on, going_end, item_left}
use Rattle.http_text.proofs.Small.{item_more, classes_small}
use Rattle.http_text.proofs.Texts.{classes_is}
use Rattle.http_text.proofs.RoomLemmas.{puts_then, puts_same}
use Rattle.http_text.proofs.meters.put_classes.Goals as goal

pub loop-meters-preserved : goal.loop-meters-preserved
loop-meters-preserved c =
    let all = c.args.classes.now in
    let i = c.loop-meters.meters-index in
    let more = items_text true (items_of (map meters_data (drop (i + 1) all))) in
    let left = item_left meters_data c.loop-meters.later all i _ c.loop-meters-test.true in (
      going_on _ _ _ more c.loop-meters.invariant.0 left c.put_meters-at.ensures.puts,
      omega (arith, c.loop-meters-test.true),
      item_more _ i _ _ more c.loop-meters.invariant.2 left c.put_meters-at.ensures.small,
    )

pub returns-clause-puts : goal.returns-clause-puts
returns-clause-puts c =
    let all = c.args.classes.now in
    puts_same _ _ (classes_is all) (puts_then (91 ∷ []) (items_text false (items_of (map meters_data all))) c.put-at.ensures
    (going_end (93 ∷ []) _ (rw (drop_all c.loop-meters.meters-index all c.loop-meters-test.false) at c.loop-meters.invariant.0) c.put.ensures))

pub returns-clause-small : goal.returns-clause-small
returns-clause-small c six =
    let all = c.args.classes.now in
    classes_small all six c.loop-meters.meters-index c.loop-meters.invariant.1
    (rw (drop_all c.loop-meters.meters-index all c.loop-meters-test.false) at c.loop-meters.invariant.2)
