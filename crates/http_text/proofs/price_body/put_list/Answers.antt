use Rattle.std.proofs.Common.{◌+◌, [], ◌∷◌, true, false, drop, map}
use Rattle.std.proofs.lemmas.List.{drop_all}
use Rattle.serde_json.specs.View.{items_of}
use Rattle.serde_json.specs.Written.{items_text}
use Rattle.http_text.specs.Bodies.{tier_data}
use Rattle.http_text.proofs.Going.{going_on, going_end, item_left}
use Rattle.http_text.proofs.LongTexts.{tier_list_is}
use Rattle.http_text.proofs.RoomLemmas.{puts_then, puts_same}
use Rattle.http_text.proofs.price_body.put_list.Goals as goal

pub loop-tier-preserved : goal.loop-tier-preserved
loop-tier-preserved c =
    let all = c.args.tiers.now in
    let i = c.loop-tier.tier-index in
    going_on _ _ _ (items_text true (items_of (map tier_data (drop (i + 1) all)))) c.loop-tier.invariant (item_left tier_data c.loop-tier.later all i _ c.loop-tier-test.true)
    c.put_tier-at.ensures

pub returns : goal.returns
returns c =
    let all = c.args.tiers.now in
    puts_same _ _ (tier_list_is all) (puts_then (91 ∷ []) (items_text false (items_of (map tier_data all))) c.put-at.ensures
    (going_end (93 ∷ []) _ (rw (drop_all c.loop-tier.tier-index all c.loop-tier-test.false) at c.loop-tier.invariant) c.put.ensures))
