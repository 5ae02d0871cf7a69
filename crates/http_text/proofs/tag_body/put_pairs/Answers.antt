use Rattle.std.proofs.Common.{◌+◌, drop, [], ◌∷◌, true, false}
use Rattle.std.proofs.lemmas.List.{drop_all}
use Rattle.serde_json.specs.Written.{members_text}
use Rattle.office_base.specs.Tags.{tags_of}
use Rattle.http_text.proofs.Going.{going_on, going_end, row, tag_left, tags_in_row}
use Rattle.http_text.proofs.RoomLemmas.{puts_then, puts_same}
use Rattle.http_text.proofs.tag_body.put_pairs.Goals as goal

pub loop-tag-preserved : goal.loop-tag-preserved
loop-tag-preserved c =
    let pairs = c.args.pairs.now in
    let i = c.loop-tag.tag-index in
    going_on _ _ _ (members_text true (row (tags_of (drop (i + 1) pairs)))) c.loop-tag.invariant (tag_left c.loop-tag.later pairs i c.tag-item.result c.loop-tag-test.true)
    (rw c.tag-item.is at c.put_tag-at.ensures)

pub returns : goal.returns
returns c =
    let tags = tags_of c.args.pairs.now in
    puts_same _ _ (tags_in_row tags c.requires) (puts_then (123 ∷ []) (members_text false (row tags)) c.put-at.ensures
    (going_end (125 ∷ []) _ (rw (drop_all c.loop-tag.tag-index c.args.pairs.now c.loop-tag-test.false) at c.loop-tag.invariant) c.put.ensures))
