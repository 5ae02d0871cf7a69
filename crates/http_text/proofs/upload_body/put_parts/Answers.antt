use Rattle.std.proofs.Common.{◌∙◌, List, ℕ, [], ◌∷◌, true, false, map, ap}
use Rattle.serde_json.specs.View.{items_of}
use Rattle.serde_json.specs.Written.{items_text}
use Rattle.uploads.specs.declared.part.Part.{Part}
use Rattle.http_text.specs.Bodies.{part_data}
use Rattle.http_text.proofs.Going.{going_on, going_end, part_left}
use Rattle.http_text.proofs.LongTexts.{parts_is}
use Rattle.http_text.proofs.RoomLemmas.{puts_then, puts_same}
use Rattle.http_text.proofs.upload_body.put_parts.Goals as goal

pub loop-number-preserved : goal.loop-number-preserved
loop-number-preserved c =
    let l = c.loop-number in
    let left = c.next.new.self in
    going_on _ _ _ (items_text true (items_of (map part_data left))) l.invariant
    (ap (λ (parts : List (ℕ × Part)). items_text l.later (items_of (map part_data parts))) c.in-Some.ensures.steps
    ∙ part_left l.later (c.in-Some.number.now, c.in-Some.part.now) left) c.put_part-at.ensures

pub returns : goal.returns
returns c =
    let l = c.loop-number in
    let parts = c.args.parts.now.entries in
    let going = rw c.in-None.ensures.steps.0 at l.invariant in
    puts_same _ _ (parts_is parts) (puts_then (91 ∷ []) (items_text false (items_of (map part_data parts))) c.put-at.ensures (going_end (93 ∷ []) _ going c.put.ensures))
