use Rattle.std.proofs.Common.{◌≡◌, ◌+◌, [], ◌∷◌, ◌++◌, take, get_or, ap}
use Rattle.std.specs.List.{flat_map}
use Rattle.std.proofs.lemmas.List.{take_all}
use Rattle.json.specs.Print.{escape_byte}
use Rattle.http_text.proofs.RoomLemmas.{puts_then, puts_same, escape_more}
use Rattle.http_text.proofs.room.put_quoted.Goals as goal

pub loop-byte-preserved : goal.loop-byte-preserved
loop-byte-preserved c =
    let text = c.args.text.now in
    let i = c.loop-byte.byte-index in
    puts_same _ (flat_map escape_byte (take (i + 1) text)) (escape_more text i c.loop-byte-test.true)
    (puts_then (flat_map escape_byte (take i text)) (escape_byte (get_or text i 0)) c.loop-byte.invariant c.put_byte-at.ensures)

pub returns : goal.returns
returns c =
    let text = c.args.text.now in
    let whole : flat_map escape_byte (take c.loop-byte.byte-index text) ≡ flat_map escape_byte text =
    ap (flat_map escape_byte) (take_all c.loop-byte.byte-index text c.loop-byte-test.false) in
    puts_then (34 ∷ []) (flat_map escape_byte text ++ 34 ∷ []) c.put-at.ensures
    (puts_then (flat_map escape_byte text) (34 ∷ []) (puts_same _ (flat_map escape_byte text) whole c.loop-byte.invariant) c.put.ensures)
