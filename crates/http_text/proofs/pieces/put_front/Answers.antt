use Rattle.std.proofs.Common.{◌++◌, codes}
use Rattle.json.specs.Print.{quoted}
use Rattle.moments.specs.Texts.{moment_text}
use Rattle.http_text.specs.Pieces.{first_text, front_text}
use Rattle.http_text.specs.Replies.{head_text}
use Rattle.http_text.proofs.PieceLemmas.{front_small}
use Rattle.http_text.proofs.RoomLemmas.{puts_then}
use Rattle.http_text.proofs.pieces.put_front.Goals as goal

pub returns-clause-puts : goal.returns-clause-puts
returns-clause-puts c =
    let key = c.args.key.now in
    let stack = c.args.stack.now in
    puts_then (head_text 200 c.args.size) (front_text key stack) c.put_head-at.ensures
    (puts_then (codes "{\"changed\":" ++ quoted (moment_text stack.changed)) _ (rw (c.ms.ensures.same, c.changed.ensures) at c.put_moment-at.ensures)
    (puts_then (codes ",\"key\":") _ c.put-at.ensures
    (puts_then (quoted key) _ (rw c.bytes.ensures.same at c.put_quoted-at.ensures)
    (puts_then (codes ",\"versions\":[") (first_text stack.versions) c.put-at-2.ensures (rw c.versions.ensures.same at c.put_first.ensures.puts)))))

pub returns-clause-small : goal.returns-clause-small
returns-clause-small c =
    front_small c.args.key.now c.args.stack.now c.args.size c.ranges.size.fits c.bytes.ensures.at_most (rw c.versions.ensures.same at c.put_first.ensures.small)
