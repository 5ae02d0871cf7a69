use Rattle.std.proofs.Common.{◌++◌, codes}
use Rattle.json.specs.Print.{quoted}
use Rattle.moments.specs.Texts.{moment_text}
use Rattle.http_text.specs.Bodies.{versions_text}
use Rattle.http_text.proofs.LongTexts.{stack_is}
use Rattle.http_text.proofs.RoomLemmas.{puts_then, puts_same}
use Rattle.http_text.proofs.stack_body.put_stack.Goals as goal

pub returns : goal.returns
returns c =
    let key = c.args.key.now in
    let stack = c.args.stack.now in
    puts_same _ _ (stack_is key stack)
    (puts_then (codes "{\"changed\":" ++ quoted (moment_text stack.changed)) _ (rw (c.ms.ensures.same, c.changed.ensures) at c.put_moment-at.ensures)
    (puts_then (codes ",\"key\":") _ c.put-at.ensures
    (puts_then (quoted key) _ (rw c.bytes.ensures.same at c.put_quoted-at.ensures)
    (puts_then (codes ",\"versions\":") _ c.put-at-2.ensures
    (puts_then (versions_text stack.versions) (codes "}") (rw c.versions.ensures.same at c.put_versions-at.ensures) c.put.ensures)))))
