use Rattle.std.proofs.Common.{◌++◌, codes, decimal}
use Rattle.json.specs.Print.{quoted}
use Rattle.http_text.specs.Parts.{target_part}
use Rattle.http_text.proofs.RoomLemmas.{puts_then, puts_same}
use Rattle.http_text.proofs.Texts.{due_is}
use Rattle.http_text.proofs.refusals.put_due.Goals as goal

pub returns-clause-puts : goal.returns-clause-puts
returns-clause-puts c =
    let b = c.args.bucket.now in
    let key = c.args.key.now in
    puts_same _ _ (due_is b key c.args.target)
    (puts_then (codes "{\"bucket\":" ++ quoted b) _ (rw c.text.ensures.same at c.put_text-at.ensures)
    (puts_then (codes ",\"error\":\"DueActions\",\"key\":") _ c.put-at.ensures
    (puts_then (quoted key) _ (rw c.bytes.ensures.same at c.put_quoted-at.ensures)
    (puts_then (codes ",\"number\":" ++ decimal 85) _ c.put_whole-at.ensures.puts
    (puts_then (target_part c.args.target) (codes "}") c.put_target-at.ensures.puts c.put.ensures)))))
