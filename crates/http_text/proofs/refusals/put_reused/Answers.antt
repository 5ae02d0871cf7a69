use Rattle.std.proofs.Common.{◌++◌, codes, decimal}
use Rattle.http_text.proofs.RoomLemmas.{puts_then, puts_same}
use Rattle.http_text.proofs.Small.{reused_small}
use Rattle.http_text.proofs.Texts.{reused_is}
use Rattle.http_text.proofs.refusals.put_reused.Goals as goal

pub returns-clause-puts : goal.returns-clause-puts
returns-clause-puts c =
    let n = c.args.kind in
    puts_same _ _ (reused_is n)
    (puts_then (codes "{\"error\":\"TokenReused\",\"kind\":" ++ decimal n) _ (rw c.from.ensures at c.put_whole-at.ensures.puts)
    (puts_then (codes ",\"number\":" ++ decimal 92) (codes "}") c.put_whole-at-2.ensures.puts c.put.ensures))

pub returns-clause-small : goal.returns-clause-small
returns-clause-small c = reused_small c.args.kind (rw c.from.ensures at c.put_whole-at.ensures.short)
