use Rattle.std.proofs.Common.{◌++◌, codes, decimal}
use Rattle.http_text.proofs.RoomLemmas.{puts_then, puts_same}
use Rattle.http_text.proofs.Texts.{end_is}
use Rattle.http_text.proofs.refusals.put_end.Goals as goal

pub returns-clause-puts : goal.returns-clause-puts
returns-clause-puts c =
    let n = c.args.moment in
    puts_same _ _ (end_is n)
    (puts_then (codes "{\"error\":\"ClockEnd\",\"moment\":" ++ decimal n) _ c.put_whole-at.ensures.puts
    (puts_then (codes ",\"number\":" ++ decimal 91) (codes "}") c.put_whole-at-2.ensures.puts c.put.ensures))
