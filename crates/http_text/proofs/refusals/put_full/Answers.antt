use Rattle.std.proofs.Common.{◌++◌, codes, decimal}
use Rattle.json.specs.Print.{quoted}
use Rattle.http_text.specs.Names.{what_name}
use Rattle.http_text.proofs.RoomLemmas.{puts_then, puts_same}
use Rattle.http_text.proofs.Texts.{full_is}
use Rattle.http_text.proofs.refusals.put_full.Goals as goal

pub returns-clause-puts : goal.returns-clause-puts
returns-clause-puts c =
    let w = c.args.what in
    let n = c.args.limit in
    puts_same _ _ (full_is w n)
    (puts_then (codes "{\"error\":\"Full\",\"limit\":" ++ decimal n) _ c.put_whole-at.ensures.puts
    (puts_then (codes ",\"number\":" ++ decimal 90) _ c.put_whole-at-2.ensures.puts
    (puts_then (codes ",\"what\":" ++ quoted (what_name w)) (codes "}") (rw c.name_of.ensures at c.put_text-at.ensures) c.put.ensures)))
