use Rattle.std.proofs.Common.{◌++◌, codes, decimal}
use Rattle.json.specs.Print.{quoted}
use Rattle.http_text.proofs.RoomLemmas.{puts_then, puts_same}
use Rattle.http_text.proofs.Texts.{error_is}
use Rattle.http_text.proofs.refusals.put_error.Goals as goal

pub returns-clause-puts : goal.returns-clause-puts
returns-clause-puts c =
    let name = c.args.name.now in
    let n = c.args.number in
    puts_same _ _ (error_is name n)
    (puts_then (codes "{\"error\":" ++ quoted name) _ c.put_text-at.ensures
    (puts_then (codes ",\"number\":" ++ decimal n) (codes "}") c.put_whole-at.ensures.puts c.put.ensures))
