use Rattle.std.proofs.Common.{◌++◌, codes, decimal}
use Rattle.json.specs.Print.{quoted}
use Rattle.moments.specs.Texts.{moment_text}
use Rattle.http_text.proofs.RoomLemmas.{puts_then, puts_same}
use Rattle.http_text.proofs.Texts.{not_over_is}
use Rattle.http_text.proofs.refusals.put_not_over.Goals as goal

pub returns-clause-puts : goal.returns-clause-puts
returns-clause-puts c =
    let end = c.args.end in
    puts_same _ _ (not_over_is end)
    (puts_then (codes "{\"end\":" ++ quoted (moment_text end)) _ c.put_moment-at.ensures
    (puts_then (codes ",\"error\":\"MonthNotOver\",\"number\":" ++ decimal 84) (codes "}") c.put_whole-at.ensures.puts c.put.ensures))
