use Rattle.std.proofs.Common.{◌++◌, codes, decimal}
use Rattle.json.specs.Print.{quoted}
use Rattle.http_text.specs.Names.{month_text}
use Rattle.http_text.proofs.RoomLemmas.{puts_then, puts_same}
use Rattle.http_text.proofs.Texts.{earlier_is}
use Rattle.http_text.proofs.refusals.put_earlier.Goals as goal

pub returns-clause-puts : goal.returns-clause-puts
returns-clause-puts c =
    let m = c.args.month in
    puts_same _ _ (earlier_is m)
    (puts_then (codes "{\"error\":\"EarlierMonthOpen\",\"month\":" ++ quoted (month_text m)) _ c.put_month-at.ensures
    (puts_then (codes ",\"number\":" ++ decimal 87) (codes "}") c.put_whole-at.ensures.puts c.put.ensures))
