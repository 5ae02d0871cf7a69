use Rattle.std.proofs.Common.{codes}
use Rattle.http_text.specs.Bodies.{tariffs_text}
use Rattle.http_text.proofs.LongTexts.{tariffs_is}
use Rattle.http_text.proofs.RoomLemmas.{puts_then, puts_same}
use Rattle.http_text.proofs.price_body.put_tariffs.Goals as goal

pub returns : goal.returns
returns c =
    let tariffs = c.args.tariffs.now in
    puts_same _ _ (tariffs_is tariffs) (puts_then (codes "{\"tariffs\":") _ c.put-at.ensures (puts_then (tariffs_text tariffs) (codes "}") c.put_each-at.ensures c.put.ensures))
