use Rattle.std.proofs.Common.{codes, decimal}
use Rattle.http_text.proofs.RoomLemmas.{puts_then, puts_same}
use Rattle.http_front.proofs.PrintLemmas.{damaged_is}
use Rattle.http_front.proofs.printing.put_damaged.Goals as goal

pub returns-clause-puts : goal.returns-clause-puts
returns-clause-puts c =
    let offset = c.args.offset in
    puts_same _ _ (damaged_is offset)
    (puts_then (codes "{\"error\":\"Damaged\",\"number\":") _ c.put-at.ensures
    (puts_then (decimal 112) _ c.put_number-at.ensures
    (puts_then (codes ",\"offset\":") _ c.put-at-2.ensures
    (puts_then (decimal offset) (codes "}") c.put_number-at-2.ensures c.put.ensures))))
