use Rattle.std.proofs.Common.{codes, decimal}
use Rattle.json.specs.Print.{quoted}
use Rattle.http_text.proofs.RoomLemmas.{puts_then, puts_same}
use Rattle.http_front.specs.Texts.{flaw_name, flaw_number}
use Rattle.http_front.proofs.PrintLemmas.{rule_is}
use Rattle.http_front.proofs.refusing.put_flaw.Goals as goal

pub returns : goal.returns
returns c =
    let flaw = c.args.flaw in
    let rule = c.args.rule in
    puts_same _ _ (rule_is (flaw_name flaw) (flaw_number flaw) rule)
    (puts_then (codes "{\"error\":") _ c.put-at.ensures
    (puts_then (quoted (flaw_name flaw)) _ (rw (c.as_bytes.ensures.value, c.flaw_name.ensures) at c.put_quoted-at.ensures)
    (puts_then (codes ",\"number\":") _ c.put-at-2.ensures
    (puts_then (decimal (flaw_number flaw)) _ (rw c.flaw_number.ensures at c.put_number-at.ensures)
    (puts_then (codes ",\"rule\":") _ c.put-at-3.ensures
    (puts_then (decimal rule) (codes "}") (rw c.from.ensures at c.put_number-at-2.ensures) c.put.ensures))))))
