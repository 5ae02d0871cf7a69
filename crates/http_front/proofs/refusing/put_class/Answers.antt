use Rattle.std.proofs.Common.{codes, decimal}
use Rattle.json.specs.Print.{quoted}
use Rattle.class_rules.specs.Classes.{class_name}
use Rattle.http_text.proofs.RoomLemmas.{puts_then, puts_same}
use Rattle.http_front.proofs.PrintLemmas.{class_is}
use Rattle.http_front.proofs.refusing.put_class.Goals as goal

pub returns : goal.returns
returns c =
    let error = c.args.error.now in
    let number = c.args.number in
    let class = c.args.class in
    puts_same _ _ (class_is error number class)
    (puts_then (codes "{\"class\":") _ c.put-at.ensures
    (puts_then (quoted (class_name class)) _ (rw (c.as_bytes.ensures.value, c.name.ensures) at c.put_quoted-at.ensures)
    (puts_then (codes ",\"error\":") _ c.put-at-2.ensures
    (puts_then (quoted error) _ (rw c.as_bytes-2.ensures.value at c.put_quoted-at-2.ensures)
    (puts_then (codes ",\"number\":") _ c.put-at-3.ensures
    (puts_then (decimal number) (codes "}") c.put_number-at.ensures c.put.ensures))))))
