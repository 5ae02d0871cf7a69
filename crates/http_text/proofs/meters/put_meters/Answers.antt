use Rattle.std.proofs.Common.{◌++◌, codes, decimal}
use Rattle.json.specs.Print.{quoted}
use Rattle.serde_json.specs.Written.{comma_if}
use Rattle.class_rules.specs.Classes.{class_name}
use Rattle.http_text.proofs.RoomLemmas.{puts_then, puts_same}
use Rattle.http_text.proofs.Texts.{meters_is}
use Rattle.http_text.proofs.Small.{meters_small}
use Rattle.http_text.proofs.meters.put_meters.Goals as goal

pub returns-clause-puts : goal.returns-clause-puts
returns-clause-puts c =
    let m = c.args.meters.now in
    puts_then (comma_if c.args.later) _ c.put_comma-at.ensures
    (puts_same _ _ (meters_is m)
    (puts_then (codes "{\"byte_ms\":") _ c.put-at.ensures
    (puts_then (quoted (decimal m.byte_ms)) _ c.put_digits-at.ensures.puts
    (puts_then (codes ",\"class\":" ++ quoted (class_name m.class)) _ (rw c.name.ensures at c.put_text-at.ensures)
    (puts_then (codes ",\"early_byte_ms\":") _ c.put-at-2.ensures
    (puts_then (quoted (decimal m.early_byte_ms)) _ c.put_digits-at-2.ensures.puts
    (puts_then (codes ",\"moves\":") _ c.put-at-3.ensures
    (puts_then (decimal m.moves) (codes "}") (rw c.from.ensures at c.put_wide-at.ensures.puts) c.put.ensures))))))))

pub returns-clause-small : goal.returns-clause-small
returns-clause-small c =
    meters_small c.args.later c.args.meters.now c.put_digits-at.ensures.short c.put_digits-at-2.ensures.short (rw c.from.ensures at c.put_wide-at.ensures.short)
