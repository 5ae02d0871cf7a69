use Rattle.std.proofs.Common.{◌++◌, codes}
use Rattle.json.specs.Print.{quoted}
use Rattle.moments.specs.Texts.{moment_text}
use Rattle.office_base.specs.Versions.{id_text}
use Rattle.http_text.proofs.RoomLemmas.{puts_then, puts_same}
use Rattle.http_text.proofs.Texts.{stored_is}
use Rattle.http_text.proofs.body.put_stored.Goals as goal

pub returns-clause-puts : goal.returns-clause-puts
returns-clause-puts c =
    let m = c.args.moment in
    let v = c.args.version in
    puts_same _ _ (stored_is m v)
    (puts_then (codes "{\"moment\":" ++ quoted (moment_text m)) _ (rw c.ms.ensures.same at c.put_moment-at.ensures)
    (puts_then (codes ",\"version\":" ++ quoted (id_text v)) (codes "}") c.put_id-at.ensures.puts c.put.ensures))
