use Rattle.std.proofs.Common.{◌++◌, codes}
use Rattle.json.specs.Print.{quoted}
use Rattle.moments.specs.Texts.{moment_text}
use Rattle.office_base.specs.Versions.{id_text}
use Rattle.http_text.specs.Parts.{since_part}
use Rattle.http_text.proofs.LongTexts.{marker_is}
use Rattle.http_text.proofs.RoomLemmas.{puts_then, puts_same}
use Rattle.http_text.proofs.stack_body.put_delete_marker.Goals as goal

pub returns-clause-puts : goal.returns-clause-puts
returns-clause-puts c =
    let v = c.args.version.now in
    puts_same _ _ (marker_is c.args.since v c.requires)
    (puts_then (codes "{\"created\":" ++ quoted (moment_text v.created)) _ (rw c.ms.ensures.same at c.put_moment-at.ensures)
    (puts_then (codes ",\"kind\":\"marker\"") _ c.put-at.ensures
    (puts_then (since_part c.args.since) _ c.put_since-at.ensures
    (puts_then (codes ",\"version\":" ++ quoted (id_text v.id)) (codes "}") c.put_id-at.ensures.puts c.put.ensures))))
