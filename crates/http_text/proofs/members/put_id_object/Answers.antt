use Rattle.std.proofs.Common.{◌++◌, codes}
use Rattle.json.specs.Print.{quoted}
use Rattle.office_base.specs.Versions.{id_text}
use Rattle.http_text.proofs.RoomLemmas.{puts_then, puts_same}
use Rattle.http_text.proofs.Texts.{text_object_is}
use Rattle.http_text.proofs.members.put_id_object.Goals as goal

pub returns-clause-puts : goal.returns-clause-puts
returns-clause-puts c =
    let name = c.args.name.now in
    puts_same _ _ (text_object_is name (id_text c.args.id))
    (puts_then (codes "{" ++ quoted name) _ c.put_text-at.ensures
    (puts_then (codes ":" ++ quoted (id_text c.args.id)) (codes "}") c.put_id-at.ensures.puts c.put.ensures))
