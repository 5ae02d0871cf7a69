use Rattle.std.proofs.Common.{◌++◌, codes, decimal}
use Rattle.json.specs.Print.{quoted}
use Rattle.http_text.proofs.RoomLemmas.{puts_then, puts_same}
use Rattle.http_text.proofs.Texts.{number_object_is}
use Rattle.http_text.proofs.members.put_number_object.Goals as goal

pub returns-clause-puts : goal.returns-clause-puts
returns-clause-puts c =
    let name = c.args.name.now in
    puts_same _ _ (number_object_is name c.args.number)
    (puts_then (codes "{" ++ quoted name) _ c.put_text-at.ensures
    (puts_then (codes ":" ++ decimal c.args.number) (codes "}") c.put_whole-at.ensures.puts c.put.ensures))
