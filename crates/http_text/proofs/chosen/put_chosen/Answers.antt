use Rattle.std.proofs.Common.{◌++◌, codes}
use Rattle.json.specs.Print.{quoted}
use Rattle.moments.specs.Texts.{moment_text}
use Rattle.http_text.proofs.RoomLemmas.{puts_then, puts_same}
use Rattle.http_text.proofs.Texts.{chosen_is}
use Rattle.http_text.specs.Names.{action_name}
use Rattle.http_text.specs.Parts.{class_part, marker_part, target_part}
use Rattle.http_text.proofs.chosen.put_chosen.Goals as goal

pub returns-clause-puts : goal.returns-clause-puts
returns-clause-puts c =
    let kind = c.args.kind in
    let key = c.args.key.now in
    let rule = c.args.rule.now in
    let since = c.args.since in
    puts_same _ _ (chosen_is kind key c.args.target rule since c.args.marker)
    (puts_then (codes "{\"action\":" ++ quoted (action_name kind)) _ (rw c.action_name.ensures at c.put_text-at.ensures)
    (puts_then (class_part kind) _ c.put_class-at.ensures
    (puts_then (codes ",\"key\":") _ c.put-at.ensures
    (puts_then (quoted key) _ (rw c.bytes.ensures.same at c.put_quoted-at.ensures)
    (puts_then (marker_part c.args.marker) _ c.put_marker-at.ensures.puts
    (puts_then (codes ",\"moment\":" ++ quoted (moment_text since)) _ (rw c.ms.ensures.same at c.put_moment-at.ensures)
    (puts_then (codes ",\"rule\":" ++ quoted rule) _ (rw c.as_str.ensures.same at c.put_text-at-2.ensures)
    (puts_then (target_part c.args.target) (codes "}") c.put_target-at.ensures.puts c.put.ensures))))))))
