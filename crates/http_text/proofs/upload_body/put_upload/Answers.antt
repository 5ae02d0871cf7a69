use Rattle.std.proofs.Common.{◌++◌, codes, decimal}
use Rattle.json.specs.Print.{quoted}
use Rattle.moments.specs.Texts.{moment_text}
use Rattle.class_rules.specs.Classes.{class_name}
use Rattle.http_text.specs.Bodies.{parts_text, tags_text}
use Rattle.http_text.proofs.LongTexts.{upload_is}
use Rattle.http_text.proofs.RoomLemmas.{puts_then, puts_same}
use Rattle.http_text.proofs.upload_body.put_upload.Goals as goal

pub returns : goal.returns
returns c =
    let u = c.args.upload.now in
    puts_same _ _ (upload_is c.args.number u)
    (puts_then (codes "{\"class\":" ++ quoted (class_name u.class)) _ (rw (c.name.ensures, c.class.ensures) at c.put_text-at.ensures)
    (puts_then (codes ",\"key\":") _ c.put-at.ensures
    (puts_then (quoted u.key) _ (rw (c.bytes.ensures.same, c.key.ensures) at c.put_quoted-at.ensures)
    (puts_then (codes ",\"parts\":") _ c.put-at-2.ensures
    (puts_then (parts_text u.parts) _ (rw c.parts.ensures.same at c.put_parts-at.ensures)
    (puts_then (codes ",\"started\":" ++ quoted (moment_text u.started)) _ (rw (c.ms.ensures.same, c.started.ensures) at c.put_moment-at.ensures)
    (puts_then (codes ",\"tags\":") _ c.put-at-3.ensures
    (puts_then (tags_text u.tags) _ (rw c.tags.ensures at c.put_tags-at.ensures.puts)
    (puts_then (codes ",\"upload\":" ++ decimal c.args.number) (codes "}") c.put_whole-at.ensures.puts c.put.ensures)))))))))
