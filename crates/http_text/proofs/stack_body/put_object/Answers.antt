use Rattle.std.proofs.Common.{◌++◌, codes, decimal}
use Rattle.json.specs.Print.{quoted}
use Rattle.moments.specs.Texts.{moment_text}
use Rattle.class_rules.specs.Classes.{class_name}
use Rattle.office_base.specs.Versions.{id_text}
use Rattle.http_text.specs.Bodies.{tags_text}
use Rattle.http_text.specs.Parts.{since_part}
use Rattle.http_text.proofs.LongTexts.{object_is}
use Rattle.http_text.proofs.PieceLemmas.{object_small}
use Rattle.http_text.proofs.RoomLemmas.{puts_then, puts_same}
use Rattle.http_text.proofs.stack_body.put_object.Goals as goal

pub returns-clause-puts : goal.returns-clause-puts
returns-clause-puts c =
    let v = c.args.version.now in
    puts_same _ _ (object_is c.args.since v c.args.size c.args.class c.args.tags.now c.args.entered c.requires)
    (puts_then (codes "{\"class\":" ++ quoted (class_name c.args.class)) _ (rw c.name.ensures at c.put_text-at.ensures)
    (puts_then (codes ",\"created\":" ++ quoted (moment_text v.created)) _ (rw c.ms.ensures.same at c.put_moment-at.ensures)
    (puts_then (codes ",\"entered\":" ++ quoted (moment_text c.args.entered)) _ (rw c.ms-2.ensures.same at c.put_moment-at-2.ensures)
    (puts_then (codes ",\"kind\":\"object\"") _ c.put-at.ensures
    (puts_then (since_part c.args.since) _ c.put_since-at.ensures
    (puts_then (codes ",\"size\":" ++ decimal c.args.size) _ (rw c.bytes.ensures.same at c.put_whole-at.ensures.puts)
    (puts_then (codes ",\"tags\":") _ c.put-at-2.ensures
    (puts_then (tags_text c.args.tags.now) _ c.put_tags-at.ensures.puts
    (puts_then (codes ",\"version\":" ++ quoted (id_text v.id)) (codes "}") c.put_id-at.ensures.puts c.put.ensures)))))))))

pub returns-clause-small : goal.returns-clause-small
returns-clause-small c =
    object_small c.args.since c.args.version.now c.args.size c.args.class c.args.tags.now c.args.entered c.requires
    (rw c.bytes.ensures.same at c.put_whole-at.ensures.short) c.put_tags-at.ensures.small c.put_id-at.ensures.short
