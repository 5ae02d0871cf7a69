use Rattle.std.proofs.Common.{◌++◌, codes, decimal}
use Rattle.serde_json.specs.Written.{comma_if}
use Rattle.http_text.proofs.LongTexts.{part_is}
use Rattle.http_text.proofs.RoomLemmas.{puts_then, puts_same}
use Rattle.http_text.proofs.upload_body.put_part.Goals as goal

pub returns : goal.returns
returns c =
    let n = c.args.number in
    let part = c.args.part.now in
    puts_then (comma_if c.args.later) _ c.put_comma-at.ensures
    (puts_same _ _ (part_is n part)
    (puts_then (codes "{\"part\":" ++ decimal n) _ (rw c.from.ensures at c.put_whole-at.ensures.puts)
    (puts_then (codes ",\"size\":" ++ decimal part.size) (codes "}") c.put_whole-at-2.ensures.puts c.put.ensures)))
