use Rattle.std.proofs.Common.{codes, None}
use Rattle.http_text.specs.Bodies.{version_text}
use Rattle.http_text.proofs.LongTexts.{no_versions, versions_by_place}
use Rattle.http_text.proofs.RoomLemmas.{puts_then, puts_same}
use Rattle.http_text.proofs.stack_body.put_versions.Goals as goal

pub returns-in-empty : goal.returns-in-empty
returns-in-empty c = puts_same _ _ (no_versions c.args.versions.now c.in-empty.len_below) c.put.ensures

pub returns-in-len1-up : goal.returns-in-len1-up
returns-in-len1-up c =
    puts_same _ _ (versions_by_place c.args.versions.now c.current-item.result c.current-item.result c.in-len1-up.len_at_least c.current-item.is)
    (puts_then (codes "[") _ c.put-at.ensures
    (puts_then (version_text None c.current-item.result) _ c.put_version-at.ensures.puts c.put_noncurrent.ensures))
