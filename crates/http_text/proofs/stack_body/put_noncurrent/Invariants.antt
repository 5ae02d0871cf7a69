use Rattle.std.proofs.Common.{true, drop, map}
use Rattle.serde_json.specs.View.{items_of}
use Rattle.serde_json.specs.Written.{items_text}
use Rattle.http_text.specs.Bodies.{noncurrent_version}
use Rattle.http_text.proofs.Going.{Going}
use Rattle.http_text.proofs.stack_body.put_noncurrent.Given as goal

abbrev pub invariant-loop-version : goal.invariant-loop-version
invariant-loop-version l =
    Going l.initial.room l.initial.at l.room l.at
    (items_text true (items_of (map noncurrent_version (drop l.version-index l.versions))))
    (items_text true (items_of (map noncurrent_version l.versions)))
