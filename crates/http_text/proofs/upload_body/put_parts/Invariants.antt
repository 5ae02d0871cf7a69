use Rattle.std.proofs.Common.{map}
use Rattle.serde_json.specs.View.{items_of}
use Rattle.serde_json.specs.Written.{items_text}
use Rattle.http_text.specs.Bodies.{part_data}
use Rattle.http_text.proofs.Going.{Going}
use Rattle.http_text.proofs.upload_body.put_parts.Given as goal

abbrev pub invariant-loop-number : goal.invariant-loop-number
invariant-loop-number l =
    Going l.initial.room l.initial.at l.room l.at (items_text l.later (items_of (map part_data l.number-iterator))) (items_text l.initial.later (items_of (map part_data l.parts.entries)))
