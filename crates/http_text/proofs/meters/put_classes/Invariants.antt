use Rattle.std.proofs.Common.{◌+◌, ◌*◌, ◌≤◌, length, drop, map}
use Rattle.serde_json.specs.View.{items_of}
use Rattle.serde_json.specs.Written.{items_text}
use Rattle.http_text.specs.Bodies.{meters_data}
use Rattle.http_text.proofs.Going.{Going}
use Rattle.http_text.proofs.meters.put_classes.Given as goal

abbrev pub invariant-loop-meters : goal.invariant-loop-meters
invariant-loop-meters l =
    Going l.initial.room l.initial.at l.room l.at (items_text l.later (items_of (map meters_data (drop l.meters-index l.classes)))) (items_text l.initial.later (items_of (map meters_data l.classes)))
    × (l.meters-index ≤ length l.classes) × (length (items_text l.initial.later (items_of (map meters_data l.classes)))
    ≤ 1_000 * l.meters-index + length (items_text l.later (items_of (map meters_data (drop l.meters-index l.classes)))))
