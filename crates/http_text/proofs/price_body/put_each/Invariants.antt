use Rattle.std.proofs.Common.{drop, map}
use Rattle.serde_json.specs.View.{items_of}
use Rattle.serde_json.specs.Written.{items_text}
use Rattle.http_text.specs.Bodies.{tariff_data}
use Rattle.http_text.proofs.Going.{Going}
use Rattle.http_text.proofs.price_body.put_each.Given as goal

abbrev pub invariant-loop-tariff : goal.invariant-loop-tariff
invariant-loop-tariff l =
    Going l.initial.room l.initial.at l.room l.at (items_text l.later (items_of (map tariff_data (drop l.tariff-index l.tariffs)))) (items_text l.initial.later (items_of (map tariff_data l.tariffs)))
