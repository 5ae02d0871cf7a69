use Rattle.std.proofs.Common.{drop, map}
use Rattle.serde_json.specs.View.{items_of}
use Rattle.serde_json.specs.Written.{items_text}
use Rattle.http_text.specs.Bodies.{tier_data}
use Rattle.http_text.proofs.Going.{Going}
use Rattle.http_text.proofs.price_body.put_list.Given as goal

abbrev pub invariant-loop-tier : goal.invariant-loop-tier
invariant-loop-tier l =
    Going l.initial.room l.initial.at l.room l.at (items_text l.later (items_of (map tier_data (drop l.tier-index l.tiers)))) (items_text l.initial.later (items_of (map tier_data l.tiers)))
