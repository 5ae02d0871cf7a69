use Rattle.std.proofs.Common.{◌≡◌}
use Rattle.serde_json.specs.Data.{Items, no_items}
use Rattle.json_fields.specs.Elements.{elements_left, elements_count}
use Rattle.rules_json.specs.Faults.{RulesGiveBy}
use Rattle.rules_json.specs.Fields.{each}
use Rattle.rules_json.specs.Reading.{rule}
use Rattle.rules_json.proofs.KeptLemmas.{kept_of, back}
use Rattle.rules_json.proofs.read.kept_rules.Given as goal

-- those that are left, before those of which the last are kept
abbrev pub invariant-elements : goal.invariant-elements
invariant-elements l =
    (more : Items) × (elements_left l.initial.elements no_items ≡ elements_left l.elements more)
    × RulesGiveBy back l.found (kept_of 1_001 (each rule l.field more))

abbrev pub decreases-elements : goal.decreases-elements
decreases-elements l = elements_count l.elements
