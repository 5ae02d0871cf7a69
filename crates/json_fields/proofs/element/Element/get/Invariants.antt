use Rattle.std.proofs.Common.{◌≡◌}
use Rattle.serde_json.specs.Find.{get_member}
use Rattle.json_fields.specs.Elements.{fields_left, fields_count}
use Rattle.json_fields.proofs.element.Element.get.Given as goal

abbrev pub invariant-search : goal.invariant-search
invariant-search l = get_member l.name (fields_left l.fields) ≡ get_member l.name (fields_left l.initial.fields)

abbrev pub decreases-search : goal.decreases-search
decreases-search l = fields_count l.fields
