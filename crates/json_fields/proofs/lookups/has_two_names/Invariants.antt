use Rattle.std.proofs.Common.{◌≡◌}
use Rattle.serde_json.specs.Data.{null, put}
use Rattle.json_fields.specs.Fields.{names_of}
use Rattle.json_fields.specs.Elements.{fields_left}
use Rattle.json_fields.proofs.lookups.has_two_names.Given as goal

-- the names so far are all the first
abbrev pub invariant-others : goal.invariant-others
invariant-others l =
    names_of (put l.first null (fields_left l.fields)) ≡ names_of (put l.first null (fields_left l.initial.fields))

abbrev pub decreases-others : goal.decreases-others
decreases-others l = l.fields.left
