use Rattle.std.proofs.Common.{◌≡◌}
use Rattle.std.specs.List.Sorted.{IsStrictlySortedBy}
use Rattle.std.specs.Map.{keys_of}
use Rattle.json_fields.specs.Elements.{fields_left, fields_count}
use Rattle.http_bodies.proofs.PairLemmas.{names_cmp, over}
use Rattle.http_bodies.proofs.pairs.texts.Given as goal

-- the texts so far count over the fields that are left, and stand in the order of their names
abbrev pub invariant-fields : goal.invariant-fields
invariant-fields l = (fields_left l.fn.fields ≡ over l.texts.entries (fields_left l.fields))
    × IsStrictlySortedBy names_cmp (keys_of l.texts.entries)

abbrev pub decreases-fields : goal.decreases-fields
decreases-fields l = fields_count l.fields
