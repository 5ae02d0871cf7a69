use Rattle.std.proofs.Common.{◌≡◌, ℕ, List, Bool, option_map, map, not}
use Rattle.std.specs.List.{find}
use Rattle.office_base.specs.Texts.{is_among}
use Rattle.json_fields.specs.Fields.{names_of}
use Rattle.json_fields.specs.Names.{earlier}
use Rattle.json_fields.specs.Elements.{fields_left, fields_count}
use Rattle.json_fields.proofs.element.Element.first_unknown.Given as goal

-- the first so far, and those that are left
abbrev pub invariant-names : goal.invariant-names
invariant-names l =
    let unknown : List ℕ → Bool = λ name. not (is_among (map (λ k. k.now) l.known) name) in
    earlier (option_map (λ n. n.now) l.first) (find unknown (names_of (fields_left l.fields)))
    ≡ find unknown (names_of (fields_left l.initial.fields))

abbrev pub decreases-names : goal.decreases-names
decreases-names l = fields_count l.fields
