-- The rules of a configuration that are kept while it is read. A configuration of more than 1,000 rules is refused,
-- whichever they are, so 1,001 are enough.
use Rattle.std.specs.Prelude.{List, Ok}
use Rattle.office_base.specs.Results.{◌>>=◌}
use Rattle.rules_core.specs.declared.rule.Rule.{Rule}
use Rattle.rules_json.specs.Fields.{Reader, list_of}
use Rattle.rules_json.specs.Lists.{last_of}
use Rattle.rules_json.specs.Reading.{rule}

-- the last 1,001 rules of a list; each rule is read
abbrev pub kept_rules : Reader (List Rule)
kept_rules field value = list_of rule field value >>= λ rules. Ok (last_of 1_001 rules)
