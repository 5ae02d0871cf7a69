-- The text of a configuration is not empty.
use Rattle.std.proofs.Common.{◌≡◌, ◌<◌, eqb, false, length, arith}
use Rattle.std.proofs.lemmas.Bool.{ne_eqb}
use Rattle.rules_core.specs.Configurations.{Configuration}
use Rattle.rules_json.specs.Printing.{printed, configuration_data}

has_some : (rules : Configuration) → 0 < length (printed rules)
unfolding printed configuration_data
has_some rules = omega arith

pub some_text : (rules : Configuration) → eqb (length (printed rules)) 0 ≡ false
some_text rules = let some : 0 < length (printed rules) = has_some rules in ne_eqb (length (printed rules)) 0 (λ e. absurd (omega (arith, some, e)))
