-- How many rules a configuration has.
use Rattle.std.proofs.Common.{◌≡◌, ℕ, ◌≤◌, [], length, refl, Bool, true, false, cond}
use Rattle.std.specs.Prelude.{Option, Some, None, nat_lt}
use Rattle.std.proofs.lemmas.Bool.{ltb-false}
use Rattle.rules_core.specs.Conditions.{first_flaw, first_flaw_after}
use Rattle.rules_core.specs.Configurations.{Configuration, IsConfiguration}
use Rattle.rules_core.specs.declared.flaw.RuleFlaw.{RuleFlaw}
use Rattle.rules_core.specs.declared.flaw.RuleFlaw.TheVariants.{TooManyRules}

few_by : (n : ℕ) (many : Bool) (later : Option (RuleFlaw × ℕ)) → nat_lt 1_000 n ≡ many → cond many (Some (TooManyRules, 0)) later ≡ None → n ≤ 1_000
few_by n true later is h = absurd cc
few_by n false later is h = ltb-false 1_000 n is

pub few_rules : (configuration : Configuration) → IsConfiguration configuration → length configuration.rules ≤ 1_000
unfolding first_flaw
few_rules configuration is =
    few_by (length configuration.rules) (nat_lt 1_000 (length configuration.rules)) (first_flaw_after [] configuration.rules) refl is.flawless
