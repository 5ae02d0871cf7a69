use Rattle.std.proofs.Common.{◌≡◌, ℕ, true, List, Ok, Result, sym, ap, subst, ◌∙◌}
use Rattle.std.specs.List.{list_all}
use Rattle.rules_core.specs.Configurations.{Configuration, checked, has_midnights}
use Rattle.rules_core.specs.declared.flaw.RuleFlaw.{RuleFlaw}
use Rattle.rules_core.specs.declared.rule.Rule.{Rule}
use Rattle.rules_core.specs.declared.rule.SizeMode.TheVariants.{All128K}
use Rattle.generator.specs.Drafts.{rules_set}
use Rattle.generator.proofs.Rules.{midnights, is_checked}
use Rattle.generator.proofs.draft.configuration.Goals as goal

abbrev given : Configuration → Result Configuration (RuleFlaw × ℕ)
given set = Ok set

one : (a b : Configuration) → given a ≡ given b → b ≡ a
one a b e = cc

pub check-requires : goal.check-requires
check-requires c = subst (λ (list : List Rule). list_all has_midnights list ≡ true) (sym c.in-Ok.ensures) midnights

pub returns-in-Ok-check : goal.returns-in-Ok-check
returns-in-Ok-check c =
    one rules_set c.in-Ok-check.configuration
    (sym is_checked ∙ ap (λ (list : List Rule). checked list All128K) (sym c.in-Ok.ensures) ∙ c.in-Ok-check.ensures)
