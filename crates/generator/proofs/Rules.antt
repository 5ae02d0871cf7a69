-- The configuration of a load is one.
use Rattle.std.proofs.Common.{◌≡◌, true, [], ◌∷◌, refl, Ok}
use Rattle.std.specs.List.{list_all}
use Rattle.std.specs.Fmt.{digits}
use Rattle.std.specs.Str.{chars}
use Rattle.office_base.specs.Tags.{are_tags}
use Rattle.rules_core.specs.Conditions.{first_flaw, flaw_of, breaks}
use Rattle.rules_core.specs.Configurations.{checked, has_midnights, with_id}
use Rattle.rules_core.specs.declared.rule.SizeMode.TheVariants.{All128K}
use Rattle.generator.specs.Drafts.{rule_named, rules_set}

pub midnights : list_all has_midnights (rule_named [] ∷ []) ≡ true
unfolding has_midnights
midnights = refl

pub is_checked : checked (rule_named [] ∷ []) All128K ≡ Ok rules_set
unfolding first_flaw flaw_of breaks are_tags with_id digits chars
is_checked = refl
