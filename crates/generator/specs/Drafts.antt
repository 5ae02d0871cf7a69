-- The commands of the generator. Buckets and keys are numbers in a draft, and names in the command.
use Rattle.std.specs.Prelude.{ℕ, zero, suc, List, [], ◌∷◌, ◌++◌, map, codes, decimal, true, false, Some, None}
use Rattle.class_rules.specs.declared.class.Class.TheVariants.{Standard, StandardIa}
use Rattle.office_base.specs.declared.version_id.VersionId.{VersionId}
use Rattle.office_base.specs.declared.version_id.VersionId.TheVariants.{Null, Number}
use Rattle.rules_core.specs.Configurations.{Configuration}
use Rattle.rules_core.specs.declared.rule.Rule.{Rule}
use Rattle.rules_core.specs.declared.rule.When.TheVariants.{Days}
use Rattle.rules_core.specs.declared.rule.SizeMode.TheVariants.{All128K}
use Rattle.tariff.specs.Prices.{Prices, one_tier}
use Rattle.office_types.specs.declared.command.Command.{Command}
use Rattle.office_types.specs.declared.command.Command.TheVariants as command
use Rattle.generator.specs.declared.draft.Draft.{Draft}
use Rattle.generator.specs.declared.draft.Draft.TheVariants as draft

-- the name of a bucket, as gen-0
abbrev pub name_of : ℕ → List ℕ
name_of bucket = codes "gen-" ++ decimal bucket

-- a key, as k7
abbrev pub key_named : ℕ → List ℕ
key_named key = codes "k" ++ decimal key

-- a version; 0 stands for the null version
abbrev pub drafted_id : ℕ → VersionId
drafted_id zero = Null
drafted_id (suc n) = Number (suc n)

-- every price is 1,000, from January 1970 on, and for any quantity
abbrev pub prices : Prices
prices = record {
  from = 0;
  storage = map one_tier (1_000 ∷ 1_000 ∷ 1_000 ∷ 1_000 ∷ 1_000 ∷ 1_000 ∷ []);
  transition = 1_000 ∷ 1_000 ∷ 1_000 ∷ 1_000 ∷ 1_000 ∷ [];
}

-- the rule of each object: to STANDARD_IA after 30 days, expired after 60, and removed 10 days after it is noncurrent
abbrev pub rule_named : List ℕ → Rule
rule_named name = record {
  id = name;
  enabled = true;
  filter = record { prefix = []; tags = []; greater = None; less = None };
  expiration = Some (record { days = Some 60; date = None; lone_marker = false });
  transitions = record { when = Days 30; to = StandardIa } ∷ [];
  noncurrent_expiration = Some (record { days = 10; newer = None });
  noncurrent_moves = [];
  abort_days = None;
}

-- the configuration that a load sets: only this rule, which moves no object below 128 KiB
abbrev pub rules_set : Configuration
rules_set = record { rules = rule_named (codes "rule-1") ∷ []; mode = All128K }

-- the command of a draft: nothing that it puts has tags, and every upload is in STANDARD
abbrev pub draft_command : Draft → Command
draft_command (draft.CreateBucket bucket) = command.CreateBucket (name_of bucket)
draft_command (draft.Enable bucket) = command.SetVersioning (name_of bucket) true
draft_command (draft.SetRules bucket) = command.SetRules (name_of bucket) rules_set
draft_command draft.SetTariff = command.SetTariff prices
draft_command (draft.Put bucket key size class) = command.Put (name_of bucket) (key_named key) size class []
draft_command (draft.Delete bucket key) = command.Delete (name_of bucket) (key_named key)
draft_command (draft.DeleteVersion bucket key id) =
    command.DeleteVersion (name_of bucket) (key_named key) (drafted_id id)
draft_command (draft.StartUpload bucket key) = command.StartUpload (name_of bucket) (key_named key) Standard []
draft_command (draft.PutPart bucket upload part size) = command.PutPart (name_of bucket) upload part size
draft_command (draft.Complete bucket upload) = command.Complete (name_of bucket) upload
draft_command (draft.Act bucket) = command.Act (name_of bucket)
