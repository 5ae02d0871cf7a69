-- The lifecycle actions that are eligible in a bucket, and the candidates at a moment.
use Rattle.std.specs.Prelude.{ℕ, max, List, [], ◌++◌, map, filter, flat_map, nat_lt, nat_le, Option, Some, None}
use Rattle.std.specs.List.{enumerate_from}
use Rattle.moments.specs.Time.{end_of_time}
use Rattle.rules_core.specs.Matching.{matches_upload}
use Rattle.rules_core.specs.Configurations.{Configuration}
use Rattle.rules_core.specs.declared.rule.Rule.{Rule}
use Rattle.stacks.specs.Stacks.{StackRecord}
use Rattle.uploads.specs.Uploads.{UploadRecord}
use Rattle.due_core.specs.Buckets.{BucketRecord}
use Rattle.due_core.specs.RuleActions.{DueAction, Placed, placed_from, version_actions, matches_version, upload_actions}
use Rattle.due_core.specs.declared.action.Target.{Target}
use Rattle.due_core.specs.declared.action.Target.TheVariants as target
use Rattle.due_core.specs.declared.action.Candidate.{Candidate}

-- the rules that are enabled, each with its place from 1 (S3 User Guide, "Lifecycle configuration elements": Status
-- element)
abbrev pub enabled_rules : Configuration → List (ℕ × Rule)
enabled_rules rules = filter (λ numbered. numbered.1.enabled) (enumerate_from 1 rules.rules)

-- the candidates that one rule gives for one target. An action that is not due before the end of time is left out
-- (own). An action takes effect no earlier than the last change of its stack or upload, or of the bucket's rules or
-- versioning (own).
abbrev pub timely : List ℕ → Target → ℕ → ℕ → ℕ → List DueAction → List Candidate
timely key target rule age not_before asked =
    map (λ due. record {
      action = record { kind = due.0; key = key; target = target; rule = rule; since = max due.1 not_before };
      age = age;
    })
    (filter (λ due. nat_lt due.1 end_of_time) asked)

-- the actions on the versions of a key
abbrev pub stack_candidates : BucketRecord → Configuration → List ℕ × StackRecord → List Candidate
stack_candidates bucket rules (key, stack) = flat_map of_version (placed_from 0 stack.versions) where
  of_version : Placed → List Candidate
  of_version placed = flat_map
      (λ numbered. timely key (target.Version placed.version.id) numbered.0 placed.older
      (max stack.changed bucket.rules_since)
      (version_actions bucket.versioning rules.mode stack.changed numbered.1 placed))
      (filter (λ numbered. matches_version numbered.1.filter key placed.version) (enabled_rules rules))

-- the actions on an upload; a rule matches it by its prefix (S3 User Guide, "Configuring a bucket lifecycle
-- configuration to delete incomplete multipart uploads")
abbrev pub upload_candidates : BucketRecord → Configuration → ℕ × UploadRecord → List Candidate
upload_candidates bucket rules (number, upload) = flat_map
    (λ numbered. timely upload.key (target.Upload number) numbered.0 number (max upload.changed bucket.rules_since)
    (upload_actions numbered.1 upload))
    (filter (λ numbered. matches_upload numbered.1.filter upload.key) (enabled_rules rules))

-- the eligible actions in a bucket under this configuration; none without one
abbrev pub eligible_by : BucketRecord → Option Configuration → List Candidate
eligible_by bucket None = []
eligible_by bucket (Some rules) =
    flat_map (stack_candidates bucket rules) bucket.stacks ++ flat_map (upload_candidates bucket rules) bucket.uploads

-- the eligible actions in a bucket: for every version and upload, every action of every enabled rule that matches it
-- (S3 User Guide, "Managing the lifecycle of objects")
unfoldable pub eligible : BucketRecord → List Candidate
eligible bucket = eligible_by bucket bucket.rules

-- the eligible actions whose moment is t or earlier
unfoldable pub candidates : BucketRecord → ℕ → List Candidate
candidates bucket t = filter (λ candidate. nat_le candidate.action.since t) (eligible bucket)
