-- How one pass searches the candidates: what is kept so far, and the next candidate.
use Rattle.std.specs.Prelude.{ℕ, ◌-◌, ◌==◌, ◌++◌, max, List, [], ◌∷◌, fold, flat_map, nat_lt, nat_le, Option, Some, None, if◌then◌else◌}
use Rattle.std.specs.List.{enumerate_from}
use Rattle.moments.specs.Time.{end_of_time}
use Rattle.rules_core.specs.Matching.{matches_upload}
use Rattle.rules_core.specs.Configurations.{Configuration}
use Rattle.rules_core.specs.declared.rule.Rule.{Rule}
use Rattle.stacks.specs.Stacks.{StackRecord}
use Rattle.stacks.specs.declared.version.Version.{Version}
use Rattle.uploads.specs.Uploads.{UploadRecord}
use Rattle.due_core.specs.Buckets.{BucketRecord}
use Rattle.due_core.specs.Candidates.{timely}
use Rattle.due_core.specs.Choice.{comes_before}
use Rattle.due_core.specs.RuleActions.{DueAction, Placed, placed_from, object_actions, noncurrent_removals, noncurrent_transitions}
use Rattle.due_core.specs.RuleActions.{version_actions, matches_version, upload_actions}
use Rattle.due_core.specs.declared.action.Target.{Target}
use Rattle.due_core.specs.declared.action.Target.TheVariants as target
use Rattle.due_core.specs.declared.action.Candidate.{Candidate}
use Rattle.due_core.specs.declared.asked.Held.{Held}
use Rattle.due_core.specs.declared.asked.Setting.{Setting}

-- the earlier of the first candidate so far and the next one
abbrev pub sooner : Option Candidate → Candidate → Candidate
sooner None next = next
sooner (Some best) next = if comes_before next best then next else best

-- what is kept of the candidates whose moment has come: the first so far, or all of them
pub record Findings : Type 0 where
  pub first : Option Candidate
  pub all : Option (List Candidate)

-- nothing found yet, in a search for the first
abbrev pub nothing_found : Findings
nothing_found = record { first = None; all = None }

-- nothing found yet, in a search for all
abbrev pub none_of_all : Findings
none_of_all = record { first = None; all = Some [] }

-- what is kept with one more candidate: all with it at the end, or the earlier of it and the first
abbrev pub took_by : Option Candidate → Option (List Candidate) → Candidate → Findings
took_by first None next = record { first = Some (sooner first next); all = None }
took_by first (Some all) next = record { first = first; all = Some (all ++ next ∷ []) }

-- what is kept with one more candidate
abbrev pub took : Findings → Candidate → Findings
took kept next = took_by kept.first kept.all next

-- what is kept with one more candidate, which counts only if its moment has come
abbrev pub with_come : ℕ → Findings → Candidate → Findings
with_come t kept next = if nat_le next.action.since t then took kept next else kept

-- what is kept after these candidates
abbrev pub with_each : ℕ → Findings → List Candidate → Findings
with_each t kept candidates = fold (with_come t) kept candidates

-- the aim of a search: a target, a rule that matches it, the moment before which no action on it takes effect, and the
-- moment of the search
pub record Aim : Type 0 where
  pub key : List ℕ
  pub target : Target
  pub age : ℕ
  pub rule : ℕ
  pub not_before : ℕ
  pub t : ℕ

-- the candidate of an action: it takes effect when it is due, but not before the aim's moment
abbrev pub aimed : Aim → DueAction → Candidate
aimed aim due = record {
  action = record {
    kind = due.0;
    key = aim.key;
    target = aim.target;
    rule = aim.rule;
    since = max due.1 aim.not_before;
  };
  age = aim.age;
}

-- what is kept with one more action of the rule; an action that is never due does not count
abbrev pub with_due : Aim → Findings → DueAction → Findings
with_due aim kept due = if nat_lt due.1 end_of_time then with_come aim.t kept (aimed aim due) else kept

-- what is kept after these actions of the rule
abbrev pub with_each_due : Aim → Findings → List DueAction → Findings
with_each_due aim kept asked = fold (with_due aim) kept asked

-- ---- the candidates in the order of the search: each version or upload, and each rule with its place from 1

-- what a search at this moment needs of a bucket and its configuration
abbrev pub setting_of : BucketRecord → Configuration → ℕ → Setting
setting_of bucket rules t =
    record { versioning = bucket.versioning; mode = rules.mode; rules_since = bucket.rules_since; t = t }

-- what a rule asks for an object with this many newer versions
abbrev pub asked_of_object : Setting → Rule → Held → Version → ℕ → List DueAction
asked_of_object setting rule object version newer =
    if newer == 0
    then object_actions setting.versioning setting.mode rule object.size object.class version.created
    else noncurrent_removals rule (newer - 1) version.ceased
    ++ noncurrent_transitions setting.mode rule object.size object.class (newer - 1) version.ceased

-- what a numbered rule asks for a version, if it is enabled and matches, in a stack that changed last at this moment
abbrev pub asked_of_version : Setting → List ℕ → ℕ → Placed → ℕ × Rule → List Candidate
asked_of_version setting key changed placed numbered =
    if numbered.1.enabled
    then (
    if matches_version numbered.1.filter key placed.version
    then timely key (target.Version placed.version.id) numbered.0 placed.older (max changed setting.rules_since)
    (version_actions setting.versioning setting.mode changed numbered.1 placed) else []
    )
    else []

-- what the enabled rules ask for a version, rule by rule
abbrev pub version_candidates : Setting → List Rule → List ℕ → ℕ → Placed → List Candidate
version_candidates setting rules key changed placed =
    flat_map (asked_of_version setting key changed placed) (enumerate_from 1 rules)

-- what the enabled rules ask for the versions of a key, from the newest on
abbrev pub key_candidates : Setting → List Rule → List ℕ × StackRecord → List Candidate
key_candidates setting rules (key, stack) =
    flat_map (version_candidates setting rules key stack.changed) (placed_from 0 stack.versions)

-- what a numbered rule asks for an upload, if it is enabled and matches
abbrev pub asked_of_upload : Setting → ℕ → UploadRecord → ℕ × Rule → List Candidate
asked_of_upload setting number upload numbered =
    if numbered.1.enabled
    then (
    if matches_upload numbered.1.filter upload.key
    then timely upload.key (target.Upload number) numbered.0 number (max upload.changed setting.rules_since)
    (upload_actions numbered.1 upload) else []
    )
    else []

-- what the enabled rules ask for an upload, rule by rule
abbrev pub number_candidates : Setting → List Rule → ℕ × UploadRecord → List Candidate
number_candidates setting rules (number, upload) =
    flat_map (asked_of_upload setting number upload) (enumerate_from 1 rules)
