-- One pass over what the rules ask of a key or an upload finds the first of it.
use Rattle.std.proofs.Common.{◌≡◌, ℕ, List, [], ◌∷◌, refl, sym, Bool, true, false, cond, map, filter}
use Rattle.std.specs.Prelude.{max, Option, Some, None, IfSome, nat_lt}
use Rattle.std.specs.List.{best_of, enumerate_from}
use Rattle.moments.specs.Time.{end_of_time}
use Rattle.rules_core.specs.Matching.{matches_upload}
use Rattle.rules_core.specs.Configurations.{Configuration}
use Rattle.stacks.specs.Stacks.{StackRecord}
use Rattle.uploads.specs.Uploads.{UploadRecord}
use Rattle.due_core.specs.Buckets.{BucketRecord}
use Rattle.due_core.specs.RuleActions.{DueAction, Placed, placed_from, matches_version, version_actions, upload_actions}
use Rattle.due_core.specs.Candidates.{timely, stack_candidates, upload_candidates}
use Rattle.due_core.specs.Choice.{comes_before, least}
use Rattle.due_core.specs.declared.action.Candidate.{Candidate}
use Rattle.due_core.specs.declared.action.Target.TheVariants as target
use Rattle.due_core.proofs.Loops.{picked_twice, same_flat}
use Rattle.due_index.specs.Places.{candidate_of, IsOnVersion}
use Rattle.due_index.specs.Actions.{IsOnUpload}
use Rattle.due_index.specs.Search.{Aim, on_key, with_one, with_each, with_each_due, aimed, setting_of, key_candidates, number_candidates}
use Rattle.due_index.specs.declared.place.Place.{Place}
use Rattle.due_index.proofs.Chosen.{least_first}
use Rattle.due_index.proofs.Ties as ties

-- ---- what one rule asks of one target

due_by : (aim : Aim) (first : Option Candidate) (due : DueAction) (asked : List DueAction) (b : Bool)
    → ((o : Option Candidate) → with_each_due aim o asked ≡ with_each o (timely aim.key aim.target aim.rule aim.age aim.not_before asked))
    → with_each_due aim (cond b (with_one first (aimed aim due)) first) asked
    ≡ with_each first (map (aimed aim) (cond b (due ∷ filter (λ due. nat_lt due.1 end_of_time) asked) (filter (λ due. nat_lt due.1 end_of_time) asked)))
due_by aim first due asked true rest = rest (with_one first (aimed aim due))
due_by aim first due asked false rest = rest first

pub due_come : (aim : Aim) (first : Option Candidate) (asked : List DueAction)
    → with_each_due aim first asked ≡ with_each first (timely aim.key aim.target aim.rule aim.age aim.not_before asked)
due_come aim first [] = refl
due_come aim first (due ∷ asked) = due_by aim first due asked (nat_lt due.1 end_of_time) (λ o. due_come aim o asked)

-- ---- the candidates of the search are those of the definition

pub same_versions : (bucket : BucketRecord) (rules : Configuration) (key : List ℕ) (stack : StackRecord)
    → key_candidates (setting_of bucket rules) rules.rules (key, stack) ≡ stack_candidates bucket rules (key, stack)
same_versions bucket rules key stack = same_flat _ _ (λ (placed : Placed). picked_twice (λ numbered. numbered.1.enabled)
    (λ numbered. matches_version numbered.1.filter key placed.version)
    (λ numbered. timely key (target.Version placed.version.id) numbered.0 placed.older (max stack.changed bucket.rules_since)
    (version_actions bucket.versioning rules.mode stack.changed numbered.1 placed)) (enumerate_from 1 rules.rules)) (placed_from 0 stack.versions)

pub same_upload : (bucket : BucketRecord) (rules : Configuration) (number : ℕ) (upload : UploadRecord)
    → number_candidates (setting_of bucket rules) rules.rules (number, upload) ≡ upload_candidates bucket rules (number, upload)
same_upload bucket rules number upload = picked_twice (λ numbered. numbered.1.enabled) (λ numbered. matches_upload numbered.1.filter upload.key)
    (λ numbered. timely upload.key (target.Upload number) numbered.0 number (max upload.changed bucket.rules_since) (upload_actions numbered.1 upload)) (enumerate_from 1 rules.rules)

-- ---- the first of a list

some_each : (b : Candidate) (xs : List Candidate) → with_each (Some b) xs ≡ Some (best_of comes_before b xs)
some_each b [] = refl
some_each b (x ∷ xs) = some_each (cond (comes_before x b) x b) xs

pub none_each : (xs : List Candidate) → with_each None xs ≡ least comes_before xs
none_each [] = refl
none_each (x ∷ xs) = some_each x xs

-- ---- what was found on a key is on a version

on_version_by : (bucket : BucketRecord) (rules : Configuration) (key : List ℕ) (stack : StackRecord) (place : Option Place)
    → on_key key place ≡ least comes_before (stack_candidates bucket rules (key, stack)) → IfSome place IsOnVersion
on_version_by bucket rules key stack None is = tt
on_version_by bucket rules key stack (Some place) is =
    let found = ties.on_key bucket rules key stack (candidate_of key place)
    (least_first (stack_candidates bucket rules (key, stack)) (candidate_of key place) (sym is)).one in
    record { version = found.placed.version.id; target = found.on }

pub on_version : (bucket : BucketRecord) (rules : Configuration) (key : List ℕ) (stack : StackRecord) (place : Option Place)
    → on_key key place ≡ least comes_before (stack_candidates bucket rules (key, stack)) → IfSome place IsOnVersion
on_version = on_version_by

-- ---- and what was found on an upload is on that upload

pub on_upload : (bucket : BucketRecord) (rules : Configuration) (number : ℕ) (upload : UploadRecord) (place : Place)
    → on_key upload.key (Some place) ≡ least comes_before (upload_candidates bucket rules (number, upload)) → IsOnUpload number (candidate_of upload.key place)
on_upload bucket rules number upload place is =
    (ties.on_upload bucket rules number upload (candidate_of upload.key place)
    (least_first (upload_candidates bucket rules (number, upload)) (candidate_of upload.key place) (sym is)).one).on
