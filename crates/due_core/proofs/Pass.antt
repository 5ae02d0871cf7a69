-- One pass over what the rules ask finds the first of the candidates.
use Rattle.std.proofs.Common.{◌≡◌, ℕ, List, [], ◌∷◌, ◌++◌, refl, sym, ap, ◌∙◌, Bool, true, false, cond, filter, flat_map}
use Rattle.std.specs.Prelude.{max, Option, Some, None, option_map, unwrap_or, nat_lt, nat_le}
use Rattle.std.specs.List.{best_of, enumerate_from}
use Rattle.std.proofs.lemmas.List.{append-nil, append_assoc}
use Rattle.std.proofs.lemmas.List.Sums.{fold-append}
use Rattle.moments.specs.Time.{end_of_time}
use Rattle.rules_core.specs.Matching.{matches_upload}
use Rattle.rules_core.specs.Configurations.{Configuration}
use Rattle.stacks.specs.Stacks.{StackRecord}
use Rattle.uploads.specs.Uploads.{UploadRecord}
use Rattle.due_core.specs.Buckets.{BucketRecord}
use Rattle.due_core.specs.RuleActions.{DueAction, Placed, placed_from, matches_version, version_actions, upload_actions}
use Rattle.due_core.specs.Candidates.{timely, stack_candidates, upload_candidates, eligible_by, eligible, candidates}
use Rattle.due_core.specs.Choice.{comes_before, least, choice}
use Rattle.due_core.specs.Search.{Aim, Findings, nothing_found, none_of_all, with_come, with_each, with_each_due, aimed, setting_of, key_candidates, number_candidates}
use Rattle.due_core.specs.declared.action.Candidate.{Candidate}
use Rattle.due_core.specs.declared.action.Target.TheVariants as target
use Rattle.due_core.proofs.Loops.{picked_twice, same_flat}

-- ---- what one rule asks of one target

due_by : (aim : Aim) (kept : Findings) (due : DueAction) (asked : List DueAction) (b : Bool)
    → ((o : Findings) → with_each_due aim o asked ≡ with_each aim.t o (timely aim.key aim.target aim.rule aim.age aim.not_before asked))
    → with_each_due aim (cond b (with_come aim.t kept (aimed aim due)) kept) asked
    ≡ with_each aim.t kept (Rattle.std.proofs.Common.map (aimed aim) (cond b (due ∷ filter (λ due. nat_lt due.1 end_of_time) asked) (filter (λ due. nat_lt due.1 end_of_time) asked)))
due_by aim kept due asked true rest = rest (with_come aim.t kept (aimed aim due))
due_by aim kept due asked false rest = rest kept

pub due_come : (aim : Aim) (kept : Findings) (asked : List DueAction)
    → with_each_due aim kept asked ≡ with_each aim.t kept (timely aim.key aim.target aim.rule aim.age aim.not_before asked)
due_come aim kept [] = refl
due_come aim kept (due ∷ asked) = due_by aim kept due asked (nat_lt due.1 end_of_time) (λ o. due_come aim o asked)

-- ---- the candidates of the search are the eligible ones

module _ (bucket : BucketRecord) (rules : Configuration) (t : ℕ) where
  same_versions : (entry : List ℕ × StackRecord) → key_candidates (setting_of bucket rules t) rules.rules entry ≡ stack_candidates bucket rules entry
  same_versions (key, stack) = same_flat _ _ (λ (placed : Placed). picked_twice (λ numbered. numbered.1.enabled)
      (λ numbered. matches_version numbered.1.filter key placed.version)
      (λ numbered. timely key (target.Version placed.version.id) numbered.0 placed.older (max stack.changed bucket.rules_since)
      (version_actions bucket.versioning rules.mode stack.changed numbered.1 placed)) (enumerate_from 1 rules.rules)) (placed_from 0 stack.versions)

  same_upload : (entry : ℕ × UploadRecord) → number_candidates (setting_of bucket rules t) rules.rules entry ≡ upload_candidates bucket rules entry
  same_upload (number, upload) = picked_twice (λ numbered. numbered.1.enabled) (λ numbered. matches_upload numbered.1.filter upload.key)
      (λ numbered. timely upload.key (target.Upload number) numbered.0 number (max upload.changed bucket.rules_since) (upload_actions numbered.1 upload)) (enumerate_from 1 rules.rules)

  same_eligible : flat_map (key_candidates (setting_of bucket rules t) rules.rules) bucket.stacks
      ++ flat_map (number_candidates (setting_of bucket rules t) rules.rules) bucket.uploads ≡ eligible_by bucket (Some rules)
  same_eligible =
      ap (λ xs. xs ++ flat_map (number_candidates (setting_of bucket rules t) rules.rules) bucket.uploads) (same_flat _ _ same_versions bucket.stacks)
      ∙ ap (λ ys. flat_map (stack_candidates bucket rules) bucket.stacks ++ ys) (same_flat _ _ same_upload bucket.uploads)

-- what is kept after the versions and the uploads
pub is_eligible : (bucket : BucketRecord) (rules : Configuration) (t : ℕ) (start versions all : Findings) → bucket.rules ≡ Some rules
    → versions ≡ with_each t start (flat_map (key_candidates (setting_of bucket rules t) rules.rules) bucket.stacks)
    → all ≡ with_each t versions (flat_map (number_candidates (setting_of bucket rules t) rules.rules) bucket.uploads)
    → all ≡ with_each t start (eligible bucket)
unfolding eligible
is_eligible bucket rules t start versions all own is-versions is-all =
    is-all
    ∙ ap (λ k. with_each t k (flat_map (number_candidates (setting_of bucket rules t) rules.rules) bucket.uploads)) is-versions
    ∙ sym (fold-append (with_come t) start (flat_map (key_candidates (setting_of bucket rules t) rules.rules) bucket.stacks)
    (flat_map (number_candidates (setting_of bucket rules t) rules.rules) bucket.uploads))
    ∙ ap (with_each t start) (same_eligible bucket rules t ∙ ap (eligible_by bucket) (sym own))

-- ---- the first of those that have come

abbrev pub has_come : ℕ → Candidate → Bool
has_come t candidate = nat_le candidate.action.since t

abbrev one : Option Candidate → Findings
one o = record { first = o; all = None }

some_by : (t : ℕ) (b x : Candidate) (xs : List Candidate) (come : Bool)
    → ((c : Candidate) → with_each t (one (Some c)) xs ≡ one (Some (best_of comes_before c (filter (has_come t) xs))))
    → with_each t (cond come (one (Some (cond (comes_before x b) x b))) (one (Some b))) xs
    ≡ one (Some (best_of comes_before b (cond come (x ∷ filter (has_come t) xs) (filter (has_come t) xs))))
some_by t b x xs true rest = rest (cond (comes_before x b) x b)
some_by t b x xs false rest = rest b

first_some : (t : ℕ) (b : Candidate) (xs : List Candidate) → with_each t (one (Some b)) xs ≡ one (Some (best_of comes_before b (filter (has_come t) xs)))
first_some t b [] = refl
first_some t b (x ∷ xs) = some_by t b x xs (has_come t x) (λ c. first_some t c xs)

none_by : (t : ℕ) (x : Candidate) (xs : List Candidate) (come : Bool) → with_each t (one None) xs ≡ one (least comes_before (filter (has_come t) xs))
    → with_each t (cond come (one (Some x)) (one None)) xs ≡ one (least comes_before (cond come (x ∷ filter (has_come t) xs) (filter (has_come t) xs)))
none_by t x xs true rest = first_some t x xs
none_by t x xs false rest = rest

first_none : (t : ℕ) (xs : List Candidate) → with_each t nothing_found xs ≡ one (least comes_before (filter (has_come t) xs))
first_none t [] = refl
first_none t (x ∷ xs) = none_by t x xs (has_come t x) (first_none t xs)

-- the choice of a bucket with rules
pub is_choice : (bucket : BucketRecord) (t : ℕ) (kept : Findings) → kept ≡ with_each t nothing_found (eligible bucket)
    → option_map (λ (c : Candidate). c.action) kept.first ≡ choice bucket t
unfolding choice candidates
is_choice bucket t kept is = ap (λ (k : Findings). option_map (λ (c : Candidate). c.action) k.first) (is ∙ first_none t (eligible bucket))

-- and of one without
pub no_choice : (bucket : BucketRecord) (t : ℕ) → bucket.rules ≡ None → choice bucket t ≡ None
unfolding choice candidates eligible
no_choice bucket t own = rw own refl

-- ---- all of those that have come

abbrev many : List Candidate → Findings
many all = record { first = None; all = Some all }

all_by : (t : ℕ) (x : Candidate) (xs all : List Candidate) (come : Bool)
    → ((ys : List Candidate) → with_each t (many ys) xs ≡ many (ys ++ filter (has_come t) xs))
    → with_each t (cond come (many (all ++ x ∷ [])) (many all)) xs ≡ many (all ++ cond come (x ∷ filter (has_come t) xs) (filter (has_come t) xs))
all_by t x xs all true rest = rest (all ++ x ∷ []) ∙ ap many (append_assoc all (x ∷ []) (filter (has_come t) xs))
all_by t x xs all false rest = rest all

all_come : (t : ℕ) (all xs : List Candidate) → with_each t (many all) xs ≡ many (all ++ filter (has_come t) xs)
all_come t all [] = ap many (sym (append-nil all))
all_come t all (x ∷ xs) = all_by t x xs all (has_come t x) (λ ys. all_come t ys xs)

are_candidates : (bucket : BucketRecord) (t : ℕ) (kept : Findings) → kept ≡ with_each t none_of_all (eligible bucket) → kept.all ≡ Some (candidates bucket t)
unfolding candidates
are_candidates bucket t kept is = ap (λ (k : Findings). k.all) (is ∙ all_come t [] (eligible bucket))

pub all_found : (bucket : BucketRecord) (t : ℕ) (kept : Findings) (found : List Candidate) → kept ≡ with_each t none_of_all (eligible bucket)
    → found ≡ unwrap_or kept.all [] → found ≡ candidates bucket t
all_found bucket t kept found is taken = taken ∙ ap (λ (o : Option (List Candidate)). unwrap_or o []) (are_candidates bucket t kept is)
