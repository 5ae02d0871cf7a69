-- A bucket after the versions of a key changed: its order, its counts, and that nothing is due earlier.
use Rattle.std.proofs.Common.{◌≡◌, ℕ, ◌+◌, ◌<◌, ◌≤◌, List, [], ◌∷◌, length, refl, ap, false, arith, filter, flat_map}
use Rattle.std.specs.Prelude.{Option, Some, None, unwrap_or, sum_by, max, nat_lt}
use Rattle.std.specs.Str.{bytes_eq}
use Rattle.std.specs.List.{AllByRecursion}
use Rattle.std.proofs.lemmas.Bool.Decides.{nat_tests}
use Rattle.moments.specs.Time.{end_of_time}
use Rattle.office_base.specs.Maps.{bytes_cmp, at_name, with_name, without_name, with_number, without_number, Rises}
use Rattle.rules_core.specs.Matching.{is_empty, matches_upload}
use Rattle.rules_core.specs.declared.rule.Rule.{Rule}
use Rattle.rules_core.specs.Configurations.{Configuration}
use Rattle.stacks.specs.declared.version.Versioning.{Versioning}
use Rattle.stacks.specs.declared.version.Version.{Version}
use Rattle.stacks.specs.Stacks.{StackRecord, stack_of, new_stack}
use Rattle.uploads.specs.Uploads.{UploadRecord}
use Rattle.std.specs.Ordering.{nat_cmp}
use Rattle.due_core.specs.RuleActions.{Placed, placed_from, matches_version, version_actions, upload_actions}
use Rattle.due_core.specs.Candidates.{enabled_rules, timely, stack_candidates, upload_candidates, eligible_by, eligible}
use Rattle.due_core.specs.declared.action.ActionKind.{ActionKind}
use Rattle.due_core.specs.declared.action.Target.{Target}
use Rattle.due_core.specs.declared.action.Target.TheVariants as target
use Rattle.due_core.specs.Buckets.{BucketRecord}
use Rattle.due_core.specs.declared.action.Candidate.{Candidate}
use Rattle.plain_office.specs.Changes.{versions_of, with_stack, with_upload}
use Rattle.plain_office.specs.Orderly.{IsOrderlyStack, IsOrderlyUpload, IsOrderlyBucket}
use Rattle.office_laws.proofs.Lists.{every, every_append, every_parts, every_weaker, every_map, every_flat_map, each_list, added_sum, replaced_sum}
use Rattle.office_laws.proofs.Maps.{by_name, by_number, other_names, found_every, at_written, at_other, rises_written, every_written, added, replaced, removed, remove_none, every_left, rises_left}
use Rattle.office_laws.proofs.Maps.{at_removed, at_left}
use Rattle.office_laws.proofs.Versions.{Fits, fits_none, fits_stack, stack_fits, stack_later}

-- ---- a bucket with another next number, and seen later

abbrev pub HasUpload : ℕ → ℕ → ℕ × UploadRecord → Type 0
HasUpload next last upload = (upload.0 < next) × IsOrderlyUpload last upload.1

abbrev pub HasStack : Versioning → ℕ → ℕ → List ℕ × StackRecord → Type 0
HasStack versioning next last stack = IsOrderlyStack versioning next last stack.1

pub upload_later : (next more a b : ℕ) → next ≤ more → a ≤ b → (e : ℕ × UploadRecord) → HasUpload next a e → HasUpload more b e
upload_later next more a b le later e h =
    let number = h.0 in
    let changed = h.1.changed in
    (omega (arith, number, le), record { ranges_and_moments = h.1.ranges_and_moments; parts = h.1.parts; changed = omega (arith, changed, later) })

pub bucket_later : (a b : ℕ) → a ≤ b → (bucket : BucketRecord) → IsOrderlyBucket a bucket → IsOrderlyBucket b bucket
bucket_later a b later bucket h = record {
  next_version = h.next_version;
  next_upload = h.next_upload;
  rules_since = let since = h.rules_since in omega (arith, since, later);
  keys = h.keys;
  stacks = every_weaker (HasStack bucket.versioning bucket.next_version a) (HasStack bucket.versioning bucket.next_version b)
      (λ e is. stack_later bucket.versioning bucket.next_version bucket.next_version a b (omega arith) later e.1 is) bucket.stacks h.stacks;
  numbers = h.numbers;
  uploads = every_weaker (HasUpload bucket.next_upload a) (HasUpload bucket.next_upload b) (upload_later bucket.next_upload bucket.next_upload a b (omega arith) later) bucket.uploads h.uploads;
}

-- the next version gets a later number
pub numbered_later : (last more : ℕ) (bucket : BucketRecord) → bucket.next_version ≤ more → IsOrderlyBucket last bucket → IsOrderlyBucket last (record bucket { next_version = more })
numbered_later last more bucket le h = record {
  next_version = let some = h.next_version in omega (arith, some, le);
  next_upload = h.next_upload;
  rules_since = h.rules_since;
  keys = h.keys;
  stacks = every_weaker (HasStack bucket.versioning bucket.next_version last) (HasStack bucket.versioning more last)
      (λ e is. stack_later bucket.versioning bucket.next_version more last last le (omega arith) e.1 is) bucket.stacks h.stacks;
  numbers = h.numbers;
  uploads = h.uploads;
}

-- ---- the versions of a key

-- a stack that has versions stays
pub not_empty : (v : Version) (versions : List Version) → is_empty (v ∷ versions) ≡ false
not_empty v versions = grind (arith, nat_tests)

-- the bucket in which the key has these versions, changed at the moment
abbrev pub with_versions : List ℕ → ℕ → List Version → BucketRecord → BucketRecord
with_versions key at versions bucket = with_stack key (stack_of at versions) bucket

module _ (bucket : BucketRecord) (key : List ℕ) where
  -- the stack of the key, where there is one, has not changed after this moment
  abbrev pub ChangedBy : ℕ → Type 0
  ChangedBy at = (stack : StackRecord) → at_name key bucket.stacks ≡ Some stack → stack.changed ≤ at

  pub stack_orderly : (last : ℕ) → IsOrderlyBucket last bucket → (stack : StackRecord) → at_name key bucket.stacks ≡ Some stack → IsOrderlyStack bucket.versioning bucket.next_version last stack
  stack_orderly last h stack is = found_every by_name (HasStack bucket.versioning bucket.next_version last) key stack bucket.stacks h.stacks is

  pub changed_by : (last : ℕ) → IsOrderlyBucket last bucket → ChangedBy last
  changed_by last h stack is = (stack_orderly last h stack is).changed

  pub versions_are : (stack : StackRecord) → at_name key bucket.stacks ≡ Some stack → versions_of key bucket ≡ stack.versions
  versions_are stack found = ap (λ (o : Option StackRecord). (unwrap_or o (new_stack 0)).versions) found

  fits_by : (last at : ℕ) → IsOrderlyBucket last bucket → ChangedBy at → (o : Option StackRecord) → at_name key bucket.stacks ≡ o
      → Fits bucket.versioning bucket.next_version at ((unwrap_or o (new_stack 0)).versions)
  fits_by last at h by None is = fits_none bucket.versioning bucket.next_version at
  fits_by last at h by (Some stack) is = fits_stack bucket.versioning bucket.next_version last at stack (stack_orderly last h stack is) (by stack is)

  pub fits_now : (last at : ℕ) → IsOrderlyBucket last bucket → ChangedBy at → Fits bucket.versioning bucket.next_version at (versions_of key bucket)
  fits_now last at h by = fits_by last at h by (at_name key bucket.stacks) refl

  pub bucket_with : (last at : ℕ) → IsOrderlyBucket last bucket → at ≤ last → (versions : List Version) → Fits bucket.versioning bucket.next_version at versions
      → IsOrderlyBucket last (with_versions key at versions bucket)
  bucket_with last at h le [] fits = record {
    next_version = h.next_version;
    next_upload = h.next_upload;
    rules_since = h.rules_since;
    keys = rises_left by_name key bucket.stacks h.keys;
    stacks = every_left by_name key (HasStack bucket.versioning bucket.next_version last) bucket.stacks h.stacks;
    numbers = h.numbers;
    uploads = h.uploads;
  }
  bucket_with last at h le (v ∷ versions) fits =
      let stack : StackRecord = record { changed = at; versions = v ∷ versions } in
      let some = not_empty v versions in
      rw some (record {
        next_version = h.next_version;
        next_upload = h.next_upload;
        rules_since = h.rules_since;
        keys = rises_written by_name key stack bucket.stacks h.keys;
        stacks = every_written by_name key stack (HasStack bucket.versioning bucket.next_version last) bucket.stacks h.keys
            (stack_fits bucket.versioning bucket.next_version last at v versions fits le) h.stacks;
        numbers = h.numbers;
        uploads = h.uploads;
      })

  -- which versions stand there
  pub versions_here : (at : ℕ) (versions : List Version) → Rises bytes_cmp bucket.stacks → versions_of key (with_versions key at versions bucket) ≡ versions
  versions_here at [] rises = ap (λ (o : Option StackRecord). (unwrap_or o (new_stack 0)).versions) (at_removed by_name key bucket.stacks rises)
  versions_here at (v ∷ versions) rises =
      rw (not_empty v versions) (ap (λ (o : Option StackRecord). (unwrap_or o (new_stack 0)).versions)
      (at_written by_name key (record { changed = at; versions = v ∷ versions }) bucket.stacks))

  pub versions_there : (at : ℕ) (versions : List Version) (other : List ℕ) → bytes_eq other key ≡ false → versions_of other (with_versions key at versions bucket) ≡ versions_of other bucket
  versions_there at [] other differs =
      ap (λ (o : Option StackRecord). (unwrap_or o (new_stack 0)).versions) (at_left by_name key other (other_names other key differs) bucket.stacks)
  versions_there at (v ∷ versions) other differs =
      rw (not_empty v versions) (ap (λ (o : Option StackRecord). (unwrap_or o (new_stack 0)).versions)
      (at_other by_name key (record { changed = at; versions = v ∷ versions }) other (other_names other key differs) bucket.stacks))

  pub uploads_with : (at : ℕ) (versions : List Version) → (with_versions key at versions bucket).uploads ≡ bucket.uploads
  uploads_with at versions = refl

  pub rules_with : (at : ℕ) (versions : List Version) → (with_versions key at versions bucket).rules ≡ bucket.rules
  rules_with at versions = refl

  -- ---- sums over the stacks

  module _ (weight : List ℕ → List Version → ℕ) where
    -- a key without versions has no stack
    abbrev pub weight_of : List ℕ → List Version → ℕ
    weight_of name [] = 0
    weight_of name (v ∷ versions) = weight name (v ∷ versions)

    abbrev pub weigh : List ℕ × StackRecord → ℕ
    weigh stack = weight stack.0 stack.1.versions

    some_weight : (versions : List Version) → 0 < length versions → weight_of key versions ≡ weight key versions
    some_weight [] some = absurd (omega (arith, some))
    some_weight (v ∷ versions) some = refl

    weight_by : (last at : ℕ) → IsOrderlyBucket last bucket → (o : Option StackRecord) → at_name key bucket.stacks ≡ o → (versions : List Version)
        → sum_by weigh (with_versions key at versions bucket).stacks + weight_of key ((unwrap_or o (new_stack 0)).versions)
        ≡ sum_by weigh bucket.stacks + weight_of key versions
    weight_by last at h None is [] = ap (λ (l : List (List ℕ × StackRecord)). sum_by weigh l + 0) (remove_none by_name key bucket.stacks is)
    weight_by last at h None is (v ∷ versions) =
        let stack : StackRecord = record { changed = at; versions = v ∷ versions } in
        let sum = added_sum (key, stack) bucket.stacks (with_name key stack bucket.stacks) (added by_name key stack bucket.stacks is) weigh in
        rw (not_empty v versions) (omega (arith, sum))
    weight_by last at h (Some stack) is [] =
        let sum = added_sum (key, stack) (without_name key bucket.stacks) bucket.stacks (removed by_name key stack bucket.stacks is) weigh in
        let some = some_weight stack.versions (stack_orderly last h stack is).some in
        omega (arith, sum, some)
    weight_by last at h (Some stack) is (v ∷ versions) =
        let new : StackRecord = record { changed = at; versions = v ∷ versions } in
        let sum = replaced_sum (key, stack) (key, new) bucket.stacks (with_name key new bucket.stacks) (replaced by_name key new stack bucket.stacks h.keys is) weigh in
        let some = some_weight stack.versions (stack_orderly last h stack is).some in
        rw (not_empty v versions) (omega (arith, sum, some))

    pub weight_with : (last at : ℕ) → IsOrderlyBucket last bucket → (versions : List Version)
        → sum_by weigh (with_versions key at versions bucket).stacks + weight_of key (versions_of key bucket) ≡ sum_by weigh bucket.stacks + weight_of key versions
    weight_with last at h versions = weight_by last at h (at_name key bucket.stacks) refl versions

-- ---- nothing is due earlier than this moment

module _ (until : ℕ) where
  abbrev pub IsSince : Candidate → Type 0
  IsSince candidate = until ≤ candidate.action.since

  abbrev pub IsTimely : BucketRecord → Type 0
  IsTimely bucket = AllByRecursion IsSince (eligible bucket)

  late : (key : List ℕ) (goal : Target) (rule age not_before : ℕ) (asked : List (ActionKind × ℕ)) → until ≤ not_before → AllByRecursion IsSince (timely key goal rule age not_before asked)
  late key goal rule age not_before asked le =
      every_map (λ (due : ActionKind × ℕ). Unit {0}) IsSince _ (λ due _. omega (arith, le)) (filter (λ (due : ActionKind × ℕ). nat_lt due.1 end_of_time) asked)
      (every (λ (due : ActionKind × ℕ). Unit {0}) (λ due. tt) _)

  pub late_stack : (bucket : BucketRecord) (rules : Configuration) (key : List ℕ) (stack : StackRecord)
      → until ≤ max stack.changed bucket.rules_since
      → AllByRecursion IsSince (stack_candidates bucket rules (key, stack))
  late_stack bucket rules key stack le =
      every_flat_map (λ (placed : Placed). Unit {0}) IsSince _
      (λ placed _. every_flat_map (λ (numbered : ℕ × Rule). Unit {0}) IsSince _
      (λ numbered _. late key (target.Version placed.version.id) numbered.0 placed.older (max stack.changed bucket.rules_since)
      (version_actions bucket.versioning rules.mode stack.changed numbered.1 placed) le)
      (filter (λ numbered. matches_version numbered.1.filter key placed.version) (enabled_rules rules)) (every (λ (numbered : ℕ × Rule). Unit {0}) (λ numbered. tt) _))
      (placed_from 0 stack.versions) (every (λ (placed : Placed). Unit {0}) (λ placed. tt) _)

  pub late_upload : (bucket : BucketRecord) (rules : Configuration) (number : ℕ) (upload : UploadRecord)
      → until ≤ max upload.changed bucket.rules_since
      → AllByRecursion IsSince (upload_candidates bucket rules (number, upload))
  late_upload bucket rules number upload le =
      every_flat_map (λ (numbered : ℕ × Rule). Unit {0}) IsSince _
      (λ numbered _. late upload.key (target.Upload number) numbered.0 number (max upload.changed bucket.rules_since) (upload_actions numbered.1 upload) le)
      (filter (λ numbered. matches_upload numbered.1.filter upload.key) (enabled_rules rules)) (every (λ (numbered : ℕ × Rule). Unit {0}) (λ numbered. tt) _)

  -- of each stack and of each upload
  module _ (bucket : BucketRecord) (rules : Configuration) where
    abbrev StackSince : List ℕ × StackRecord → Type 0
    StackSince stack = AllByRecursion IsSince (stack_candidates bucket rules stack)

    abbrev UploadSince : ℕ × UploadRecord → Type 0
    UploadSince upload = AllByRecursion IsSince (upload_candidates bucket rules upload)

    parts_since : AllByRecursion IsSince (eligible_by bucket (Some rules)) → AllByRecursion StackSince bucket.stacks × AllByRecursion UploadSince bucket.uploads
    parts_since h =
        let parts = every_parts IsSince (flat_map (stack_candidates bucket rules) bucket.stacks) (flat_map (upload_candidates bucket rules) bucket.uploads) h in
        (each_list IsSince (stack_candidates bucket rules) bucket.stacks parts.0, each_list IsSince (upload_candidates bucket rules) bucket.uploads parts.1)

    since_parts : (stacks : List (List ℕ × StackRecord)) (uploads : List (ℕ × UploadRecord)) → AllByRecursion StackSince stacks → AllByRecursion UploadSince uploads
        → AllByRecursion IsSince (eligible_by (record bucket { stacks = stacks; uploads = uploads }) (Some rules))
    since_parts stacks uploads h k =
        every_append IsSince (flat_map (stack_candidates bucket rules) stacks) (flat_map (upload_candidates bucket rules) uploads)
        (every_flat_map StackSince IsSince (stack_candidates bucket rules) (λ stack is. is) stacks h)
        (every_flat_map UploadSince IsSince (upload_candidates bucket rules) (λ upload is. is) uploads k)

  -- the rules changed
  pub timely_rules : (bucket : BucketRecord) → until ≤ bucket.rules_since → IsTimely bucket
  unfolding eligible
  timely_rules bucket le = by bucket.rules where
    by : (rules : Option Configuration) → AllByRecursion IsSince (eligible_by bucket rules)
    by None = tt
    by (Some rules) = since_parts bucket rules bucket.stacks bucket.uploads
        (every (StackSince bucket rules) (λ stack. late_stack bucket rules stack.0 stack.1 (omega (arith, le))) bucket.stacks)
        (every (UploadSince bucket rules) (λ upload. late_upload bucket rules upload.0 upload.1 (omega (arith, le))) bucket.uploads)

  -- the versions of a key changed
  pub timely_with : (bucket : BucketRecord) (key : List ℕ) (at : ℕ) (versions : List Version)
      → Rises bytes_cmp bucket.stacks → until ≤ at → IsTimely bucket → IsTimely (with_versions key at versions bucket)
  unfolding eligible
  timely_with bucket key at [] rises le h = by bucket.rules h where
    by : (rules : Option Configuration) → AllByRecursion IsSince (eligible_by bucket rules) → AllByRecursion IsSince (eligible_by (record bucket { stacks = without_name key bucket.stacks }) rules)
    by None h = tt
    by (Some rules) h =
        let parts = parts_since bucket rules h in
        since_parts bucket rules (without_name key bucket.stacks) bucket.uploads (every_left by_name key (StackSince bucket rules) bucket.stacks parts.0) parts.1
  timely_with bucket key at (v ∷ versions) rises le h = rw (not_empty v versions) (by bucket.rules h) where
    by : (rules : Option Configuration) → AllByRecursion IsSince (eligible_by bucket rules)
        → AllByRecursion IsSince (eligible_by (record bucket { stacks = with_name key (record { changed = at; versions = v ∷ versions }) bucket.stacks }) rules)
    by None h = tt
    by (Some rules) h =
        let parts = parts_since bucket rules h in
        since_parts bucket rules (with_name key (record { changed = at; versions = v ∷ versions }) bucket.stacks) bucket.uploads
        (every_written by_name key (record { changed = at; versions = v ∷ versions }) (StackSince bucket rules) bucket.stacks rises
        (late_stack bucket rules key (record { changed = at; versions = v ∷ versions }) (omega (arith, le))) parts.0) parts.1

  -- an upload came or changed
  pub timely_upload : (bucket : BucketRecord) (number : ℕ) (upload : UploadRecord) → Rises nat_cmp bucket.uploads
      → until ≤ upload.changed → IsTimely bucket → IsTimely (with_upload number upload bucket)
  unfolding eligible
  timely_upload bucket number upload rises le h = by bucket.rules h where
    by : (rules : Option Configuration) → AllByRecursion IsSince (eligible_by bucket rules) → AllByRecursion IsSince (eligible_by (with_upload number upload bucket) rules)
    by None h = tt
    by (Some rules) h =
        let parts = parts_since bucket rules h in
        since_parts bucket rules bucket.stacks (with_number number upload bucket.uploads) parts.0
        (every_written by_number number upload (UploadSince bucket rules) bucket.uploads rises (late_upload bucket rules number upload (omega (arith, le))) parts.1)

  -- an upload went
  pub timely_without : (bucket : BucketRecord) (number : ℕ) → IsTimely bucket → IsTimely (record bucket { uploads = without_number number bucket.uploads })
  unfolding eligible
  timely_without bucket number h = by bucket.rules h where
    by : (rules : Option Configuration) → AllByRecursion IsSince (eligible_by bucket rules)
        → AllByRecursion IsSince (eligible_by (record bucket { uploads = without_number number bucket.uploads }) rules)
    by None h = tt
    by (Some rules) h =
        let parts = parts_since bucket rules h in
        since_parts bucket rules bucket.stacks (without_number number bucket.uploads) parts.0 (every_left by_number number (UploadSince bucket rules) bucket.uploads parts.1)

  -- the next numbers tell nothing of what is due
  pub timely_numbered : (bucket : BucketRecord) (version upload : ℕ) → IsTimely bucket → IsTimely (record bucket { next_version = version; next_upload = upload })
  unfolding eligible
  timely_numbered bucket version upload h = by bucket.rules h where
    by : (rules : Option Configuration) → AllByRecursion IsSince (eligible_by bucket rules)
        → AllByRecursion IsSince (eligible_by (record bucket { next_version = version; next_upload = upload }) rules)
    by None h = tt
    by (Some rules) h = h
