-- An action that fits its bucket decreases the remaining work, and keeps the bucket tidy.
use Rattle.std.proofs.Common.{◌≡◌, ℕ, ◌+◌, ◌<◌, List, [], ◌∷◌, ◌++◌, refl, sym, ap, ◌∙◌, subst, true, arith, sum_by}
use Rattle.std.specs.Prelude.{Option, Some, None, is_some}
use Rattle.std.specs.List.{AllByRecursion}
use Rattle.office_base.specs.Maps.{at_name, with_name, without_name, at_number, without_number, bytes_cmp, Rises}
use Rattle.stacks.specs.Stacks.{ids_differ, without, changed_at, with_class}
use Rattle.class_rules.specs.declared.class.Class.{Class}
use Rattle.office_base.specs.declared.version_id.VersionId.{VersionId}
use Rattle.stacks.specs.declared.version.Kind.TheVariants as kind
use Rattle.stacks.specs.declared.version.Version.{Version}
use Rattle.stacks.specs.Stacks.{StackRecord, stack_of}
use Rattle.uploads.specs.Uploads.{UploadRecord}
use Rattle.due_core.specs.declared.action.Action.{Action}
use Rattle.due_core.specs.declared.action.ActionKind.{ActionKind}
use Rattle.due_core.specs.declared.action.ActionKind.TheVariants as action
use Rattle.due_core.specs.declared.action.Target.{Target}
use Rattle.due_core.specs.declared.action.Target.TheVariants as target
use Rattle.due_core.specs.Buckets.{BucketRecord}
use Rattle.plain_office.specs.Office.{Account}
use Rattle.plain_office.specs.Changes.{next_id, add_version, remove_version, move_version, remove_upload_at, effect}
use Rattle.office_laws.proofs.Work.{stack_work, bucket_work, work_left, IsTidy}
use Rattle.office_laws.proofs.Buckets.{not_empty, with_versions, versions_are}
use Rattle.office_laws.proofs.Lists.{added_length, added_sum, replaced_sum}
use Rattle.office_laws.proofs.Maps.{by_name, by_number, found_every, rises_written, rises_left, every_written, every_left, replaced, removed}
use Rattle.office_laws.proofs.Ids.{adding, without_one, changed_one, differ_without, differ_added, differ_moved}
use Rattle.office_laws.proofs.Lowers.{work, remove_lowers, move_lowers, marker_lowers}
use Rattle.office_laws.proofs.Asked.{HasPlace, Suits, SuitsAction}

-- ---- new versions of a key

module _ (bucket : BucketRecord) (tidy : IsTidy bucket) (key : List ℕ) (at : ℕ) where
  abbrev Differ : List ℕ × StackRecord → Type 0
  Differ stack = ids_differ stack.1.versions ≡ true

  abbrev work_of : List ℕ × StackRecord → ℕ
  work_of stack = stack_work stack.1

  keys_rise : (versions : List Version) → Rises bytes_cmp (with_versions key at versions bucket).stacks
  keys_rise [] = rises_left by_name key bucket.stacks tidy.keys
  keys_rise (v ∷ versions) = rw (not_empty v versions) (rises_written by_name key (stack_of at (v ∷ versions)) bucket.stacks tidy.keys)

  all_differ : (versions : List Version) → ids_differ versions ≡ true → AllByRecursion Differ (with_versions key at versions bucket).stacks
  all_differ [] differ = every_left by_name key Differ bucket.stacks tidy.ids
  all_differ (v ∷ versions) differ =
      rw (not_empty v versions) (every_written by_name key (stack_of at (v ∷ versions)) Differ bucket.stacks tidy.keys differ tidy.ids)

  stacks_work : (stack : StackRecord) (versions : List Version) → at_name key bucket.stacks ≡ Some stack
      → sum_by work_of (with_versions key at versions bucket).stacks + work stack.versions ≡ sum_by work_of bucket.stacks + work versions
  stacks_work stack [] found =
      let sum = added_sum (key, stack) (without_name key bucket.stacks) bucket.stacks (removed by_name key stack bucket.stacks found) work_of in
      omega (arith, sum)
  stacks_work stack (v ∷ versions) found =
      let new = stack_of at (v ∷ versions) in
      let sum = replaced_sum (key, stack) (key, new) bucket.stacks (with_name key new bucket.stacks) (replaced by_name key new stack bucket.stacks tidy.keys found) work_of in
      rw (not_empty v versions) (omega (arith, sum))

  pub falls : (stack : StackRecord) (versions : List Version) → at_name key bucket.stacks ≡ Some stack → work versions < work stack.versions
      → bucket_work (with_versions key at versions bucket) < bucket_work bucket
  falls stack versions found less = omega (arith, stacks_work stack versions found)

  pub stays_tidy : (versions : List Version) → ids_differ versions ≡ true → IsTidy (with_versions key at versions bucket)
  stays_tidy versions differ = record { keys = keys_rise versions; numbers = tidy.numbers; ids = all_differ versions differ }

  pub found_differ : (stack : StackRecord) → at_name key bucket.stacks ≡ Some stack → ids_differ stack.versions ≡ true
  found_differ stack found = found_every by_name Differ key stack bucket.stacks tidy.ids found

-- ---- the actions on a version

module _ (stack : StackRecord) (id : VersionId) (differ : ids_differ stack.versions ≡ true) where
  remove_here : HasPlace stack.versions action.Remove id → work (without id stack.versions) < work stack.versions
  remove_here place =
      let v = place.version in
      let parts : ids_differ (place.front ++ v ∷ place.back) ≡ true = rw (sym place.is) differ in
      let after : without id stack.versions ≡ place.front ++ place.back =
      ap (λ (i : VersionId). without i stack.versions) (sym place.same) ∙ ap (λ (vs : List Version). without v.id vs) place.is ∙ without_one place.front v place.back parts in
      let less = remove_lowers place.front v.kind v.id v.created v.ceased place.back place.fits in
      subst (λ (vs : List Version). work (without id stack.versions) < work vs) (sym place.is)
      (subst (λ (vs : List Version). work vs < work (place.front ++ v ∷ place.back)) (sym after) less)

  move_here : (to : Class) (at : ℕ) → HasPlace stack.versions (action.Transition to) id → work (changed_at id (with_class to at) stack.versions) < work stack.versions
  move_here to at place =
      let v = place.version in
      let parts : ids_differ (place.front ++ v ∷ place.back) ≡ true = rw (sym place.is) differ in
      let after : changed_at id (with_class to at) stack.versions ≡ place.front ++ with_class to at v ∷ place.back =
      ap (λ (i : VersionId). changed_at i (with_class to at) stack.versions) (sym place.same) ∙ ap (λ (vs : List Version). changed_at v.id (with_class to at) vs) place.is
      ∙ changed_one (with_class to at) place.front v place.back parts in
      let less = move_lowers to at place.front v.kind v.id v.created v.ceased place.back place.fits in
      subst (λ (vs : List Version). work (changed_at id (with_class to at) stack.versions) < work vs) (sym place.is)
      (subst (λ (vs : List Version). work vs < work (place.front ++ v ∷ place.back)) (sym after) less)

  -- here it does not matter whether the ids differ
  marker_here : (new : VersionId) (at : ℕ) → HasPlace stack.versions action.Marker id → work (adding new kind.Marker at stack.versions) < work stack.versions
  marker_here new at place =
      let v = place.version in
      subst (λ (vs : List Version). work (adding new kind.Marker at vs) < work vs) (sym place.is)
      (marker_lowers new at place.front v.kind v.id v.created v.ceased place.back place.fits)

-- ---- the effect

-- less work, and still tidy
abbrev pub IsLess : Account → Account → Type 0
IsLess after before = (work_left after < work_left before) × IsTidy after.bucket

module _ (account : Account) (tidy : IsTidy account.bucket) (key : List ℕ) (rule since : ℕ) where
  remove_less : (id : VersionId) → Suits account.bucket key action.Remove (target.Version id) → IsLess (remove_version key id since account) account
  remove_less id suits =
      let stack = suits.0 in
      let differ = found_differ account.bucket tidy key since stack suits.1 in
      rw (versions_are account.bucket key stack suits.1) (
        falls account.bucket tidy key since stack (without id stack.versions) suits.1 (remove_here stack id differ suits.2),
        stays_tidy account.bucket tidy key since (without id stack.versions) (differ_without id stack.versions differ),
      )

  move_less : (id : VersionId) (to : Class) → Suits account.bucket key (action.Transition to) (target.Version id) → IsLess (move_version key id to since account) account
  move_less id to suits =
      let stack = suits.0 in
      let differ = found_differ account.bucket tidy key since stack suits.1 in
      rw (versions_are account.bucket key stack suits.1) (
        falls account.bucket tidy key since stack (changed_at id (with_class to since) stack.versions) suits.1 (move_here stack id differ to since suits.2),
        stays_tidy account.bucket tidy key since (changed_at id (with_class to since) stack.versions) (differ_moved id to since stack.versions ∙ differ),
      )

  marker_less : (id : VersionId) → Suits account.bucket key action.Marker (target.Version id) → IsLess (add_version key kind.Marker since account) account
  marker_less id suits =
      let stack = suits.0 in
      let new = next_id account.bucket in
      let differ = found_differ account.bucket tidy key since stack suits.1 in
      let after = adding new kind.Marker since stack.versions in
      let still = stays_tidy account.bucket tidy key since after (differ_added new kind.Marker since stack.versions differ) in
      rw (versions_are account.bucket key stack suits.1) (
        falls account.bucket tidy key since stack after suits.1 (marker_here stack id differ new since suits.2),
        record { keys = still.keys; numbers = still.numbers; ids = still.ids },
      )

  abort_less : (number : ℕ) → is_some (at_number number account.bucket.uploads) ≡ true → IsLess (remove_upload_at number since account) account
  abort_less number some = by (at_number number account.bucket.uploads) refl where
    by : (o : Option UploadRecord) → at_number number account.bucket.uploads ≡ o → IsLess (remove_upload_at number since account) account
    by None is = absurd (cc)
    by (Some upload) is =
        let gone = added_length (number, upload) (without_number number account.bucket.uploads) account.bucket.uploads (removed by_number number upload account.bucket.uploads is) in
        rw is (omega (arith, gone), record { keys = tidy.keys; numbers = rises_left by_number number account.bucket.uploads tidy.numbers; ids = tidy.ids })

  no_version_abort : (kind : ActionKind) (number : ℕ) → kind ≡ action.Abort → is_some (at_number number account.bucket.uploads) ≡ true
      → IsLess (effect (record { kind = kind; key = key; target = target.Upload number; rule = rule; since = since }) account) account
  unfolding effect
  no_version_abort action.Remove number is some = absurd (cc)
  no_version_abort (action.Transition to) number is some = absurd (cc)
  no_version_abort action.Marker number is some = absurd (cc)
  no_version_abort action.Abort number is some = abort_less number some

  done_less : (kind : ActionKind) (goal : Target) → Suits account.bucket key kind goal
      → IsLess (effect (record { kind = kind; key = key; target = goal; rule = rule; since = since }) account) account
  unfolding effect
  done_less action.Remove (target.Version id) suits = remove_less id suits
  done_less (action.Transition to) (target.Version id) suits = move_less id to suits
  done_less action.Marker (target.Version id) suits = marker_less id suits
  done_less action.Abort (target.Version id) suits = absurd suits.2.fits
  done_less kind (target.Upload number) suits = no_version_abort kind number suits.0 suits.1

pub effect_lowers : (account : Account) → IsTidy account.bucket → (chosen : Action) → SuitsAction account.bucket chosen → IsLess (effect chosen account) account
effect_lowers account tidy chosen suits = done_less account tidy chosen.key chosen.rule chosen.since chosen.kind chosen.target suits
