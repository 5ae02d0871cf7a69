-- A bucket after an object moved to another class.
use Rattle.std.proofs.Common.{◌≡◌, ℕ, ◌≤◌, ◌<◌, List, [], ◌∷◌, length, refl, ap, sym, ◌∙◌, subst, false, cond, arith}
use Rattle.std.specs.Prelude.{Option, Some, None, Ok, unwrap_or}
use Rattle.std.proofs.lemmas.List.{length-map}
use Rattle.office_base.specs.Maps.{at_name, with_name}
use Rattle.office_base.specs.declared.version_id.VersionId.{VersionId}
use Rattle.class_rules.specs.declared.class.Class.{Class}
use Rattle.rules_core.specs.Matching.{is_empty}
use Rattle.stacks.specs.Stacks.{StackRecord, new_stack, has_id, version_at, changed_at, with_class, after_move}
use Rattle.stacks.specs.declared.version.Version.{Version}
use Rattle.accrual.specs.Totals.{Totals, AreTotalsOf}
use Rattle.due_core.specs.Buckets.{BucketRecord}
use Rattle.plain_office.specs.Office.{Account, Books, book_of}
use Rattle.plain_office.specs.Changes.{stacks_with, books_moved, move_version}
use Rattle.office_types.specs.declared.refusal.What.TheVariants.{Buckets, Versions, Uploads, Parts, Names, Rules, Tariffs}
use Rattle.office_laws.proofs.Buckets.{stack_orderly, weight_with, not_empty}
use Rattle.office_laws.proofs.Versions.{tags_moved}
use Rattle.bucket_account.specs.declared.counts.Counts.{Counts}
use Rattle.bucket_account.specs.Booking.{MayHaveStay, stack_under}
use Rattle.bucket_account.specs.Counting.{account_of, HaveMoved}
use Rattle.bucket_account.specs.Effects.{IsReadyAt, DoesEffect}
use Rattle.bucket_account.specs.Moving.{IsAnObject, IsMovable}
use Rattle.bucket_account.specs.Standing.{StandsForAccount}
use Rattle.bucket_account.proofs.Removals.{stack_kept}
use Rattle.bucket_account.proofs.Replacing.{since_at}
use Rattle.bucket_account.proofs.Under.{stay_under, by_length, by_names, length_weight, names_some}

some_versions : (id : VersionId) (versions : List Version) → IsAnObject (version_at id versions) → 0 < length versions
some_versions id [] there = absurd there
some_versions id (v ∷ versions) there = omega arith

still_some : (id : VersionId) (change : Version → Version) (versions : List Version) → 0 < length versions → is_empty (changed_at id change versions) ≡ false
still_some id change [] some = absurd (omega (arith, some))
still_some id change (v ∷ versions) some = not_empty (cond (has_id id v) (change v) v) (changed_at id change versions)

module _ (b : BucketRecord) (books : Books) (key : List ℕ) (id : VersionId) (to : Class) (at : ℕ)
    (orderly : IsReadyAt key at (record { bucket = b; books = books }))
    (there : IsAnObject (version_at id (stack_under key b.stacks).versions)) where
  abbrev account : Account
  account = record { bucket = b; books = books }

  abbrev versions : List Version
  versions = (stack_under key b.stacks).versions

  abbrev moved : List Version
  moved = changed_at id (with_class to at) versions

  movable_by : (o : Option StackRecord) → at_name key b.stacks ≡ o
      → IsAnObject (version_at id (unwrap_or o (new_stack 0)).versions) → (unwrap_or o (new_stack 0)).changed ≤ at
      → IsMovable id at (unwrap_or o (new_stack 0))
  movable_by None is here later = absurd here
  movable_by (Some stack) is here later = record {
    there = here;
    later = later;
    since = since_at stack.changed at stack.versions (stack_orderly b key orderly.last orderly.bucket stack is).ids_and_moments later id;
  }

  pub movable : IsMovable id at (stack_under key b.stacks)
  movable = movable_by (at_name key b.stacks) refl there orderly.changed

  pub has_stay : MayHaveStay key (version_at id versions) books
  has_stay = stay_under b books key orderly.stays id

  -- ---- the counts stay

  some : 0 < length versions
  some = some_versions id versions there

  same_length : length moved ≡ length versions
  same_length = length-map versions _

  abbrev after : BucketRecord
  after = (move_version key id to at account).bucket

  pub counts_stay : (counts : Counts) → HaveMoved b after counts counts
  counts_stay counts Buckets = refl
  counts_stay counts Versions =
      let sum = weight_with b key by_length orderly.last at orderly.bucket moved in
      let before = length_weight b key versions in
      let left = length_weight b key moved in
      let same = same_length in
      omega (arith, sum, before, left, same)
  counts_stay counts Uploads = refl
  counts_stay counts Parts = refl
  counts_stay counts Names =
      let sum = weight_with b key by_names orderly.last at orderly.bucket moved in
      let many = some in
      let same = same_length in
      let before = names_some b key versions many in
      let left = names_some b key moved (omega (arith, many, same)) in
      let tags = tags_moved id to at versions in
      omega (arith, sum, before, left, tags)
  counts_stay counts Rules = refl
  counts_stay counts Tariffs = refl

  -- ---- what the bucket stands for

  pub move_done : (stacks : List (List ℕ × StackRecord)) → stacks ≡ with_name key (after_move id to at (stack_under key b.stacks)) b.stacks
      → (meters : Totals) → AreTotalsOf meters (book_of (books_moved key (version_at id versions) to at books)) → (counts : Counts)
      → DoesEffect [] (move_version key id to at) account counts (account_of (record b { stacks = stacks }) meters) (Ok counts)
  move_done stacks written meters stands counts = (standing, counts_stay counts, refl) where
    set : stacks ≡ stacks_with key (after_move id to at (stack_under key b.stacks)) b.stacks
    set = written ∙ stack_kept key (after_move id to at (stack_under key b.stacks)) b.stacks false refl (sym (still_some id (with_class to at) versions some))

    standing : StandsForAccount (account_of (record b { stacks = stacks }) meters) (move_version key id to at account)
    standing = record { bucket = ap (λ (l : List (List ℕ × StackRecord)). record b { stacks = l }) set; meters = stands }

-- ---- of any account that the bucket stands for

module _ (b : BucketRecord) (of : Account) (same : b ≡ of.bucket) (key : List ℕ) (id : VersionId) (to : Class) (at : ℕ)
    (there : IsAnObject (version_at id (stack_under key b.stacks).versions)) (orderly : IsReadyAt key at of) where
  here : IsReadyAt key at (record { bucket = b; books = of.books })
  here = subst (λ (x : BucketRecord). IsReadyAt key at (record { bucket = x; books = of.books })) (sym same) orderly

  pub movable_for : IsMovable id at (stack_under key b.stacks)
  movable_for = movable b of.books key id to at here there

  pub stay_for : MayHaveStay key (version_at id (stack_under key b.stacks).versions) of.books
  stay_for = has_stay b of.books key id to at here there

  pub done_for : (stacks : List (List ℕ × StackRecord)) → stacks ≡ with_name key (after_move id to at (stack_under key b.stacks)) b.stacks
      → (meters : Totals) → AreTotalsOf meters (book_of (books_moved key (version_at id (stack_under key b.stacks).versions) to at of.books)) → (counts : Counts)
      → DoesEffect [] (move_version key id to at) of counts (account_of (record b { stacks = stacks }) meters) (Ok counts)
  done_for stacks written meters stands counts =
      subst (λ (x : BucketRecord). DoesEffect [] (move_version key id to at) (record { bucket = x; books = of.books }) counts (account_of (record b { stacks = stacks }) meters) (Ok counts)) same
      (move_done b of.books key id to at here there stacks written meters stands counts)
