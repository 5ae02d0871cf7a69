-- What is under a key of a bucket's stacks, and what a version that goes from there takes away.
use Rattle.std.proofs.Common.{◌≡◌, ℕ, ◌+◌, ◌≤◌, ◌<◌, List, [], ◌∷◌, length, refl, subst, Bool, true, false, cond, arith}
use Rattle.std.specs.Prelude.{Option, Some, None, is_some, unwrap_or, option_map, sum_by, ◌==◌}
use Rattle.std.specs.List.{list_all, filter}
use Rattle.std.proofs.lemmas.Bool.{and_parts}
use Rattle.std.proofs.lemmas.Bool.Decides.{nat_tests}
use Rattle.office_base.specs.Maps.{at_name}
use Rattle.office_base.specs.declared.version_id.VersionId.{VersionId}
use Rattle.stacks.specs.Stacks.{StackRecord, new_stack, version_at, ids_differ, has_moments_until}
use Rattle.stacks.specs.declared.version.Version.{Version}
use Rattle.due_core.specs.Buckets.{BucketRecord}
use Rattle.plain_office.specs.Office.{Books, of_version}
use Rattle.plain_office.specs.Books.{is_open_stay}
use Rattle.plain_office.specs.Counts.{tag_bytes_of}
use Rattle.plain_office.specs.Orderly.{IsOrderlyBucket, HasOpenStays, stay_of_version}
use Rattle.office_laws.proofs.Buckets.{stack_orderly, weight_of}
use Rattle.office_laws.proofs.OneStay.{version_stands}
use Rattle.office_laws.proofs.Versions.{found_id}
use Rattle.bucket_account.specs.Booking.{leaving_of, MayHaveStay, gone_versions, gone_bytes, stack_under, new_bytes, lost_bytes}
use Rattle.bucket_account.proofs.Replacing.{of_option}

-- what goes, by its bytes and by its number
pub bytes_of : (o : Option Version) → gone_bytes (option_map leaving_of o) ≡ of_option tag_bytes_of o
bytes_of None = refl
bytes_of (Some v) = refl

pub number_of : (o : Option Version) → gone_versions (option_map leaving_of o) ≡ of_option (λ v. 1) o
number_of None = refl
number_of (Some v) = refl

pub gone_most : (o : Option Version) → gone_versions (option_map leaving_of o) ≤ 1
gone_most None = omega arith
gone_most (Some v) = omega arith

pub same_tags : (at : ℕ) (v : Version) → tag_bytes_of (record v { ceased = at }) ≡ tag_bytes_of v
same_tags at v = refl

-- ---- under a key

module _ (b : BucketRecord) (books : Books) (key : List ℕ) (stays : HasOpenStays (record { bucket = b; books = books })) (id : VersionId) where
  stay_by : (o : Option Version) → version_at id (stack_under key b.stacks).versions ≡ o → MayHaveStay key o books
  stay_by None is = tt
  stay_by (Some v) is =
      subst (λ (i : VersionId). filter (is_open_stay key (of_version i)) books.stays ≡ stay_of_version key v ∷ [])
      (found_id id (stack_under key b.stacks).versions v is) (version_stands key (record { bucket = b; books = books }) id v stays is)

  -- a version's open stay is the one that its record asks for
  pub stay_under : MayHaveStay key (version_at id (stack_under key b.stacks).versions) books
  stay_under = stay_by (version_at id (stack_under key b.stacks).versions) refl

module _ (b : BucketRecord) (key : List ℕ) (last : ℕ) (orderly : IsOrderlyBucket last b) where
  ids_by : (o : Option StackRecord) → at_name key b.stacks ≡ o → ids_differ (unwrap_or o (new_stack 0)).versions ≡ true
  ids_by None is = refl
  ids_by (Some stack) is =
      let s = stack_orderly b key last orderly stack is in
      (and_parts (ids_differ stack.versions) (list_all (has_moments_until stack.changed) stack.versions) s.ids_and_moments).0

  pub ids_under : ids_differ (stack_under key b.stacks).versions ≡ true
  ids_under = ids_by (at_name key b.stacks) refl

-- ---- what a key weighs

abbrev pub by_length : List ℕ → List Version → ℕ
by_length name versions = length versions

abbrev pub by_names : List ℕ → List Version → ℕ
by_names name versions = length name + sum_by tag_bytes_of versions

module _ (b : BucketRecord) (key : List ℕ) where
  pub length_weight : (vs : List Version) → weight_of b key by_length key vs ≡ length vs
  length_weight [] = refl
  length_weight (v ∷ vs) = refl

  pub names_by : (last : ℕ) → IsOrderlyBucket last b → (o : Option StackRecord) → at_name key b.stacks ≡ o
      → weight_of b key by_names key (unwrap_or o (new_stack 0)).versions + new_bytes key b.stacks ≡ length key + sum_by tag_bytes_of (unwrap_or o (new_stack 0)).versions
  names_by last orderly None is = rw is (omega arith)
  names_by last orderly (Some stack) is = with_some stack.versions (stack_orderly b key last orderly stack is).some where
    with_some : (vs : List Version) → 0 < length vs → weight_of b key by_names key vs + new_bytes key b.stacks ≡ length key + sum_by tag_bytes_of vs
    with_some [] few = absurd (omega (arith, few))
    with_some (v ∷ vs) many = rw is (omega arith)

  pub new_most : new_bytes key b.stacks ≤ length key
  new_most = by (is_some (at_name key b.stacks)) where
    by : (c : Bool) → cond c 0 (length key) ≤ length key
    by true = omega arith
    by false = omega arith

  pub names_some : (vs : List Version) → 0 < length vs → weight_of b key by_names key vs ≡ length key + sum_by tag_bytes_of vs
  names_some [] few = absurd (omega (arith, few))
  names_some (v ∷ vs) many = refl

  -- those that are left, after one of these went
  pub names_left : (vs left : List Version) → length left + 1 ≡ length vs → weight_of b key by_names key left + lost_bytes key vs ≡ length key + sum_by tag_bytes_of left
  names_left vs [] few =
      let one : (length vs == 1) ≡ true = grind (arith, nat_tests) in
      rw one (omega arith)
  names_left vs (v ∷ left) few =
      let many : (length vs == 1) ≡ false = grind (arith, nat_tests) in
      rw many (omega arith)
