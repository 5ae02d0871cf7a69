-- The index has one entry for each key and each upload of its bucket that has an action.
use Rattle.std.proofs.Common.{◌≡◌, ℕ, ◌+◌, ◌≤◌, List, [], ◌∷◌, length, refl, sym, ap, ◌∙◌, Bool, true, false, cond, ◌&&◌, filter, arith}
use Rattle.std.specs.Prelude.{Option, Some, None, is_some, IsTrue}
use Rattle.std.specs.Cmp.{IsTotalOrder, IsEquivalence}
use Rattle.std.specs.Map.{lookup, keys_of}
use Rattle.std.specs.BTreeMap.{is_at}
use Rattle.std.specs.List.{AllByRecursion}
use Rattle.std.specs.List.Sorted.{IsStrictlySortedBy}
use Rattle.std.specs.declared.cmp.Ordering.{Ordering}
use Rattle.std.specs.declared.cmp.Ordering.TheVariants.{Less, Equal, Greater}
use Rattle.std.specs.Ordering.{nat_cmp, is_lt, eq_by_cmp}
use Rattle.std.specs.FinMap.{nat_cmp-IsAntisymmetric}
use Rattle.std.proofs.lemmas.Cmp.{nat_list_cmp_total, nat_cmp_total, eq_by_cmp_equiv}
use Rattle.std.proofs.lemmas.List.Kept.{IsStrictlySortedBy-filter}
use Rattle.std.proofs.lemmas.Map.Keys.{IsDistinct-from_sorted}
use Rattle.std.proofs.lemmas.Map.Entries.{length-keys_of}
use Rattle.std.proofs.lemmas.Map.Made.{is_member-filter, is_some-lookup, length-from_same_keys}
use Rattle.office_base.specs.Maps.{bytes_cmp, at_name, at_number, Rises}
use Rattle.stacks.specs.Stacks.{StackRecord}
use Rattle.uploads.specs.Uploads.{UploadRecord}
use Rattle.due_core.specs.Buckets.{BucketRecord}
use Rattle.due_index.specs.Firsts.{first_on_key, first_on_upload, entry_count}
use Rattle.due_index.specs.Actions.{ActionsRecord, slot_of, IsTied, IsBucket, ActionsStand}
use Rattle.due_index.proofs.Chosen.{same_name, equal_is}
use Rattle.due_index.proofs.Building.{no_stack, no_upload}

-- ---- two maps of which the one has the keys of the other that pass a test

less_is : (o : Ordering) → is_lt o ≡ true → o ≡ Less
less_is Less is = refl
less_is Equal is = absurd cc
less_is Greater is = absurd cc

above : {K Y : Type 0} (cmp : K → K → Ordering) (k : K) (es : List (K × Y)) → AllByRecursion (λ other. IsTrue (is_lt (cmp k other.0))) es
    → AllByRecursion (λ y. cmp k y ≡ Less) (keys_of es)
above cmp k [] all = tt
above cmp k (e ∷ es) all = (less_is (cmp k e.0) all.0, above cmp k es all.1)

sorted_of : {K Y : Type 0} (cmp : K → K → Ordering) (es : List (K × Y)) → Rises cmp es → IsStrictlySortedBy cmp (keys_of es)
unfolding IsStrictlySortedBy
sorted_of cmp [] rise = tt
sorted_of cmp (e ∷ es) rise = (above cmp e.0 es rise.0, sorted_of cmp es rise.1)

module _ {K X Y : Type 0} (cmp : K → K → Ordering) (total : IsTotalOrder cmp) (same : (a b : K) → cmp a b ≡ Equal → a ≡ b) where
  counted : (xs : List (K × X)) (es : List (K × Y)) (p : K → Bool) → IsStrictlySortedBy cmp (keys_of xs) → Rises cmp es
      → ((q : K) → is_some (lookup (is_at (cmp q)) xs) ≡ (is_some (lookup (is_at (cmp q)) es) && p q)) → length xs ≡ length (filter p (keys_of es))
  counted xs es p sorted rise match_at =
      let laws : IsEquivalence (eq_by_cmp cmp) = eq_by_cmp_equiv total in
      sym (length-keys_of xs)
      ∙ length-from_same_keys laws (keys_of xs) (filter p (keys_of es)) (IsDistinct-from_sorted cmp (keys_of xs) sorted)
      (IsDistinct-from_sorted cmp (filter p (keys_of es)) (IsStrictlySortedBy-filter cmp p (keys_of es) (sorted_of cmp es rise)))
      (λ q. sym (is_some-lookup (is_at (cmp q)) xs) ∙ match_at q ∙ ap (λ b. b && p q) (is_some-lookup (is_at (cmp q)) es)
      ∙ sym (is_member-filter laws p q (λ x is. ap p (same q x (equal_is (cmp q x) is))) (keys_of es)))

-- ---- the index has the keys and uploads on which there is an action

module _ (index : ActionsRecord) (bucket : BucketRecord) (tied : IsTied index) (stands : ActionsStand index bucket) where
  key_held : (key : List ℕ) (o : Option ℕ) → at_name key index.keys ≡ o → is_some o ≡ is_some (slot_of o index.slots)
  key_held key None is = refl
  key_held key (Some slot) is = ap is_some (sym (tied.keys key slot is).there)

  key_asked : (key : List ℕ) (s : Option StackRecord) → at_name key bucket.stacks ≡ s
      → is_some (first_on_key bucket key) ≡ (is_some s && is_some (first_on_key bucket key))
  key_asked key None is = ap is_some (no_stack bucket key is)
  key_asked key (Some stack) is = refl

  key_counts : (key : List ℕ) → is_some (at_name key index.keys) ≡ (is_some (at_name key bucket.stacks) && is_some (first_on_key bucket key))
  key_counts key = key_held key (at_name key index.keys) refl ∙ ap is_some (stands.keys key) ∙ key_asked key (at_name key bucket.stacks) refl

  upload_held : (number : ℕ) (o : Option ℕ) → at_number number index.uploads ≡ o → is_some o ≡ is_some (slot_of o index.slots)
  upload_held number None is = refl
  upload_held number (Some slot) is = ap is_some (sym (tied.uploads number slot is).there)

  upload_asked : (number : ℕ) (s : Option UploadRecord) → at_number number bucket.uploads ≡ s
      → is_some (first_on_upload bucket number) ≡ (is_some s && is_some (first_on_upload bucket number))
  upload_asked number None is = ap is_some (no_upload bucket number is)
  upload_asked number (Some upload) is = refl

  upload_counts : (number : ℕ) → is_some (at_number number index.uploads) ≡ (is_some (at_number number bucket.uploads) && is_some (first_on_upload bucket number))
  upload_counts number = upload_held number (at_number number index.uploads) refl ∙ ap is_some (stands.uploads number)
      ∙ upload_asked number (at_number number bucket.uploads) refl

  pub entries_are : IsBucket bucket → IsStrictlySortedBy bytes_cmp (keys_of index.keys) → IsStrictlySortedBy nat_cmp (keys_of index.uploads)
      → length index.keys + length index.uploads ≡ entry_count bucket
  entries_are whole keys uploads =
      let of_keys = counted bytes_cmp nat_list_cmp_total same_name index.keys bucket.stacks (λ key. is_some (first_on_key bucket key)) keys whole.stacks key_counts in
      let of_uploads = counted nat_cmp nat_cmp_total nat_cmp-IsAntisymmetric index.uploads bucket.uploads (λ number. is_some (first_on_upload bucket number)) uploads whole.uploads upload_counts in
      omega (arith, of_keys, of_uploads)

-- ---- at most the stacks and uploads

fewer_by : {X : Type 0} (p : X → Bool) (x : X) (xs : List X) (b : Bool) → length (filter p xs) ≤ length xs → length (cond b (x ∷ filter p xs) (filter p xs)) ≤ length (x ∷ xs)
fewer_by p x xs true less = omega (arith, less)
fewer_by p x xs false less = omega (arith, less)

fewer : {X : Type 0} (p : X → Bool) (xs : List X) → length (filter p xs) ≤ length xs
fewer p [] = omega arith
fewer p (x ∷ xs) = fewer_by p x xs (p x) (fewer p xs)

pub few_entries : (bucket : BucketRecord) → entry_count bucket ≤ length bucket.stacks + length bucket.uploads
few_entries bucket =
    let keys = fewer (λ key. is_some (first_on_key bucket key)) (keys_of bucket.stacks) in
    let uploads = fewer (λ number. is_some (first_on_upload bucket number)) (keys_of bucket.uploads) in
    let stacks = length-keys_of bucket.stacks in
    let numbers = length-keys_of bucket.uploads in
    omega (arith, keys, uploads, stacks, numbers)
