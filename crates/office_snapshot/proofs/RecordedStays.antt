-- The open stays that records give: each began by the last moment, and how many there are.
use Rattle.std.proofs.Common.{◌≡◌, ℕ, ◌+◌, ◌≤◌, List, [], ◌∷◌, ◌++◌, map, length, refl, ap, ◌∙◌, true, arith, length-append}
use Rattle.std.specs.Prelude.{sum_by, nat_le, ◌&&◌}
use Rattle.std.specs.Bool.{IsTrue}
use Rattle.std.specs.Ordering.{nat_cmp}
use Rattle.std.specs.List.{AllByRecursion, flat_map, list_all}
use Rattle.std.proofs.lemmas.Bool.{and_parts, leb-true}
use Rattle.std.proofs.lemmas.List.{length-map}
use Rattle.std.proofs.lemmas.List.Sums.{sum_by-cons}
use Rattle.office_base.specs.Sizes.{largest_size}
use Rattle.office_base.specs.Maps.{bytes_cmp, Rises}
use Rattle.stacks.specs.Stacks.{StackRecord, ids_differ, has_moments_until, is_entered_until, is_stack}
use Rattle.stacks.specs.declared.version.Kind.{Kind}
use Rattle.stacks.specs.declared.version.Kind.TheVariants.{Object, Marker}
use Rattle.stacks.specs.declared.version.Version.{Version}
use Rattle.uploads.specs.Uploads.{UploadRecord, is_part_until, is_part, total_size}
use Rattle.uploads.specs.declared.part.Part.{Part}
use Rattle.due_core.specs.Buckets.{BucketRecord}
use Rattle.accrual.specs.Books.{IsStayBy}
use Rattle.plain_office.specs.Office.{Booked, stay_in}
use Rattle.plain_office.specs.Counts.{version_count, part_count}
use Rattle.plain_office.specs.Orderly.{IsOrderlyBucket, IsOrderlyStack, IsOrderlyUpload, lines_since, stay_of_version}
use Rattle.office_laws.proofs.Lists.{every_true, every_append, every_weaker, every_map, every_flat_map}
use Rattle.office_laws.proofs.Buckets.{HasStack, HasUpload}
use Rattle.office_snapshot.specs.RecordStays.{stack_stays, part_stay, upload_stays, record_stays}

-- ---- what an orderly bucket is for them

pub differ_in : (last : ℕ) (bucket : BucketRecord) → IsOrderlyBucket last bucket → AllByRecursion (λ e. ids_differ e.1.versions ≡ true) bucket.stacks
differ_in last bucket h =
    every_weaker (HasStack bucket.versioning bucket.next_version last) (λ (e : List ℕ × StackRecord). ids_differ e.1.versions ≡ true)
    (λ e is. (and_parts (ids_differ e.1.versions) (list_all (has_moments_until e.1.changed) e.1.versions) is.ids_and_moments).0) bucket.stacks h.stacks

pub parts_rise : (last : ℕ) (bucket : BucketRecord) → IsOrderlyBucket last bucket → AllByRecursion (λ u. Rises nat_cmp u.1.parts) bucket.uploads
parts_rise last bucket h =
    every_weaker (HasUpload bucket.next_upload last) (λ (u : ℕ × UploadRecord). Rises nat_cmp u.1.parts) (λ u is. is.1.parts) bucket.uploads h.uploads

-- ---- when they began

pub since_by : (changed : ℕ) (v : Version) → has_moments_until changed v ≡ true → lines_since v ≤ changed
since_by changed v h = by v.kind h where
  by : (kind : Kind) → (nat_le v.created changed && nat_le v.ceased changed && is_entered_until changed v.created kind) ≡ true → lines_since (record v { kind = kind }) ≤ changed
  by Marker h =
      let parts = and_parts (nat_le v.created changed && nat_le v.ceased changed) true h in
      let both = and_parts (nat_le v.created changed) (nat_le v.ceased changed) parts.0 in
      leb-true v.created changed both.0
  by (Object size class tags entered) h =
      let parts = and_parts (nat_le v.created changed && nat_le v.ceased changed) (nat_le v.created entered && nat_le entered changed) h in
      let both = and_parts (nat_le v.created entered) (nat_le entered changed) parts.1 in
      leb-true entered changed both.1

module _ (last : ℕ) where
  abbrev pub IsBy : Booked → Type 0
  IsBy stay = IsStayBy last stay.1

  versions_by : (key : List ℕ) (changed : ℕ) → changed ≤ last → (versions : List Version) → AllByRecursion (λ v. has_moments_until changed v ≡ true) versions
      → AllByRecursion IsBy (map (stay_of_version key) versions)
  versions_by key changed le versions all =
      every_map (λ (v : Version). has_moments_until changed v ≡ true) IsBy (stay_of_version key)
      (λ v is. let since = since_by changed v is in (omega (arith, since, le), tt)) versions all

  stack_by : (bucket : BucketRecord) (e : List ℕ × StackRecord) → HasStack bucket.versioning bucket.next_version last e → AllByRecursion IsBy (stack_stays e)
  stack_by bucket e is =
      let moments = and_parts (ids_differ e.1.versions) (list_all (has_moments_until e.1.changed) e.1.versions) is.ids_and_moments in
      versions_by e.0 e.1.changed is.changed e.1.versions (every_true (has_moments_until e.1.changed) e.1.versions moments.1)

  upload_by : (bucket : BucketRecord) (u : ℕ × UploadRecord) → HasUpload bucket.next_upload last u → AllByRecursion IsBy (upload_stays u)
  upload_by bucket u is =
      let whole = and_parts (nat_le u.1.started u.1.changed && list_all (is_part_until u.1.changed) u.1.parts) (nat_le (total_size u.1.parts) largest_size) is.1.ranges_and_moments in
      let moments = and_parts (nat_le u.1.started u.1.changed) (list_all (is_part_until u.1.changed) u.1.parts) whole.0 in
      let le = is.1.changed in
      every_map (λ (q : ℕ × Part). is_part_until u.1.changed q ≡ true) IsBy (part_stay u)
      (λ q part. let put = leb-true q.1.put u.1.changed (and_parts (is_part q.0 q.1.size) (nat_le q.1.put u.1.changed) part).1 in (omega (arith, put, le), tt))
      u.1.parts (every_true (is_part_until u.1.changed) u.1.parts moments.1)

  pub stays_by : (bucket : BucketRecord) → IsOrderlyBucket last bucket → AllByRecursion IsBy (record_stays bucket)
  stays_by bucket h =
      every_append IsBy (flat_map stack_stays bucket.stacks) (flat_map upload_stays bucket.uploads)
      (every_flat_map (HasStack bucket.versioning bucket.next_version last) IsBy stack_stays (stack_by bucket) bucket.stacks h.stacks)
      (every_flat_map (HasUpload bucket.next_upload last) IsBy upload_stays (upload_by bucket) bucket.uploads h.uploads)

  -- as stays of a book
  pub into_book : (stays : List Booked) → AllByRecursion IsBy stays → AllByRecursion (IsStayBy last) (map stay_in stays)
  into_book [] all = tt
  into_book (stay ∷ stays) all = (all.0, into_book stays all.1)

-- ---- how many there are

of_stacks : (es : List (List ℕ × StackRecord)) → length (flat_map stack_stays es) ≡ sum_by (λ (stack : List ℕ × StackRecord). length stack.1.versions) es
of_stacks [] = refl
of_stacks (e ∷ es) =
    let rest = of_stacks es in
    let here : length (map (stay_of_version e.0) e.1.versions) ≡ length e.1.versions = length-map e.1.versions (stay_of_version e.0) in
    let joined = length-append (stack_stays e) (flat_map stack_stays es) in
    let all = sum_by-cons (λ (stack : List ℕ × StackRecord). length stack.1.versions) e es in
    omega (arith, rest, here, joined, all)

of_uploads : (us : List (ℕ × UploadRecord)) → length (flat_map upload_stays us) ≡ sum_by (λ (upload : ℕ × UploadRecord). length upload.1.parts) us
of_uploads [] = refl
of_uploads (u ∷ us) =
    let rest = of_uploads us in
    let here : length (map (part_stay u) u.1.parts) ≡ length u.1.parts = length-map u.1.parts (part_stay u) in
    let joined = length-append (upload_stays u) (flat_map upload_stays us) in
    let all = sum_by-cons (λ (upload : ℕ × UploadRecord). length upload.1.parts) u us in
    omega (arith, rest, here, joined, all)

pub stay_count : (bucket : BucketRecord) → length (record_stays bucket) ≡ version_count bucket + part_count bucket
stay_count bucket =
    let a = of_stacks bucket.stacks in
    let b = of_uploads bucket.uploads in
    let joined = length-append (flat_map stack_stays bucket.stacks) (flat_map upload_stays bucket.uploads) in
    omega (arith, a, b, joined)
