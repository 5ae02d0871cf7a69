-- A bucket after an upload went.
use Rattle.std.proofs.Common.{◌≡◌, ℕ, ◌+◌, ◌≤◌, List, [], ◌∷◌, length, refl, ap, sym, ◌∙◌, subst, true, ◌&&◌, arith}
use Rattle.std.specs.Prelude.{Option, Some, None, Ok, IfSome, nat_le, sum_by}
use Rattle.std.specs.List.{AllByRecursion, list_all}
use Rattle.std.specs.Ordering.{nat_cmp}
use Rattle.std.proofs.lemmas.Bool.{and_parts, leb-true}
use Rattle.accrual.specs.Totals.{Totals, AreTotalsOf}
use Rattle.accrual.proofs.Windows.{month_at_order}
use Rattle.office_base.specs.Maps.{at_number, without_number, Rises}
use Rattle.uploads.specs.declared.part.Part.{Part}
use Rattle.uploads.specs.Uploads.{UploadRecord, IsUpload, is_part, is_part_until, total_size}
use Rattle.office_base.specs.Sizes.{largest_size}
use Rattle.due_core.specs.Buckets.{BucketRecord}
use Rattle.plain_office.specs.Office.{Account, book_of}
use Rattle.plain_office.specs.Changes.{remove_upload, remove_upload_at}
use Rattle.plain_office.specs.Counts.{tag_bytes}
use Rattle.plain_office.specs.Orderly.{IsOrderlyUpload, IsOrderlyBucket, HasOpenStays}
use Rattle.office_types.specs.declared.refusal.What.TheVariants.{Buckets, Versions, Uploads, Parts, Names, Rules, Tariffs}
use Rattle.office_laws.proofs.Lists.{every_true, every_weaker, added_length, added_sum}
use Rattle.office_laws.proofs.Maps.{by_number, each_found, removed}
use Rattle.office_laws.proofs.OneStay.{part_stands}
use Rattle.office_laws.proofs.Uploads.{upload_orderly}
use Rattle.bucket_account.specs.declared.counts.Counts.{Counts}
use Rattle.bucket_account.specs.Booking.{HasRowsFrom}
use Rattle.bucket_account.specs.Counting.{account_of, AreCountsOver, HaveMoved, first_over}
use Rattle.bucket_account.specs.Effects.{IsUploadReadyAt, DoesEffect}
use Rattle.bucket_account.specs.Standing.{StandsForAccount}
use Rattle.bucket_account.specs.Uploading.{HavePartStays, AreEndableAt, parts_ended, counts_without}

-- ---- its parts

pub put_by : (upload : UploadRecord) (at : ℕ) → IsUpload upload → upload.changed ≤ at → AllByRecursion (λ (part : ℕ × Part). part.1.put ≤ at) upload.parts
put_by upload at h le =
    every_weaker (λ (part : ℕ × Part). is_part_until upload.changed part ≡ true) (λ (part : ℕ × Part). part.1.put ≤ at)
    (λ part is. let put = leb-true part.1.put upload.changed (and_parts (is_part part.0 part.1.size) (nat_le part.1.put upload.changed) is).1 in omega (arith, put, le)) upload.parts
    (every_true (is_part_until upload.changed) upload.parts
    (and_parts (nat_le upload.started upload.changed) (list_all (is_part_until upload.changed) upload.parts)
    (and_parts (nat_le upload.started upload.changed && list_all (is_part_until upload.changed) upload.parts) (nat_le (total_size upload.parts) largest_size) h).0).1)

endable_by : (first at : ℕ) (meters : Totals) → HasRowsFrom first at meters → (parts : List (ℕ × Part)) → AllByRecursion (λ (part : ℕ × Part). part.1.put ≤ at) parts
    → AllByRecursion (λ (part : ℕ × Part). first ≤ part.1.put) parts → AreEndableAt at meters parts
endable_by first at meters rows [] put since = tt
endable_by first at meters rows (part ∷ parts) put since = (
  (put.0, λ month from to. rows month (let le = month_at_order first part.1.put since.0 in omega (arith, le, from)) to),
  endable_by first at meters rows parts put.1 since.1,
)

pub are_endable : (upload : UploadRecord) (at first : ℕ) (meters : Totals) → IsUpload upload → upload.changed ≤ at → HasRowsFrom first at meters
    → AllByRecursion (λ (part : ℕ × Part). first ≤ part.1.put) upload.parts → AreEndableAt at meters upload.parts
are_endable upload at first meters is le rows since = endable_by first at meters rows upload.parts (put_by upload at is le) since

-- ---- the account

module _ (account : Account) (last number : ℕ) (upload : UploadRecord) (orderly : IsOrderlyBucket last account.bucket) (there : at_number number account.bucket.uploads ≡ Some upload) where
  pub stays_of_parts : HasOpenStays account → HavePartStays number upload upload.parts account.books
  stays_of_parts has =
      every_weaker (λ (part : ℕ × Part). at_number part.0 upload.parts ≡ Some part.1) _
      (λ part is. part_stands number upload part.0 part.1 account has there is) upload.parts
      (each_found by_number upload.parts (upload_orderly last account.bucket orderly number upload there).1.parts)

  -- what is counted of it
  abbrev weigh_parts : ℕ × UploadRecord → ℕ
  weigh_parts upload = length upload.1.parts

  abbrev weigh_names : ℕ × UploadRecord → ℕ
  weigh_names upload = length upload.1.key + tag_bytes upload.1.tags

  uploads_fewer : length account.bucket.uploads ≡ length (without_number number account.bucket.uploads) + 1
  uploads_fewer = added_length (number, upload) (without_number number account.bucket.uploads) account.bucket.uploads (removed by_number number upload account.bucket.uploads there)

  fewer : (f : ℕ × UploadRecord → ℕ) → sum_by f account.bucket.uploads ≡ sum_by f (without_number number account.bucket.uploads) + f (number, upload)
  fewer f = added_sum (number, upload) (without_number number account.bucket.uploads) account.bucket.uploads (removed by_number number upload account.bucket.uploads there) f

  module _ (counts : Counts) (over : AreCountsOver account.bucket counts) where
    pub some_uploads : 1 ≤ counts.uploads
    some_uploads = let o = over Uploads in let less = uploads_fewer in omega (arith, o.0, less)

    pub some_parts : length upload.parts ≤ counts.parts
    some_parts = let o = over Parts in let less = fewer weigh_parts in omega (arith, o.0, less)

    pub some_names : length upload.key + tag_bytes upload.tags ≤ counts.names
    some_names = let o = over Names in let less = fewer weigh_names in omega (arith, o.0, less)

    pub moved_without : HaveMoved account.bucket (record account.bucket { uploads = without_number number account.bucket.uploads }) counts (counts_without upload counts)
    moved_without Buckets = refl
    moved_without Versions = refl
    moved_without Uploads = let some = some_uploads in let less = uploads_fewer in omega (arith, some, less)
    moved_without Parts = let some = some_parts in let less = fewer weigh_parts in omega (arith, some, less)
    moved_without Names = let some = some_names in let less = fewer weigh_names in omega (arith, some, less)
    moved_without Rules = refl
    moved_without Tariffs = refl

    pub over_without : AreCountsOver (record account.bucket { uploads = without_number number account.bucket.uploads }) (counts_without upload counts)
    over_without Buckets = over Buckets
    over_without Versions = over Versions
    over_without Uploads = let o = over Uploads in let less = uploads_fewer in (omega (arith, o.0, less), omega (arith, o.1))
    over_without Parts = let o = over Parts in let less = fewer weigh_parts in (omega (arith, o.0, less), omega (arith, o.1))
    over_without Names = let o = over Names in let less = fewer weigh_names in (omega (arith, o.0, less), omega (arith, o.1))
    over_without Rules = over Rules
    over_without Tariffs = over Tariffs

    at_is : (at : ℕ) → remove_upload_at number at account ≡ remove_upload number upload at account
    at_is at = rw there refl

    pub gone_done : (at : ℕ) (uploads : List (ℕ × UploadRecord)) (meters : Totals) → uploads ≡ without_number number account.bucket.uploads
        → AreTotalsOf meters (book_of (parts_ended upload.key number at upload.parts account.books))
        → DoesEffect [] (remove_upload_at number at) account counts (account_of (record account.bucket { uploads = uploads }) meters) (Ok (counts_without upload counts))
    gone_done at uploads meters is stands =
        subst (λ (after : Account).
        StandsForAccount (account_of (record account.bucket { uploads = uploads }) meters) after
        × HaveMoved account.bucket after.bucket counts (counts_without upload counts)
        × (first_over [] (counts_without upload counts) ≡ None)) (sym (at_is at))
        (record { bucket = ap (λ (l : List (ℕ × UploadRecord)). record account.bucket { uploads = l }) is; meters = stands }, moved_without, refl)

-- ---- of any account that the bucket stands for

held_of : (number at : ℕ) (o : Option UploadRecord) (upload : UploadRecord) → o ≡ Some upload → IfSome o (λ u. u.changed ≤ at) → upload.changed ≤ at
held_of number at o upload is h = subst (λ (x : Option UploadRecord). IfSome x (λ u. u.changed ≤ at)) is h

module _ (b : BucketRecord) (account : Account) (same : b ≡ account.bucket) (number at : ℕ) (upload : UploadRecord)
    (found : at_number number b.uploads ≡ Some upload) (ready : IsUploadReadyAt number at account) where
  abbrev there : at_number number account.bucket.uploads ≡ Some upload
  there = subst (λ (x : BucketRecord). at_number number x.uploads ≡ Some upload) same found

  abbrev orderly : IsOrderlyUpload ready.last upload
  orderly = (upload_orderly ready.last account.bucket ready.bucket number upload there).1

  pub rises_for : Rises nat_cmp upload.parts
  rises_for = orderly.parts

  pub stays_for : HavePartStays number upload upload.parts account.books
  stays_for = stays_of_parts account ready.last number upload ready.bucket there ready.stays

  pub endable_for : (first : ℕ) (meters : Totals) → HasRowsFrom first at meters → AllByRecursion (λ (part : ℕ × Part). first ≤ part.1.put) upload.parts → AreEndableAt at meters upload.parts
  endable_for first meters rows since =
      are_endable upload at first meters orderly.ranges_and_moments (held_of number at (at_number number account.bucket.uploads) upload there ready.changed) rows since

  module _ (counts : Counts) (over : AreCountsOver b counts) where
    abbrev over_it : AreCountsOver account.bucket counts
    over_it = subst (λ (x : BucketRecord). AreCountsOver x counts) same over

    pub uploads_for : 1 ≤ counts.uploads
    uploads_for = some_uploads account ready.last number upload ready.bucket there counts over_it

    pub parts_for : length upload.parts ≤ counts.parts
    parts_for = some_parts account ready.last number upload ready.bucket there counts over_it

    pub names_for : length upload.key + tag_bytes upload.tags ≤ counts.names
    names_for = some_names account ready.last number upload ready.bucket there counts over_it

    pub gone_for : (uploads : List (ℕ × UploadRecord)) → uploads ≡ without_number number b.uploads → (meters : Totals)
        → AreTotalsOf meters (book_of (parts_ended upload.key number at upload.parts account.books))
        → (moved : Counts) → moved ≡ counts_without upload counts
        → DoesEffect [] (remove_upload_at number at) account counts (account_of (record b { uploads = uploads }) meters) (Ok moved)
    gone_for uploads is meters stands moved are =
        subst (λ (m : Counts). DoesEffect [] (remove_upload_at number at) account counts (account_of (record b { uploads = uploads }) meters) (Ok m)) (sym are)
        (subst (λ (x : BucketRecord). DoesEffect [] (remove_upload_at number at) account counts (account_of (record x { uploads = uploads }) meters) (Ok (counts_without upload counts))) (sym same)
        (gone_done account ready.last number upload ready.bucket there counts over_it at uploads meters (is ∙ ap (λ (x : BucketRecord). without_number number x.uploads) same) stands))
