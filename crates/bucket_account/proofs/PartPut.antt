-- A bucket after a part was put.
use Rattle.std.proofs.Common.{◌≡◌, ◌⊎◌, inl, inr, ℕ, ◌+◌, ◌≤◌, List, [], ◌∷◌, length, refl, ap, sym, ◌∙◌, subst, true, false, cond, arith}
use Rattle.std.specs.Prelude.{Option, Some, None, Ok, Err, is_some, sum_by}
use Rattle.std.specs.Ordering.{nat_cmp}
use Rattle.accrual.specs.Totals.{Totals, AreTotalsOf}
use Rattle.office_base.specs.Maps.{at_number, with_number, Rises}
use Rattle.uploads.specs.Uploads.{UploadRecord, new_part, part_at, after_part, admits_part}
use Rattle.uploads.specs.declared.part.Part.{Part}
use Rattle.due_core.specs.Buckets.{BucketRecord}
use Rattle.plain_office.specs.Office.{Account, of_part, book_of}
use Rattle.plain_office.specs.Changes.{with_upload, add_part}
use Rattle.plain_office.specs.Counts.{tag_bytes}
use Rattle.plain_office.specs.Orderly.{IsOrderlyUpload, part_stays_expected}
use Rattle.plain_office.specs.Step.{Change, put_part}
use Rattle.office_types.specs.declared.reply.Reply.TheVariants.{PartStored}
use Rattle.office_types.specs.declared.refusal.Refusal.{Refusal}
use Rattle.office_types.specs.declared.refusal.Refusal.TheVariants.{NoMemory, BadPart}
use Rattle.office_types.specs.declared.refusal.What.{What}
use Rattle.office_types.specs.declared.refusal.What.TheVariants.{Buckets, Versions, Uploads, Parts, Names, Rules, Tariffs}
use Rattle.office_laws.proofs.Lists.{added_length, replaced_length, replaced_sum}
use Rattle.office_laws.proofs.Maps.{by_number, added, replaced, bytes_itself}
use Rattle.office_laws.proofs.Stays.{open_of}
use Rattle.office_laws.proofs.Uploads.{upload_orderly}
use Rattle.bucket_account.specs.declared.counts.Counts.{Counts}
use Rattle.bucket_account.specs.Changing.{IsOrderlyAccount, DoesTold}
use Rattle.bucket_account.specs.Counting.{AccountRecord, account_of, HaveMoved, first_over}
use Rattle.bucket_account.specs.Standing.{StandsForAccount}
use Rattle.bucket_account.specs.Uploading.{HasPartStay, books_with_part, counts_with_part, IsPartRefused}

-- want of memory is told by no change, and may always be answered
pub wanting : (whats : List What) (told : Change) (before : Account) (counts : Counts) (after : AccountRecord) → StandsForAccount after before → DoesTold whats told before counts after (Err NoMemory)
wanting whats (Ok told) before counts after stands = (inl refl, stands)
wanting whats (Err refused) before counts after stands = (inl refl, stands)

module _ (account : Account) (number place size t : ℕ) (upload : UploadRecord) (there : at_number number account.bucket.uploads ≡ Some upload) (orderly : IsOrderlyAccount t account) where
  abbrev whole : IsOrderlyUpload t upload
  whole = (upload_orderly t account.bucket orderly.bucket number upload there).1

  abbrev new : UploadRecord
  new = after_part place size t upload

  stay_by : (o : Option Part) → part_at place upload.parts ≡ o → open_of upload.key (of_part number place) account.books.stays ≡ part_stays_expected upload.key number place (Some upload)
      → HasPartStay upload.key (of_part number place) upload.class o account.books
  stay_by None is has = has ∙ rw (bytes_itself upload.key, is) refl
  stay_by (Some part) is has = has ∙ rw (bytes_itself upload.key, is) refl

  pub has_stay : HasPartStay upload.key (of_part number place) upload.class (part_at place upload.parts) account.books
  has_stay =
      stay_by (part_at place upload.parts) refl
      (orderly.stays upload.key (of_part number place) ∙ ap (λ (o : Option UploadRecord). part_stays_expected upload.key number place o) there)

  more_by : (o : Option Part) → part_at place upload.parts ≡ o → length (with_number place (new_part size t) upload.parts) ≡ length upload.parts + cond (is_some o) 0 1
  more_by None is = added_length (place, new_part size t) upload.parts (with_number place (new_part size t) upload.parts) (added by_number place (new_part size t) upload.parts is)
  more_by (Some part) is =
      let same = replaced_length (place, part) (place, new_part size t) upload.parts (with_number place (new_part size t) upload.parts)
      (replaced by_number place (new_part size t) part upload.parts whole.parts is) in
      omega (arith, same)

  more : length new.parts ≡ length upload.parts + cond (is_some (part_at place upload.parts)) 0 1
  more = more_by (part_at place upload.parts) refl

  sums : (f : ℕ × UploadRecord → ℕ) → sum_by f (with_number number new account.bucket.uploads) + f (number, upload) ≡ sum_by f account.bucket.uploads + f (number, new)
  sums f =
      replaced_sum (number, upload) (number, new) account.bucket.uploads (with_number number new account.bucket.uploads)
      (replaced by_number number new upload account.bucket.uploads orderly.bucket.numbers there) f

  module _ (counts : Counts) where
    abbrev moved : Counts
    moved = counts_with_part place upload counts

    pub part_moved : HaveMoved account.bucket (with_upload number new account.bucket) counts (counts_with_part place upload counts)
    part_moved Buckets = refl
    part_moved Versions = refl
    part_moved Uploads =
        let same = replaced_length (number, upload) (number, new) account.bucket.uploads (with_number number new account.bucket.uploads)
        (replaced by_number number new upload account.bucket.uploads orderly.bucket.numbers there) in
        omega (arith, same)
    part_moved Parts = let sum = sums (λ (upload : ℕ × UploadRecord). length upload.1.parts) in let one = more in omega (arith, sum, one)
    part_moved Names = let sum = sums (λ (upload : ℕ × UploadRecord). length upload.1.key + tag_bytes upload.1.tags) in omega (arith, sum)
    part_moved Rules = refl
    part_moved Tariffs = refl

    -- ---- what is told

    told_put : admits_part place (new_part size t) upload.parts ≡ true → put_part t number place size account ≡ Ok (add_part number upload place size t account, PartStored place)
    told_put admitted = rw (there, admitted) refl

    told_bad : admits_part place (new_part size t) upload.parts ≡ false → put_part t number place size account ≡ Err BadPart
    told_bad refused = rw (there, refused) refl

    part_done : admits_part place (new_part size t) upload.parts ≡ true → (uploads : List (ℕ × UploadRecord)) → uploads ≡ with_number number new account.bucket.uploads
        → (meters : Totals) → AreTotalsOf meters (book_of (books_with_part number upload place size t account.books)) → first_over (Parts ∷ []) moved ≡ None
        → DoesTold (Parts ∷ []) (put_part t number place size account) account counts
        (account_of (record account.bucket { uploads = uploads }) meters)
        (Ok (record { counts = moved; reply = PartStored place }))
    part_done admitted uploads is meters stands free =
        subst (λ (told : Change). DoesTold (Parts ∷ []) told account counts
        (account_of (record account.bucket { uploads = uploads }) meters)
        (Ok (record { counts = moved; reply = PartStored place }))) (sym (told_put admitted))
        (refl, record { bucket = ap (λ (l : List (ℕ × UploadRecord)). record account.bucket { uploads = l }) is; meters = stands }, part_moved, free)

    part_refused : (after : AccountRecord) → StandsForAccount after account → (refusal : Refusal) → IsPartRefused place size t upload counts refusal
        → DoesTold (Parts ∷ []) (put_part t number place size account) account counts after (Err refusal)
    part_refused after stands refusal (inl is) =
        subst (λ (r : Refusal). DoesTold (Parts ∷ []) (put_part t number place size account) account counts after (Err r)) (sym is)
        (wanting (Parts ∷ []) (put_part t number place size account) account counts after stands)
    part_refused after stands refusal (inr (inl bad)) = subst (λ (told : Change). DoesTold (Parts ∷ []) told account counts after (Err refusal)) (sym (told_bad bad.1)) (inr bad.0, stands)
    part_refused after stands refusal (inr (inr full)) =
        subst (λ (told : Change). DoesTold (Parts ∷ []) told account counts after (Err refusal)) (sym (told_put full.1))
        (inr (record { moved = moved; follow = part_moved; full = full.0 }), stands)

-- ---- of any account that the bucket stands for

module _ (b : BucketRecord) (account : Account) (same : b ≡ account.bucket) (number place size t : ℕ)
    (upload : UploadRecord) (found : at_number number b.uploads ≡ Some upload) (orderly : IsOrderlyAccount t account)
  where
    abbrev there_for : at_number number account.bucket.uploads ≡ Some upload
    there_for = subst (λ (x : BucketRecord). at_number number x.uploads ≡ Some upload) same found

    pub changed_for : upload.changed ≤ t
    changed_for = (upload_orderly t account.bucket orderly.bucket number upload there_for).1.changed

    pub numbers_for : Rises nat_cmp b.uploads
    numbers_for = subst (λ (x : BucketRecord). Rises nat_cmp x.uploads) (sym same) orderly.bucket.numbers

    pub stay_for : HasPartStay upload.key (of_part number place) upload.class (part_at place upload.parts) account.books
    stay_for = has_stay account number place size t upload there_for orderly

    pub part_done_for : (counts : Counts) → admits_part place (new_part size t) upload.parts ≡ true
        → (uploads : List (ℕ × UploadRecord)) → uploads ≡ with_number number (after_part place size t upload) b.uploads
        → (meters : Totals) → AreTotalsOf meters (book_of (books_with_part number upload place size t account.books))
        → (moved : Counts) → moved ≡ counts_with_part place upload counts → first_over (Parts ∷ []) moved ≡ None
        → DoesTold (Parts ∷ []) (put_part t number place size account) account counts (account_of (record b { uploads = uploads }) meters) (Ok (record { counts = moved; reply = PartStored place }))
    part_done_for counts admitted uploads is meters stands after are free =
        subst (λ (m : Counts). DoesTold (Parts ∷ []) (put_part t number place size account) account counts
        (account_of (record b { uploads = uploads }) meters) (Ok (record { counts = m; reply = PartStored place })))
        (sym are)
        (subst (λ (x : BucketRecord). DoesTold (Parts ∷ []) (put_part t number place size account) account counts (account_of (record x { uploads = uploads }) meters)
        (Ok (record { counts = counts_with_part place upload counts; reply = PartStored place }))) (sym same)
        (part_done account number place size t upload there_for orderly counts admitted uploads
        (is ∙ ap (λ (x : BucketRecord). with_number number (after_part place size t upload) x.uploads) same) meters stands
        (subst (λ (m : Counts). first_over (Parts ∷ []) m ≡ None) are free)))

    pub part_refused_for : (counts : Counts) (uploads : List (ℕ × UploadRecord)) → uploads ≡ b.uploads → (meters : Totals) → AreTotalsOf meters (book_of account.books) → (refusal : Refusal)
        → IsPartRefused place size t upload counts refusal
        → DoesTold (Parts ∷ []) (put_part t number place size account) account counts
        (account_of (record b { uploads = uploads }) meters) (Err refusal)
    part_refused_for counts uploads is meters stands refusal why =
        part_refused account number place size t upload there_for orderly counts (account_of (record b { uploads = uploads }) meters)
        (record { bucket = ap (λ (l : List (ℕ × UploadRecord)). record b { uploads = l }) is ∙ same; meters = stands }) refusal why

-- a part's own refusal is one of those
pub in_part : (place size at : ℕ) (upload : UploadRecord) (counts : Counts) (refusal : Refusal)
    → (refusal ≡ NoMemory) ⊎ ((refusal ≡ BadPart) × (admits_part place (new_part size at) upload.parts ≡ false)) → IsPartRefused place size at upload counts refusal
in_part place size at upload counts refusal (inl wanting) = inl wanting
in_part place size at upload counts refusal (inr bad) = inr (inl bad)
