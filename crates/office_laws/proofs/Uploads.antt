-- A bucket and its open stays after an upload was started, a part was put, or an upload was removed.
use Rattle.std.proofs.Common.{◌≡◌, ℕ, ◌<◌, ◌≤◌, List, [], ◌∷◌, map, refl, ap, sym, ◌∙◌, Bool, true, false, ◌&&◌, cond, arith, ◌==◌}
use Rattle.std.specs.Prelude.{Option, Some, None, fold, nat_le}
use Rattle.std.specs.Str.{bytes_eq}
use Rattle.std.specs.List.{AllByRecursion, list_all}
use Rattle.std.specs.Ordering.{is_eq, nat_cmp}
use Rattle.std.specs.Cmp.{unsigned_tied}
use Rattle.std.proofs.lemmas.Bool.{and_parts, and_from, leb-true, le-leb}
use Rattle.std.proofs.lemmas.Bool.Decides.{nat_tests}
use Rattle.std.proofs.Math.Bool.{and-false}
use Rattle.class_rules.specs.Lines.{part_line}
use Rattle.office_base.specs.Sizes.{largest_size}
use Rattle.office_base.specs.Maps.{at_number, with_number, without_number, Rises}
use Rattle.uploads.specs.Uploads.{new_upload, new_part, after_part, is_part, is_part_until, admits_part, total_size}
use Rattle.class_rules.specs.declared.class.Class.{Class}
use Rattle.uploads.specs.declared.part.Part.{Part}
use Rattle.uploads.specs.Uploads.{UploadRecord}
use Rattle.due_core.specs.Buckets.{BucketRecord}
use Rattle.plain_office.specs.Office.{Item, of_version, of_part, Booked, Books, Account}
use Rattle.plain_office.specs.Books.{same_item, with_end}
use Rattle.plain_office.specs.Changes.{with_upload, add_part, remove_upload}
use Rattle.plain_office.specs.Orderly.{IsOrderlyUpload, IsOrderlyBucket, part_stays_expected, stays_expected, HasOpenStays}
use Rattle.office_laws.proofs.Lists.{every_true, all_true, every_weaker}
use Rattle.office_laws.proofs.Maps.{by_number, one_key, found_every, at_written, at_other, rises_written, every_written, every_left, rises_left, at_removed, at_left, bytes_itself, bytes_same}
use Rattle.office_laws.proofs.Stays.{is_of, open_of, open_begun, open_other, open_ended, open_kept, item_same, after_end}
use Rattle.office_laws.proofs.Buckets.{HasUpload, upload_later}
use Rattle.office_laws.proofs.Accounts.{stays_by}

-- ---- numbers

pub numbers_differ : (a b : ℕ) → (a == b) ≡ false → is_eq (nat_cmp a b) ≡ false
numbers_differ a b h = unsigned_tied a b ∙ h

number_same : (a b : ℕ) → (a == b) ≡ true → a ≡ b
number_same a b h = grind (arith, nat_tests)

module _ (last : ℕ) (bucket : BucketRecord) (h : IsOrderlyBucket last bucket) where
  pub upload_orderly : (number : ℕ) (upload : UploadRecord) → at_number number bucket.uploads ≡ Some upload → HasUpload bucket.next_upload last (number, upload)
  upload_orderly number upload is = found_every by_number (HasUpload bucket.next_upload last) number upload bucket.uploads h.uploads is

  fresh_by : (o : Option UploadRecord) → at_number bucket.next_upload bucket.uploads ≡ o → o ≡ None
  fresh_by None is = refl
  fresh_by (Some upload) is = let below = (upload_orderly bucket.next_upload upload is).0 in absurd (omega (arith, below))

  -- the next number is a new one
  pub fresh_number : at_number bucket.next_upload bucket.uploads ≡ None
  fresh_number = fresh_by (at_number bucket.next_upload bucket.uploads) refl

  -- an upload comes in place of the one of its number
  pub bucket_upload : (number next : ℕ) (upload : UploadRecord) → IsOrderlyUpload last upload → number < next → bucket.next_upload ≤ next
      → IsOrderlyBucket last (record bucket { uploads = with_number number upload bucket.uploads; next_upload = next })
  bucket_upload number next upload orderly below le = record {
    next_version = h.next_version;
    next_upload = omega (arith, below);
    rules_since = h.rules_since;
    keys = h.keys;
    stacks = h.stacks;
    numbers = rises_written by_number number upload bucket.uploads h.numbers;
    uploads = every_written by_number number upload (HasUpload next last) bucket.uploads h.numbers (below, orderly)
        (every_weaker (HasUpload bucket.next_upload last) (HasUpload next last) (upload_later bucket.next_upload next last last le (omega arith)) bucket.uploads h.uploads);
  }

  pub bucket_without : (number : ℕ) → IsOrderlyBucket last (record bucket { uploads = without_number number bucket.uploads })
  bucket_without number = record {
    next_version = h.next_version;
    next_upload = h.next_upload;
    rules_since = h.rules_since;
    keys = h.keys;
    stacks = h.stacks;
    numbers = rises_left by_number number bucket.uploads h.numbers;
    uploads = every_left by_number number (HasUpload bucket.next_upload last) bucket.uploads h.uploads;
  }

pub new_orderly : (key : List ℕ) (class : Class) (tags : List (List ℕ × List ℕ)) (at last : ℕ) → at ≤ last → IsOrderlyUpload last (new_upload key class tags at)
new_orderly key class tags at last le = record {
  ranges_and_moments = and_from _ _ (and_from _ _ (le-leb at at (omega arith)) refl) refl;
  parts = tt;
  changed = le;
}

pub total_small : (last : ℕ) (upload : UploadRecord) → IsOrderlyUpload last upload → total_size upload.parts ≤ largest_size
total_small last upload h =
    leb-true (total_size upload.parts) largest_size
    (and_parts (nat_le upload.started upload.changed && list_all (is_part_until upload.changed) upload.parts) (nat_le (total_size upload.parts) largest_size) h.ranges_and_moments).1

abbrev IsPart : ℕ → ℕ × Part → Type 0
IsPart changed part = is_part_until changed part ≡ true

part_later : (a b : ℕ) → a ≤ b → (part : ℕ × Part) → IsPart a part → IsPart b part
part_later a b le part h =
    let both = and_parts (is_part part.0 part.1.size) (nat_le part.1.put a) h in
    let put = leb-true part.1.put a both.1 in
    and_from _ _ both.0 (le-leb part.1.put b (omega (arith, put, le)))

pub part_orderly : (before last at number size : ℕ) (upload : UploadRecord) → IsOrderlyUpload before upload
    → admits_part number (new_part size at) upload.parts ≡ true → upload.changed ≤ at → at ≤ last
    → IsOrderlyUpload last (after_part number size at upload)
part_orderly before last at number size upload h admitted since le =
    let part : Part = new_part size at in
    let both = and_parts (nat_le upload.started upload.changed && list_all (is_part_until upload.changed) upload.parts) (nat_le (total_size upload.parts) largest_size) h.ranges_and_moments in
    let two = and_parts (nat_le upload.started upload.changed) (list_all (is_part_until upload.changed) upload.parts) both.0 in
    let started = leb-true upload.started upload.changed two.0 in
    let new = and_parts (is_part number size) (nat_le (total_size (after_part number size at upload).parts) largest_size) admitted in
    let each : AllByRecursion (IsPart at) (after_part number size at upload).parts =
    every_written by_number number part (IsPart at) upload.parts h.parts (and_from _ _ new.0 (le-leb at at (omega arith)))
    (every_weaker (IsPart upload.changed) (IsPart at) (part_later upload.changed at since) upload.parts (every_true (is_part_until upload.changed) upload.parts two.1)) in
    record {
      ranges_and_moments = and_from _ _ (and_from _ _ (le-leb upload.started at (omega (arith, started, since))) (all_true (is_part_until at) (after_part number size at upload).parts each)) new.1;
      parts = rises_written by_number number part upload.parts h.parts;
      changed = le;
    }

-- ---- the open stays after an upload started

asked_part : (key : List ℕ) (number place : ℕ) (a b : Option UploadRecord) → a ≡ b → part_stays_expected key number place a ≡ part_stays_expected key number place b
asked_part key number place a b h = ap (λ (o : Option UploadRecord). part_stays_expected key number place o) h

either_none : (b : Bool) → cond {A = List Booked} b [] [] ≡ []
either_none true = refl
either_none false = refl

pub stays_started : (number next : ℕ) (key : List ℕ) (class : Class) (tags : List (List ℕ × List ℕ)) (at : ℕ)
    (account : Account)
    → at_number number account.bucket.uploads ≡ None → HasOpenStays account
    → HasOpenStays (record account { bucket = record account.bucket { uploads = with_number number (new_upload key class tags at) account.bucket.uploads; next_upload = next } })
stays_started number next key class tags at account none has = by where
  upload : UploadRecord
  upload = new_upload key class tags at

  part_at : (k : List ℕ) (n place : ℕ) (b : Bool) → (n == number) ≡ b
      → part_stays_expected k n place (at_number n (with_number number (new_upload key class tags at) account.bucket.uploads)) ≡ part_stays_expected k n place (at_number n account.bucket.uploads)
  part_at k n place true is =
      let same : n ≡ number = number_same n number is in
      let written = at_written by_number number (new_upload key class tags at) account.bucket.uploads in
      rw (same, none, written) (either_none (bytes_eq k key))
  part_at k n place false is = asked_part k n place _ _ (at_other by_number number (new_upload key class tags at) n (numbers_differ n number is) account.bucket.uploads)

  by : HasOpenStays (record account { bucket = record account.bucket { uploads = with_number number (new_upload key class tags at) account.bucket.uploads; next_upload = next } })
  by k (of_version id) = has k (of_version id)
  by k (of_part n place) = has k (of_part n place) ∙ sym (part_at k n place (n == number) refl)

-- ---- and after a part came

pub stays_part : (number : ℕ) (upload : UploadRecord) (part size at : ℕ) (account : Account) → at_number number account.bucket.uploads ≡ Some upload → HasOpenStays account
    → HasOpenStays (add_part number upload part size at account)
stays_part number upload part size at account found has =
    stays_by account (with_upload number (after_part part size at upload) account.bucket) (add_part number upload part size at account).books upload.key (of_part number part) has
    here
    (λ k i differs.
    open_other k i upload.key (of_part number part) differs (part_line upload.class size) at (with_end upload.key (of_part number part) at account.books).stays
    ∙ open_kept k i upload.key (of_part number part) differs at account.books.stays)
    asked
  where
    kept : Part
    kept = record { size = size; put = at }

    uploads : List (ℕ × UploadRecord)
    uploads = with_number number (after_part part size at upload) account.bucket.uploads

    here : open_of upload.key (of_part number part) (add_part number upload part size at account).books.stays
        ≡ stays_expected (with_upload number (after_part part size at upload) account.bucket) upload.key (of_part number part)
    here =
        open_begun upload.key (of_part number part) (part_line upload.class size) at (with_end upload.key (of_part number part) at account.books).stays
        ∙ rw (open_ended upload.key (of_part number part) at account.books.stays)
        (sym (rw (at_written by_number number (after_part part size at upload) account.bucket.uploads, bytes_itself upload.key, at_written by_number part kept upload.parts) refl))

    -- the parts of this upload
    other_part : (k : List ℕ) (place : ℕ) (b c : Bool) → bytes_eq k upload.key ≡ b → (place == part) ≡ c → b && c ≡ false
        → part_stays_expected k number place (Some (after_part part size at upload)) ≡ part_stays_expected k number place (Some upload)
    other_part k place true true x y h = absurd cc
    other_part k place true false x y h = let same = at_other by_number part kept place (numbers_differ place part y) upload.parts in rw same refl
    other_part k place false c x y h = rw x refl

    part_at : (k : List ℕ) (n place : ℕ) (b : Bool) → (n == number) ≡ b → bytes_eq k upload.key && (b && (place == part)) ≡ false
        → part_stays_expected k n place (at_number n (with_number number (after_part part size at upload) account.bucket.uploads)) ≡ part_stays_expected k n place (at_number n account.bucket.uploads)
    part_at k n place true is h =
        let same : n ≡ number = number_same n number is in
        let written = at_written by_number number (after_part part size at upload) account.bucket.uploads in
        rw (same, found, written) (other_part k place (bytes_eq k upload.key) (place == part) refl refl h)
    part_at k n place false is h = asked_part k n place _ _ (at_other by_number number (after_part part size at upload) n (numbers_differ n number is) account.bucket.uploads)

    asked : (k : List ℕ) (i : Item) → is_of k i upload.key (of_part number part) ≡ false
        → stays_expected (with_upload number (after_part part size at upload) account.bucket) k i ≡ stays_expected account.bucket k i
    asked k (of_version id) differs = refl
    asked k (of_part n place) differs = part_at k n place (n == number) refl differs

-- ---- and after an upload went

module _ (key : List ℕ) (number at : ℕ) where
  abbrev pub all_ended : Books → List (ℕ × Part) → Books
  all_ended books parts = fold (λ books part. with_end key (of_part number part.0) at books) books parts

  -- stays of other items
  pub ended_apart : (k : List ℕ) (i : Item) → ((place : ℕ) → is_of k i key (of_part number place) ≡ false) → (parts : List (ℕ × Part)) (books : Books)
      → open_of k i (all_ended books parts).stays ≡ open_of k i books.stays
  ended_apart k i apart [] books = refl
  ended_apart k i apart (e ∷ parts) books =
      ended_apart k i apart parts (with_end key (of_part number e.0) at books)
      ∙ open_kept k i key (of_part number e.0) (apart e.0) at books.stays

  none_left : (k : List ℕ) (i : Item) (item : Item) (b : Bool) → is_of k i key item ≡ b → (stays : List Booked) → open_of k i stays ≡ [] → open_of k i (map (after_end key item at) stays) ≡ []
  none_left k i item true is stays h =
      let both = and_parts (bytes_eq k key) (same_item i item) is in
      let keys = bytes_same k key both.0 in
      let items = item_same i item both.1 in
      rw (keys, items) (open_ended key item at stays)
  none_left k i item false is stays h = open_kept k i key item is at stays ∙ h

  -- where none was open none is
  pub ended_none : (k : List ℕ) (i : Item) (parts : List (ℕ × Part)) (books : Books) → open_of k i books.stays ≡ [] → open_of k i (all_ended books parts).stays ≡ []
  ended_none k i [] books h = h
  ended_none k i (e ∷ parts) books h =
      ended_none k i parts (with_end key (of_part number e.0) at books)
      (none_left k i (of_part number e.0) (is_of k i key (of_part number e.0)) refl books.stays h)

  ended_at : (place : ℕ) (part : Part) (e : ℕ × Part) (parts : List (ℕ × Part)) (books : Books) (b : Bool) → is_eq (nat_cmp place e.0) ≡ b → cond b (Some e.1) (at_number place parts) ≡ Some part
      → (at_number place parts ≡ Some part → open_of key (of_part number place) (all_ended (with_end key (of_part number e.0) at books) parts).stays ≡ [])
      → open_of key (of_part number place) (all_ended (with_end key (of_part number e.0) at books) parts).stays ≡ []
  ended_at place part e parts books true is h more =
      let same = one_key by_number place e.0 is in
      ended_none key (of_part number place) parts (with_end key (of_part number e.0) at books)
      (rw same (open_ended key (of_part number e.0) at books.stays))
  ended_at place part e parts books false is h more = more h

  -- those of its parts
  pub ended_part : (place : ℕ) (part : Part) (parts : List (ℕ × Part)) (books : Books) → at_number place parts ≡ Some part → open_of key (of_part number place) (all_ended books parts).stays ≡ []
  ended_part place part [] books h = absurd cc
  ended_part place part (e ∷ parts) books h =
      ended_at place part e parts books (is_eq (nat_cmp place e.0)) refl h (ended_part place part parts (with_end key (of_part number e.0) at books))

pub stays_aborted : (number : ℕ) (upload : UploadRecord) (at : ℕ) (account : Account)
    → at_number number account.bucket.uploads ≡ Some upload → Rises nat_cmp account.bucket.uploads
    → HasOpenStays account
    → HasOpenStays (remove_upload number upload at account)
stays_aborted number upload at account found rises has = by where
  books : Books
  books = all_ended upload.key number at account.books upload.parts

  was : (k : List ℕ) (place : ℕ) → open_of k (of_part number place) account.books.stays ≡ part_stays_expected k number place (Some upload)
  was k place = has k (of_part number place) ∙ asked_part k number place _ _ found

  own : (place : ℕ) (o : Option Part) → at_number place upload.parts ≡ o → open_of upload.key (of_part number place) (all_ended upload.key number at account.books upload.parts).stays ≡ []
  own place (Some part) is = ended_part upload.key number at place part upload.parts account.books is
  own place None is =
      ended_none upload.key number at upload.key (of_part number place) upload.parts account.books
      (was upload.key place ∙ rw (bytes_itself upload.key, is) refl)

  gone : (k : List ℕ) (place : ℕ) (b : Bool) → bytes_eq k upload.key ≡ b → open_of k (of_part number place) (all_ended upload.key number at account.books upload.parts).stays ≡ []
  gone k place true is = let same = bytes_same k upload.key is in rw same (own place (at_number place upload.parts) refl)
  gone k place false is =
      ended_none upload.key number at k (of_part number place) upload.parts account.books (was k place ∙ rw is refl)

  not_number : (k : List ℕ) (n place : ℕ) → (n == number) ≡ false → (p : ℕ) → is_of k (of_part n place) upload.key (of_part number p) ≡ false
  not_number k n place differs p = rw differs (and-false (bytes_eq k upload.key))

  part_at : (k : List ℕ) (n place : ℕ) (b : Bool) → (n == number) ≡ b
      → open_of k (of_part n place) (all_ended upload.key number at account.books upload.parts).stays ≡ part_stays_expected k n place (at_number n (without_number number account.bucket.uploads))
  part_at k n place true is =
      let same : n ≡ number = number_same n number is in
      let none = at_removed by_number number account.bucket.uploads rises in
      rw (same, none) (gone k place (bytes_eq k upload.key) refl)
  part_at k n place false is =
      ended_apart upload.key number at k (of_part n place) (not_number k n place is) upload.parts account.books
      ∙ has k (of_part n place)
      ∙ asked_part k n place _ _ (sym (at_left by_number number n (numbers_differ n number is) account.bucket.uploads))

  by : HasOpenStays (remove_upload number upload at account)
  by k (of_version id) = ended_apart upload.key number at k (of_version id) (λ place. and-false (bytes_eq k upload.key)) upload.parts account.books ∙ has k (of_version id)
  by k (of_part n place) = part_at k n place (n == number) refl
