-- What each command and each lifecycle action keeps of an account.
use Rattle.std.proofs.Common.{◌≡◌, ℕ, ◌+◌, ◌≤◌, List, [], ◌∷◌, length, refl, ap, subst, true, cond, inl, inr, arith}
use Rattle.std.specs.Prelude.{Option, Some, None, sum_by, count_by, ◌⊎◌}
use Rattle.std.proofs.lemmas.List.Sums.{sum_by-cons}
use Rattle.office_base.specs.Sizes.{largest_size}
use Rattle.class_rules.specs.Lines.{part_line}
use Rattle.office_base.specs.Maps.{at_number, with_number, without_number}
use Rattle.stacks.specs.Stacks.{version_at, without, new_version, with_tags, with_class, changed_at}
use Rattle.uploads.specs.Uploads.{new_upload, new_part, after_part, admits_part}
use Rattle.class_rules.specs.declared.class.Class.{Class}
use Rattle.office_base.specs.declared.version_id.VersionId.{VersionId}
use Rattle.rules_core.specs.Configurations.{Configuration}
use Rattle.stacks.specs.declared.version.Versioning.{Versioning}
use Rattle.stacks.specs.declared.version.Versioning.TheVariants.{Unversioned, Enabled, Suspended}
use Rattle.stacks.specs.declared.version.Kind.{Kind}
use Rattle.stacks.specs.declared.version.Kind.TheVariants.{Marker}
use Rattle.stacks.specs.declared.version.Version.{Version}
use Rattle.stacks.specs.Stacks.{StackRecord}
use Rattle.uploads.specs.Uploads.{UploadRecord}
use Rattle.due_core.specs.Buckets.{BucketRecord}
use Rattle.plain_office.specs.Office.{of_version, of_part, Account, book_of}
use Rattle.plain_office.specs.Books.{with_version, without_version, without_option, with_end}
use Rattle.plain_office.specs.Changes.{versions_of, next_id, number_after, books_moved, add_version, remove_version, move_version, with_upload, add_part, remove_upload}
use Rattle.plain_office.specs.Counts.{tag_bytes, tag_bytes_of, version_count, part_count, name_bytes, rules_bytes}
use Rattle.accrual.specs.Books.{IsBookedBy}
use Rattle.plain_office.specs.Orderly.{IsOrderlyStack, IsOrderlyBucket, HasOpenStays, current_is_object, current_objects, size_of}
use Rattle.plain_office.specs.Step.{with_rules}
use Rattle.office_types.specs.declared.refusal.What.{What}
use Rattle.office_types.specs.declared.refusal.What.TheVariants.{Buckets, Versions, Uploads, Parts, Names, Rules, Tariffs}
use Rattle.office_laws.proofs.Ids.{adding}
use Rattle.office_laws.proofs.Lists.{every_weaker, added_length, added_sum, replaced_length, replaced_sum}
use Rattle.office_laws.proofs.Maps.{by_number, added, replaced, removed}
use Rattle.office_laws.proofs.Versions.{Fits, IsFresh, KindFits, replaced_is, next_more, fits_added, fits_without, fits_changed, tags_change, class_change, moments_tagged, moments_moved, stack_count}
use Rattle.office_laws.proofs.Versions.{count_without, count_changed, count_marked, tags_without, tags_marked, tags_moved}
use Rattle.office_laws.proofs.Buckets.{HasStack, with_versions, numbered_later, ChangedBy, fits_now, bucket_with, weight_of, weight_with, IsTimely, timely_rules, timely_with, timely_upload}
use Rattle.office_laws.proofs.Buckets.{timely_without, timely_numbered, rules_with, uploads_with}
use Rattle.office_laws.proofs.Accounts.{MayMove, added as with_added, stays_added, stays_removed, stays_moved, stays_tagged}
use Rattle.office_laws.proofs.Uploads.{upload_orderly, fresh_number, bucket_upload, bucket_without, new_orderly, part_orderly, stays_started, stays_part, stays_aborted}
use Rattle.office_laws.proofs.Booked.{booked_begun, booked_ended, booked_version, booked_option, booked_moved, booked_parts}
use Rattle.office_laws.proofs.Closed.{KeepsBooks, keeps_same, keeps_then, keeps_begun, keeps_ended, keeps_version, keeps_gone, keeps_option, keeps_move, keeps_parts}

-- ---- what is counted

-- the part of a bucket in each count; of the versions, with the stacks whose current version is an object
abbrev pub measure : What → BucketRecord → ℕ
measure Buckets bucket = 0
measure Versions bucket = version_count bucket + current_objects bucket
measure Uploads bucket = length bucket.uploads
measure Parts bucket = part_count bucket
measure Names bucket = name_bytes bucket
measure Rules bucket = rules_bytes bucket.rules
measure Tariffs bucket = 0

abbrev pub Listed : What → List What → Type 0
Listed what [] = ⊥
Listed what (x ∷ xs) = (what ≡ x) ⊎ Listed what xs

-- no count grows but these
abbrev pub MayGrow : List What → What → BucketRecord → BucketRecord → Type 0
MayGrow whats what before after = (measure what after ≤ measure what before) ⊎ Listed what whats

pub record Grows (whats : List What) (before after : BucketRecord) : Type 0 where
  pub versions : MayGrow whats Versions before after
  pub uploads : MayGrow whats Uploads before after
  pub parts : MayGrow whats Parts before after
  pub names : MayGrow whats Names before after
  pub rules : MayGrow whats Rules before after

pub stay_small : (a b : ℕ) (A : Type 0) → a ≡ b → (a ≤ b) ⊎ A
stay_small a b A h = inl (omega (arith, h))

-- one count after another, where the first one lists nothing
grow_more : (whats : List What) (what : What) (a b c : BucketRecord) → measure what b ≤ measure what a → MayGrow whats what b c → MayGrow whats what a c
grow_more whats what a b c le (inl less) = inl (omega (arith, le, less))
grow_more whats what a b c le (inr listed) = inr listed

grow_least : (what : What) (a b : BucketRecord) → MayGrow [] what a b → measure what b ≤ measure what a
grow_least what a b (inl less) = less
grow_least what a b (inr listed) = absurd listed

pub grows_then : (whats : List What) (a b c : BucketRecord) → Grows [] a b → Grows whats b c → Grows whats a c
grows_then whats a b c h k = record {
  versions = grow_more whats Versions a b c (grow_least Versions a b h.versions) k.versions;
  uploads = grow_more whats Uploads a b c (grow_least Uploads a b h.uploads) k.uploads;
  parts = grow_more whats Parts a b c (grow_least Parts a b h.parts) k.parts;
  names = grow_more whats Names a b c (grow_least Names a b h.names) k.names;
  rules = grow_more whats Rules a b c (grow_least Rules a b h.rules) k.rules;
}

-- versions, and stacks whose current version is an object
pub counted_stacks : (stacks : List (List ℕ × StackRecord))
    → sum_by (λ (stack : List ℕ × StackRecord). stack_count stack.1.versions) stacks
    ≡ sum_by (λ (stack : List ℕ × StackRecord). length stack.1.versions) stacks + count_by (λ (stack : List ℕ × StackRecord). current_is_object stack.1.versions) stacks
counted_stacks [] = refl
counted_stacks (e ∷ es) =
    let rest = counted_stacks es in
    let a = sum_by-cons (λ (stack : List ℕ × StackRecord). stack_count stack.1.versions) e es in
    let b = sum_by-cons (λ (stack : List ℕ × StackRecord). length stack.1.versions) e es in
    let c = sum_by-cons (λ (stack : List ℕ × StackRecord). cond (current_is_object stack.1.versions) 1 0) e es in
    omega (arith, rest, a, b, c)

abbrev count_weight : List ℕ → List Version → ℕ
count_weight key versions = stack_count versions

abbrev name_weight : List ℕ → List Version → ℕ
name_weight key versions = length key + sum_by tag_bytes_of versions

-- of the versions of a key
module _ (last at : ℕ) (bucket : BucketRecord) (key : List ℕ) (versions : List Version) (h : IsOrderlyBucket last bucket) where
  abbrev after : BucketRecord
  after = with_versions key at versions bucket

  count_is : (l : List Version) → weight_of bucket key count_weight key l ≡ stack_count l
  count_is [] = refl
  count_is (v ∷ l) = refl

  count_less : stack_count versions ≤ stack_count (versions_of key bucket) → measure Versions after ≤ measure Versions bucket
  count_less le =
      let sum = weight_with bucket key count_weight last at h versions in
      let was = counted_stacks bucket.stacks in
      let is = counted_stacks after.stacks in
      let a = count_is versions in
      let b = count_is (versions_of key bucket) in
      omega (arith, sum, was, is, a, b, le)

  names_less : weight_of bucket key name_weight key versions ≤ weight_of bucket key name_weight key (versions_of key bucket) → measure Names after ≤ measure Names bucket
  names_less le =
      let sum = weight_with bucket key name_weight last at h versions in
      let same = ap (λ (l : List (ℕ × UploadRecord)). sum_by (λ (upload : ℕ × UploadRecord). length upload.1.key + tag_bytes upload.1.tags) l) (uploads_with bucket key at versions) in
      omega (arith, sum, same, le)

  pub grows_with : (whats : List What) → (stack_count versions ≤ stack_count (versions_of key bucket)) ⊎ Listed Versions whats
      → (weight_of bucket key name_weight key versions ≤ weight_of bucket key name_weight key (versions_of key bucket)) ⊎ Listed Names whats
      → Grows whats bucket after
  grows_with whats count names = record {
    versions = versions_by count;
    uploads = stay_small _ _ (Listed Uploads whats) (ap (λ (l : List (ℕ × UploadRecord)). length l) (uploads_with bucket key at versions));
    parts = stay_small _ _ (Listed Parts whats) (ap (λ (l : List (ℕ × UploadRecord)). sum_by (λ (upload : ℕ × UploadRecord). length upload.1.parts) l) (uploads_with bucket key at versions));
    names = names_by names;
    rules = stay_small _ _ (Listed Rules whats) (ap rules_bytes (rules_with bucket key at versions));
  } where
    versions_by : (stack_count versions ≤ stack_count (versions_of key bucket)) ⊎ Listed Versions whats → MayGrow whats Versions bucket (with_versions key at versions bucket)
    versions_by (inl le) = inl (count_less le)
    versions_by (inr listed) = inr listed

    names_by : (weight_of bucket key name_weight key versions
        ≤ weight_of bucket key name_weight key (versions_of key bucket))
        ⊎ Listed Names whats
        → MayGrow whats Names bucket (with_versions key at versions bucket)
    names_by (inl le) = inl (names_less le)
    names_by (inr listed) = inr listed

weight_most : (bucket : BucketRecord) (key : List ℕ) (versions : List Version) → weight_of bucket key name_weight key versions ≤ name_weight key versions
weight_most bucket key [] = omega arith
weight_most bucket key (v ∷ versions) = omega arith

names_without : (bucket : BucketRecord) (key : List ℕ) (id : VersionId) (versions : List Version)
    → weight_of bucket key name_weight key (without id versions) ≤ weight_of bucket key name_weight key versions
names_without bucket key id [] = omega arith
names_without bucket key id (v ∷ versions) =
    let most = weight_most bucket key (without id (v ∷ versions)) in
    let fewer = tags_without id (v ∷ versions) in
    omega (arith, most, fewer)

names_moved : (bucket : BucketRecord) (key : List ℕ) (id : VersionId) (to : Class) (at : ℕ) (versions : List Version)
    → weight_of bucket key name_weight key (changed_at id (with_class to at) versions) ≤ weight_of bucket key name_weight key versions
names_moved bucket key id to at [] = omega arith
names_moved bucket key id to at (v ∷ versions) = let same = tags_moved id to at (v ∷ versions) in omega (arith, same)

names_marked : (bucket : BucketRecord) (key : List ℕ) (id : VersionId) (at : ℕ) (versions : List Version) → current_is_object versions ≡ true
    → weight_of bucket key name_weight key (adding id Marker at versions) ≤ weight_of bucket key name_weight key versions
names_marked bucket key id at [] h = absurd cc
names_marked bucket key id at (v ∷ versions) h = let fewer = tags_marked id at (v ∷ versions) in omega (arith, fewer)

-- ---- an account

-- orderly at a moment, with nothing due earlier than another one
pub record IsKept (last until : ℕ) (account : Account) : Type 0 where
  pub bucket : IsOrderlyBucket last account.bucket
  pub timely : IsTimely until account.bucket
  pub stays : HasOpenStays account
  pub booked : IsBookedBy last (book_of account.books)

-- and after a change
pub record Keeps (last until : ℕ) (whats : List What) (before after : Account) : Type 0 where
  pub account : IsKept last until after
  pub grows : Grows whats before.bucket after.bucket
  pub books : KeepsBooks until before.books after.books

pub then_keeps : (last until : ℕ) (whats : List What) (a b c : Account) → Keeps last until [] a b → Keeps last until whats b c → Keeps last until whats a c
then_keeps last until whats a b c h k = record {
  account = k.account;
  grows = grows_then whats a.bucket b.bucket c.bucket h.grows k.grows;
  books = keeps_then until a.books b.books c.books h.books k.books;
}

module _ (last until at : ℕ) (account : Account) (h : IsKept last until account) (later : until ≤ at) (by : at ≤ last) where
  abbrev bucket : BucketRecord
  bucket = account.bucket

  -- ---- versions

  module _ (key : List ℕ) (changed : ChangedBy account.bucket key at) where
    abbrev versions : List Version
    versions = versions_of key account.bucket

    fits : Fits bucket.versioning bucket.next_version at versions
    fits = fits_now bucket key last at h.bucket changed

    pub keeps_removed : (id : VersionId) (whats : List What) → Keeps last until whats account (remove_version key id at account)
    keeps_removed id whats = record {
      account = record {
        bucket = bucket_with bucket key last at h.bucket by (without id versions) (fits_without bucket.versioning bucket.next_version at id versions fits);
        timely = timely_with until bucket key at (without id versions) h.bucket.keys later h.timely;
        stays = stays_removed key id at account h.bucket.keys h.stays;
        booked = booked_option last at by key (version_at id versions) account.books h.booked;
      };
      grows = grows_with last at bucket key (without id versions) h.bucket whats (inl (count_without id versions)) (inl (names_without bucket key id versions));
      books = keeps_option until at later key (version_at id versions) account.books;
    }

    moved_books_kept : (to : Class) (o : Option Version) → KeepsBooks until account.books (books_moved key o to at account.books)
    moved_books_kept to None = keeps_same until account.books
    moved_books_kept to (Some v) =
        let gone = without_version key v at account.books in
        let there = with_version key (with_class to at v) at gone in
        keeps_then until account.books gone (books_moved key (Some v) to at account.books) (keeps_gone until at later key v account.books)
        (keeps_then until gone there (books_moved key (Some v) to at account.books) (keeps_version until at later key (with_class to at v) gone) (keeps_move until at later to there))

    pub keeps_moved : (id : VersionId) (to : Class) (whats : List What) → MayMove (version_at id (versions_of key account.bucket)) → Keeps last until whats account (move_version key id to at account)
    keeps_moved id to whats may = record {
      account = record {
        bucket = bucket_with bucket key last at h.bucket by (changed_at id (with_class to at) versions)
            (fits_changed id (with_class to at) (class_change to at) bucket.versioning bucket.next_version at (moments_moved at to) versions fits);
        timely = timely_with until bucket key at (changed_at id (with_class to at) versions) h.bucket.keys later h.timely;
        stays = stays_moved key id to at account may h.bucket.keys h.stays;
        booked = booked_moved last at by key to (version_at id versions) account.books h.booked;
      };
      grows = grows_with last at bucket key (changed_at id (with_class to at) versions) h.bucket whats
          (stay_small _ _ _ (count_changed id (with_class to at) (class_change to at) versions)) (inl (names_moved bucket key id to at versions));
      books = moved_books_kept to (version_at id versions);
    }

    pub keeps_tagged : (id : VersionId) (tags : List (List ℕ × List ℕ)) (whats : List What) → Listed Names whats
        → Keeps last until whats account (record account { bucket = with_versions key at (changed_at id (with_tags tags) (versions_of key account.bucket)) account.bucket })
    keeps_tagged id tags whats names = record {
      account = record {
        bucket = bucket_with bucket key last at h.bucket by (changed_at id (with_tags tags) versions)
            (fits_changed id (with_tags tags) (tags_change tags) bucket.versioning bucket.next_version at (moments_tagged at tags) versions fits);
        timely = timely_with until bucket key at (changed_at id (with_tags tags) versions) h.bucket.keys later h.timely;
        stays = stays_tagged key id tags at account h.bucket.keys h.stays;
        booked = h.booked;
      };
      grows = grows_with last at bucket key (changed_at id (with_tags tags) versions) h.bucket whats
          (stay_small _ _ _ (count_changed id (with_tags tags) (tags_change tags) versions)) (inr names);
      books = keeps_same until account.books;
    }

    keeps_with : (kind : Kind) (whats : List What) → IsFresh at kind → KindFits bucket.versioning kind → size_of kind ≤ largest_size
        → (stack_count (adding (next_id bucket) kind at versions) ≤ stack_count versions) ⊎ Listed Versions whats
        → (weight_of bucket key name_weight key (adding (next_id bucket) kind at versions) ≤ weight_of bucket key name_weight key versions) ⊎ Listed Names whats
        → Keeps last until whats account (with_added key kind at account)
    keeps_with kind whats fresh kind_fits small count names =
        let id = next_id bucket in
        let new = adding id kind at versions in
        let more = number_after bucket.versioning bucket.next_version in
        let g = grows_with last at bucket key new h.bucket whats count names in
        record {
          account = record {
            bucket = bucket_with (record bucket { next_version = more }) key last at
                (numbered_later last more bucket (next_more bucket.versioning bucket.next_version) h.bucket) by new
                (fits_added bucket.versioning bucket.next_version at kind versions h.bucket.next_version fresh kind_fits small fits);
            timely = timely_numbered until (with_versions key at new bucket) more bucket.next_upload (timely_with until bucket key at new h.bucket.keys later h.timely);
            stays = stays_added key kind at account fresh h.bucket.keys h.stays;
            booked = booked_version last at by key (new_version id kind at) (without_option key (version_at id versions) at account.books)
                (booked_option last at by key (version_at id versions) account.books h.booked);
          };
          grows = record { versions = g.versions; uploads = g.uploads; parts = g.parts; names = g.names; rules = g.rules };
          books = keeps_then until account.books (without_option key (version_at id versions) at account.books) (with_added key kind at account).books
              (keeps_option until at later key (version_at id versions) account.books)
              (keeps_version until at later key (new_version id kind at) (without_option key (version_at id versions) at account.books));
        }

    keeps_added : (kind : Kind) (whats : List What) → IsFresh at kind → KindFits bucket.versioning kind → size_of kind ≤ largest_size
        → (stack_count (adding (next_id bucket) kind at versions) ≤ stack_count versions) ⊎ Listed Versions whats
        → (weight_of bucket key name_weight key (adding (next_id bucket) kind at versions) ≤ weight_of bucket key name_weight key versions) ⊎ Listed Names whats
        → Keeps last until whats account (add_version key kind at account)
    keeps_added kind whats fresh kind_fits small count names =
        subst (λ (o : Option Version). Keeps last until whats account (record {
          bucket = (add_version key kind at account).bucket;
          books = with_version key (new_version (next_id account.bucket) kind at) at (without_option key o at account.books);
        }))
        (replaced_is bucket.versioning bucket.next_version versions fits.numbers) (keeps_with kind whats fresh kind_fits small count names)

    -- a command puts an object or a marker
    pub keeps_put : (kind : Kind) (whats : List What) → IsFresh at kind → KindFits account.bucket.versioning kind → size_of kind ≤ largest_size → Listed Versions whats → Listed Names whats
        → Keeps last until whats account (add_version key kind at account)
    keeps_put kind whats fresh kind_fits small versions names = keeps_added kind whats fresh kind_fits small (inr versions) (inr names)

    -- an action puts a marker on an object
    pub keeps_marked : (whats : List What) → KindFits account.bucket.versioning Marker → current_is_object (versions_of key account.bucket) ≡ true
        → Keeps last until whats account (add_version key Marker at account)
    keeps_marked whats kind_fits current =
        keeps_added Marker whats tt kind_fits (omega arith) (inl (count_marked (next_id bucket) at versions current)) (inl (names_marked bucket key (next_id bucket) at versions current))

  -- ---- uploads

  pub keeps_started : (key : List ℕ) (class : Class) (tags : List (List ℕ × List ℕ)) (whats : List What) → Listed Uploads whats → Listed Names whats
      → Keeps last until whats account (record account {
        bucket = record (with_upload account.bucket.next_upload
            (new_upload key class tags at) account.bucket) { next_upload = account.bucket.next_upload + 1 };
      })
  keeps_started key class tags whats uploads names =
      let number = bucket.next_upload in
      let upload = new_upload key class tags at in
      let none = fresh_number last bucket h.bucket in
      let parts = added_sum (number, upload) bucket.uploads (with_number number upload bucket.uploads)
      (added by_number number upload bucket.uploads none) (λ (upload : ℕ × UploadRecord). length upload.1.parts) in
      record {
        account = record {
          bucket = bucket_upload last bucket h.bucket number (number + 1) upload (new_orderly key class tags at last by) (omega arith) (omega arith);
          timely = timely_numbered until (with_upload number upload bucket) bucket.next_version (number + 1) (timely_upload until bucket number upload h.bucket.numbers later h.timely);
          stays = stays_started number (number + 1) key class tags at account none h.stays;
          booked = h.booked;
        };
        grows = record {
          versions = inl (omega arith);
          uploads = inr uploads;
          parts = inl (omega (arith, parts));
          names = inr names;
          rules = inl (omega arith);
        };
        books = keeps_same until account.books;
      }

  pub keeps_part : (number : ℕ) (upload : UploadRecord) (part size : ℕ) (whats : List What)
      → at_number number account.bucket.uploads ≡ Some upload → admits_part part (new_part size at) upload.parts ≡ true
      → upload.changed ≤ at → Listed Parts whats
      → Keeps last until whats account (add_part number upload part size at account)
  keeps_part number upload part size whats found admitted since parts =
      let after = after_part part size at upload in
      let was = upload_orderly last bucket h.bucket number upload found in
      let one = replaced by_number number after upload bucket.uploads h.bucket.numbers found in
      let uploads = replaced_length (number, upload) (number, after) bucket.uploads (with_number number after bucket.uploads) one in
      let names = replaced_sum (number, upload) (number, after) bucket.uploads (with_number number after bucket.uploads)
      one (λ (upload : ℕ × UploadRecord). length upload.1.key + tag_bytes upload.1.tags) in
      record {
        account = record {
          bucket = bucket_upload last bucket h.bucket number bucket.next_upload after (part_orderly last last at part size upload was.1 admitted since by) was.0 (omega arith);
          timely = timely_upload until bucket number after h.bucket.numbers later h.timely;
          stays = stays_part number upload part size at account found h.stays;
          booked = booked_begun last at by upload.key (of_part number part) (part_line upload.class size) (with_end upload.key (of_part number part) at account.books)
              (booked_ended last at by upload.key (of_part number part) account.books h.booked);
        };
        grows = record {
          versions = inl (omega arith);
          uploads = inl (omega (arith, uploads));
          parts = inr parts;
          names = inl (omega (arith, names));
          rules = inl (omega arith);
        };
        books = keeps_then until account.books (with_end upload.key (of_part number part) at account.books) (add_part number upload part size at account).books
            (keeps_ended until at later upload.key (of_part number part) account.books)
            (keeps_begun until at later upload.key (of_part number part) _ (with_end upload.key (of_part number part) at account.books));
      }

  pub keeps_aborted : (number : ℕ) (upload : UploadRecord) (whats : List What)
      → at_number number account.bucket.uploads ≡ Some upload
      → Keeps last until whats account (remove_upload number upload at account)
  keeps_aborted number upload whats found =
      let one = removed by_number number upload bucket.uploads found in
      let less = without_number number bucket.uploads in
      let uploads = added_length (number, upload) less bucket.uploads one in
      let parts = added_sum (number, upload) less bucket.uploads one (λ (upload : ℕ × UploadRecord). length upload.1.parts) in
      let names = added_sum (number, upload) less bucket.uploads one (λ (upload : ℕ × UploadRecord). length upload.1.key + tag_bytes upload.1.tags) in
      record {
        account = record {
          bucket = bucket_without last bucket h.bucket number;
          timely = timely_without until bucket number h.timely;
          stays = stays_aborted number upload at account found h.bucket.numbers h.stays;
          booked = booked_parts last at by upload.key number upload.parts account.books h.booked;
        };
        grows = record {
          versions = inl (omega arith);
          uploads = inl (omega (arith, uploads));
          parts = inl (omega (arith, parts));
          names = inl (omega (arith, names));
          rules = inl (omega arith);
        };
        books = keeps_parts until at later upload.key number upload.parts account.books;
      }

-- ---- rules and versioning

abbrev pub IsKeeping : Versioning → Type 0
IsKeeping Unversioned = ⊥
IsKeeping Enabled = Unit {0}
IsKeeping Suspended = Unit {0}

stack_kept : (before after : Versioning) (next last : ℕ) (stack : StackRecord) → IsKeeping after → IsOrderlyStack before next last stack → IsOrderlyStack after next last stack
stack_kept before Unversioned next last stack kept h = absurd kept
stack_kept before Enabled next last stack kept h = record { some = h.some; ids_and_moments = h.ids_and_moments; numbers = h.numbers; fits = tt; sizes = h.sizes; changed = h.changed }
stack_kept before Suspended next last stack kept h = record { some = h.some; ids_and_moments = h.ids_and_moments; numbers = h.numbers; fits = tt; sizes = h.sizes; changed = h.changed }

module _ (last until : ℕ) (account : Account) (h : IsKept last until account) (later : until ≤ last) where
  pub keeps_versioning : (versioning : Versioning) (whats : List What) → IsKeeping versioning
      → Keeps last until whats account (record account { bucket = record account.bucket { versioning = versioning; rules_since = last } })
  keeps_versioning versioning whats kept = record {
    account = record {
      bucket = record {
        next_version = h.bucket.next_version;
        next_upload = h.bucket.next_upload;
        rules_since = omega arith;
        keys = h.bucket.keys;
        stacks = every_weaker (HasStack account.bucket.versioning account.bucket.next_version last) (HasStack versioning account.bucket.next_version last)
            (λ e is. stack_kept account.bucket.versioning versioning account.bucket.next_version last e.1 kept is) account.bucket.stacks h.bucket.stacks;
        numbers = h.bucket.numbers;
        uploads = h.bucket.uploads;
      };
      timely = timely_rules until (record account.bucket { versioning = versioning; rules_since = last }) later;
      stays = same_stays;
      booked = h.booked;
    };
    grows = record { versions = inl (omega arith); uploads = inl (omega arith); parts = inl (omega arith); names = inl (omega arith); rules = inl (omega arith) };
    books = keeps_same until account.books;
  } where
    same_stays : HasOpenStays (record account { bucket = record account.bucket { versioning = versioning; rules_since = last } })
    same_stays key (of_version id) = h.stays key (of_version id)
    same_stays key (of_part number place) = h.stays key (of_part number place)

  pub keeps_rules : (rules : Option Configuration) (whats : List What) → (rules_bytes rules ≤ rules_bytes account.bucket.rules) ⊎ Listed Rules whats
      → Keeps last until whats account (with_rules last rules account)
  keeps_rules rules whats grow = record {
    account = record {
      bucket = record {
        next_version = h.bucket.next_version;
        next_upload = h.bucket.next_upload;
        rules_since = omega arith;
        keys = h.bucket.keys;
        stacks = h.bucket.stacks;
        numbers = h.bucket.numbers;
        uploads = h.bucket.uploads;
      };
      timely = timely_rules until (record account.bucket { rules = rules; rules_since = last }) later;
      stays = same_stays;
      booked = h.booked;
    };
    grows = record { versions = inl (omega arith); uploads = inl (omega arith); parts = inl (omega arith); names = inl (omega arith); rules = grow };
    books = keeps_same until account.books;
  } where
    same_stays : HasOpenStays (with_rules last rules account)
    same_stays key (of_version id) = h.stays key (of_version id)
    same_stays key (of_part number place) = h.stays key (of_part number place)
