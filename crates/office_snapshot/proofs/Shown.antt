-- An office that a restorable snapshot shows: its records, with books that have the sums and the open stays.
use Rattle.std.proofs.Common.{◌≡◌, ℕ, ◌+◌, ◌-◌, ◌≤◌, List, [], ◌∷◌, ◌++◌, map, length, refl, ap, sym, ◌∙◌, subst, arith}
use Rattle.std.specs.Prelude.{Option, Some, None, MatchOption, IfSome, option_map}
use Rattle.std.specs.List.{AllByRecursion}
use Rattle.std.proofs.lemmas.List.{map-append}
use Rattle.due_core.specs.Buckets.{BucketRecord}
use Rattle.accrual.specs.Books.{Stay, IsStayBy, IsBookedBy}
use Rattle.accrual.specs.declared.monthly.MonthSums.{MonthSums}
use Rattle.plain_office.specs.Office.{Office, Account, stay_in, book_of}
use Rattle.plain_office.specs.Orderly.{IsOrderly, IsOrderlyRecords, IsOrderlyBucket, IsBlank, IsOrderlyUntil, HasOpenStays}
use Rattle.office_laws.proofs.Lists.{every_append}
use Rattle.office_laws.proofs.Offices.{NamedAccount, HasStays, IsBookedUntil}
use Rattle.office_snapshot.specs.Snapshots.{SnapshotRecord, BucketPartRecord, ShowBuckets, Shows, first_open_of, replies_of}
use Rattle.office_snapshot.specs.Restorable.{office_in, HasBegun, IsRestorable}
use Rattle.office_snapshot.specs.RecordStays.{record_stays}
use Rattle.office_snapshot.proofs.Bare.{bare, bare_office, records_back}
use Rattle.office_snapshot.proofs.RecordedStays.{differ_in, parts_rise, stays_by, into_book}
use Rattle.office_snapshot.proofs.SummedBooks.{month_stay, summed_by}
use Rattle.office_snapshot.proofs.Restoring.{ended_stays, same_stays, restored_books, restored_sums, restored_open}

abbrev pub restored_account : BucketPartRecord → NamedAccount
restored_account part = (part.name, record { bucket = part.bucket; books = restored_books part.bucket part.sums })

abbrev pub restored : SnapshotRecord → Office
restored s = record {
  last = s.last;
  tariffs = s.tariffs;
  first_month = option_map (λ month. month - length s.closed) s.first_open;
  closed = s.closed;
  accounts = map restored_account s.buckets;
  kept = replies_of s.kept;
}

-- ---- its records

abbrev pub part_in : BucketPartRecord → NamedAccount
part_in part = bare (restored_account part)

same_bare : (parts : List BucketPartRecord) → map part_in parts ≡ map bare (map restored_account parts)
same_bare [] = refl
same_bare (part ∷ parts) = ap (λ (l : List NamedAccount). part_in part ∷ l) (same_bare parts)

pub restored_records : (s : SnapshotRecord) → IsOrderlyRecords (office_in s) → IsOrderlyRecords (restored s)
restored_records s h =
    records_back (restored s) (subst (λ (l : List NamedAccount). IsOrderlyRecords (record (restored s) { accounts = l })) (same_bare s.buckets) h)

-- ---- each bucket

abbrev IsOrderlyPart : ℕ → BucketPartRecord → Type 0
IsOrderlyPart last part = IsOrderlyBucket last part.bucket

parts_of : (last : ℕ) (parts : List BucketPartRecord) → AllByRecursion (λ (e : NamedAccount). IsOrderlyBucket last e.1.bucket) (map restored_account parts) → AllByRecursion (IsOrderlyPart last) parts
parts_of last [] all = tt
parts_of last (part ∷ parts) all = (all.0, parts_of last parts all.1)

none_of : (parts : List BucketPartRecord) → map restored_account parts ≡ [] → parts ≡ []
none_of [] is = refl
none_of (part ∷ parts) is = absurd cc

-- the buckets of a restorable snapshot are orderly, and there is none before the first command
pub parts_orderly : (s : SnapshotRecord) → IsRestorable s → MatchOption s.last (s.buckets ≡ []) (λ last. AllByRecursion (λ part. IsOrderlyBucket last part.bucket) s.buckets)
parts_orderly s h = by s.last (restored_records s h.records).moments where
  by : (last : Option ℕ) → MatchOption last (IsBlank (restored s)) (λ moment. IsOrderlyUntil moment (restored s))
      → MatchOption last (s.buckets ≡ []) (λ last. AllByRecursion (λ part. IsOrderlyBucket last part.bucket) s.buckets)
  by None blank = none_of s.buckets blank.accounts
  by (Some last) until = parts_of last s.buckets until.buckets

has_stays : (last : ℕ) (parts : List BucketPartRecord) → AllByRecursion (IsOrderlyPart last) parts → AllByRecursion HasStays (map restored_account parts)
has_stays last [] all = tt
has_stays last (part ∷ parts) all =
    let h = all.0 in
    (restored_open part.bucket part.sums h.keys (differ_in last part.bucket h) h.numbers (parts_rise last part.bucket h), has_stays last parts all.1)

booked_by : (last : ℕ) (bucket : BucketRecord) (sums : List MonthSums) → IsOrderlyBucket last bucket → AllByRecursion (HasBegun last) sums → IsBookedBy last (book_of (restored_books bucket sums))
booked_by last bucket sums h begun =
    let summed = summed_by last sums begun in
    record {
      stays = subst (AllByRecursion (IsStayBy last))
          (sym (map-append stay_in (record_stays bucket) (ended_stays sums) ∙ ap (λ (l : List Stay). map stay_in (record_stays bucket) ++ l) (same_stays sums)))
          (every_append (IsStayBy last) (map stay_in (record_stays bucket)) (map month_stay sums) (into_book last (record_stays bucket) (stays_by last bucket h)) summed.stays);
      early = summed.early;
      moves = summed.moves;
    }

are_booked : (last : ℕ) (parts : List BucketPartRecord) → AllByRecursion (IsOrderlyPart last) parts → AllByRecursion (λ part. AllByRecursion (HasBegun last) part.sums) parts
    → AllByRecursion (IsBookedUntil last) (map restored_account parts)
are_booked last [] all begun = tt
are_booked last (part ∷ parts) all begun = (booked_by last part.bucket part.sums all.0 begun.0, are_booked last parts all.1 begun.1)

shown : (parts : List BucketPartRecord) → ShowBuckets parts (map restored_account parts)
shown [] = tt
shown (part ∷ parts) = (record { name = refl; bucket = refl; sums = restored_sums part.bucket part.sums }, shown parts)

-- ---- the whole office

module _ (s : SnapshotRecord) (h : IsRestorable s) where
  records : IsOrderlyRecords (restored s)
  records = restored_records s h.records

  all_stays : (last : Option ℕ) → MatchOption last (IsBlank (restored s)) (λ moment. IsOrderlyUntil moment (restored s)) → AllByRecursion HasStays (restored s).accounts
  all_stays None blank = subst (AllByRecursion HasStays) (sym blank.accounts) tt
  all_stays (Some last) until = has_stays last s.buckets (parts_of last s.buckets until.buckets)

  all_booked : (last : Option ℕ) → MatchOption last (IsBlank (restored s)) (λ moment. IsOrderlyUntil moment (restored s))
      → IfSome last (λ last. AllByRecursion (λ part. AllByRecursion (HasBegun last) part.sums) s.buckets)
      → IfSome last (λ last. AllByRecursion (λ (entry : NamedAccount). IsBookedBy last (book_of entry.1.books)) (restored s).accounts)
  all_booked None blank begun = tt
  all_booked (Some last) until begun = are_booked last s.buckets (parts_of last s.buckets until.buckets) begun

  first_open_is : (first_open : Option ℕ) (n : ℕ) → IfSome first_open (λ month. n ≤ month)
      → first_open ≡ option_map (λ first. first + n) (option_map (λ month. month - n) first_open)
  first_open_is None n le = refl
  first_open_is (Some month) n le = let same : month ≡ month - n + n = omega (arith, le) in ap Some same

  pub shows_restored : Shows s (restored s)
  shows_restored = record {
    orderly = record {
      records = records;
      stays = all_stays s.last records.moments;
      booked = all_booked s.last records.moments h.begun;
      kept = h.kept;
    };
    last = refl;
    first_open = first_open_is s.first_open (length s.closed) h.months;
    tariffs = refl;
    closed = refl;
    buckets = shown s.buckets;
    kept = refl;
  }
