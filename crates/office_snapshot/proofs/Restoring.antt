-- Books made from records and sums: the open stays of the records, and a book with the sums.
use Rattle.std.proofs.Common.{◌≡◌, ℕ, ◌+◌, ◌*◌, List, [], ◌∷◌, ◌++◌, map, Option, None, Some, true, false, refl, sym, ap, ◌∙◌, arith}
use Rattle.std.specs.Prelude.{sum_by, is_none}
use Rattle.std.specs.List.{flat_map, AllByRecursion}
use Rattle.std.specs.Ordering.{nat_cmp}
use Rattle.std.proofs.lemmas.List.{map-append}
use Rattle.std.proofs.lemmas.List.Sums.{sum_by-append, sum_by-cons}
use Rattle.moments.specs.Months.{month_start, month_end}
use Rattle.office_base.specs.Maps.{bytes_cmp, Rises}
use Rattle.office_base.specs.declared.version_id.VersionId.TheVariants.{Null}
use Rattle.class_rules.specs.declared.class.Class.{Class}
use Rattle.stacks.specs.Stacks.{StackRecord, ids_differ}
use Rattle.stacks.specs.declared.version.Version.{Version}
use Rattle.uploads.specs.Uploads.{UploadRecord}
use Rattle.uploads.specs.declared.part.Part.{Part}
use Rattle.due_core.specs.Buckets.{BucketRecord}
use Rattle.accrual.specs.Books.{Stay, Book}
use Rattle.accrual.specs.Meters.{bytes_in_class, early_quantity, move_count}
use Rattle.accrual.specs.Totals.{ended_ms, ended_sum}
use Rattle.accrual.specs.Sums.{AreSumsOf}
use Rattle.accrual.specs.declared.monthly.MonthSums.{MonthSums}
use Rattle.plain_office.specs.Office.{Books, Booked, Label, of_version, stay_in, book_of}
use Rattle.plain_office.specs.Orderly.{stay_of_version, HasOpenStays}
use Rattle.office_snapshot.proofs.SummedBooks.{month_stay, month_early, month_moves, summed_book, summed_has}
use Rattle.office_snapshot.specs.RecordStays.{stack_stays, part_stay, upload_stays, record_stays}
use Rattle.office_snapshot.proofs.OpenStays.{HaveAllEnded, has_open_stays}

-- whose the stays of sums are does not matter
abbrev nobody : Label
nobody = record { key = []; item = of_version Null }

abbrev pub ended_stays : List MonthSums → List Booked
ended_stays = map (λ s. (nobody, month_stay s))

-- the books of a bucket with these records and sums
abbrev pub restored_books : BucketRecord → List MonthSums → Books
restored_books bucket sums =
    record { stays = record_stays bucket ++ ended_stays sums; early = flat_map month_early sums; moves = flat_map month_moves sums }

have_ended : (sums : List MonthSums) → HaveAllEnded (ended_stays sums)
have_ended [] = tt
have_ended (s ∷ sums) = (refl, have_ended sums)

-- ---- the open stays have no end, and add nothing to what has ended

abbrev pub IsOpen : Booked → Type 0
IsOpen stay = stay.1.to ≡ None

every_on : (xs ys : List Booked) → AllByRecursion IsOpen xs → AllByRecursion IsOpen ys → AllByRecursion IsOpen (xs ++ ys)
every_on [] ys a b = b
every_on (x ∷ xs) ys a b = (a.0, every_on xs ys a.1 b)

versions_open : (key : List ℕ) (vs : List Version) → AllByRecursion IsOpen (map (stay_of_version key) vs)
versions_open key [] = tt
versions_open key (v ∷ vs) = (refl, versions_open key vs)

stacks_open : (es : List (List ℕ × StackRecord)) → AllByRecursion IsOpen (flat_map stack_stays es)
stacks_open [] = tt
stacks_open (e ∷ es) = every_on (stack_stays e) (flat_map stack_stays es) (versions_open e.0 e.1.versions) (stacks_open es)

parts_open : (u : ℕ × UploadRecord) (qs : List (ℕ × Part)) → AllByRecursion IsOpen (map (part_stay u) qs)
parts_open u [] = tt
parts_open u (q ∷ qs) = (refl, parts_open u qs)

uploads_open : (us : List (ℕ × UploadRecord)) → AllByRecursion IsOpen (flat_map upload_stays us)
uploads_open [] = tt
uploads_open (u ∷ us) = every_on (upload_stays u) (flat_map upload_stays us) (parts_open u u.1.parts) (uploads_open us)

pub all_open : (bucket : BucketRecord) → AllByRecursion IsOpen (record_stays bucket)
all_open bucket = every_on (flat_map stack_stays bucket.stacks) (flat_map upload_stays bucket.uploads) (stacks_open bucket.stacks) (uploads_open bucket.uploads)

pub same_stays : (sums : List MonthSums) → map stay_in (ended_stays sums) ≡ map month_stay sums
same_stays [] = refl
same_stays (s ∷ sums) = ap (λ (l : List Stay). month_stay s ∷ l) (same_stays sums)

module _ (month : ℕ) (class : Class) where
  abbrev term : Stay → ℕ
  term stay = bytes_in_class class stay.lines * ended_ms (month_start month) (month_end month) stay.from stay.to

  nothing_ended : (stays : List Booked) → AllByRecursion IsOpen stays → sum_by term (map stay_in stays) ≡ 0
  nothing_ended [] all = refl
  nothing_ended (s ∷ stays) all =
      let more = nothing_ended stays all.1 in
      let none = ap (λ (o : Option ℕ). bytes_in_class class s.1.lines * ended_ms (month_start month) (month_end month) s.1.from o) all.0 in
      omega (arith, sum_by-cons term s.1 (map stay_in stays), more, none)

  ended_same : (bucket : BucketRecord) (sums : List MonthSums) → sum_by term (map stay_in (record_stays bucket ++ ended_stays sums)) ≡ sum_by term (map month_stay sums)
  ended_same bucket sums =
      let none = nothing_ended (record_stays bucket) (all_open bucket) in
      ap (sum_by term) (map-append stay_in (record_stays bucket) (ended_stays sums))
      ∙ sum_by-append term (map stay_in (record_stays bucket)) (map stay_in (ended_stays sums))
      ∙ (λ i. none i + sum_by term (map stay_in (ended_stays sums)))
      ∙ (let zero_first : 0 + sum_by term (map stay_in (ended_stays sums)) ≡ sum_by term (map stay_in (ended_stays sums)) = omega arith in zero_first)
      ∙ ap (sum_by term) (same_stays sums)

-- they have the sums
pub restored_sums : (bucket : BucketRecord) (sums : List MonthSums) → AreSumsOf (book_of (restored_books bucket sums)) sums
unfolding ended_sum early_quantity move_count
restored_sums bucket sums =
    let has = summed_has sums in
    record {
      ended = λ month class. has.ended month class ∙ sym (ended_same month class bucket sums);
      early = has.early;
      moves = has.moves;
    }

-- and the open stays that the records ask for
pub restored_open : (bucket : BucketRecord) (sums : List MonthSums) → Rises bytes_cmp bucket.stacks → AllByRecursion (λ e. ids_differ e.1.versions ≡ true) bucket.stacks
    → Rises nat_cmp bucket.uploads → AllByRecursion (λ u. Rises nat_cmp u.1.parts) bucket.uploads
    → HasOpenStays (record { bucket = bucket; books = restored_books bucket sums })
restored_open bucket sums keys differ numbers parts =
    has_open_stays bucket (ended_stays sums) (flat_map month_early sums) (flat_map month_moves sums) keys differ numbers parts (have_ended sums)
