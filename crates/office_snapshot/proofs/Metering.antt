-- Totals that were made of sums and of the stays that the records ask for are those of each book with these sums and
-- open stays.
use Rattle.std.proofs.Common.{◌≡◌, ℕ, ◌+◌, ◌-◌, ◌*◌, List, [], ◌∷◌, ◌++◌, map, refl, ap, sym, ◌∙◌, subst, Bool, true, false, arith, Option, Some, None, IsFalse}
use Rattle.std.specs.Prelude.{All, sum_by, is_none, ◌&&◌, if◌then◌else◌}
use Rattle.std.specs.List.{AllByRecursion}
use Rattle.std.proofs.lemmas.List.{append-nil, map-append}
use Rattle.std.proofs.lemmas.List.Elements.{All-cons, All-nil, All-head, All-tail}
use Rattle.std.proofs.lemmas.List.Sums.{sum_by-append, sum_by-cons}
use Rattle.moments.specs.Months.{month_start, month_end}
use Rattle.class_rules.specs.declared.class.Class.{Class}
use Rattle.due_core.specs.Buckets.{BucketRecord}
use Rattle.accrual.specs.Books.{Stay, Book}
use Rattle.accrual.specs.Meters.{bytes_in_class, is_in_month, early_quantity, move_count}
use Rattle.accrual.specs.Totals.{Totals, AreTotalsOf, has_no_end, ended_ms, running_bytes, ended_sum, running_sum, lead_sum}
use Rattle.accrual.specs.Sums.{AreSumsOf, HasAllEnded}
use Rattle.accrual.specs.declared.monthly.MonthSums.{MonthSums}
use Rattle.plain_office.specs.Office.{Booked, Account, stay_in, book_of}
use Rattle.plain_office.specs.Orderly.{IsOrderlyBucket, HasOpenStays, stays_expected}
use Rattle.office_laws.proofs.Offices.{NamedAccount}
use Rattle.office_laws.proofs.Stays.{open_of}
use Rattle.office_snapshot.specs.Snapshots.{BucketPartRecord, ShowsBucket}
use Rattle.office_snapshot.specs.RecordStays.{record_stays, book_with_stays, AreTotalsBy}
use Rattle.office_snapshot.proofs.OpenStays.{has_open_stays}
use Rattle.office_snapshot.proofs.RecordedStays.{differ_in, parts_rise}
use Rattle.office_snapshot.proofs.Restoring.{IsOpen, all_open}
use Rattle.office_snapshot.proofs.SameSums.{HaveSameOpen, same_total}
use Rattle.office_snapshot.proofs.SummedBooks.{month_stay, summed_book, summed_has}

-- ---- the open stays

pub open_same : (last : ℕ) (bucket : BucketRecord) → IsOrderlyBucket last bucket → (account : Account) → account.bucket ≡ bucket → HasOpenStays account → HaveSameOpen (record_stays bucket) account.books.stays
open_same last bucket h account is has key item =
    sym (ap (λ (l : List Booked). open_of key item l) (append-nil (record_stays bucket)))
    ∙ has_open_stays bucket [] [] [] h.keys (differ_in last bucket h) h.numbers (parts_rise last bucket h) tt key item
    ∙ sym (has key item ∙ ap (λ (b : BucketRecord). stays_expected b key item) is)

-- ---- sums over stays that have ended, and over those that have not

none_running : (month : ℕ) (class : Class) (stay : Stay) → has_no_end stay.to ≡ false → running_bytes month class stay ≡ 0
none_running month class stay ended = ap (λ t. if t && is_in_month month stay.from then bytes_in_class class stay.lines else 0) ended

no_end_is : (to : Option ℕ) → is_none to ≡ has_no_end to
no_end_is None = refl
no_end_is (Some to) = refl

sum_none : (f : Stay → ℕ) → ((stay : Stay) → has_no_end stay.to ≡ false → f stay ≡ 0) → (stays : List Stay) → All (λ (stay : Stay). IsFalse (has_no_end stay.to)) stays → sum_by f stays ≡ 0
sum_none f none [] all = refl
sum_none f none (stay ∷ stays) all =
    let here = none stay (All-head (λ (stay : Stay). IsFalse (has_no_end stay.to)) stay stays all) in
    let rest = sum_none f none stays (All-tail (λ (stay : Stay). IsFalse (has_no_end stay.to)) stay stays all) in
    let cons = sum_by-cons f stay stays in
    omega (arith, here, rest, cons)

module _ (book : Book) (ended : HasAllEnded book) (stays others : List Booked) (same : HaveSameOpen stays others) where
  -- of those without an end
  over_open : (f : Stay → ℕ) → ((stay : Stay) → has_no_end stay.to ≡ false → f stay ≡ 0) → sum_by f (book.stays ++ map stay_in stays) ≡ sum_by f (map stay_in others)
  over_open f none =
      let joined = sum_by-append f book.stays (map stay_in stays) in
      let before = sum_none f none book.stays ended in
      let total = same_total f (λ stay is. none stay (sym (no_end_is stay.to) ∙ is)) stays others same in
      omega (arith, joined, before, total)

sum_open : (f : Stay → ℕ) → ((stay : Stay) → stay.to ≡ None → f stay ≡ 0) → (stays : List Booked) → AllByRecursion IsOpen stays → sum_by f (map stay_in stays) ≡ 0
sum_open f none [] all = refl
sum_open f none (stay ∷ stays) all =
    let here = none stay.1 all.0 in
    let rest = sum_open f none stays all.1 in
    let cons = sum_by-cons f stay.1 (map stay_in stays) in
    omega (arith, here, rest, cons)

-- ---- the totals

module _ (totals : Totals) (book : Book) (sums : List MonthSums) (last : ℕ) (account : Account)
    (h : IsOrderlyBucket last account.bucket) (has : HasOpenStays account) (ended : HasAllEnded book)
    (summed : AreSumsOf book sums) (shown : AreSumsOf (book_of account.books) sums)
    (stand : AreTotalsOf totals (book_with_stays (record_stays account.bucket) book)) (month : ℕ) (class : Class) where
  abbrev stays : List Booked
  stays = record_stays account.bucket

  abbrev ended_term : Stay → ℕ
  ended_term stay = bytes_in_class class stay.lines * ended_ms (month_start month) (month_end month) stay.from stay.to

  none_ended : (stay : Stay) → stay.to ≡ None → ended_term stay ≡ 0
  none_ended stay is =
      let none = ap (λ (o : Option ℕ). bytes_in_class class stay.lines * ended_ms (month_start month) (month_end month) stay.from o) is in
      omega (arith, none)

  ended_same : ended_sum month class (book_with_stays (record_stays account.bucket) book) ≡ ended_sum month class book
  unfolding ended_sum
  ended_same =
      let joined = sum_by-append ended_term book.stays (map stay_in (record_stays account.bucket)) in
      let none = sum_open ended_term none_ended (record_stays account.bucket) (all_open account.bucket) in
      omega (arith, joined, none)

  pub ended_is : ended_sum month class (book_with_stays (record_stays account.bucket) book) ≡ ended_sum month class (book_of account.books)
  ended_is = ended_same ∙ sym (summed.ended month class) ∙ shown.ended month class

  pub running_is : running_sum month class (book_with_stays (record_stays account.bucket) book) ≡ running_sum month class (book_of account.books)
  unfolding running_sum
  running_is =
      over_open book ended (record_stays account.bucket) account.books.stays (open_same last account.bucket h account refl has) (λ (stay : Stay). running_bytes month class stay) (none_running month class)

  pub lead_is : lead_sum month class (book_with_stays (record_stays account.bucket) book) ≡ lead_sum month class (book_of account.books)
  unfolding lead_sum
  lead_is =
      over_open book ended (record_stays account.bucket) account.books.stays (open_same last account.bucket h account refl has) (λ (stay : Stay). running_bytes month class stay * (stay.from - month_start month))
      (λ stay is. ap (λ (n : ℕ). n * (stay.from - month_start month)) (none_running month class stay is) ∙ omega arith)

  pub early_is : early_quantity month class (book_with_stays (record_stays account.bucket) book) ≡ early_quantity month class (book_of account.books)
  unfolding early_quantity
  early_is = sym (summed.early month class) ∙ shown.early month class

  pub moves_are : move_count month class (book_with_stays (record_stays account.bucket) book) ≡ move_count month class (book_of account.books)
  unfolding move_count
  moves_are = sym (summed.moves month class) ∙ shown.moves month class

pub totals_same : (totals : Totals) (book : Book) (sums : List MonthSums) (last : ℕ) (account : Account) → IsOrderlyBucket last account.bucket → HasOpenStays account → HasAllEnded book
    → AreSumsOf book sums → AreSumsOf (book_of account.books) sums → AreTotalsOf totals (book_with_stays (record_stays account.bucket) book) → AreTotalsOf totals (book_of account.books)
totals_same totals book sums last account h has ended summed shown stand = record {
  ended = λ month class. stand.ended month class ∙ ended_is totals book sums last account h has ended summed shown stand month class;
  running = λ month class. stand.running month class ∙ running_is totals book sums last account h has ended summed shown stand month class;
  lead = λ month class. stand.lead month class ∙ lead_is totals book sums last account h has ended summed shown stand month class;
  early = λ month class. stand.early month class ∙ early_is totals book sums last account h has ended summed shown stand month class;
  moves = λ month class. stand.moves month class ∙ moves_are totals book sums last account h has ended summed shown stand month class;
}

-- ---- a book with the sums

pub summed_ended : (sums : List MonthSums) → HasAllEnded (summed_book sums)
summed_ended [] = All-nil (λ (stay : Stay). IsFalse (has_no_end stay.to))
summed_ended (s ∷ sums) = All-cons (λ (stay : Stay). IsFalse (has_no_end stay.to)) (month_stay s) (map month_stay sums) refl (summed_ended sums)

pub part_stands : (totals : Totals) (part : BucketPartRecord) (entry : NamedAccount) (last : ℕ) → IsOrderlyBucket last part.bucket → ShowsBucket part entry → HasOpenStays entry.1
    → AreTotalsBy totals part → AreTotalsOf totals (book_of entry.1.books)
part_stands totals part entry last h shows has stand =
    let bucket = shows.bucket in
    totals_same totals (summed_book part.sums) part.sums last entry.1 (subst (IsOrderlyBucket last) bucket h) has (summed_ended part.sums) (summed_has part.sums) shows.sums
    (subst (λ (b : BucketRecord). AreTotalsOf totals (book_with_stays (record_stays b) (summed_book part.sums))) bucket (stand (summed_book part.sums) (summed_ended part.sums) (summed_has part.sums)))
