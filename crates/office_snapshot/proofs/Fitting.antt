-- The snapshot of an office after a history can be restored.
use Rattle.std.proofs.Common.{◌≡◌, ℕ, ◌+◌, ◌-◌, ◌^◌, ◌<◌, ◌≤◌, List, [], ◌∷◌, map, length, refl, ap, sym, ◌∙◌, subst, arith}
use Rattle.std.specs.Prelude.{Option, Some, None, IfSome, option_map, All, IsFalse}
use Rattle.std.specs.List.{AllByRecursion}
use Rattle.std.proofs.lemmas.List.Elements.{All-from_recursion, recursion_from_All}
use Rattle.accrual.specs.Books.{IsBookedBy}
use Rattle.accrual.specs.Sums.{AreSumsOf, IsSmallMonth, is_nothing}
use Rattle.accrual.specs.declared.monthly.MonthSums.{MonthSums}
use Rattle.tariff.specs.Prices.{Prices}
use Rattle.plain_office.specs.Office.{Office, Account, book_of, empty_books}
use Rattle.plain_office.specs.Orderly.{IsOrderlyRecords, AreKept, SizeFits}
use Rattle.plain_office.specs.Run.{run}
use Rattle.office_types.specs.declared.command.Entry.{Entry}
use Rattle.office_laws.proofs.Offices.{NamedAccount, IsBookedUntil}
use Rattle.office_snapshot.specs.Snapshots.{SnapshotRecord, BucketPartRecord, ShowsBucket, ShowBuckets, Shows, first_open_of}
use Rattle.office_snapshot.specs.Restorable.{HaveForm, HasForm, office_in, HasBegun, IsSmallPart, IsRestorable}
use Rattle.office_snapshot.specs.Classes.{HasSixNumbers, AreWhole}
use Rattle.office_snapshot.proofs.Bare.{bare, bare_office, records_to}
use Rattle.office_snapshot.proofs.Held.{IsHeld, HoldsBy, AllHeld, history_held}
use Rattle.office_snapshot.proofs.Ranges.{IsWithin, each_within, ended_few, early_few, moves_few, small_month, month_begun}
use Rattle.office_snapshot.proofs.Shown.{part_in}

-- ---- the months of one bucket

record IsMonth (sums : List MonthSums) (s : MonthSums) : Type 0 where
  six : HasSixNumbers s
  some : IsFalse (is_nothing s)
  ended : IsWithin (λ s. s.ended) sums s
  early : IsWithin (λ s. s.early) sums s
  moves : IsWithin (λ s. s.moves) sums s

all_of : {X : Type 0} (A B C D E F : X → Type 0) → ((x : X) → A x → B x → C x → D x → E x → F x) → (xs : List X)
    → AllByRecursion A xs → AllByRecursion B xs → AllByRecursion C xs → AllByRecursion D xs → AllByRecursion E xs → AllByRecursion F xs
all_of A B C D E F f [] a b c d e = tt
all_of A B C D E F f (x ∷ xs) a b c d e = (f x a.0 b.0 c.0 d.0 e.0, all_of A B C D E F f xs a.1 b.1 c.1 d.1 e.1)

every_to : {X : Type 0} (P Q : X → Type 0) → ((x : X) → P x → Q x) → (xs : List X) → AllByRecursion P xs → AllByRecursion Q xs
every_to P Q f [] all = tt
every_to P Q f (x ∷ xs) all = (f x all.0, every_to P Q f xs all.1)

months_are : (sums : List MonthSums) → HaveForm sums → All HasSixNumbers sums → AllByRecursion (IsMonth sums) sums
months_are sums form six =
    all_of HasSixNumbers (λ s. IsFalse (is_nothing s)) (IsWithin (λ s. s.ended) sums) (IsWithin (λ s. s.early) sums) (IsWithin (λ s. s.moves) sums) (IsMonth sums)
    (λ s a b c d e. record { six = a; some = b; ended = c; early = d; moves = e }) sums
    (recursion_from_All HasSixNumbers sums six) (recursion_from_All (λ s. IsFalse (is_nothing s)) sums form.some)
    (each_within (λ s. s.ended) sums) (each_within (λ s. s.early) sums) (each_within (λ s. s.moves) sums)

module _ (n : ℕ) (few : n ≤ 2 ^ 41) where
  part_small : (part : BucketPartRecord) (entry : NamedAccount) → ShowsBucket part entry → HaveForm part.sums → All HasSixNumbers part.sums → IsHeld n entry.1 → IsSmallPart part
  part_small part entry shows form six held =
      let same = shows.bucket in
      record {
        next_version = let k = held.next_version in let e = ap (λ b. b.next_version) same in omega (arith, k, e, few);
        next_upload = let k = held.next_upload in let e = ap (λ b. b.next_upload) same in omega (arith, k, e, few);
        sums = All-from_recursion IsSmallMonth part.sums
            (every_to (IsMonth part.sums) IsSmallMonth
            (λ s is. small_month (book_of entry.1.books) part.sums shows.sums s is.six is.ended is.early is.moves
            (λ class. ended_few s.month class n entry.1 held few) (λ class. early_few s.month class n entry.1 held few) (λ class. moves_few s.month class n entry.1 held few))
            part.sums (months_are part.sums form six));
      }

  parts_small : (parts : List BucketPartRecord) (entries : List NamedAccount) → ShowBuckets parts entries → AllByRecursion (λ part. HaveForm part.sums) parts
      → AllByRecursion (λ part. All HasSixNumbers part.sums) parts → AllByRecursion (HoldsBy n) entries → AllByRecursion IsSmallPart parts
  parts_small [] [] shows form six held = tt
  parts_small [] (entry ∷ entries) shows form six held = tt
  parts_small (part ∷ parts) [] shows form six held = absurd shows
  parts_small (part ∷ parts) (entry ∷ entries) shows form six held = (part_small part entry shows.0 form.0 six.0 held.0, parts_small parts entries shows.1 form.1 six.1 held.1)

module _ (last : ℕ) where
  parts_begun : (parts : List BucketPartRecord) (entries : List NamedAccount) → ShowBuckets parts entries → AllByRecursion (λ part. HaveForm part.sums) parts
      → AllByRecursion (λ part. All HasSixNumbers part.sums) parts → AllByRecursion (IsBookedUntil last) entries → AllByRecursion (λ part. AllByRecursion (HasBegun last) part.sums) parts
  parts_begun [] [] shows form six booked = tt
  parts_begun [] (entry ∷ entries) shows form six booked = tt
  parts_begun (part ∷ parts) [] shows form six booked = absurd shows
  parts_begun (part ∷ parts) (entry ∷ entries) shows form six booked = (
    every_to (IsMonth part.sums) (HasBegun last)
        (λ s is. month_begun (book_of entry.1.books) part.sums shows.0.sums s is.six is.ended is.early is.moves last booked.0 is.some)
        part.sums (months_are part.sums form.0 six.0),
    parts_begun parts entries shows.1 form.1 six.1 booked.1,
  )

-- ---- the records

parts_same : (parts : List BucketPartRecord) (entries : List NamedAccount) → ShowBuckets parts entries → map part_in parts ≡ map bare entries
parts_same [] [] shows = refl
parts_same [] (entry ∷ entries) shows = absurd shows
parts_same (part ∷ parts) [] shows = absurd shows
parts_same (part ∷ parts) (entry ∷ entries) shows =
    let one : part_in part ≡ bare entry = λ i. (shows.0.name i, record { bucket = shows.0.bucket i; books = empty_books }) in
    let rest = parts_same parts entries shows.1 in
    λ i. one i ∷ rest i

first_is : (first : Option ℕ) (n m : ℕ) (first_open : Option ℕ) → n ≡ m → first_open ≡ option_map (λ first. first + m) first → option_map (λ month. month - n) first_open ≡ first
first_is first n m first_open same is = ap (option_map (λ month. month - n)) is ∙ by first where
  by : (first : Option ℕ) → option_map (λ month. month - n) (option_map (λ first. first + m) first) ≡ first
  by None = refl
  by (Some x) = let e : x + m - n ≡ x = omega (arith, same) in ap Some e

months_by : (first : Option ℕ) (n m : ℕ) (first_open : Option ℕ) → n ≡ m → first_open ≡ option_map (λ first. first + m) first → IfSome first_open (λ month. n ≤ month)
months_by first n m first_open same is = subst (λ (o : Option ℕ). IfSome o (λ month. n ≤ month)) (sym is) (by first) where
  by : (first : Option ℕ) → IfSome (option_map (λ first. first + m) first) (λ month. n ≤ month)
  by None = tt
  by (Some x) = omega (arith, same)

module _ (s : SnapshotRecord) (office : Office) (shows : Shows s office) where
  as_many : length s.closed ≡ length office.closed
  as_many = ap (λ (l : List (ℕ × Prices)). length l) shows.closed

  first_month : option_map (λ month. month - length s.closed) s.first_open ≡ office.first_month
  first_month = first_is office.first_month (length s.closed) (length office.closed) s.first_open as_many shows.first_open

  same_office : office_in s ≡ bare_office office
  same_office =
      let accounts = parts_same s.buckets office.accounts shows.buckets in
      λ i. record {
        last = shows.last i;
        tariffs = shows.tariffs i;
        first_month = first_month i;
        closed = shows.closed i;
        accounts = accounts i;
        kept = shows.kept i;
      }

  begun_by : (last : Option ℕ) → IfSome last (λ last. AllByRecursion (λ (entry : NamedAccount). IsBookedBy last (book_of entry.1.books)) office.accounts) → HasForm s → AreWhole s
      → IfSome last (λ last. AllByRecursion (λ part. AllByRecursion (HasBegun last) part.sums) s.buckets)
  begun_by None booked form six = tt
  begun_by (Some last) booked form six = parts_begun last s.buckets office.accounts shows.buckets form.sums six booked

  pub fits_by : (n : ℕ) → n ≤ 2 ^ 41 → AllHeld n office → HasForm s → AreWhole s → IsRestorable s
  fits_by n few held form six = record {
    form = form;
    records = subst IsOrderlyRecords (sym same_office) (records_to office shows.orderly.records);
    kept = subst AreKept (sym shows.kept) shows.orderly.kept;
    months = months_by office.first_month (length s.closed) (length office.closed) s.first_open as_many shows.first_open;
    small = parts_small n few s.buckets office.accounts shows.buckets form.sums six held;
    begun = subst (λ (o : Option ℕ). IfSome o (λ last. AllByRecursion (λ part. AllByRecursion (HasBegun last) part.sums) s.buckets)) (sym shows.last)
        (begun_by office.last shows.orderly.booked form six);
  }

pub history_fits : (history : List Entry) (office : Office) (s : SnapshotRecord) → AllByRecursion (λ (e : Entry). SizeFits e.command) history → run history ≡ Some office → length history ≤ 2 ^ 41
    → HasForm s → AreWhole s → Shows s office → IsRestorable s
history_fits history office s fits is few form six shows = fits_by s office shows (length history) few (history_held history office fits is) form six
