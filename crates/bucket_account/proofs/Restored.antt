-- Meters that were made of sums and of the records' open stays stand for every account with these.
use Rattle.std.proofs.Common.{◌≡◌, ℕ, ◌-◌, ◌*◌, List, [], ◌∷◌, ◌++◌, map, flat_map, filter, not, refl, ap, sym, ◌∙◌, subst, Bool, true, false, ◌&&◌, cond, arith, ◌<◌, Option, Some, None}
use Rattle.std.specs.Prelude.{sum_by, is_none, IsFalse, if◌then◌else◌}
use Rattle.std.specs.Str.{bytes_eq}
use Rattle.std.specs.List.{AllByRecursion}
use Rattle.std.specs.Ordering.{nat_cmp}
use Rattle.std.proofs.lemmas.Bool.{and_parts, and_from, not-true}
use Rattle.std.proofs.lemmas.List.{map-append}
use Rattle.std.proofs.lemmas.List.Elements.{filter-append, All-from_recursion}
use Rattle.std.proofs.lemmas.List.Sums.{sum_by-append, sum_by-cons}
use Rattle.moments.specs.Months.{month_start, month_end}
use Rattle.class_rules.specs.declared.class.Class.{Class}
use Rattle.office_base.specs.Maps.{Rises}
use Rattle.stacks.specs.Stacks.{StackRecord}
use Rattle.stacks.specs.declared.version.Version.{Version}
use Rattle.uploads.specs.Uploads.{UploadRecord}
use Rattle.uploads.specs.declared.part.Part.{Part}
use Rattle.due_core.specs.Buckets.{BucketRecord}
use Rattle.accrual.specs.Books.{Stay, Book}
use Rattle.accrual.specs.Meters.{bytes_in_class, is_in_month, early_quantity, move_count}
use Rattle.accrual.specs.Totals.{Totals, AreTotalsOf, has_no_end, ended_ms, running_bytes, ended_sum, running_sum, lead_sum}
use Rattle.accrual.specs.Sums.{AreSumsOf, HasAllEnded}
use Rattle.accrual.specs.declared.monthly.MonthSums.{MonthSums}
use Rattle.plain_office.specs.Office.{Account, Booked, Label, stay_in, book_of}
use Rattle.plain_office.specs.Books.{is_open_stay, same_item}
use Rattle.plain_office.specs.Orderly.{IsOrderlyBucket, IsOrderlyUpload, HasOpenStays, stay_of_version, stay_of_part}
use Rattle.office_laws.proofs.Ends.{tidy_from_orderly}
use Rattle.office_laws.proofs.Lists.{every, every_append, every_map, every_flat_map, every_weaker, passing}
use Rattle.office_laws.proofs.Maps.{bytes_itself, bytes_same}
use Rattle.office_laws.proofs.Stays.{item_itself, item_same}
use Rattle.bucket_account.specs.Restoring.{open_stays, stack_stays, upload_stays, AddsStays, IsAccountOf}
use Rattle.bucket_account.proofs.SameSums.{same_sum}
use Rattle.bucket_account.proofs.OpenStays.{each_open}

-- ---- open stays, each under its key and item

abbrev has_ended : Booked → Bool
has_ended stay = not (has_no_end stay.1.to)

open_is : (to : Option ℕ) → is_none to ≡ has_no_end to
open_is None = refl
open_is (Some at) = refl

own : (stay : Booked) → has_no_end stay.1.to ≡ true → is_open_stay stay.0.key stay.0.item stay ≡ true
own stay is =
    and_from (is_none stay.1.to && bytes_eq stay.0.key stay.0.key) (same_item stay.0.item stay.0.item)
    (and_from (is_none stay.1.to) (bytes_eq stay.0.key stay.0.key) (open_is stay.1.to ∙ is) (bytes_itself stay.0.key)) (item_itself stay.0.item)

only : (l : Label) (stay : Booked) → is_open_stay l.key l.item stay ≡ true → (l ≡ stay.0) × (has_no_end stay.1.to ≡ true)
only l stay h =
    let a = and_parts (is_none stay.1.to && bytes_eq l.key stay.0.key) (same_item l.item stay.0.item) h in
    let b = and_parts (is_none stay.1.to) (bytes_eq l.key stay.0.key) a.0 in
    let k = bytes_same l.key stay.0.key b.1 in
    let m = item_same l.item stay.0.item a.1 in
    ((λ i. record { key = k i; item = m i }), sym (open_is stay.1.to) ∙ b.0)

-- ---- sums over stays

sum_in : (f : Stay → ℕ) (stays : List Booked) → sum_by f (map stay_in stays) ≡ sum_by (λ (stay : Booked). f stay.1) stays
sum_in f [] = refl
sum_in f (s ∷ stays) =
    let more = sum_in f stays in
    let a = sum_by-cons f s.1 (map stay_in stays) in
    let b = sum_by-cons (λ (stay : Booked). f stay.1) s stays in
    omega (arith, more, a, b)

-- a number that stays with an end do not have
open_sum : (f : Stay → ℕ) → ((stay : Stay) → has_no_end stay.to ≡ false → f stay ≡ 0) → (xs ys : List Booked)
    → ((l : Label) → filter (is_open_stay l.key l.item) xs ≡ filter (is_open_stay l.key l.item) ys) → sum_by f (map stay_in xs) ≡ sum_by f (map stay_in ys)
open_sum f none xs ys same =
    sum_in f xs
    ∙ same_sum (λ (l : Label) (stay : Booked). is_open_stay l.key l.item stay) (λ (stay : Booked). stay.0) (λ (stay : Booked). has_no_end stay.1.to) own only
    (λ (stay : Booked). f stay.1) (λ stay is. none stay.1 is) xs ys same
    ∙ sym (sum_in f ys)

-- a number that stays without an end do not have
ended_only : (f : Stay → ℕ) → ((stay : Stay) → has_no_end stay.to ≡ true → f stay ≡ 0) → (stays : List Booked) → sum_by f (map stay_in (filter has_ended stays)) ≡ sum_by f (map stay_in stays)
ended_only f none [] = refl
ended_only f none (s ∷ stays) = by (has_no_end s.1.to) refl (ended_only f none stays) where
  by : (b : Bool) → has_no_end s.1.to ≡ b → sum_by f (map stay_in (filter has_ended stays)) ≡ sum_by f (map stay_in stays)
      → sum_by f (map stay_in (cond (not b) (s ∷ filter has_ended stays) (filter has_ended stays))) ≡ sum_by f (map stay_in (s ∷ stays))
  by true is more =
      let zero = none s.1 is in
      let cons = sum_by-cons f s.1 (map stay_in stays) in
      omega (arith, more, zero, cons)
  by false is more =
      let a = sum_by-cons f s.1 (map stay_in (filter has_ended stays)) in
      let b = sum_by-cons f s.1 (map stay_in stays) in
      omega (arith, more, a, b)

none_open : (f : Stay → ℕ) → ((stay : Stay) → has_no_end stay.to ≡ true → f stay ≡ 0) → (stays : List Booked) → AllByRecursion (λ (stay : Booked). has_no_end stay.1.to ≡ true) stays → sum_by f (map stay_in stays) ≡ 0
none_open f none [] all = refl
none_open f none (s ∷ stays) all =
    let more = none_open f none stays all.1 in
    let zero = none s.1 all.0 in
    let cons = sum_by-cons f s.1 (map stay_in stays) in
    omega (arith, more, zero, cons)

-- ---- the stays that records ask for have no end

abbrev IsOpen : Booked → Type 0
IsOpen stay = has_no_end stay.1.to ≡ true

stack_open : (entry : List ℕ × StackRecord) → AllByRecursion IsOpen (stack_stays entry)
stack_open entry = every_map (λ (v : Version). Unit {0}) IsOpen (stay_of_version entry.0) (λ v h. refl) entry.1.versions (every (λ (v : Version). Unit {0}) (λ v. tt) entry.1.versions)

upload_open : (entry : ℕ × UploadRecord) → AllByRecursion IsOpen (upload_stays entry)
upload_open entry =
    every_map (λ (p : ℕ × Part). Unit {0}) IsOpen (λ (p : ℕ × Part). stay_of_part entry.0 entry.1 p.0 p.1) (λ p h. refl) entry.1.parts
    (every (λ (p : ℕ × Part). Unit {0}) (λ p. tt) entry.1.parts)

all_open : (bucket : BucketRecord) → AllByRecursion IsOpen (open_stays bucket)
all_open bucket =
    every_append IsOpen (flat_map stack_stays bucket.stacks) (flat_map upload_stays bucket.uploads)
    (every_flat_map (λ (e : List ℕ × StackRecord). Unit {0}) IsOpen stack_stays (λ e h. stack_open e) bucket.stacks (every (λ (e : List ℕ × StackRecord). Unit {0}) (λ e. tt) bucket.stacks))
    (every_flat_map (λ (e : ℕ × UploadRecord). Unit {0}) IsOpen upload_stays (λ e h. upload_open e) bucket.uploads (every (λ (e : ℕ × UploadRecord). Unit {0}) (λ e. tt) bucket.uploads))

-- ---- a stay with an end is no item's open one

no_ended : (l : Label) (stays : List Booked) → filter (is_open_stay l.key l.item) (filter has_ended stays) ≡ []
no_ended l [] = refl
no_ended l (s ∷ stays) = by (has_no_end s.1.to) refl (no_ended l stays) where
  by : (b : Bool) → has_no_end s.1.to ≡ b → filter (is_open_stay l.key l.item) (filter has_ended stays) ≡ []
      → filter (is_open_stay l.key l.item) (cond (not b) (s ∷ filter has_ended stays) (filter has_ended stays)) ≡ []
  by true is more = more
  by false is more = let past = open_is s.1.to ∙ is in rw past more

-- ---- the numbers of one stay

open_ended : (month : ℕ) (class : Class) (stay : Stay) → has_no_end stay.to ≡ true → bytes_in_class class stay.lines * ended_ms (month_start month) (month_end month) stay.from stay.to ≡ 0
open_ended month class stay is = by stay.to is where
  by : (to : Option ℕ) → has_no_end to ≡ true → bytes_in_class class stay.lines * ended_ms (month_start month) (month_end month) stay.from to ≡ 0
  by None h = omega arith
  by (Some at) h = absurd cc

ended_running : (month : ℕ) (class : Class) (stay : Stay) → has_no_end stay.to ≡ false → running_bytes month class stay ≡ 0
ended_running month class stay is = ap (λ (b : Bool). if b && is_in_month month stay.from then bytes_in_class class stay.lines else 0) is

ended_lead : (month : ℕ) (class : Class) (stay : Stay) → has_no_end stay.to ≡ false → running_bytes month class stay * (stay.from - month_start month) ≡ 0
ended_lead month class stay is = ap (λ (n : ℕ). n * (stay.from - month_start month)) (ended_running month class stay is) ∙ omega arith

-- ---- an account

module _ (account : Account) (last : ℕ) (orderly : IsOrderlyBucket last account.bucket) (has : HasOpenStays account) where
  abbrev past : List Booked
  past = filter has_ended account.books.stays

  abbrev now : List Booked
  now = open_stays account.bucket

  -- its book without the open stays, and with them after all others
  abbrev past_book : Book
  past_book = record { stays = map stay_in past; early = account.books.early; moves = account.books.moves }

  abbrev made_book : Book
  made_book = record { stays = map stay_in past ++ map stay_in now; early = account.books.early; moves = account.books.moves }

  pub past_ended : HasAllEnded past_book
  past_ended =
      All-from_recursion (λ (stay : Stay). IsFalse (has_no_end stay.to)) (map stay_in past)
      (every_map (λ (stay : Booked). has_no_end stay.1.to ≡ false) (λ (stay : Stay). IsFalse (has_no_end stay.to)) stay_in (λ stay h. h) past
      (passing (λ (stay : Booked). has_no_end stay.1.to ≡ false) has_ended (λ stay h. not-true (has_no_end stay.1.to) h) account.books.stays))

  pub past_sums : (sums : List MonthSums) → AreSumsOf (book_of account.books) sums → AreSumsOf past_book sums
  unfolding ended_sum early_quantity move_count
  past_sums sums are = record {
    ended = λ month class. are.ended month class
        ∙ sym (ended_only (λ (stay : Stay). bytes_in_class class stay.lines * ended_ms (month_start month) (month_end month) stay.from stay.to) (open_ended month class) account.books.stays);
    early = are.early;
    moves = are.moves;
  }

  parts_rise : AllByRecursion (λ (u : ℕ × UploadRecord). Rises nat_cmp u.1.parts) account.bucket.uploads
  parts_rise =
      every_weaker (λ (u : ℕ × UploadRecord). (u.0 < account.bucket.next_upload) × IsOrderlyUpload last u.1) (λ (u : ℕ × UploadRecord). Rises nat_cmp u.1.parts)
      (λ u h. h.1.parts) account.bucket.uploads orderly.uploads

  same : (l : Label) → filter (is_open_stay l.key l.item) (past ++ now) ≡ filter (is_open_stay l.key l.item) account.books.stays
  same l =
      let none = no_ended l account.books.stays in
      let tidy = tidy_from_orderly last account.bucket orderly in
      let each = each_open account.bucket tidy.keys tidy.ids tidy.numbers parts_rise l.key l.item in
      filter-append (is_open_stay l.key l.item) past now ∙ (λ i. none i ++ each i) ∙ sym (has l.key l.item)

  made_is : map stay_in past ++ map stay_in now ≡ map stay_in (past ++ now)
  made_is = sym (map-append stay_in past now)

  made_ended : (month : ℕ) (class : Class) → ended_sum month class made_book ≡ ended_sum month class (book_of account.books)
  unfolding ended_sum
  made_ended month class =
      let f : Stay → ℕ = λ stay. bytes_in_class class stay.lines * ended_ms (month_start month) (month_end month) stay.from stay.to in
      let a = sum_by-append f (map stay_in past) (map stay_in now) in
      let b = none_open f (open_ended month class) now (all_open account.bucket) in
      let c = ended_only f (open_ended month class) account.books.stays in
      omega (arith, a, b, c)

  made_running : (month : ℕ) (class : Class) → running_sum month class made_book ≡ running_sum month class (book_of account.books)
  unfolding running_sum
  made_running month class =
      let f : Stay → ℕ = λ stay. running_bytes month class stay in
      ap (sum_by f) made_is ∙ open_sum f (ended_running month class) (past ++ now) account.books.stays same

  made_lead : (month : ℕ) (class : Class) → lead_sum month class made_book ≡ lead_sum month class (book_of account.books)
  unfolding lead_sum
  made_lead month class =
      let f : Stay → ℕ = λ stay. running_bytes month class stay * (stay.from - month_start month) in
      ap (sum_by f) made_is ∙ open_sum f (ended_lead month class) (past ++ now) account.books.stays same

  made_early : (month : ℕ) (class : Class) → early_quantity month class made_book ≡ early_quantity month class (book_of account.books)
  unfolding early_quantity
  made_early month class = refl

  made_moves : (month : ℕ) (class : Class) → move_count month class made_book ≡ move_count month class (book_of account.books)
  unfolding move_count
  made_moves month class = refl

  -- meters that stand for the book made so stand for the account's
  pub made_totals : (totals : Totals) → AreTotalsOf totals made_book → AreTotalsOf totals (book_of account.books)
  made_totals totals stands = record {
    ended = λ month class. stands.ended month class ∙ made_ended month class;
    running = λ month class. stands.running month class ∙ made_running month class;
    lead = λ month class. stands.lead month class ∙ made_lead month class;
    early = λ month class. stands.early month class ∙ made_early month class;
    moves = λ month class. stands.moves month class ∙ made_moves month class;
  }

-- meters of the sums, in which then the open stays were booked
pub restored : (bucket : BucketRecord) (sums : List MonthSums) (last : ℕ) → IsOrderlyBucket last bucket → (before after : Totals)
    → ((book : Book) → HasAllEnded book → AreSumsOf book sums → AreTotalsOf before book) → AddsStays (open_stays bucket) before after
    → (account : Account) → IsAccountOf bucket sums account → AreTotalsOf after (book_of account.books)
restored bucket sums last orderly before after stands adds account is =
    let own_orderly = subst (λ (b : BucketRecord). IsOrderlyBucket last b) (sym is.bucket) orderly in
    let own_adds = subst (λ (b : BucketRecord). AddsStays (open_stays b) before after) (sym is.bucket) adds in
    let first = stands (past_book account last own_orderly is.stays) (past_ended account last own_orderly is.stays) (past_sums account last own_orderly is.stays sums is.sums) in
    made_totals account last own_orderly is.stays after (own_adds (past_book account last own_orderly is.stays) first)
