-- Sums over a book's stays.
use Rattle.std.proofs.Common.{◌≡◌, ◌≤◌, ◌+◌, ◌-◌, ◌*◌, ℕ, suc, zero, List, [], ◌∷◌, Bool, true, false, refl, ap, sym, ◌∙◌, arith}
use Rattle.std.specs.Prelude.{nat_lt, nat_le, ◌&&◌, min, max, sum_by, unwrap_or, Option, Some, None, if◌then◌else◌}
use Rattle.std.specs.List.{AllByRecursion}
use Rattle.std.proofs.lemmas.Bool.Decides.{nat_tests}
use Rattle.std.proofs.lemmas.List.Sums.{sum_by-cons}
use Rattle.moments.specs.Months.{month_start, month_end}
use Rattle.moments.proofs.Calendar.{first_day_order, first_day_begin}
use Rattle.class_rules.specs.Classes.{rank_of}
use Rattle.class_rules.specs.declared.class.Class.{Class}
use Rattle.accrual.specs.Books.{Stay, Book, HasEndedBy, IsStayBy, IsBookedBy}
use Rattle.accrual.specs.Meters.{bytes_in_class, overlap, meter}
use Rattle.accrual.specs.Totals.{Totals, AreTotalsOf, kept, has_no_end, ended_ms, running_bytes, ended_sum, running_sum, lead_sum}
use Rattle.accrual.specs.Rows.{sum_to, running_to, ended_in}
use Rattle.accrual.proofs.Cases.{by_less}
use Rattle.accrual.proofs.Prefixes.{sum_more}

-- ---- sums over a list

sum_of_two : {X : Type 0} (P : X → Type 0) (f g h : X → ℕ) → ((x : X) → P x → f x + g x ≡ h x) → (xs : List X) → AllByRecursion P xs → sum_by f xs + sum_by g xs ≡ sum_by h xs
sum_of_two P f g h each [] all = refl
sum_of_two P f g h each (x ∷ xs) all =
    let a = sum_by-cons f x xs in
    let b = sum_by-cons g x xs in
    let c = sum_by-cons h x xs in
    let e = each x all.0 in
    let r = sum_of_two P f g h each xs all.1 in
    omega (arith, a, b, c, e, r)

sum_of_two_any : {X : Type 0} (f g h : X → ℕ) → ((x : X) → f x + g x ≡ h x) → (xs : List X) → sum_by f xs + sum_by g xs ≡ sum_by h xs
sum_of_two_any f g h each [] = refl
sum_of_two_any f g h each (x ∷ xs) =
    let a = sum_by-cons f x xs in
    let b = sum_by-cons g x xs in
    let c = sum_by-cons h x xs in
    let e = each x in
    let r = sum_of_two_any f g h each xs in
    omega (arith, a, b, c, e, r)

sum_times : {X : Type 0} (f : X → ℕ) (k : ℕ) (xs : List X) → sum_by (λ x. f x * k) xs ≡ sum_by f xs * k
sum_times f k [] = omega arith
sum_times f k (x ∷ xs) =
    let a = sum_by-cons (λ x. f x * k) x xs in
    let b = sum_by-cons f x xs in
    let r = sum_times f k xs in
    a ∙ (ap (λ n. f x * k + n) r ∙ (over (f x) (sum_by f xs) k ∙ ap (λ n. n * k) (sym b)))
  where
    over : (m n k : ℕ) → m * k + n * k ≡ (m + n) * k
    over m n k = omega arith

-- ---- a stay without an end, which began before the window, in it or after it

-- of a stay without an end: the milliseconds to a moment
open_ms : (bytes start end from t : ℕ) → start ≤ end → from ≤ t
    → bytes * (min (min t t) end - max from start) + (if nat_le start from && nat_lt from end then bytes else 0) * (from - start)
    ≡ ((if nat_lt from start then bytes else 0) + (if nat_le start from && nat_lt from end then bytes else 0)) * (min t end - start)
open_ms bytes start end from t order past =
    by_less from start
    (λ before.
    let a : (nat_le start from && nat_lt from end) ≡ false = grind (arith, nat_tests) in
    let b : nat_lt from start ≡ true = grind (arith, nat_tests) in
    let e : min (min t t) end - max from start ≡ min t end - start = omega (arith, before) in
    rw (a, b, e) (omega arith))
    (λ since. by_less from end
    (λ within.
    let a : (nat_le start from && nat_lt from end) ≡ true = grind (arith, nat_tests) in
    let b : nat_lt from start ≡ false = grind (arith, nat_tests) in
    let e : min (min t t) end - max from start + (from - start) ≡ min t end - start = omega (arith, since, within, past) in
    rw (a, b) (over bytes _ _ _ e))
    (λ behind.
    let a : (nat_le start from && nat_lt from end) ≡ false = grind (arith, nat_tests) in
    let b : nat_lt from start ≡ false = grind (arith, nat_tests) in
    let e : min (min t t) end - max from start ≡ 0 = omega (arith, since, behind) in
    rw (a, b, e) (omega arith)))
  where
    over : (b x y z : ℕ) → x + y ≡ z → b * x + b * y ≡ (0 + b) * z
    over b x y z e = distribute b x y ∙ (ap (λ n. b * n) e ∙ omega arith) where
      distribute : (b x y : ℕ) → b * x + b * y ≡ b * (x + y)
      distribute b x y = omega arith

open_case : (bytes start end from t : ℕ) (to : Option ℕ) → start ≤ end → from ≤ t
    → (if has_no_end to then bytes * (min (min (unwrap_or to t) t) end - max from start) else 0) + (if has_no_end to && (nat_le start from && nat_lt from end) then bytes else 0) * (from - start)
    ≡ ((if has_no_end to && nat_lt from start then bytes else 0) + (if has_no_end to && (nat_le start from && nat_lt from end) then bytes else 0)) * (min t end - start)
open_case bytes start end from t None order past = open_ms bytes start end from t order past
open_case bytes start end from t (Some to) order past = omega arith

ended_case : (bytes start end from t : ℕ) (to : Option ℕ) → HasEndedBy t to
    → bytes * ended_ms start end from to + (if has_no_end to then bytes * (min (min (unwrap_or to t) t) end - max from start) else 0) ≡ bytes * (min (min (unwrap_or to t) t) end - max from start)
ended_case bytes start end from t None past = omega arith
ended_case bytes start end from t (Some to) past =
    let e : min (min to t) end ≡ min to end = omega (arith, past) in
    rw e (omega arith)

next_case : (bytes start end from : ℕ) (none : Bool) → start ≤ end
    → (if none && nat_lt from start then bytes else 0) + (if none && (nat_le start from && nat_lt from end) then bytes else 0) ≡ (if none && nat_lt from end then bytes else 0)
next_case bytes start end from false order = refl
next_case bytes start end from true order = by_less from start (λ less. grind (arith, nat_tests)) (λ more. by_less from end (λ less. grind (arith, nat_tests)) (λ behind. grind (arith, nat_tests)))

-- ---- the sums of a book

-- the bytes of a stay without an end that began before the month
abbrev pub before_bytes : ℕ → Class → Stay → ℕ
before_bytes month class stay = if has_no_end stay.to && nat_lt stay.from (month_start month) then bytes_in_class class stay.lines else 0

abbrev pub before_sum : ℕ → Class → Book → ℕ
before_sum month class book = sum_by (λ (stay : Stay). before_bytes month class stay) book.stays

starts_in_order : (month : ℕ) → month_start month ≤ month_end month
starts_in_order month = let o = first_day_order month (month + 1) (omega arith) in omega (arith, o)

sum_none : {X : Type 0} (f : X → ℕ) → ((x : X) → f x ≡ 0) → (xs : List X) → sum_by f xs ≡ 0
sum_none f each [] = refl
sum_none f each (x ∷ xs) = let a = sum_by-cons f x xs in let e = each x in let r = sum_none f each xs in omega (arith, a, e, r)

before_first : (class : Class) (stay : Stay) → before_bytes 0 class stay ≡ 0
before_first class stay =
    let z = first_day_begin in
    let n : nat_lt stay.from (month_start 0) ≡ false = grind (arith, nat_tests, z) in
    rw n (neither (has_no_end stay.to) (bytes_in_class class stay.lines))
  where
    neither : (t : Bool) (n : ℕ) → ◌≡◌ {A = ℕ} (if t && false then n else 0) 0
    neither true n = refl
    neither false n = refl

before_next : (month : ℕ) (class : Class) (book : Book) → before_sum month class book + running_sum month class book ≡ before_sum (month + 1) class book
unfolding running_sum
before_next month class book = sum_of_two_any (λ (stay : Stay). before_bytes month class stay) (λ (stay : Stay). running_bytes month class stay) (λ (stay : Stay). before_bytes (month + 1) class stay)
    (λ stay. next_case (bytes_in_class class stay.lines) (month_start month) (month_end month) stay.from (has_no_end stay.to) (starts_in_order month)) book.stays

-- the bytes that began before a month, by the rows and by the book
pub running_is : (totals : Totals) (book : Book) (class : Class) (month : ℕ) → AreTotalsOf totals book → running_to totals.rows (rank_of class) month ≡ before_sum month class book
unfolding sum_to
running_is totals book class zero stands = sym (sum_none (λ (stay : Stay). before_bytes 0 class stay) (λ stay. before_first class stay) book.stays)
running_is totals book class (suc month) stands =
    let a = running_is totals book class month stands in
    let b = stands.running month class in
    let n = before_next month class book in
    let e : suc month ≡ month + 1 = omega arith in
    rw e (omega (arith, sum_more (λ kept. kept.running) totals.rows (rank_of class) month, a, b, n))

-- the byte-milliseconds of the stays without an end
running_ms : ℕ → Class → ℕ → Stay → ℕ
running_ms month class t stay = if has_no_end stay.to then bytes_in_class class stay.lines * overlap t (month_start month) (month_end month) stay else 0

open_stays : (month : ℕ) (class : Class) (t : ℕ) (book : Book) → IsBookedBy t book
    → sum_by (λ (stay : Stay). running_ms month class t stay) book.stays + lead_sum month class book
    ≡ (before_sum month class book + running_sum month class book) * (min t (month_end month) - month_start month)
unfolding lead_sum running_sum running_ms
open_stays month class t book by =
    sum_of_two (IsStayBy t) (λ (stay : Stay). running_ms month class t stay) (λ (stay : Stay). running_bytes month class stay * (stay.from - month_start month))
    (λ (stay : Stay). (before_bytes month class stay + running_bytes month class stay) * (min t (month_end month) - month_start month))
    (λ stay past. open_case (bytes_in_class class stay.lines) (month_start month) (month_end month) stay.from t stay.to (starts_in_order month) past.0) book.stays by.stays
    ∙ (sum_times (λ (stay : Stay). before_bytes month class stay + running_bytes month class stay) (min t (month_end month) - month_start month) book.stays
    ∙ ap (λ n. n * (min t (month_end month) - month_start month)) (sym (sum_of_two_any (λ (stay : Stay). before_bytes month class stay) (λ (stay : Stay). running_bytes month class stay)
    (λ (stay : Stay). before_bytes month class stay + running_bytes month class stay) (λ stay. refl) book.stays)))

all_stays : (month : ℕ) (class : Class) (t : ℕ) (book : Book) → IsBookedBy t book
    → ended_sum month class book + sum_by (λ (stay : Stay). running_ms month class t stay) book.stays ≡ meter month class t book
unfolding meter ended_sum running_ms
all_stays month class t book by =
    sum_of_two (IsStayBy t) (λ (stay : Stay). bytes_in_class class stay.lines * ended_ms (month_start month) (month_end month) stay.from stay.to) (λ (stay : Stay). running_ms month class t stay)
    (λ (stay : Stay). bytes_in_class class stay.lines * overlap t (month_start month) (month_end month) stay)
    (λ stay past. ended_case (bytes_in_class class stay.lines) (month_start month) (month_end month) stay.from t stay.to past.1) book.stays by.stays

less_lead : (ms since all : ℕ) → ms + since ≡ all → ms ≡ all - since
less_lead ms since all e = omega (arith, e)

-- the meter by the kept numbers
pub meter_is : (totals : Totals) (book : Book) (month : ℕ) (class : Class) (t : ℕ) → AreTotalsOf totals book → IsBookedBy t book
    → meter month class t book
    ≡ ended_in totals.rows month (rank_of class)
    + ((running_to totals.rows (rank_of class) month + (kept totals month class).running)
    * (min t (month_end month) - month_start month)
    - (kept totals month class).lead)
meter_is totals book month class t stands by =
    let a = all_stays month class t book by in
    let o = less_lead _ _ _ (open_stays month class t book by) in
    let r = running_is totals book class month stands in
    rw (stands.ended month class, stands.running month class, stands.lead month class, r) (sym a ∙ ap (λ n. ended_sum month class book + n) o)
