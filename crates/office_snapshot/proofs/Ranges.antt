-- The sums of a book after a history leave room for all bookings, and none is for a month after the last moment.
use Rattle.std.proofs.Common.{◌≡◌, ℕ, zero, suc, ◌+◌, ◌*◌, ◌^◌, ◌<◌, ◌≤◌, List, [], ◌∷◌, map, length, get_or, refl, ap, sym, ◌∙◌, subst, Bool, true, false, cond, arith}
use Rattle.std.specs.Prelude.{Option, Some, None, All, IsFalse, sum_by, filter, ◌==◌, ◌&&◌, if◌then◌else◌, nat_le}
use Rattle.std.specs.List.{AllByRecursion, list_all}
use Rattle.std.proofs.lemmas.Bool.{and_from, both_ways}
use Rattle.std.proofs.lemmas.Bool.Decides.{nat_tests}
use Rattle.std.proofs.lemmas.Nat.{mul-le}
use Rattle.std.proofs.lemmas.List.Elements.{All-from_recursion}
use Rattle.std.proofs.lemmas.List.Sums.{sum_by-cons}
use Rattle.moments.specs.Months.{month_start, month_end}
use Rattle.class_rules.specs.Classes.{rank_of}
use Rattle.class_rules.specs.declared.class.Class.{Class}
use Rattle.class_rules.specs.declared.class.Class.TheVariants.{Standard, StandardIa, OnezoneIa, GlacierIr, Glacier, DeepArchive}
use Rattle.accrual.specs.Books.{Stay, Early, Move, Book, HasEndedBy, IsStayBy, IsBookedBy}
use Rattle.accrual.specs.Meters.{same_class, bytes_in_class, is_in_month, early_quantity, move_count}
use Rattle.accrual.specs.Totals.{ms_within, ended_ms, ended_sum}
use Rattle.accrual.specs.Sums.{listed, AreSumsOf, IsSmallMonth, is_zero, is_nothing}
use Rattle.accrual.specs.declared.monthly.MonthSums.{MonthSums}
use Rattle.accrual.proofs.Cases.{by_less, if_less}
use Rattle.accrual.proofs.Windows.{within_short, month_order}
use Rattle.plain_office.specs.Office.{Booked, Books, Account, stay_in, book_of}
use Rattle.office_laws.proofs.Lists.{length_filtered, every_weaker, all_true}
use Rattle.office_snapshot.specs.Restorable.{HasBegun}
use Rattle.office_snapshot.specs.Classes.{HasSixNumbers}
use Rattle.office_snapshot.proofs.Growth.{lines_in, IsOwed}
use Rattle.office_snapshot.proofs.Held.{AreSmall, IsHeld}

-- ---- how large the sums are

ended_short : (month : ℕ) (from : ℕ) (to : Option ℕ) → ended_ms (month_start month) (month_end month) from to ≤ 2 ^ 32
ended_short month from None = omega arith
ended_short month from (Some to) = let short = within_short month from to in omega (arith, short)

module _ (month : ℕ) (class : Class) where
  abbrev ended_term : Stay → ℕ
  ended_term stay = bytes_in_class class stay.lines * ended_ms (month_start month) (month_end month) stay.from stay.to

  ended_most : (stays : List Booked) → AllByRecursion AreSmall (lines_in stays) → sum_by ended_term (map stay_in stays) ≤ length (lines_in stays) * 2 ^ 76
  ended_most [] small = omega arith
  ended_most (stay ∷ stays) small =
      let rest = ended_most stays small.1 in
      let one = mul-le (bytes_in_class class stay.1.lines) (ended_ms (month_start month) (month_end month) stay.1.from stay.1.to) (2 ^ 44) (2 ^ 32) (small.0 class) (ended_short month stay.1.from stay.1.to) in
      let cons = sum_by-cons ended_term stay.1 (map stay_in stays) in
      omega (arith, rest, one, cons)

  abbrev early_term : Early → ℕ
  early_term early = if same_class early.class class && is_in_month month early.moment then early.amount else 0

  early_most : (early : List Early) → AllByRecursion IsOwed early → sum_by early_term early ≤ length early * (5 * 2 ^ 74)
  early_most [] owed = omega arith
  early_most (e ∷ early) owed =
      let rest = early_most early owed.1 in
      let one = if_less (same_class e.class class && is_in_month month e.moment) e.amount in
      let cons = sum_by-cons early_term e early in
      let most = owed.0 in
      omega (arith, rest, one, cons, most)

  pub ended_few : (n : ℕ) (account : Account) → IsHeld n account → n ≤ 2 ^ 41 → ended_sum month class (book_of account.books) < 2 ^ 120
  unfolding ended_sum
  ended_few n account h few =
      let most = ended_most account.books.stays h.lines in
      let stays = h.stays in
      omega (arith, most, stays, few)

  pub early_few : (n : ℕ) (account : Account) → IsHeld n account → n ≤ 2 ^ 41 → early_quantity month class (book_of account.books) < 2 ^ 120
  unfolding early_quantity
  early_few n account h few =
      let most = early_most account.books.early h.owed in
      let early = h.early in
      omega (arith, most, early, few)

  pub moves_few : (n : ℕ) (account : Account) → IsHeld n account → n ≤ 2 ^ 41 → move_count month class (book_of account.books) < 2 ^ 62
  unfolding move_count
  moves_few n account h few =
      let most = length_filtered (λ (move : Move). same_class move.class class && is_in_month month move.moment) account.books.moves in
      let moves = h.moves in
      omega (arith, most, moves, few)

-- ---- the numbers of a month among the sums

-- what holds of each class holds of each of six numbers
abbrev OfEach : (ℕ → Type 0) → List ℕ → Type 0
OfEach P numbers = (class : Class) → P (get_or numbers (rank_of class) 0)

six_by : (P : ℕ → Type 0) (numbers : List ℕ) → length numbers ≡ 6 → OfEach P numbers → AllByRecursion P numbers
six_by P [] six each = tt
six_by P (a ∷ []) six each = absurd (omega (arith, six))
six_by P (a ∷ b ∷ []) six each = absurd (omega (arith, six))
six_by P (a ∷ b ∷ c ∷ []) six each = absurd (omega (arith, six))
six_by P (a ∷ b ∷ c ∷ d ∷ []) six each = absurd (omega (arith, six))
six_by P (a ∷ b ∷ c ∷ d ∷ e ∷ []) six each = absurd (omega (arith, six))
six_by P (a ∷ b ∷ c ∷ d ∷ e ∷ f ∷ []) six each = (each Standard, (each StandardIa, (each OnezoneIa, (each GlacierIr, (each Glacier, (each DeepArchive, tt))))))
six_by P (a ∷ b ∷ c ∷ d ∷ e ∷ f ∷ g ∷ numbers) six each = absurd (omega (arith, six))

six_numbers : (P : ℕ → Type 0) (numbers : List ℕ) → length numbers ≡ 6 → OfEach P numbers → All P numbers
six_numbers P numbers six each = All-from_recursion P numbers (six_by P numbers six each)

-- what holds of each month holds of each entry at its own
diagonal : (P : ℕ → MonthSums → Type 0) (sums : List MonthSums) → ((month : ℕ) → AllByRecursion (P month) sums) → AllByRecursion (λ s. P s.month s) sums
diagonal P [] all = tt
diagonal P (s ∷ sums) all = ((all s.month).0, diagonal P sums (λ month. (all month).1))

-- an entry's own number is at most the list's number of its month
module _ (numbers : MonthSums → List ℕ) (sums : List MonthSums) where
  abbrev pub term : ℕ → Class → MonthSums → ℕ
  term month class s = if s.month == month then get_or (numbers s) (rank_of class) 0 else 0

  abbrev pub IsWithin : MonthSums → Type 0
  IsWithin s = (class : Class) → get_or (numbers s) (rank_of class) 0 ≤ listed numbers sums s.month class

  own_term : (class : Class) (s : MonthSums) → term s.month class s ≡ get_or (numbers s) (rank_of class) 0
  own_term class s =
      let same : (s.month == s.month) ≡ true = grind (arith, nat_tests) in
      ap (λ (b : Bool). cond b (get_or (numbers s) (rank_of class) 0) 0) same

  within_month : (month : ℕ) (some : List MonthSums) → ((class : Class) → sum_by (term month class) some ≤ listed numbers sums month class)
      → AllByRecursion (λ s. (class : Class) → term month class s ≤ listed numbers sums month class) some
  within_month month [] le = tt
  within_month month (s ∷ some) le = (
    (λ class. let cons = sum_by-cons (term month class) s some in let all = le class in omega (arith, cons, all)),
    within_month month some (λ class. let cons = sum_by-cons (term month class) s some in let all = le class in omega (arith, cons, all)),
  )

  whole_list : (month : ℕ) (class : Class) → sum_by (term month class) sums ≤ listed numbers sums month class
  whole_list month class = let same : sum_by (term month class) sums ≡ listed numbers sums month class = refl in omega (arith, same)

  pub each_within : AllByRecursion IsWithin sums
  each_within =
      every_weaker (λ (s : MonthSums). (class : Class) → term s.month class s ≤ listed numbers sums s.month class) IsWithin
      (λ s le class. let own = own_term class s in let all = le class in omega (arith, own, all)) sums
      (diagonal (λ month s. (class : Class) → term month class s ≤ listed numbers sums month class) sums (λ month. within_month month sums (λ class. whole_list month class)))

-- ---- no sum is of a time to come

and_none : (b : Bool) → (b && false) ≡ false
and_none true = refl
and_none false = refl

module _ (last : ℕ) (book : Book) (by : IsBookedBy last book) (month : ℕ) (class : Class) where
  none_by : (from : ℕ) (to : Option ℕ) → HasEndedBy last to → last ≤ month_start month → ended_ms (month_start month) (month_end month) from to ≡ 0
  none_by from None ended le = refl
  none_by from (Some to) ended le = omega (arith, ended, le)

  none_ended : last ≤ month_start month → (stays : List Stay) → AllByRecursion (IsStayBy last) stays → sum_by (ended_term month class) stays ≡ 0
  none_ended le [] all = refl
  none_ended le (stay ∷ stays) all =
      let none = ap (λ (n : ℕ). bytes_in_class class stay.lines * n) (none_by stay.from stay.to all.0.1 le) in
      let rest = none_ended le stays all.1 in
      let cons = sum_by-cons (ended_term month class) stay stays in
      omega (arith, none, rest, cons)

  not_in : (moment : ℕ) → moment ≤ last → last < month_start month → is_in_month month moment ≡ false
  not_in moment le less = let low : nat_le (month_start month) moment ≡ false = grind (arith, nat_tests) in rw low refl

  none_early : last < month_start month → (early : List Early) → AllByRecursion (λ early. early.moment ≤ last) early → sum_by (early_term month class) early ≡ 0
  none_early less [] all = refl
  none_early less (e ∷ early) all =
      let off = ap (λ (b : Bool). same_class e.class class && b) (not_in e.moment all.0 less) ∙ and_none (same_class e.class class) in
      let none : early_term month class e ≡ 0 = ap (λ (b : Bool). cond b e.amount 0) off in
      let rest = none_early less early all.1 in
      let cons = sum_by-cons (early_term month class) e early in
      omega (arith, none, rest, cons)

  none_moved : last < month_start month → (moves : List Move) → AllByRecursion (λ move. move.moment ≤ last) moves
      → length (filter (λ (move : Move). same_class move.class class && is_in_month month move.moment) moves) ≡ 0
  none_moved less [] all = refl
  none_moved less (m ∷ moves) all =
      let test : Move → Bool = λ move. same_class move.class class && is_in_month month move.moment in
      let off = ap (λ (b : Bool). same_class m.class class && b) (not_in m.moment all.0 less) ∙ and_none (same_class m.class class) in
      ap (λ (b : Bool). length (cond b (m ∷ filter test moves) (filter test moves))) off ∙ none_moved less moves all.1

  pub ended_none : last ≤ month_start month → ended_sum month class book ≡ 0
  unfolding ended_sum
  ended_none le = none_ended le book.stays by.stays

  pub early_none : last < month_start month → early_quantity month class book ≡ 0
  unfolding early_quantity
  early_none less = none_early less book.early by.early

  pub moves_none : last < month_start month → move_count month class book ≡ 0
  unfolding move_count
  moves_none less = none_moved less book.moves by.moves

-- ---- each month of the sums

zero_is : (n : ℕ) → n ≡ 0 → is_zero n ≡ true
zero_is n is = ap is_zero is

all_zero : (numbers : List ℕ) → length numbers ≡ 6 → OfEach (λ n. n ≡ 0) numbers → list_all is_zero numbers ≡ true
all_zero numbers six each = all_true is_zero numbers (six_by (λ n. is_zero n ≡ true) numbers six (λ class. zero_is (get_or numbers (rank_of class) 0) (each class)))

module _ (books : Book) (sums : List MonthSums) (are : AreSumsOf books sums) (s : MonthSums) (six : HasSixNumbers s)
    (ended : IsWithin (λ s. s.ended) sums s) (early : IsWithin (λ s. s.early) sums s) (moves : IsWithin (λ s. s.moves) sums s) where
  pub small_month : ((class : Class) → ended_sum s.month class books < 2 ^ 120) → ((class : Class) → early_quantity s.month class books < 2 ^ 120)
      → ((class : Class) → move_count s.month class books < 2 ^ 62) → IsSmallMonth s
  small_month a b c = record {
    ended = six_numbers (λ n. n < 2 ^ 120) s.ended six.ended (λ class. let le = ended class in let is = are.ended s.month class in let few = a class in omega (arith, le, is, few));
    early = six_numbers (λ n. n < 2 ^ 120) s.early six.early (λ class. let le = early class in let is = are.early s.month class in let few = b class in omega (arith, le, is, few));
    moves = six_numbers (λ n. n < 2 ^ 62) s.moves six.moves (λ class. let le = moves class in let is = are.moves s.month class in let few = c class in omega (arith, le, is, few));
  }

  module _ (last : ℕ) (by : IsBookedBy last books) where
    ended_zero : last ≤ month_start s.month → list_all is_zero s.ended ≡ true
    ended_zero at = all_zero s.ended six.ended (λ class. let le = ended class in let is = are.ended s.month class in let none = ended_none last books by s.month class at in omega (arith, le, is, none))

    nothing : last < month_start s.month → is_nothing s ≡ true
    nothing less =
        let a = ended_zero (omega (arith, less)) in
        let b = all_zero s.early six.early (λ class. let le = early class in let is = are.early s.month class in let none = early_none last books by s.month class less in omega (arith, le, is, none)) in
        let c = all_zero s.moves six.moves (λ class. let le = moves class in let is = are.moves s.month class in let none = moves_none last books by s.month class less in omega (arith, le, is, none)) in
        and_from _ _ (and_from (list_all is_zero s.ended) (list_all is_zero s.early) a b) c

    pub month_begun : IsFalse (is_nothing s) → HasBegun last s
    month_begun some = record {
      month = by_less last (month_start s.month) (λ less. absurd (both_ways (is_nothing s) some (nothing less))) (λ le. le);
      ended = λ other. by_less (month_start s.month) last (λ less. less) (λ le. absurd (both_ways (list_all is_zero s.ended) other (ended_zero le)));
    }
