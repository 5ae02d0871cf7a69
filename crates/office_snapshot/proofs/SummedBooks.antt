-- A book that has given sums: for each month a stay from its first moment, of one millisecond where stays have ended in it.
use Rattle.std.proofs.Common.{◌≡◌, ◌⊎◌, inl, inr, ℕ, zero, suc, ◌+◌, ◌*◌, ◌<◌, ◌≤◌, Bool, true, false, ◌&&◌, cond, eqb, List, [], ◌∷◌, ◌++◌, length, get_or, map, replicate, Option, Some, None, refl, sym, ap, subst, ◌∙◌, arith, length-append}
use Rattle.std.specs.Prelude.{sum_by, if◌then◌else◌, ◌==◌}
use Rattle.std.specs.List.{flat_map, filter, list_all, AllByRecursion}
use Rattle.std.proofs.lemmas.Bool.{eqb-true, eqb-false, and_parts}
use Rattle.std.proofs.lemmas.Bool.Decides.{nat_tests}
use Rattle.std.proofs.lemmas.List.Sums.{sum_by-append, sum_by-cons}
use Rattle.std.proofs.lemmas.List.Elements.{filter-append}
use Rattle.moments.specs.Months.{month_start, month_end, IsInMonth}
use Rattle.moments.proofs.Calendar.{month_has_days}
use Rattle.class_rules.specs.Classes.{rank_of}
use Rattle.class_rules.specs.declared.class.Class.{Class}
use Rattle.class_rules.specs.declared.class.Class.TheVariants.{Standard, StandardIa, OnezoneIa, GlacierIr, Glacier, DeepArchive}
use Rattle.accrual.specs.Books.{Stay, Early, Move, Book, ended_stay, IsStayBy, IsBookedBy}
use Rattle.accrual.specs.Meters.{same_class, bytes_in_class, is_in_month, early_quantity, move_count}
use Rattle.accrual.specs.Totals.{ms_within, ended_ms, ended_sum}
use Rattle.accrual.specs.Sums.{listed, AreSumsOf, is_zero}
use Rattle.accrual.specs.declared.monthly.MonthSums.{MonthSums}
use Rattle.accrual.proofs.Windows.{within_before, within_after, in_month_is}
use Rattle.accrual.proofs.Cases.{by_less}
use Rattle.office_snapshot.specs.Restorable.{HasBegun}

-- one of each class, with its number
abbrev pub by_class : {A : Type 0} → (Class → ℕ → A) → List ℕ → List A
by_class make numbers =
    make Standard (get_or numbers 0 0) ∷ make StandardIa (get_or numbers 1 0) ∷ make OnezoneIa (get_or numbers 2 0)
    ∷ make GlacierIr (get_or numbers 3 0) ∷ make Glacier (get_or numbers 4 0) ∷ make DeepArchive (get_or numbers 5 0) ∷ []

lines_picked : (numbers : List ℕ) (class : Class) → bytes_in_class class (by_class (λ c n. (c, n)) numbers) ≡ get_or numbers (rank_of class) 0
lines_picked numbers Standard = omega arith
lines_picked numbers StandardIa = omega arith
lines_picked numbers OnezoneIa = omega arith
lines_picked numbers GlacierIr = omega arith
lines_picked numbers Glacier = omega arith
lines_picked numbers DeepArchive = omega arith

-- ---- the parts of a month

abbrev pub flag : MonthSums → ℕ
flag s = cond (list_all is_zero s.ended) 0 1

abbrev pub month_stay : MonthSums → Stay
month_stay s = ended_stay (by_class (λ c n. (c, n)) s.ended) (month_start s.month) (month_start s.month + flag s)

abbrev pub month_early : MonthSums → List Early
month_early s = by_class (λ c n. record { class = c; amount = n; moment = month_start s.month }) s.early

abbrev pub move_at : ℕ → Class → Move
move_at moment class = record { class = class; moment = moment }

abbrev pub month_moves : MonthSums → List Move
month_moves s =
    let m = month_start s.month in
    replicate (get_or s.moves 0 0) (move_at m Standard) ++ (replicate (get_or s.moves 1 0) (move_at m StandardIa)
    ++ (replicate (get_or s.moves 2 0) (move_at m OnezoneIa) ++ (replicate (get_or s.moves 3 0) (move_at m GlacierIr)
    ++ (replicate (get_or s.moves 4 0) (move_at m Glacier) ++ replicate (get_or s.moves 5 0) (move_at m DeepArchive)))))

-- the book of all months
abbrev pub summed_book : List MonthSums → Book
summed_book sums = record { stays = map month_stay sums; early = flat_map month_early sums; moves = flat_map month_moves sums }

-- ---- the windows

starts_in : (month : ℕ) → IsInMonth month (month_start month)
starts_in month = let days = month_has_days month in record { begun = omega arith; not_over = omega (arith, days) }

next_in : (month f : ℕ) → f ≤ 1 → IsInMonth month (month_start month + f)
next_in month f le = let days = month_has_days month in record { begun = omega arith; not_over = omega (arith, days, le) }

own_window : (month f : ℕ) → f ≤ 1 → ms_within (month_start month) (month_end month) (month_start month) (month_start month + f) ≡ f
own_window month f le = let days = month_has_days month in omega (arith, days, le)

all_zero : (xs : List ℕ) (i : ℕ) → list_all is_zero xs ≡ true → get_or xs i 0 ≡ 0
all_zero [] zero all = refl
all_zero [] (suc i) all = refl
all_zero (x ∷ xs) zero all = let parts = and_parts _ _ all in eqb-true _ _ parts.0
all_zero (x ∷ xs) (suc i) all = let parts = and_parts _ _ all in all_zero xs i parts.1

flag_low : (b : Bool) → cond b 0 1 ≤ 1
flag_low true = omega arith
flag_low false = omega arith

flag_tells : (b : Bool) (xs : List ℕ) (i : ℕ) → list_all is_zero xs ≡ b → get_or xs i 0 * cond b 0 1 ≡ get_or xs i 0
flag_tells true xs i is = omega (arith, all_zero xs i is)
flag_tells false xs i is = omega arith

-- ---- each sum

module _ (month : ℕ) (class : Class) where
  abbrev ended_term : Stay → ℕ
  ended_term stay = bytes_in_class class stay.lines * ended_ms (month_start month) (month_end month) stay.from stay.to

  ended_by : (b : Bool) (s : MonthSums) → (s.month == month) ≡ b
      → cond b (get_or s.ended (rank_of class) 0) 0
      ≡ bytes_in_class class (by_class (λ c n. (c, n)) s.ended) * ms_within (month_start month) (month_end month) (month_start s.month) (month_start s.month + flag s)
  ended_by true s is =
      let same : s.month ≡ month = eqb-true _ _ is in
      let window : ms_within (month_start month) (month_end month) (month_start s.month) (month_start s.month + flag s) ≡ flag s =
      subst (λ (k : ℕ). ms_within (month_start k) (month_end k) (month_start s.month) (month_start s.month + flag s) ≡ flag s) same (own_window s.month (flag s) (flag_low (list_all is_zero s.ended))) in
      sym (flag_tells (list_all is_zero s.ended) s.ended (rank_of class) refl)
      ∙ ap (λ (k : ℕ). k * flag s) (sym (lines_picked s.ended class))
      ∙ ap (λ (k : ℕ). bytes_in_class class (by_class (λ c n. (c, n)) s.ended) * k) (sym window)
  ended_by false s is =
      let other = eqb-false _ _ is in
      let none : ms_within (month_start month) (month_end month) (month_start s.month) (month_start s.month + flag s) ≡ 0 =
      by_less month s.month
      (λ less. within_before month s.month (month_start s.month) (month_start s.month + flag s) (starts_in s.month) less)
      (λ more. within_after month s.month (month_start s.month) (month_start s.month + flag s) (next_in s.month (flag s) (flag_low (list_all is_zero s.ended))) (omega (arith, more, other))) in
      let product = ap (λ (k : ℕ). bytes_in_class class (by_class (λ c n. (c, n)) s.ended) * k) none in
      omega (arith, product)

  ended_one : (s : MonthSums) → (if s.month == month then get_or s.ended (rank_of class) 0 else 0) ≡ ended_term (month_stay s)
  ended_one s = ended_by (s.month == month) s refl

  ended_all : (sums : List MonthSums) → listed (λ s. s.ended) sums month class ≡ sum_by ended_term (map month_stay sums)
  ended_all [] = refl
  ended_all (s ∷ sums) =
      let one = ended_one s in
      let more = ended_all sums in
      sum_by-cons (λ (s : MonthSums). if s.month == month then get_or s.ended (rank_of class) 0 else 0) s sums
      ∙ (λ i. one i + more i)
      ∙ sym (sum_by-cons ended_term (month_stay s) (map month_stay sums))

  -- early quantities
  abbrev early_term : Early → ℕ
  early_term early = if same_class early.class class && is_in_month month early.moment then early.amount else 0

  early_by_class : (b : Bool) (numbers : List ℕ) (c : Class)
      → sum_by (λ (early : Early). if same_class early.class c && b then early.amount else 0) (by_class (λ k n. record { class = k; amount = n; moment = 0 }) numbers)
      ≡ cond b (get_or numbers (rank_of c) 0) 0
  early_by_class true numbers Standard = omega arith
  early_by_class true numbers StandardIa = omega arith
  early_by_class true numbers OnezoneIa = omega arith
  early_by_class true numbers GlacierIr = omega arith
  early_by_class true numbers Glacier = omega arith
  early_by_class true numbers DeepArchive = omega arith
  early_by_class false numbers Standard = omega arith
  early_by_class false numbers StandardIa = omega arith
  early_by_class false numbers OnezoneIa = omega arith
  early_by_class false numbers GlacierIr = omega arith
  early_by_class false numbers Glacier = omega arith
  early_by_class false numbers DeepArchive = omega arith

  -- the test of a month's moment
  test_is : (k : ℕ) → is_in_month month (month_start k) ≡ (k == month)
  test_is k = in_month_is month k (month_start k) (starts_in k) ∙ flip month k
    where
      flip : (a b : ℕ) → (a == b) ≡ (b == a)
      flip a b = grind (arith, nat_tests)

  early_one : (s : MonthSums) → (if s.month == month then get_or s.early (rank_of class) 0 else 0) ≡ sum_by early_term (month_early s)
  early_one s =
      sym (early_by_class (s.month == month) s.early class)
      ∙ ap (λ (b : Bool). sum_by (λ (early : Early). if same_class early.class class && b then early.amount else 0) (by_class (λ k n. record { class = k; amount = n; moment = 0 }) s.early)) (sym (test_is s.month))

  early_all : (sums : List MonthSums) → listed (λ s. s.early) sums month class ≡ sum_by early_term (flat_map month_early sums)
  early_all [] = refl
  early_all (s ∷ sums) =
      let one = early_one s in
      let more = early_all sums in
      sum_by-cons (λ (s : MonthSums). if s.month == month then get_or s.early (rank_of class) 0 else 0) s sums
      ∙ (λ i. one i + more i) ∙ sym (sum_by-append early_term (month_early s) (flat_map month_early sums))

  -- moves
  abbrev moved : Move → Bool
  moved move = same_class move.class class && is_in_month month move.moment

  moved_few : (n : ℕ) (move : Move) (b : Bool) → moved move ≡ b → length (filter moved (replicate n move)) ≡ cond b n 0
  moved_few zero move true is = refl
  moved_few zero move false is = refl
  moved_few (suc n) move true is = let more = moved_few n move true is in rw is (omega (arith, more))
  moved_few (suc n) move false is = let more = moved_few n move false is in rw is more

  moved_more : (a b : List Move) → length (filter moved (a ++ b)) ≡ length (filter moved a) + length (filter moved b)
  moved_more a b = ap length (filter-append moved a b) ∙ length-append (filter moved a) (filter moved b)

  abbrev few : MonthSums → ℕ → Class → List Move
  few s i c = replicate (get_or s.moves i 0) (move_at (month_start s.month) c)

  -- this many of each class
  each_class : (s : MonthSums) (i : ℕ) (c : Class) (b : Bool) → (s.month == month) ≡ b
      → length (filter moved (few s i c)) ≡ cond (same_class c class && b) (get_or s.moves i 0) 0
  each_class s i c b is =
      moved_few (get_or s.moves i 0) (move_at (month_start s.month) c) (same_class c class && b)
      (ap (λ (t : Bool). same_class c class && t) (test_is s.month ∙ is))

  six_of : (s : MonthSums) → length (filter moved (month_moves s))
      ≡ length (filter moved (few s 0 Standard)) + (length (filter moved (few s 1 StandardIa)) + (length (filter moved (few s 2 OnezoneIa))
      + (length (filter moved (few s 3 GlacierIr)) + (length (filter moved (few s 4 Glacier)) + length (filter moved (few s 5 DeepArchive))))))
  six_of s =
      let e = few s 4 Glacier in
      let f = few s 5 DeepArchive in
      let d = few s 3 GlacierIr in
      let c = few s 2 OnezoneIa in
      let b = few s 1 StandardIa in
      let a = few s 0 Standard in
      moved_more a (b ++ (c ++ (d ++ (e ++ f))))
      ∙ ap (λ (n : ℕ). length (filter moved a) + n) (moved_more b (c ++ (d ++ (e ++ f)))
      ∙ ap (λ (n : ℕ). length (filter moved b) + n) (moved_more c (d ++ (e ++ f))
      ∙ ap (λ (n : ℕ). length (filter moved c) + n) (moved_more d (e ++ f)
      ∙ ap (λ (n : ℕ). length (filter moved d) + n) (moved_more e f))))

  moves_all : (sums : List MonthSums) → ((s : MonthSums) → (if s.month == month then get_or s.moves (rank_of class) 0 else 0) ≡ length (filter moved (month_moves s)))
      → listed (λ s. s.moves) sums month class ≡ length (filter moved (flat_map month_moves sums))
  moves_all [] each = refl
  moves_all (s ∷ sums) each =
      let one = each s in
      let more = moves_all sums each in
      sum_by-cons (λ (s : MonthSums). if s.month == month then get_or s.moves (rank_of class) 0 else 0) s sums
      ∙ (λ i. one i + more i) ∙ sym (moved_more (month_moves s) (flat_map month_moves sums))

-- the six counts of a month, of which the one of the class is picked
counts_picked : (month : ℕ) (numbers : List ℕ) (b : Bool) (c : Class)
    → cond b (get_or numbers (rank_of c) 0) 0
    ≡ cond (same_class Standard c && b) (get_or numbers 0 0) 0 + (cond (same_class StandardIa c && b) (get_or numbers 1 0) 0
    + (cond (same_class OnezoneIa c && b) (get_or numbers 2 0) 0 + (cond (same_class GlacierIr c && b) (get_or numbers 3 0) 0
    + (cond (same_class Glacier c && b) (get_or numbers 4 0) 0 + cond (same_class DeepArchive c && b) (get_or numbers 5 0) 0))))
counts_picked month numbers b Standard = omega arith
counts_picked month numbers b StandardIa = omega arith
counts_picked month numbers b OnezoneIa = omega arith
counts_picked month numbers b GlacierIr = omega arith
counts_picked month numbers b Glacier = omega arith
counts_picked month numbers b DeepArchive = omega arith

moves_one : (month : ℕ) (class : Class) (s : MonthSums) → (if s.month == month then get_or s.moves (rank_of class) 0 else 0) ≡ length (filter (moved month class) (month_moves s))
moves_one month class s =
    let b = s.month == month in
    let a0 = each_class month class s 0 Standard b refl in
    let a1 = each_class month class s 1 StandardIa b refl in
    let a2 = each_class month class s 2 OnezoneIa b refl in
    let a3 = each_class month class s 3 GlacierIr b refl in
    let a4 = each_class month class s 4 Glacier b refl in
    let a5 = each_class month class s 5 DeepArchive b refl in
    counts_picked month s.moves b class
    ∙ sym (six_of month class s ∙ (λ i. a0 i + (a1 i + (a2 i + (a3 i + (a4 i + a5 i))))))

-- it has these sums
pub summed_has : (sums : List MonthSums) → AreSumsOf (summed_book sums) sums
unfolding ended_sum early_quantity move_count
summed_has sums = record {
  ended = λ month class. ended_all month class sums;
  early = λ month class. early_all month class sums;
  moves = λ month class. moves_all month class sums (moves_one month class);
}

-- ---- nothing of it is after the last moment

every_more : {A : Type 0} (P : A → Type 0) (xs ys : List A) → AllByRecursion P xs → AllByRecursion P ys → AllByRecursion P (xs ++ ys)
every_more P [] ys a b = b
every_more P (x ∷ xs) ys a b = (a.0, every_more P xs ys a.1 b)

every_same : {A : Type 0} (P : A → Type 0) (n : ℕ) (x : A) → P x → AllByRecursion P (replicate n x)
every_same P zero x p = tt
every_same P (suc n) x p = (p, every_same P n x p)

ends_by : (last start : ℕ) (b : Bool) (xs : List ℕ) → list_all is_zero xs ≡ b → start ≤ last → (list_all is_zero xs ≡ false → start < last) → start + cond b 0 1 ≤ last
ends_by last start true xs is le before = omega (arith, le)
ends_by last start false xs is le before = omega (arith, before is)

module _ (last : ℕ) where
  stays_by : (sums : List MonthSums) → AllByRecursion (HasBegun last) sums → AllByRecursion (IsStayBy last) (map month_stay sums)
  stays_by [] begun = tt
  stays_by (s ∷ sums) begun =
      ((begun.0.month, ends_by last (month_start s.month) (list_all is_zero s.ended) s.ended refl begun.0.month begun.0.ended), stays_by sums begun.1)

  early_by : (sums : List MonthSums) → AllByRecursion (HasBegun last) sums → AllByRecursion (λ early. early.moment ≤ last) (flat_map month_early sums)
  early_by [] begun = tt
  early_by (s ∷ sums) begun =
      let le = begun.0.month in
      every_more (λ (early : Early). early.moment ≤ last) (month_early s) (flat_map month_early sums) (le, (le, (le, (le, (le, (le, tt)))))) (early_by sums begun.1)

  moves_by : (sums : List MonthSums) → AllByRecursion (HasBegun last) sums → AllByRecursion (λ move. move.moment ≤ last) (flat_map month_moves sums)
  moves_by [] begun = tt
  moves_by (s ∷ sums) begun =
      let m = month_start s.month in
      let P : Move → Type 0 = λ move. move.moment ≤ last in
      let all = λ (n : ℕ) (c : Class). every_same P n (move_at m c) begun.0.month in
      every_more P (month_moves s) (flat_map month_moves sums)
      (every_more P _ _ (all (get_or s.moves 0 0) Standard) (every_more P _ _ (all (get_or s.moves 1 0) StandardIa) (every_more P _ _ (all (get_or s.moves 2 0) OnezoneIa)
      (every_more P _ _ (all (get_or s.moves 3 0) GlacierIr) (every_more P _ _ (all (get_or s.moves 4 0) Glacier) (all (get_or s.moves 5 0) DeepArchive))))))
      (moves_by sums begun.1)

  pub summed_by : (sums : List MonthSums) → AllByRecursion (HasBegun last) sums → IsBookedBy last (summed_book sums)
  summed_by sums begun = record { stays = stays_by sums begun; early = early_by sums begun; moves = moves_by sums begun }
