-- The sums of the months: listing them month by month, and making rows of a list.
use Rattle.std.proofs.Common.{◌≡◌, ◌≢◌, ◌≤◌, ◌<◌, ◌+◌, ◌*◌, ◌-◌, ◌==◌, ℕ, suc, zero, List, [], ◌∷◌, ◌++◌, length, get_or, take, true, refl, ap, sym, ◌∙◌, arith, subst, IsFalse}
use Rattle.std.specs.Prelude.{◌^◌, nat_lt, ◌&&◌, sum_by, if◌then◌else◌, All}
use Rattle.std.specs.List.{list_all}
use Rattle.std.proofs.lemmas.Bool.Decides.{nat_tests}
use Rattle.std.proofs.lemmas.List.{get_or_default}
use Rattle.std.proofs.lemmas.List.Elements.{All-head, All-tail, All-push, All-weaker, All-get_or, All-nil}
use Rattle.std.proofs.lemmas.List.Quantifiers.{all_pairs_push}
use Rattle.std.proofs.lemmas.List.Sums.{sum_by-cons, sum_by_push, sum_by_more}
use Rattle.std.proofs.lemmas.Bool.{and_parts}
use Rattle.moments.specs.Months.{months, month_start, month_length}
use Rattle.class_rules.specs.Classes.{rank_of}
use Rattle.class_rules.specs.declared.class.Class.{Class}
use Rattle.accrual.specs.Books.{Stay, Book}
use Rattle.accrual.specs.Meters.{is_in_month, bytes_in_class}
use Rattle.accrual.specs.Totals.{Totals, AreTotalsOf, has_no_end, running_bytes, running_sum, lead_sum}
use Rattle.accrual.specs.Rows.{kept_in, nothing, HasRowIn, IsRowPut, arrived_to, departed_to, excess_in, ended_in}
use Rattle.accrual.specs.Bounds.{IsBounded}
use Rattle.accrual.specs.Sums.{listed, AreSumsOf, HasAllEnded, HaveRisingMonths, is_zero, is_nothing, IsSmallMonth, AreSumsIn, IsMonthOf, HasNoSum, IsSmall, summed_numbers}
use Rattle.accrual.specs.declared.rows.Numbers.{Numbers}
use Rattle.accrual.specs.declared.rows.Rows.{Rows}
use Rattle.accrual.specs.declared.monthly.MonthSums.{MonthSums}
use Rattle.accrual.proofs.Cases.{by_less, by_same}
use Rattle.accrual.proofs.Places.{kept_before, kept_behind, kept_row}
use Rattle.accrual.proofs.Prefixes.{sum_none, sum_all, gross_is, ended_is, ended_plain}

-- ---- listing the months

-- n in a month before this one, 0 in all others
abbrev pub up_to : ℕ → ℕ → ℕ → ℕ
up_to number m n = if nat_lt m number then n else 0

-- the list has the sums of the months before this one
pub record AreSumsTo (rows : Rows) (number : ℕ) (sums : List MonthSums) : Type 0 where
  pub ended : (m : ℕ) (class : Class) → listed (λ s. s.ended) sums m class ≡ up_to number m (ended_in rows m (rank_of class))
  pub early : (m : ℕ) (class : Class) → listed (λ s. s.early) sums m class ≡ up_to number m (kept_in rows m (rank_of class)).early
  pub moves : (m : ℕ) (class : Class) → listed (λ s. s.moves) sums m class ≡ up_to number m (kept_in rows m (rank_of class)).moves
  pub rising : HaveRisingMonths sums
  pub earlier : All (λ (s : MonthSums). s.month < number) sums
  pub some : All (λ (s : MonthSums). IsFalse (is_nothing s)) sums

none_yet : (m number n : ℕ) → (m < number → n ≡ 0) → 0 ≡ up_to number m n
none_yet m number n none = by_less m number (λ less. let z = none less in grind (arith, nat_tests)) (λ more. grind (arith, nat_tests))

-- before the first row nothing has ended
ended_before : (rows : Rows) (month rank : ℕ) → month < rows.first → ended_in rows month rank ≡ 0
ended_before rows month rank less =
    let a = sum_none (λ kept. kept.arrived) refl rows rank month (omega (arith, less)) in
    let e = ap (λ (k : Numbers). k.edges) (kept_before rows month rank less) in
    let p : (kept_in rows month rank).edges + arrived_to rows rank month * month_length month ≡ 0 = ap (λ n. (kept_in rows month rank).edges + n * month_length month) a ∙ omega (arith, e) in
    let g = gross_is rows month rank in
    let i = ended_is rows month rank in
    omega (arith, p, g, i)

pub listed_none : (rows : Rows) → AreSumsTo rows rows.first []
listed_none rows = record {
  ended = λ m class. none_yet m rows.first _ (λ less. ended_before rows m (rank_of class) less);
  early = λ m class. none_yet m rows.first _ (λ less. ap (λ (k : Numbers). k.early) (kept_before rows m (rank_of class) less));
  moves = λ m class. none_yet m rows.first _ (λ less. ap (λ (k : Numbers). k.moves) (kept_before rows m (rank_of class) less));
  rising = λ i j d less in_list. grind (arith, in_list);
  earlier = All-nil _;
  some = All-nil _;
}

next_month : (m number month a w v : ℕ) → month ≡ number → a ≡ up_to number m w → (number ≡ m → v ≡ w) → a + (if month == m then v else 0) ≡ up_to (number + 1) m w
next_month m number month a w v is e same =
    rw is (by_less m number
    (λ less. grind (arith, nat_tests))
    (λ from. by_less number m
    (λ more. grind (arith, nat_tests))
    (λ until. let q : number ≡ m = omega (arith, from, until) in let s = same q in grind (arith, nat_tests))))

pub listed_more : (rows : Rows) (number : ℕ) (sums : List MonthSums) (s : MonthSums) → AreSumsTo rows number sums
    → IsMonthOf rows number s → IsFalse (is_nothing s) → AreSumsTo rows (number + 1) (sums ++ s ∷ [])
listed_more rows number sums s so is some = record {
  ended = λ m class. sum_by_push _ sums s
      ∙ next_month m number s.month _ _ _ is.month (so.ended m class) (λ e.
      subst (λ k. get_or s.ended (rank_of class) 0 ≡ ended_in rows k (rank_of class)) e (is.ended class));
  early = λ m class. sum_by_push _ sums s
      ∙ next_month m number s.month _ _ _ is.month (so.early m class) (λ e.
      subst (λ k. get_or s.early (rank_of class) 0 ≡ (kept_in rows k (rank_of class)).early) e (is.early class));
  moves = λ m class. sum_by_push _ sums s
      ∙ next_month m number s.month _ _ _ is.month (so.moves m class) (λ e.
      subst (λ k. get_or s.moves (rank_of class) 0 ≡ (kept_in rows k (rank_of class)).moves) e (is.moves class));
  rising = all_pairs_push (λ (a b : MonthSums). a.month < b.month) sums s so.rising (λ k d less.
      let l = All-get_or (λ (s : MonthSums). s.month < number) sums k d less so.earlier in
      omega (arith, l, is.month));
  earlier = All-push (λ (s : MonthSums). s.month < number + 1) sums s (All-weaker (λ (s : MonthSums). s.month < number)
      (λ (s : MonthSums). s.month < number + 1) (λ x less. omega (arith, less)) sums so.earlier)
      (omega (arith, is.month));
  some = All-push (λ (s : MonthSums). IsFalse (is_nothing s)) sums s so.some some;
}

same_up_to : (m number a w : ℕ) → a ≡ up_to number m w → (number ≡ m → w ≡ 0) → a ≡ up_to (number + 1) m w
same_up_to m number a w e none =
    by_less m number
    (λ less. grind (arith, nat_tests))
    (λ from. by_less number m
    (λ more. grind (arith, nat_tests))
    (λ until. let q : number ≡ m = omega (arith, from, until) in let z = none q in grind (arith, nat_tests)))

pub listed_same : (rows : Rows) (number : ℕ) (sums : List MonthSums) → AreSumsTo rows number sums
    → ((class : Class) → HasNoSum rows number (rank_of class)) → AreSumsTo rows (number + 1) sums
listed_same rows number sums so none = record {
  ended = λ m class. same_up_to m number _ _ (so.ended m class) (λ e. subst (λ k. ended_in rows k (rank_of class) ≡ 0) e (none class).ended);
  early = λ m class. same_up_to m number _ _ (so.early m class) (λ e. subst (λ k. (kept_in rows k (rank_of class)).early ≡ 0) e (none class).early);
  moves = λ m class. same_up_to m number _ _ (so.moves m class) (λ e. subst (λ k. (kept_in rows k (rank_of class)).moves ≡ 0) e (none class).moves);
  rising = so.rising;
  earlier = All-weaker (λ (s : MonthSums). s.month < number) (λ (s : MonthSums). s.month < number + 1) (λ x less. omega (arith, less)) sums so.earlier;
  some = so.some;
}

all_up_to : (m number a w : ℕ) → a ≡ up_to number m w → (number ≤ m → w ≡ 0) → a ≡ w
all_up_to m number a w e none =
    by_less m number
    (λ less. grind (arith, nat_tests))
    (λ from. let z = none from in grind (arith, nat_tests))

excess_means : (rows : Rows) (month rank : ℕ) → excess_in rows month rank ≡ departed_to rows rank (month + 1) * month_length month
unfolding excess_in
excess_means rows month rank = refl

-- behind the last row nothing has ended: what arrived has departed
ended_behind : (rows : Rows) (booked month : ℕ) (class : Class) → IsBounded rows booked → rows.first + length rows.rows.items ≤ month → ended_in rows month (rank_of class) ≡ 0
ended_behind rows booked month class bounded behind =
    let end = rows.first + length rows.rows.items in
    let a = sum_all (λ kept. kept.arrived) refl rows (rank_of class) end month (omega arith) behind in
    let b = sum_all (λ kept. kept.arrived) refl rows (rank_of class) end months (omega arith) bounded.run in
    let c = sum_all (λ kept. kept.departed) refl rows (rank_of class) end (month + 1) (omega arith) (omega (arith, behind)) in
    let d = sum_all (λ kept. kept.departed) refl rows (rank_of class) end months (omega arith) bounded.run in
    let o = bounded.balanced class in
    let s : arrived_to rows (rank_of class) month ≡ departed_to rows (rank_of class) (month + 1) = omega (arith, a, b, c, d, o) in
    let e = ap (λ (k : Numbers). k.edges) (kept_behind rows month (rank_of class) behind) in
    let g = gross_is rows month (rank_of class) in
    let x = excess_means rows month (rank_of class) in
    let p = ap (λ n. n * month_length month) s in
    let i = ended_is rows month (rank_of class) in
    omega (arith, e, g, x, p, i)

pub listed_all : (rows : Rows) (booked number : ℕ) (sums : List MonthSums) → IsBounded rows booked → rows.first + length rows.rows.items ≤ number → AreSumsTo rows number sums → AreSumsIn rows sums
listed_all rows booked number sums bounded behind so = record {
  ended = λ m class. all_up_to m number _ _ (so.ended m class) (λ from. ended_behind rows booked m class bounded (omega (arith, behind, from)));
  early = λ m class. all_up_to m number _ _ (so.early m class) (λ from. ap (λ (k : Numbers). k.early) (kept_behind rows m (rank_of class) (omega (arith, behind, from))));
  moves = λ m class. all_up_to m number _ _ (so.moves m class) (λ from. ap (λ (k : Numbers). k.moves) (kept_behind rows m (rank_of class) (omega (arith, behind, from))));
}

-- a number of a month whose numbers are all 0
zero_at : (xs : List ℕ) (i : ℕ) → list_all is_zero xs ≡ true → get_or xs i 0 ≡ 0
zero_at [] i e = refl
zero_at (x ∷ xs) zero e = let b = and_parts (is_zero x) (list_all is_zero xs) e in let z = b.0 in grind (arith, nat_tests)
zero_at (x ∷ xs) (suc i) e = zero_at xs i (and_parts (is_zero x) (list_all is_zero xs) e).1

pub nothing_there : (rows : Rows) (month : ℕ) (s : MonthSums) → IsMonthOf rows month s → is_nothing s ≡ true → (class : Class) → HasNoSum rows month (rank_of class)
nothing_there rows month s is e class =
    let a = and_parts (list_all is_zero s.ended && list_all is_zero s.early) (list_all is_zero s.moves) e in
    let b = and_parts (list_all is_zero s.ended) (list_all is_zero s.early) a.0 in
    record {
      ended = sym (is.ended class) ∙ zero_at s.ended (rank_of class) b.0;
      early = sym (is.early class) ∙ zero_at s.early (rank_of class) b.1;
      moves = sym (is.moves class) ∙ zero_at s.moves (rank_of class) a.1;
    }

pub month_row : (rows : Rows) (number : ℕ) (row : List Numbers) (s : MonthSums) → HasRowIn rows number → row ≡ get_or rows.rows.items (number - rows.first) row → s.month ≡ number
    → ((class : Class) → get_or s.ended (rank_of class) 0 ≡ ended_in rows number (rank_of class))
    → ((class : Class) → get_or s.early (rank_of class) 0 ≡ (get_or row (rank_of class) nothing).early)
    → ((class : Class) → get_or s.moves (rank_of class) 0 ≡ (get_or row (rank_of class) nothing).moves)
    → IsMonthOf rows number s
month_row rows number row s has is month ended early moves = record {
  month = month;
  ended = ended;
  early = λ class. early class ∙ ap (λ (k : Numbers). k.early) (here (rank_of class));
  moves = λ class. moves class ∙ ap (λ (k : Numbers). k.moves) (here (rank_of class));
} where
  here : (r : ℕ) → get_or row r nothing ≡ kept_in rows number r
  here r =
      let w : get_or rows.rows.items (number - rows.first) [] ≡ row = get_or_default rows.rows.items (number - rows.first) [] row (omega (arith, has)) ∙ sym is in
      ap (λ (l : List Numbers). get_or l r nothing) (sym w) ∙ sym (kept_row rows number r has)

-- ---- taking up the entries

-- the list's first entries have no entry of the month of the next one
fresh : (f : MonthSums → ℕ) (sums : List MonthSums) (i : ℕ) (d : MonthSums) → i ≤ length sums → ((k : ℕ) → k < i → f (get_or sums k d) ≡ 0) → sum_by f (take i sums) ≡ 0
fresh f sums zero d few none = refl
fresh f sums (suc i) d few none =
    let a = fresh f sums i d (omega (arith, few)) (λ k less. none k (omega (arith, less))) in
    let m = sum_by_more f sums i d (omega (arith, few)) in
    let z = none i (omega arith) in
    let e : suc i ≡ i + 1 = omega arith in
    rw e (omega (arith, a, m, z))

other_month : (a b v : ℕ) → a < b → (if a == b then v else 0) ≡ 0
other_month a b v less = grind (arith, nat_tests)

listed_before : (numbers : MonthSums → List ℕ) (sums : List MonthSums) (i : ℕ) (d : MonthSums) (class : Class)
    → i < length sums → HaveRisingMonths sums → listed numbers (take i sums) (get_or sums i d).month class ≡ 0
listed_before numbers sums i d class few rising =
    fresh (λ (s : MonthSums). if s.month == (get_or sums i d).month then get_or (numbers s) (rank_of class) 0 else 0) sums i d (omega (arith, few))
    (λ k less. other_month (get_or sums k d).month (get_or sums i d).month _ (rising k i d less few))

one_entry : (numbers : MonthSums → List ℕ) (sums : List MonthSums) (i : ℕ) (s : MonthSums) (old new m : ℕ) (class : Class)
    → i < length sums → s ≡ get_or sums i s → HaveRisingMonths sums
    → listed numbers (take i sums) m class ≡ old → (m ≡ s.month → new ≡ get_or (numbers s) (rank_of class) 0) → (m ≢ s.month → new ≡ old)
    → listed numbers (take (i + 1) sums) m class ≡ new
one_entry numbers sums i s old new m class few is rising so here there =
    by_same m s.month
    (λ same.
    let b : listed numbers (take i sums) m class ≡ 0 = rw (same, is) (listed_before numbers sums i s class few rising) in
    let t : (if s.month == m then get_or (numbers s) (rank_of class) 0 else 0) ≡ get_or (numbers s) (rank_of class) 0 = grind (arith, nat_tests) in
    let h = here same in
    more ∙ omega (arith, b, t, h))
    (λ differs.
    let t : (if s.month == m then get_or (numbers s) (rank_of class) 0 else 0) ≡ 0 = grind (arith, nat_tests) in
    let h = there differs in
    more ∙ omega (arith, so, t, h))
  where
    more : listed numbers (take (i + 1) sums) m class ≡ listed numbers (take i sums) m class + (if s.month == m then get_or (numbers s) (rank_of class) 0 else 0)
    more = sum_by_more (λ (s : MonthSums). if s.month == m then get_or (numbers s) (rank_of class) 0 else 0) sums i s few
        ∙ ap (λ (x : MonthSums). listed numbers (take i sums) m class + (if x.month == m then get_or (numbers x) (rank_of class) 0 else 0)) (sym is)

-- what is kept after an entry
abbrev pub IsTakenUp : Rows → Rows → MonthSums → Type 0
IsTakenUp old new s = ((class : Class) → kept_in new s.month (rank_of class) ≡ summed_numbers s (rank_of class)) × ((m r : ℕ) → m ≢ s.month → kept_in new m r ≡ kept_in old m r)

pub taken_up : (old mid new : Rows) (number : ℕ) (s : MonthSums) (row : List Numbers) → number ≡ s.month → ((m r : ℕ) → kept_in mid m r ≡ kept_in old m r) → IsRowPut mid new number row
    → ((class : Class) → get_or row (rank_of class) nothing ≡ summed_numbers s (rank_of class)) → IsTakenUp old new s
taken_up old mid new number s row is same put of = (
  λ class. subst (λ k. kept_in new k (rank_of class) ≡ summed_numbers s (rank_of class)) is (put.there (rank_of class) ∙ of class),
  λ m r other. put.others m r (subst (λ k. m ≢ k) (sym is) other) ∙ same m r,
)

-- rows of which only the edges count
abbrev pub AreSettled : Rows → Type 0
AreSettled rows = (month : ℕ) (class : Class) → IsSmall (kept_in rows month (rank_of class))

ended_small : (rows : Rows) (month : ℕ) (class : Class) → AreSettled rows → ended_in rows month (rank_of class) ≡ (kept_in rows month (rank_of class)).edges
ended_small rows month class small =
    let p = ended_plain rows month (rank_of class) (λ k. (small k class).arrived) (λ k. (small k class).departed) in
    let g = p.0 in
    let x = p.1 in
    let i = ended_is rows month (rank_of class) in
    omega (arith, g, x, i)

pub sums_more : (old new : Rows) (sums : List MonthSums) (i : ℕ) (s : MonthSums) → i < length sums → s ≡ get_or sums i s → HaveRisingMonths sums → IsTakenUp old new s → AreSettled old → AreSettled new
    → AreSumsIn old (take i sums) → AreSumsIn new (take (i + 1) sums)
sums_more old new sums i s few is rising taken small small_too so = record {
  ended = λ m class. one_entry (λ s. s.ended) sums i s (ended_in old m (rank_of class)) (ended_in new m (rank_of class)) m class few is rising (so.ended m class)
      (λ same. ended_small new m class small_too ∙ rw same (ap (λ (k : Numbers). k.edges) (taken.0 class)))
      (λ other. ended_small new m class small_too ∙ (ap (λ (k : Numbers). k.edges) (taken.1 m (rank_of class) other) ∙ sym (ended_small old m class small)));
  early = λ m class. one_entry (λ s. s.early) sums i s (kept_in old m (rank_of class)).early (kept_in new m (rank_of class)).early m class few is rising (so.early m class)
      (λ same. rw same (ap (λ (k : Numbers). k.early) (taken.0 class))) (λ other. ap (λ (k : Numbers). k.early) (taken.1 m (rank_of class) other));
  moves = λ m class. one_entry (λ s. s.moves) sums i s (kept_in old m (rank_of class)).moves (kept_in new m (rank_of class)).moves m class few is rising (so.moves m class)
      (λ same. rw same (ap (λ (k : Numbers). k.moves) (taken.0 class))) (λ other. ap (λ (k : Numbers). k.moves) (taken.1 m (rank_of class) other));
}

small_at : (xs : List ℕ) (i b : ℕ) → 0 < b → All (λ n. n < b) xs → get_or xs i 0 < b
small_at [] i b some all = some
small_at (x ∷ xs) zero b some all = All-head (λ n. n < b) x xs all
small_at (x ∷ xs) (suc i) b some all = small_at xs i b some (All-tail (λ n. n < b) x xs all)

summed_small : (s : MonthSums) (rank : ℕ) → IsSmallMonth s → IsSmall (summed_numbers s rank)
summed_small s rank small = record {
  edges = small_at s.ended rank (2 ^ 120) (omega arith) small.ended;
  arrived = refl;
  departed = refl;
  running = refl;
  lead = refl;
  early = small_at s.early rank (2 ^ 120) (omega arith) small.early;
  moves = small_at s.moves rank (2 ^ 62) (omega arith) small.moves;
}

pub small_more : (old new : Rows) (s : MonthSums) → IsSmallMonth s → IsTakenUp old new s → ((month : ℕ) (class : Class) → IsSmall (kept_in old month (rank_of class)))
    → (month : ℕ) (class : Class) → IsSmall (kept_in new month (rank_of class))
small_more old new s small taken so month class =
    by_same month s.month
    (λ same. subst (λ k. IsSmall (kept_in new k (rank_of class))) (sym same) (subst IsSmall (sym (taken.0 class)) (summed_small s (rank_of class) small)))
    (λ other. subst IsSmall (sym (taken.1 month (rank_of class) other)) (so month class))

pub nothing_small : IsSmall nothing
nothing_small = record { edges = omega arith; arrived = refl; departed = refl; running = refl; lead = refl; early = omega arith; moves = omega arith }

pub sums_none : (rows : Rows) → ((m rank : ℕ) → kept_in rows m rank ≡ nothing) → AreSumsIn rows []
sums_none rows none = record {
  ended = λ m class. sym (ended_small rows m class (λ k c. subst IsSmall (sym (none k (rank_of c))) nothing_small) ∙ ap (λ (k : Numbers). k.edges) (none m (rank_of class)));
  early = λ m class. sym (ap (λ (k : Numbers). k.early) (none m (rank_of class)));
  moves = λ m class. sym (ap (λ (k : Numbers). k.moves) (none m (rank_of class)));
}

-- ---- the sums of a book

all_none : {X : Type 0} (P : X → Type 0) (f : X → ℕ) → ((x : X) → P x → f x ≡ 0) → (xs : List X) → All P xs → sum_by f xs ≡ 0
all_none P f each [] all = refl
all_none P f each (x ∷ xs) all =
    let a = sum_by-cons f x xs in
    let e = each x (All-head P x xs all) in
    let r = all_none P f each xs (All-tail P x xs all) in
    omega (arith, a, e, r)

ended_bytes : (month : ℕ) (class : Class) (stay : Stay) → IsFalse (has_no_end stay.to) → running_bytes month class stay ≡ 0
ended_bytes month class stay ended = ap (λ t. if t && is_in_month month stay.from then bytes_in_class class stay.lines else 0) ended

none_running : (month : ℕ) (class : Class) (book : Book) → HasAllEnded book → running_sum month class book ≡ 0
unfolding running_sum
none_running month class book ended =
    all_none (λ (stay : Stay). IsFalse (has_no_end stay.to)) (λ (stay : Stay). running_bytes month class stay)
    (λ stay e. ended_bytes month class stay e) book.stays ended

none_lead : (month : ℕ) (class : Class) (book : Book) → HasAllEnded book → lead_sum month class book ≡ 0
unfolding lead_sum
none_lead month class book ended =
    all_none (λ (stay : Stay). IsFalse (has_no_end stay.to)) (λ (stay : Stay). running_bytes month class stay * (stay.from - month_start month))
    (λ stay e. ap (λ n. n * (stay.from - month_start month)) (ended_bytes month class stay e) ∙ omega arith) book.stays ended

pub stands_summed : (totals : Totals) (book : Book) (sums : List MonthSums) → AreSumsIn totals.rows sums → ((month : ℕ) (class : Class) → IsSmall (kept_in totals.rows month (rank_of class)))
    → HasAllEnded book → AreSumsOf book sums → AreTotalsOf totals book
stands_summed totals book sums so small ended of = record {
  ended = λ m class. sym (so.ended m class) ∙ of.ended m class;
  running = λ m class. (small m class).running ∙ sym (none_running m class book ended);
  lead = λ m class. (small m class).lead ∙ sym (none_lead m class book ended);
  early = λ m class. sym (so.early m class) ∙ of.early m class;
  moves = λ m class. sym (so.moves m class) ∙ of.moves m class;
}
