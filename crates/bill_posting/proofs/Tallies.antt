-- Tallies of buckets, line by line.
use Rattle.std.proofs.Common.{◌≡◌, inl, inr, ℕ, ◌+◌, ◌≤◌, List, [], ◌∷◌, length, map, refl, ap, sym, ◌∙◌, subst, Bool, true, false, cond, ◌||◌, Option, Some, None, Ordering, arith, take, get_or, ◌<◌}
use Rattle.std.specs.Prelude.{option_map, unwrap_or, filter, fold, sum_by, count_by}
use Rattle.std.specs.Bool.{IsTrue}
use Rattle.std.specs.Str.{bytes_eq}
use Rattle.std.specs.declared.cmp.Ordering.TheVariants.{Less, Equal, Greater}
use Rattle.std.specs.Ordering.{match_ordering, is_eq, is_lt, ordering_reverse}
use Rattle.std.specs.List.{AllByRecursion, list_any}
use Rattle.std.specs.Map.{values_of}
use Rattle.std.proofs.lemmas.Cmp.{tied_itself, nat_list_cmp_total}
use Rattle.std.proofs.lemmas.Slice.Eq.{bytes_eq-Decides}
use Rattle.std.proofs.lemmas.Map.Text.{is_eq-slice_cmp}
use Rattle.std.proofs.lemmas.List.Sums.{sum_by-cons, sum_by_more_le}
use Rattle.std.proofs.lemmas.List.{length-take}
use Rattle.std.proofs.lemmas.Bool.{cases_Bool}
use Rattle.office_base.specs.Maps.{bytes_cmp, Rises, at_name, with_name}
use Rattle.office_types.specs.declared.reply.ReportLine.{ReportLine}
use Rattle.office_types.specs.Reports.{charges}
use Rattle.bill_book.specs.declared.bill.Bill.{Bill}
use Rattle.bill_book.specs.Bills.{total_of, RiseByBucket}
use Rattle.bill_posting.specs.declared.tally.Tally.{Tally}
use Rattle.bill_posting.specs.Bills.{added, with_line, tallies_of, bill_of, bills_of, tallied_total, tallied_lines, is_line_of, own_bill, bill_in, AreBillsOf}

-- ---- names

same_name : (a b : List ℕ) → bytes_cmp a b ≡ Equal → a ≡ b
same_name a b h = (bytes_eq-Decides a b).0 (sym (is_eq-slice_cmp a b) ∙ ap is_eq h)

itself : (name : List ℕ) → is_eq (bytes_cmp name name) ≡ true
itself name = ap is_eq (tied_itself nat_list_cmp_total name)

less_of : (o : Ordering) → IsTrue (is_lt o) → o ≡ Less
less_of Less h = refl
less_of Equal h = absurd cc
less_of Greater h = absurd cc

lt_of : (o : Ordering) → o ≡ Less → IsTrue (is_lt o)
lt_of o h = ap is_lt h

-- the name is before all others
abbrev pub IsFirst : List ℕ → List (List ℕ × Tally) → Type 0
IsFirst name es = AllByRecursion (λ other. IsTrue (is_lt (bytes_cmp name other.0))) es

pub first_chain : (a b : List ℕ) → bytes_cmp a b ≡ Less → (es : List (List ℕ × Tally)) → IsFirst b es → IsFirst a es
first_chain a b h [] all = tt
first_chain a b h (e ∷ es) all =
    (lt_of (bytes_cmp a e.0) (nat_list_cmp_total.trans a b e.0 h (less_of (bytes_cmp b e.0) all.0)), first_chain a b h es all.1)

pub none_above : (name : List ℕ) (es : List (List ℕ × Tally)) → IsFirst name es → at_name name es ≡ None
none_above name [] h = refl
none_above name (e ∷ es) h = let above = less_of (bytes_cmp name e.0) h.0 in rw above (none_above name es h.1)

module _ (name : List ℕ) (tally : Tally) where
  first_at : (before : List ℕ) → bytes_cmp before name ≡ Less → (o : Ordering) (e : List ℕ × Tally) (es rest : List (List ℕ × Tally)) → IsFirst before (e ∷ es)
      → IsFirst before rest → IsFirst before (match_ordering o ((name, tally) ∷ e ∷ es) ((e.0, tally) ∷ es) (e ∷ rest))
  first_at before is Less e es rest first h = (lt_of (bytes_cmp before name) is, first)
  first_at before is Equal e es rest first h = first
  first_at before is Greater e es rest first h = (first.0, h)

  first_kept : (before : List ℕ) → bytes_cmp before name ≡ Less → (es : List (List ℕ × Tally)) → IsFirst before es → IsFirst before (with_name name tally es)
  first_kept before is [] first = (lt_of (bytes_cmp before name) is, tt)
  first_kept before is (e ∷ es) first = first_at before is (bytes_cmp name e.0) e es (with_name name tally es) first (first_kept before is es first.1)

  rises_at : (o : Ordering) (e : List ℕ × Tally) (es : List (List ℕ × Tally)) → bytes_cmp name e.0 ≡ o → Rises bytes_cmp (e ∷ es) → Rises bytes_cmp (with_name name tally es)
      → Rises bytes_cmp (match_ordering o ((name, tally) ∷ e ∷ es) ((e.0, tally) ∷ es) (e ∷ with_name name tally es))
  rises_at Less e es is rises h = ((lt_of (bytes_cmp name e.0) is, first_chain name e.0 is es rises.0), rises)
  rises_at Equal e es is rises h = rises
  rises_at Greater e es is rises h = (first_kept e.0 (nat_list_cmp_total.antisymm e.0 name ∙ ap ordering_reverse is) es rises.0, h)

  pub rises_with : (es : List (List ℕ × Tally)) → Rises bytes_cmp es → Rises bytes_cmp (with_name name tally es)
  rises_with [] rises = (tt, tt)
  rises_with (e ∷ es) rises = rises_at (bytes_cmp name e.0) e es refl rises (rises_with es rises.1)

  -- ---- what stands under a name

  there_at : (o : Ordering) (e : List ℕ × Tally) (es rest : List (List ℕ × Tally)) → bytes_cmp name e.0 ≡ o → at_name name rest ≡ Some tally
      → at_name name (match_ordering o ((name, tally) ∷ e ∷ es) ((e.0, tally) ∷ es) (e ∷ rest)) ≡ Some tally
  there_at Less e es rest is h = let one = itself name in rw one refl
  there_at Equal e es rest is h = rw is refl
  there_at Greater e es rest is h = rw is h

  pub at_written : (es : List (List ℕ × Tally)) → at_name name (with_name name tally es) ≡ Some tally
  at_written [] = let one = itself name in rw one refl
  at_written (e ∷ es) = there_at (bytes_cmp name e.0) e es (with_name name tally es) refl (at_written es)

  other_at : (other : List ℕ) → is_eq (bytes_cmp other name) ≡ false → (o : Ordering) (e : List ℕ × Tally) (es rest : List (List ℕ × Tally)) → bytes_cmp name e.0 ≡ o
      → at_name other rest ≡ at_name other es
      → at_name other (match_ordering o ((name, tally) ∷ e ∷ es) ((e.0, tally) ∷ es) (e ∷ rest)) ≡ at_name other (e ∷ es)
  other_at other differs Less e es rest is h = rw differs refl
  other_at other differs Equal e es rest is h =
      let no : is_eq (bytes_cmp other e.0) ≡ false = ap (λ (n : List ℕ). is_eq (bytes_cmp other n)) (sym (same_name name e.0 is)) ∙ differs in
      rw no refl
  other_at other differs Greater e es rest is h = ap (λ (o : Option Tally). cond (is_eq (bytes_cmp other e.0)) (Some e.1) o) h

  at_other : (other : List ℕ) → is_eq (bytes_cmp other name) ≡ false → (es : List (List ℕ × Tally)) → at_name other (with_name name tally es) ≡ at_name other es
  at_other other differs [] = rw differs refl
  at_other other differs (e ∷ es) = other_at other differs (bytes_cmp name e.0) e es (with_name name tally es) refl (at_other other differs es)

-- ---- sums

module _ (f : Tally → ℕ) where
  abbrev weight : Option Tally → ℕ
  weight o = unwrap_or (option_map f o) 0

  within_at : (name : List ℕ) (b : Bool) (e : List ℕ × Tally) (es : List (List ℕ × Tally)) → is_eq (bytes_cmp name e.0) ≡ b
      → weight (at_name name es) ≤ sum_by f (values_of es) → weight (cond b (Some e.1) (at_name name es)) ≤ sum_by f (values_of (e ∷ es))
  within_at name true e es is h = omega (arith, sum_by-cons f e.1 (values_of es))
  within_at name false e es is h = omega (arith, sum_by-cons f e.1 (values_of es), h)

  -- one of them is at most all of them
  within : (name : List ℕ) (es : List (List ℕ × Tally)) → weight (at_name name es) ≤ sum_by f (values_of es)
  within name [] = omega arith
  within name (e ∷ es) = within_at name (is_eq (bytes_cmp name e.0)) e es refl (within name es)

  sum_at : (name : List ℕ) (tally : Tally) (o : Ordering) (e : List ℕ × Tally) (es rest : List (List ℕ × Tally)) → bytes_cmp name e.0 ≡ o → IsFirst e.0 es
      → sum_by f (values_of rest) + weight (at_name name es) ≡ sum_by f (values_of es) + f tally
      → sum_by f (values_of (match_ordering o ((name, tally) ∷ e ∷ es) ((e.0, tally) ∷ es) (e ∷ rest))) + weight (cond (is_eq o) (Some e.1) (at_name name es))
      ≡ sum_by f (values_of (e ∷ es)) + f tally
  sum_at name tally Less e es rest is first h =
      let none : weight (at_name name es) ≡ 0 = ap weight (none_above name es (first_chain name e.0 is es first)) in
      omega (arith, none, sum_by-cons f tally (values_of (e ∷ es)))
  sum_at name tally Equal e es rest is first h = omega (arith, sum_by-cons f e.1 (values_of es), sum_by-cons f tally (values_of es))
  sum_at name tally Greater e es rest is first h = omega (arith, h, sum_by-cons f e.1 (values_of es), sum_by-cons f e.1 (values_of rest))

  -- the sum with another tally for a name
  sum_with : (name : List ℕ) (tally : Tally) (es : List (List ℕ × Tally)) → Rises bytes_cmp es
      → sum_by f (values_of (with_name name tally es)) + weight (at_name name es) ≡ sum_by f (values_of es) + f tally
  sum_with name tally [] rises = omega (arith, sum_by-cons f tally [])
  sum_with name tally (e ∷ es) rises = sum_at name tally (bytes_cmp name e.0) e es (with_name name tally es) refl rises.0 (sum_with name tally es rises.1)

-- ---- one line

abbrev total : Tally → ℕ
total tally = tally.total

abbrev count : Tally → ℕ
count tally = tally.lines

added_total : (line : ReportLine) (o : Option Tally) → total (added line o) ≡ weight total o + line.charge
added_total line None = omega arith
added_total line (Some tally) = refl

added_count : (line : ReportLine) (o : Option Tally) → count (added line o) ≡ weight count o + 1
added_count line None = omega arith
added_count line (Some tally) = refl

line_total : (line : ReportLine) (es : List (List ℕ × Tally)) → Rises bytes_cmp es → tallied_total (with_line es line) ≡ tallied_total es + line.charge
line_total line es rises =
    let o = at_name line.bucket es in
    let s = sum_with total line.bucket (added line o) es rises in
    let a = added_total line o in
    omega (arith, s, a)

line_count : (line : ReportLine) (es : List (List ℕ × Tally)) → Rises bytes_cmp es → tallied_lines (with_line es line) ≡ tallied_lines es + 1
line_count line es rises =
    let o = at_name line.bucket es in
    let s = sum_with count line.bucket (added line o) es rises in
    let a = added_count line o in
    omega (arith, s, a)

pub within_total : (name : List ℕ) (es : List (List ℕ × Tally)) (tally : Tally) → at_name name es ≡ Some tally → tally.total ≤ tallied_total es
within_total name es tally h = let w = within total name es in let e = ap (weight total) h in omega (arith, w, e)

pub within_lines : (name : List ℕ) (es : List (List ℕ × Tally)) (tally : Tally) → at_name name es ≡ Some tally → tally.lines ≤ tallied_lines es
within_lines name es tally h = let w = within count name es in let e = ap (weight count) h in omega (arith, w, e)

-- ---- all lines

pub rises_all : (es : List (List ℕ × Tally)) (lines : List ReportLine) → Rises bytes_cmp es → Rises bytes_cmp (fold with_line es lines)
rises_all es [] rises = rises
rises_all es (line ∷ lines) rises = rises_all (with_line es line) lines (rises_with line.bucket (added line (at_name line.bucket es)) es rises)

pub total_all : (es : List (List ℕ × Tally)) (lines : List ReportLine) → Rises bytes_cmp es → tallied_total (fold with_line es lines) ≡ tallied_total es + charges lines
total_all es [] rises = omega arith
total_all es (line ∷ lines) rises =
    let next = rises_with line.bucket (added line (at_name line.bucket es)) es rises in
    let r = total_all (with_line es line) lines next in
    let l = line_total line es rises in
    omega (arith, r, l, sum_by-cons (λ (l : ReportLine). l.charge) line lines)

pub count_all : (es : List (List ℕ × Tally)) (lines : List ReportLine) → Rises bytes_cmp es → tallied_lines (fold with_line es lines) ≡ tallied_lines es + length lines
count_all es [] rises = omega arith
count_all es (line ∷ lines) rises =
    let next = rises_with line.bucket (added line (at_name line.bucket es)) es rises in
    let r = count_all (with_line es line) lines next in
    let l = line_count line es rises in
    omega (arith, r, l)

pub tallies_total : (lines : List ReportLine) → tallied_total (tallies_of lines) ≡ charges lines
tallies_total lines = total_all [] lines tt ∙ omega arith

pub tallies_count : (lines : List ReportLine) → tallied_lines (tallies_of lines) ≡ length lines
tallies_count lines = count_all [] lines tt ∙ omega arith

-- ---- the bills

sum_bills : (f : Tally → ℕ) (g : Bill → ℕ) → ((e : List ℕ × Tally) → g (bill_of e) ≡ f e.1) → (es : List (List ℕ × Tally)) → sum_by g (map bill_of es) ≡ sum_by f (values_of es)
sum_bills f g same [] = refl
sum_bills f g same (e ∷ es) =
    let r = sum_bills f g same es in let s = same e in
    omega (arith, r, s, sum_by-cons g (bill_of e) (map bill_of es), sum_by-cons f e.1 (values_of es))

pub bills_add_up : (lines : List ReportLine) → total_of (bills_of lines) ≡ charges lines
unfolding bills_of
bills_add_up lines = sum_bills total (λ (bill : Bill). bill.total) (λ e. refl) (tallies_of lines) ∙ tallies_total lines

pub bills_count_up : (lines : List ReportLine) → sum_by (λ (bill : Bill). bill.lines) (bills_of lines) ≡ length lines
unfolding bills_of
bills_count_up lines = sum_bills count (λ (bill : Bill). bill.lines) (λ e. refl) (tallies_of lines) ∙ tallies_count lines

first_bill : (name : List ℕ) (es : List (List ℕ × Tally)) → IsFirst name es
    → AllByRecursion (λ (other : Bill). IsTrue (is_lt (bytes_cmp name other.bucket))) (map bill_of es)
first_bill name [] h = tt
first_bill name (e ∷ es) h = (h.0, first_bill name es h.1)

rise_bills : (es : List (List ℕ × Tally)) → Rises bytes_cmp es → RiseByBucket (map bill_of es)
rise_bills [] h = tt
rise_bills (e ∷ es) h = (first_bill e.0 es h.0, rise_bills es h.1)

pub bills_rise : (lines : List ReportLine) → RiseByBucket (bills_of lines)
unfolding bills_of
bills_rise lines = rise_bills (tallies_of lines) (rises_all [] lines tt)

-- ---- each bucket has its own

-- the tally of a bucket after these lines, from the one before
gather : List ℕ → Option Tally → List ReportLine → Option Tally
gather bucket tally [] = tally
gather bucket tally (line ∷ lines) = gather bucket (cond (is_line_of bucket line) (Some (added line tally)) tally) lines

one_line : (bucket : List ℕ) (line : ReportLine) (es : List (List ℕ × Tally))
    → at_name bucket (with_line es line) ≡ cond (is_line_of bucket line) (Some (added line (at_name bucket es))) (at_name bucket es)
one_line bucket line es = elim (cases_Bool (bytes_eq bucket line.bucket)) [
  | inl is ↦
      let same : bucket ≡ line.bucket = (bytes_eq-Decides bucket line.bucket).0 is in
      let written = at_written line.bucket (added line (at_name line.bucket es)) es in
      rw is (subst (λ (name : List ℕ). at_name name (with_line es line) ≡ Some (added line (at_name name es))) (sym same) written)
  | inr not ↦
      let differs : is_eq (bytes_cmp bucket line.bucket) ≡ false = is_eq-slice_cmp bucket line.bucket ∙ not in
      rw not (at_other line.bucket (added line (at_name line.bucket es)) bucket differs es)
]

gathered : (bucket : List ℕ) (es : List (List ℕ × Tally)) (lines : List ReportLine) → at_name bucket (fold with_line es lines) ≡ gather bucket (at_name bucket es) lines
unfolding gather
gathered bucket es [] = refl
gathered bucket es (line ∷ lines) = gathered bucket (with_line es line) lines ∙ ap (λ (o : Option Tally). gather bucket o lines) (one_line bucket line es)

abbrev own_total : List ℕ → List ReportLine → ℕ
own_total bucket lines = sum_by (λ (line : ReportLine). line.charge) (filter (is_line_of bucket) lines)

abbrev own_count : List ℕ → List ReportLine → ℕ
own_count bucket lines = count_by (is_line_of bucket) lines

abbrev charge : ReportLine → ℕ
charge line = line.charge

-- what one line adds to a bucket's sum and count
total_yes : (bucket : List ℕ) (line : ReportLine) (lines : List ReportLine) → is_line_of bucket line ≡ true → own_total bucket (line ∷ lines) ≡ line.charge + own_total bucket lines
total_yes bucket line lines is =
    let kept = filter (is_line_of bucket) lines in
    ap (λ (b : Bool). sum_by charge (cond b (line ∷ kept) kept)) is ∙ sum_by-cons charge line kept

total_no : (bucket : List ℕ) (line : ReportLine) (lines : List ReportLine) → is_line_of bucket line ≡ false → own_total bucket (line ∷ lines) ≡ own_total bucket lines
total_no bucket line lines not =
    let kept = filter (is_line_of bucket) lines in
    ap (λ (b : Bool). sum_by charge (cond b (line ∷ kept) kept)) not

count_of : (bucket : List ℕ) (line : ReportLine) (lines : List ReportLine) (b : Bool) → is_line_of bucket line ≡ b → own_count bucket (line ∷ lines) ≡ cond b 1 0 + own_count bucket lines
count_of bucket line lines b is =
    sum_by-cons (λ (l : ReportLine). cond (is_line_of bucket l) 1 0) line lines ∙ ap (λ (b : Bool). cond b 1 0 + own_count bucket lines) is

as_record : (t t' c c' : ℕ) → t ≡ t' → c ≡ c' → ◌≡◌ {A = Option Tally} (Some (record { total = t; lines = c })) (Some (record { total = t'; lines = c' }))
as_record t t' c c' e f = λ i. Some (record { total = e i; lines = f i })

-- a tally that is there gets the lines of its bucket
gather_some : (bucket : List ℕ) (tally : Tally) (lines : List ReportLine)
    → gather bucket (Some tally) lines ≡ Some (record { total = tally.total + own_total bucket lines; lines = tally.lines + own_count bucket lines })
unfolding gather
gather_some bucket tally [] =
    let t : tally.total ≡ tally.total + 0 = omega arith in
    let c : tally.lines ≡ tally.lines + 0 = omega arith in
    λ i. Some (record { total = t i; lines = c i })
gather_some bucket tally (line ∷ lines) = elim (cases_Bool (is_line_of bucket line)) [
  | inl is ↦
      let step = ap (λ (b : Bool). gather bucket (cond b (Some (added line (Some tally))) (Some tally)) lines) is in
      let t : tally.total + line.charge + own_total bucket lines ≡ tally.total + own_total bucket (line ∷ lines) = omega (arith, total_yes bucket line lines is) in
      let c : tally.lines + 1 + own_count bucket lines ≡ tally.lines + own_count bucket (line ∷ lines) = omega (arith, count_of bucket line lines true is) in
      step ∙ (gather_some bucket (added line (Some tally)) lines ∙ as_record _ _ _ _ t c)
  | inr not ↦
      let step = ap (λ (b : Bool). gather bucket (cond b (Some (added line (Some tally))) (Some tally)) lines) not in
      let t : tally.total + own_total bucket lines ≡ tally.total + own_total bucket (line ∷ lines) = omega (arith, total_no bucket line lines not) in
      let c : tally.lines + own_count bucket lines ≡ tally.lines + own_count bucket (line ∷ lines) = omega (arith, count_of bucket line lines false not) in
      step ∙ (gather_some bucket tally lines ∙ as_record _ _ _ _ t c)
]

-- the tally of a bucket as a bill
abbrev as_bill : List ℕ → Option Tally → Option Bill
as_bill bucket o = option_map (λ (tally : Tally). bill_of (bucket, tally)) o

abbrev own_if : List ℕ → Bool → ℕ → ℕ → Option Bill
own_if bucket b t c = cond b (Some (record { bucket = bucket; total = t; lines = c })) None

gather_none : (bucket : List ℕ) (lines : List ReportLine) → as_bill bucket (gather bucket None lines) ≡ own_bill bucket lines
unfolding gather
gather_none bucket [] = refl
gather_none bucket (line ∷ lines) = elim (cases_Bool (is_line_of bucket line)) [
  | inl is ↦
      let step = ap (λ (b : Bool). as_bill bucket (gather bucket (cond b (Some (added line None)) None) lines)) is in
      let t : line.charge + own_total bucket lines ≡ own_total bucket (line ∷ lines) = sym (total_yes bucket line lines is) in
      let c : 1 + own_count bucket lines ≡ own_count bucket (line ∷ lines) = sym (count_of bucket line lines true is) in
      let any : true ≡ list_any (is_line_of bucket) (line ∷ lines) = sym (ap (λ (b : Bool). b || list_any (is_line_of bucket) lines) is) in
      step ∙ (ap (as_bill bucket) (gather_some bucket (added line None) lines) ∙ λ i. own_if bucket (any i) (t i) (c i))
  | inr not ↦
      let step = ap (λ (b : Bool). as_bill bucket (gather bucket (cond b (Some (added line None)) None) lines)) not in
      let t : own_total bucket lines ≡ own_total bucket (line ∷ lines) = sym (total_no bucket line lines not) in
      let c : own_count bucket lines ≡ own_count bucket (line ∷ lines) = omega (arith, count_of bucket line lines false not) in
      let any : list_any (is_line_of bucket) lines ≡ list_any (is_line_of bucket) (line ∷ lines) = sym (ap (λ (b : Bool). b || list_any (is_line_of bucket) lines) not) in
      step ∙ (gather_none bucket lines ∙ λ i. own_if bucket (any i) (t i) (c i))
]

bill_found : (bucket : List ℕ) (es : List (List ℕ × Tally)) → bill_in bucket (map bill_of es) ≡ as_bill bucket (at_name bucket es)
bill_found bucket [] = refl
bill_found bucket (e ∷ es) = elim (cases_Bool (bytes_eq bucket e.0)) [
  | inl is ↦
      let here : is_eq (bytes_cmp bucket e.0) ≡ true = is_eq-slice_cmp bucket e.0 ∙ is in
      let same : e.0 ≡ bucket = sym ((bytes_eq-Decides bucket e.0).0 is) in
      rw (is, here) (ap (λ (name : List ℕ). Some (bill_of (name, e.1))) same)
  | inr not ↦
      let other : is_eq (bytes_cmp bucket e.0) ≡ false = is_eq-slice_cmp bucket e.0 ∙ not in
      rw (not, other) (bill_found bucket es)
]

pub are_bills_of : (lines : List ReportLine) → AreBillsOf lines (bills_of lines)
unfolding bills_of
are_bills_of lines = record {
  rise = bills_rise lines;
  own = λ bucket. bill_found bucket (tallies_of lines) ∙ (ap (as_bill bucket) (gathered bucket [] lines) ∙ gather_none bucket lines);
}

-- ---- as far as a loop has come

pub total_room : (lines : List ReportLine) (i : ℕ) (line : ReportLine) (es : List (List ℕ × Tally)) → i < length lines → line ≡ get_or lines i line → es ≡ tallies_of (take i lines)
    → tallied_total es + line.charge ≤ charges lines
total_room lines i line es within is so_far =
    let t : tallied_total es ≡ charges (take i lines) = ap tallied_total so_far ∙ tallies_total (take i lines) in
    let m = sum_by_more_le charge lines i line within in
    let c : line.charge ≡ (get_or lines i line).charge = ap charge is in
    omega (arith, t, m, c)

pub count_room : (lines : List ReportLine) (i : ℕ) (es : List (List ℕ × Tally)) → i < length lines → es ≡ tallies_of (take i lines) → tallied_lines es + 1 ≤ length lines
count_room lines i es within so_far =
    let t : tallied_lines es ≡ length (take i lines) = ap tallied_lines so_far ∙ tallies_count (take i lines) in
    omega (arith, t, length-take i lines)

-- a list of a report's bills adds up and is in order
pub are_of_lines : (bills : List Bill) (lines : List ReportLine) → bills ≡ map bill_of (tallies_of lines) → (total_of bills ≡ charges lines) × RiseByBucket bills
unfolding bills_of
are_of_lines bills lines is = (ap total_of is ∙ bills_add_up lines, subst RiseByBucket (sym is) (bills_rise lines))
