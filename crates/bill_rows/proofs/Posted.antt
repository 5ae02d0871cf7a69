-- A month that is put into the rows is added to the book that they mean.
use Rattle.std.proofs.Common.{◌≡◌, inl, inr, ℕ, ℤ, pos, ◌+◌, ◌<◌, ◌^◌, List, [], ◌∷◌, map, refl, ap, sym, ◌∙◌, subst, Bool, true, false, not, ◌&&◌, ◌||◌, Some, None, arith, zero-add}
use Rattle.std.specs.Prelude.{filter, count_by, decimal, nat_lt}
use Rattle.std.specs.Str.{bytes_eq}
use Rattle.std.specs.Str.Parse.{digits_value}
use Rattle.std.specs.List.{AllByRecursion, list_any}
use Rattle.std.proofs.lemmas.Bool.{cases_Bool, ltb-true, lt-ltb}
use Rattle.std.proofs.lemmas.Slice.Eq.{bytes_eq-Decides}
use Rattle.std.proofs.lemmas.Fmt.{decimal_is_IsNumeral_wide}
use Rattle.office_base.specs.Names.{IsBucketName, is_bucket_name}
use Rattle.moments.specs.Months.{months}
use Rattle.sqlite_value.specs.declared.value.Value.{Value}
use Rattle.sqlite_value.specs.declared.value.Value.TheVariants.{Null, Int, Real, Text, Blob}
use Rattle.sqlite_value.specs.declared.keys.Collation.TheVariants.{Binary}
use Rattle.sqlite_value.specs.Order.{Row, column}
use Rattle.sqlite_value.proofs.OrderLemmas.{value_cmp-apart}
use Rattle.sqlite_sql.specs.Ops.{binary}
use Rattle.sqlite_schema.specs.Rules.{equal}
use Rattle.sqlite.specs.Edit.{next_rowid}
use Rattle.bill_book.specs.declared.bill.Bill.{Bill}
use Rattle.bill_book.specs.Bills.{RiseByBucket}
use Rattle.bill_book.specs.Books.{AddsMonth}
use Rattle.bill_rows.specs.Months.{month_text}
use Rattle.bill_rows.specs.Rows.{stored, in_month, is_at}
use Rattle.bill_rows.specs.Books.{text_in, bill_in, has_header, is_bill_of, bills_in, book_of, AreHeaded}
use Rattle.bill_rows.specs.Puts.{Puts, PutsRow, PutsBill, PutsBills, PutsMonth}
use Rattle.bill_rows.proofs.Counts.{as_count, count-cons, count-map, count-filter, put_count, put_filter, put_any, put_all}
use Rattle.bill_rows.proofs.Order.{in_order_is}
use Rattle.bill_rows.proofs.Texts.{equal-Text, one_month, in_month_stored, is_at_stored}

pub bytes_itself : (name : List ℕ) → bytes_eq name name ≡ true
bytes_itself name = (bytes_eq-Decides name name).1 refl

-- ---- the rows of other months

-- a test that the month's rows do not pass
abbrev Ignores : List ℕ → (Row → Bool) → Type 0
Ignores month p = (id : ℤ) (bucket total : List ℕ) (lines : ℤ) → p (stored id month bucket total lines) ≡ false

module _ (month : List ℕ) (p : Row → Bool) (ignores : Ignores month p) where
  pub row_filter : (bucket total : List ℕ) (lines : ℤ) (before after : List Row) → PutsRow month bucket total lines before after → filter p after ≡ filter p before
  row_filter bucket total lines before after puts =
      let new = stored (next_rowid before) month bucket total lines in
      ap (filter p) puts.put ∙ put_filter new p before puts.fresh (ignores (next_rowid before) bucket total lines)

  row_any : (bucket total : List ℕ) (lines : ℤ) (before after : List Row) → PutsRow month bucket total lines before after → list_any p after ≡ list_any p before
  row_any bucket total lines before after puts =
      let new = stored (next_rowid before) month bucket total lines in
      let misses = ignores (next_rowid before) bucket total lines in
      ap (list_any p) puts.put ∙ (put_any new p before puts.fresh ∙ ap (λ (b : Bool). b || list_any p before) misses)

  pub bills_filter : (bills : List Bill) (before after : List Row) → PutsBills month bills before after → filter p after ≡ filter p before
  bills_filter [] before after puts = ap (filter p) puts
  bills_filter (b ∷ bs) before after puts =
      bills_filter bs puts.0 after puts.2 ∙ row_filter b.bucket (decimal b.total) (pos b.lines) before puts.0 puts.1.1

  bills_any : (bills : List Bill) (before after : List Row) → PutsBills month bills before after → list_any p after ≡ list_any p before
  bills_any [] before after puts = ap (list_any p) puts
  bills_any (b ∷ bs) before after puts =
      bills_any bs puts.0 after puts.2 ∙ row_any b.bucket (decimal b.total) (pos b.lines) before puts.0 puts.1.1

pub ignores_bills : (month other : List ℕ) → bytes_eq month other ≡ false → Ignores month (is_bill_of other)
ignores_bills month other apart id bucket total lines = rw (in_month_stored other id month bucket total lines, apart) refl

ignores_header : (month other : List ℕ) → bytes_eq month other ≡ false → Ignores month (is_at other [])
ignores_header month other apart id bucket total lines = rw (is_at_stored other id month bucket total lines, apart) refl

-- ---- the header stays

row_still : (p : Row → Bool) (month bucket total : List ℕ) (lines : ℤ) (before after : List Row) → PutsRow month bucket total lines before after → list_any p before ≡ true → list_any p after ≡ true
row_still p month bucket total lines before after puts had =
    let new = stored (next_rowid before) month bucket total lines in
    ap (list_any p) puts.put ∙ (put_any new p before puts.fresh ∙ (ap (λ (b : Bool). p new || b) had ∙ either (p new))) where
      either : (b : Bool) → (b || true) ≡ true
      either true = refl
      either false = refl

bills_still : (p : Row → Bool) (month : List ℕ) (bills : List Bill) (before after : List Row) → PutsBills month bills before after → list_any p before ≡ true → list_any p after ≡ true
bills_still p month [] before after puts had = ap (list_any p) puts ∙ had
bills_still p month (b ∷ bs) before after puts had =
    bills_still p month bs puts.0 after puts.2 (row_still p month b.bucket (decimal b.total) (pos b.lines) before puts.0 puts.1.1 had)

header_put : (month total : List ℕ) (count : ℕ) (before after : List Row) → PutsRow month [] total (pos count) before after → has_header month after ≡ true
header_put month total count before after puts =
    let new = stored (next_rowid before) month [] total (pos count) in
    let is : is_at month [] new ≡ true = is_at_stored month (next_rowid before) month [] total (pos count) ∙ ap (λ (b : Bool). b && (bytes_eq [] [] && true)) (bytes_itself month) in
    ap (list_any (is_at month [])) puts.put ∙ (put_any new (is_at month []) before puts.fresh ∙ ap (λ (b : Bool). b || list_any (is_at month []) before) is)

-- ---- the bills of the month

-- how many of the month's bills pass a test
unfoldable pub counted : List ℕ → (Bill → Bool) → List Row → ℕ
counted month p rows = count_by p (map bill_in (filter (is_bill_of month) rows))

pub counted_is : (month : List ℕ) (p : Bill → Bool) (rows : List Row) → counted month p rows ≡ count_by (λ r. is_bill_of month r && p (bill_in r)) rows
unfolding counted
counted_is month p rows = count-map p bill_in (filter (is_bill_of month) rows) ∙ count-filter (λ r. p (bill_in r)) (is_bill_of month) rows

counted_put : (month : List ℕ) (p : Bill → Bool) (new : Row) (before after : List Row) → Puts new before after → counted month p after ≡ as_count (is_bill_of month new && p (bill_in new)) + counted month p before
counted_put month p new before after puts =
    let q : Row → Bool = λ r. is_bill_of month r && p (bill_in r) in
    counted_is month p after ∙ (ap (count_by q) puts.put ∙ (put_count new q before puts.fresh ∙ ap (λ n. as_count (q new) + n) (sym (counted_is month p before))))

pub named : (bucket : List ℕ) → IsBucketName bucket → bytes_eq bucket [] ≡ false
unfolding is_bucket_name
named [] is = absurd (let e = is in cc)
named (c ∷ cs) is = refl

pub digits_back : (n : ℕ) → n < 2 ^ 128 → digits_value 10 (decimal n) ≡ n
digits_back n small = (decimal_is_IsNumeral_wide n (omega arith)).1

bill_is : (id : ℤ) (month : List ℕ) (b : Bill) → b.total < 2 ^ 128 → bill_in (stored id month b.bucket (decimal b.total) (pos b.lines)) ≡ b
bill_is id month b small = λ i. record { bucket = b.bucket; total = digits_back b.total small i; lines = b.lines }

is_bill_row : (id : ℤ) (month bucket total : List ℕ) (lines : ℤ) → IsBucketName bucket → is_bill_of month (stored id month bucket total lines) ≡ true
is_bill_row id month bucket total lines name =
    rw (in_month_stored month id month bucket total lines, is_at_stored month id month bucket total lines, bytes_itself month, named bucket name) refl

bill_counted : (month : List ℕ) (p : Bill → Bool) (b : Bill) (before after : List Row) → b.total < 2 ^ 128 → PutsBill month b before after → counted month p after ≡ as_count (p b) + counted month p before
bill_counted month p b before after small puts =
    let new = stored (next_rowid before) month b.bucket (decimal b.total) (pos b.lines) in
    let q : is_bill_of month new ≡ true = is_bill_row (next_rowid before) month b.bucket (decimal b.total) (pos b.lines) puts.0 in
    let same : bill_in new ≡ b = bill_is (next_rowid before) month b small in
    counted_put month p new before after puts.1 ∙ ap (λ n. n + counted month p before) (ap (λ (t : Bool). as_count (t && p (bill_in new))) q ∙ ap (λ (x : Bill). as_count (p x)) same)

pub bills_counted : (month : List ℕ) (p : Bill → Bool) (bills : List Bill) (before after : List Row) → AllByRecursion (λ (b : Bill). b.total < 2 ^ 128) bills → PutsBills month bills before after
    → counted month p after ≡ count_by p bills + counted month p before
bills_counted month p [] before after small puts = ap (counted month p) puts ∙ omega arith
bills_counted month p (b ∷ bs) before after small puts =
    let rest = bills_counted month p bs puts.0 after small.1 puts.2 in
    let first = bill_counted month p b before puts.0 small.0 puts.1 in
    omega (arith, rest, first, count-cons p b bs)

pub header_counted : (month total : List ℕ) (count : ℕ) (p : Bill → Bool) (before after : List Row) → PutsRow month [] total (pos count) before after → counted month p after ≡ counted month p before
header_counted month total count p before after puts =
    let new = stored (next_rowid before) month [] total (pos count) in
    let misses : is_bill_of month new ≡ false =
    rw (in_month_stored month (next_rowid before) month [] total (pos count), is_at_stored month (next_rowid before) month [] total (pos count), bytes_itself month) refl in
    counted_put month p new before after puts ∙ (ap (λ (t : Bool). as_count (t && p (bill_in new)) + counted month p before) misses ∙ zero-add (counted month p before))

-- a column that equals a text is that text
text_of : (month : List ℕ) (v : Value) → equal Binary v (Text month) ≡ true → text_in v ≡ month
unfolding binary
text_of month (Text t) h = (bytes_eq-Decides t month).0 (sym (equal-Text t month) ∙ h)
text_of month Null h = absurd cc
text_of month (Int n) h = absurd (let e = value_cmp-apart (Int n) (Text month) (λ k. cc) in cc)
text_of month (Real x) h = absurd (let e = value_cmp-apart (Real x) (Text month) (λ k. cc) in cc)
text_of month (Blob b) h = absurd (let e = value_cmp-apart (Blob b) (Text month) (λ k. cc) in cc)

-- a month without a header has no rows
none_there_at : (month : List ℕ) (r : Row) (rs : List Row) (p : Bill → Bool) (all : List Row) (b : Bool) → in_month month r ≡ b → has_header (text_in (column r 1)) all ≡ true → has_header month all ≡ false
    → counted month p rs ≡ 0 → counted month p (r ∷ rs) ≡ 0
none_there_at month r rs p all true is headed none h =
    absurd (let same = text_of month (column r 1) is in let e : has_header month all ≡ true = ap (λ (t : List ℕ). has_header t all) (sym same) ∙ headed in cc)
none_there_at month r rs p all false is headed none h =
    let misses : is_bill_of month r ≡ false = ap (λ (t : Bool). t && not (is_at month [] r)) is in
    counted_is month p (r ∷ rs) ∙ (count-cons (λ x. is_bill_of month x && p (bill_in x)) r rs ∙ (ap (λ (t : Bool). as_count (t && p (bill_in r)) + count_by (λ x. is_bill_of month x && p (bill_in x)) rs) misses ∙ (zero-add (count_by (λ x. is_bill_of month x && p (bill_in x)) rs) ∙ (sym (counted_is month p rs) ∙ h))))

none_there : (month : List ℕ) (p : Bill → Bool) (all rows : List Row) → AllByRecursion (λ (row : Row). has_header (text_in (column row 1)) all ≡ true) rows → has_header month all ≡ false → counted month p rows ≡ 0
unfolding counted
none_there month p all [] headed none = refl
none_there month p all (r ∷ rs) headed none = none_there_at month r rs p all (in_month month r) refl headed.0 none (none_there month p all rs headed.1 none)

-- ---- the book

in_range : (k : ℕ) → k < months → nat_lt k months ≡ true
in_range k small = lt-ltb k months small

pub book_with : (k : ℕ) (rows : List Row) → k < months → has_header (month_text k) rows ≡ true → book_of rows k ≡ Some (bills_in (month_text k) rows)
unfolding book_of
book_with k rows small there = rw (in_range k small, there) refl

pub book_without : (k : ℕ) (rows : List Row) → k < months → has_header (month_text k) rows ≡ false → book_of rows k ≡ None
unfolding book_of
book_without k rows small none = rw (in_range k small, none) refl

book_same_at : (k q : ℕ) (t : Bool) (before after : List Row) → nat_lt q months ≡ t
    → (t ≡ true → (filter (is_bill_of (month_text q)) after ≡ filter (is_bill_of (month_text q)) before) × (has_header (month_text q) after ≡ has_header (month_text q) before))
    → book_of after q ≡ book_of before q
unfolding book_of
book_same_at k q false before after is same = rw is refl
book_same_at k q true before after is same = let s = same refl in rw (is, s.0, s.1) refl

pub apart : (a b : List ℕ) → (a ≡ b → ⊥) → bytes_eq a b ≡ false
apart a b differ = elim (cases_Bool (bytes_eq a b)) [
  | inl is ↦ absurd (differ ((bytes_eq-Decides a b).0 is))
  | inr not ↦ not
]

module _ (k : ℕ) (small : k < months) (total : List ℕ) (count : ℕ) (bills : List Bill) (before after : List Row) (headed : AreHeaded before)
    (puts : PutsMonth (month_text k) total count bills true before after) where
  abbrev text : List ℕ
  text = month_text k

  abbrev between : List Row
  between = puts.1.0

  other_stays : (q : ℕ) → (q ≡ k → ⊥) → book_of after q ≡ book_of before q
  other_stays q other = book_same_at k q (nat_lt q months) before after refl (λ is.
      let q_small : q < months = ltb-true q months is in
      let differ : bytes_eq text (month_text q) ≡ false = apart text (month_text q) (λ same. other (sym (one_month k q small q_small same))) in
      let bills_differ = ignores_bills text (month_text q) differ in
      let header_differs = ignores_header text (month_text q) differ in (
        bills_filter text (is_bill_of (month_text q)) bills_differ bills between after puts.1.2 ∙ row_filter text (is_bill_of (month_text q)) bills_differ [] total (pos count) before between puts.1.1,
        bills_any text (is_at (month_text q) []) header_differs bills between after puts.1.2 ∙ row_any text (is_at (month_text q) []) header_differs [] total (pos count) before between puts.1.1,
      ))

  there_after : has_header text after ≡ true
  there_after = bills_still (is_at text []) text bills between after puts.1.2 (header_put text total count before between puts.1.1)

  listed : RiseByBucket bills → ((p : Bill → Bool) → counted text p after ≡ count_by p bills) → bills_in text after ≡ bills
  unfolding counted
  listed rise alike = in_order_is (map bill_in (filter (is_bill_of text) after)) bills rise alike

  -- its bills are those that were put in
  pub bills_there : RiseByBucket bills → AllByRecursion (λ (b : Bill). b.total < 2 ^ 128) bills → bills_in text after ≡ bills
  bills_there rise few = listed rise (λ p.
      let b = bills_counted text p bills between after few puts.1.2 in
      let h = header_counted text total count p before between puts.1.1 in
      let none = none_there text p before before headed puts.0 in
      omega (arith, b, h, none))

  pub month_added : RiseByBucket bills → AllByRecursion (λ (b : Bill). b.total < 2 ^ 128) bills → AddsMonth k bills (book_of before) (book_of after)
  month_added rise few = record {
    absent = book_without k before small puts.0;
    posted = book_with k after small there_after ∙ ap (λ (l : List Bill). Some l) (bills_there rise few);
    others = λ q differ. other_stays q differ;
  }

  -- the rows that were there have their headers still
  abbrev HasIts : Row → Type 0
  HasIts row = has_header (text_in (column row 1)) after ≡ true

  kept_headers : (rows : List Row) → AllByRecursion (λ (row : Row). has_header (text_in (column row 1)) before ≡ true) rows → AllByRecursion HasIts rows
  kept_headers [] all = tt
  kept_headers (r ∷ rs) all =
      let p = is_at (text_in (column r 1)) [] in
      (bills_still p text bills between after puts.1.2 (row_still p text [] total (pos count) before between puts.1.1 all.0), kept_headers rs all.1)

  row_headed : (bucket its : List ℕ) (lines : ℤ) (old new : List Row) → PutsRow text bucket its lines old new → AllByRecursion HasIts old → AllByRecursion HasIts new
  row_headed bucket its lines old new put all =
      subst (AllByRecursion HasIts) (sym put.put) (put_all (stored (next_rowid old) text bucket its lines) HasIts old there_after all)

  bills_headed : (bs : List Bill) (old new : List Row) → PutsBills text bs old new → AllByRecursion HasIts old → AllByRecursion HasIts new
  bills_headed [] old new put all = subst (AllByRecursion HasIts) (sym put) all
  bills_headed (b ∷ bs) old new put all = bills_headed bs put.0 new put.2 (row_headed b.bucket (decimal b.total) (pos b.lines) old put.0 put.1.1 all)

  pub still_headed : AreHeaded after
  still_headed = bills_headed bills between after puts.1.2 (row_headed [] total (pos count) before between puts.1.1 (kept_headers before headed))
