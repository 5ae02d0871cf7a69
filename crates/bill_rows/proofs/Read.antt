-- What is read of a month is what the book has of it.
use Rattle.std.proofs.Common.{◌≡◌, ℕ, ◌+◌, ◌<◌, List, [], ◌∷◌, map, refl, ap, sym, ◌∙◌, Bool, true, false, not, ◌&&◌, ◌||◌, Ordering, arith, zero-add}
use Rattle.std.specs.Prelude.{filter, count_by, IsTrue}
use Rattle.std.specs.declared.cmp.Ordering.TheVariants.{Less, Equal, Greater}
use Rattle.std.specs.Ordering.{is_lt}
use Rattle.std.specs.List.{AllByRecursion, list_any}
use Rattle.std.proofs.lemmas.Bool.{and_parts}
use Rattle.std.proofs.lemmas.Cmp.{nat_list_cmp_total}
use Rattle.std.proofs.lemmas.List.Sorted.{sum_by-IsPermutation}
use Rattle.office_base.specs.Maps.{bytes_cmp}
use Rattle.sqlite_value.specs.declared.value.Value.TheVariants.{Text}
use Rattle.sqlite_value.specs.declared.keys.Collation.TheVariants.{Binary}
use Rattle.sqlite_value.specs.Keys.{first_key}
use Rattle.sqlite_value.specs.Order.{Row, column}
use Rattle.sqlite_schema.specs.Rules.{equal}
use Rattle.bill_book.specs.declared.bill.Bill.{Bill}
use Rattle.bill_book.specs.Bills.{RiseByBucket}
use Rattle.bill_rows.specs.Rows.{in_month, is_at, keyed, shown, IsMonth}
use Rattle.bill_rows.specs.Books.{text_in, bill_in, has_header, is_bill_of, bills_in}
use Rattle.bill_rows.specs.Answers.{answer_bill, NamesBucket, rises, AreRead}
use Rattle.bill_rows.proofs.Counts.{as_count, count-cons, count-map, count-filter}
use Rattle.bill_rows.proofs.Order.{in_order_is}
use Rattle.bill_rows.proofs.Texts.{equal-Text}
use Rattle.bill_rows.proofs.Posted.{named}

-- ---- rising

less_of : (o : Ordering) → is_lt o ≡ true → o ≡ Less
less_of Less h = refl
less_of Equal h = absurd cc
less_of Greater h = absurd cc

above_all : (bill next : Bill) (more : List Bill) → is_lt (bytes_cmp bill.bucket next.bucket) ≡ true → AllByRecursion (λ (other : Bill). IsTrue (is_lt (bytes_cmp next.bucket other.bucket))) more
    → AllByRecursion (λ (other : Bill). IsTrue (is_lt (bytes_cmp bill.bucket other.bucket))) more
above_all bill next [] h all = tt
above_all bill next (o ∷ os) h all =
    (ap is_lt (nat_list_cmp_total.trans bill.bucket next.bucket o.bucket (less_of (bytes_cmp bill.bucket next.bucket) h) (less_of (bytes_cmp next.bucket o.bucket) all.0)), above_all bill next os h all.1)

pub rise_all : (bills : List Bill) → rises bills ≡ true → RiseByBucket bills
rise_all [] h = tt
rise_all (bill ∷ []) h = (tt, tt)
rise_all (bill ∷ next ∷ more) h =
    let parts = and_parts (is_lt (bytes_cmp bill.bucket next.bucket)) (rises (next ∷ more)) h in
    let rest = rise_all (next ∷ more) parts.1 in
    ((parts.0, above_all bill next more parts.0 rest.0), rest)

-- ---- counts

pub count_same : {X : Type 0} (p q : X → Bool) → ((x : X) → p x ≡ q x) → (xs : List X) → count_by p xs ≡ count_by q xs
count_same p q same [] = refl
count_same p q same (x ∷ xs) = count-cons p x xs ∙ ((λ i. as_count (same x i) + count_same p q same xs i) ∙ sym (count-cons q x xs))

none_any_at : (p : Row → Bool) (r : Row) (rs : List Row) (b : Bool) → p r ≡ b → as_count b + count_by p rs ≡ 0 → (count_by p rs ≡ 0 → list_any p rs ≡ false) → list_any p (r ∷ rs) ≡ false
none_any_at p r rs true is none more = absurd (omega (arith, none))
none_any_at p r rs false is none more = ap (λ (b : Bool). b || list_any p rs) is ∙ more (omega (arith, none))

none_any : (p : Row → Bool) (rows : List Row) → count_by p rows ≡ 0 → list_any p rows ≡ false
none_any p [] none = refl
none_any p (r ∷ rs) none = none_any_at p r rs (p r) refl (sym (count-cons p r rs) ∙ none) (none_any p rs)

some_any_at : (p : Row → Bool) (r : Row) (rs : List Row) (b : Bool) → p r ≡ b → 0 < as_count b + count_by p rs → (0 < count_by p rs → list_any p rs ≡ true) → list_any p (r ∷ rs) ≡ true
some_any_at p r rs true is some more = ap (λ (b : Bool). b || list_any p rs) is
some_any_at p r rs false is some more = ap (λ (b : Bool). b || list_any p rs) is ∙ more (omega (arith, some))

some_any : (p : Row → Bool) (rows : List Row) → 0 < count_by p rows → list_any p rows ≡ true
some_any p [] some = absurd (omega arith)
some_any p (r ∷ rs) some = some_any_at p r rs (p r) refl (omega (arith, some, count-cons p r rs)) (some_any p rs)

-- what passes a test in the answer is what does in the rows of the month
pub answer_count : (month : List ℕ) (rows answer : List Row) (p : Row → Bool) → IsMonth month rows answer → count_by p answer ≡ count_by (λ r. in_month month r && p (shown r)) rows
answer_count month rows answer p it =
    let q : Row × Row → Bool = λ o. p o.1 in
    let moved : count_by q it.ordered ≡ count_by q (map keyed (filter (in_month month) rows)) = sum_by-IsPermutation (λ o. as_count (q o)) (map keyed (filter (in_month month) rows)) it.ordered it.same in
    ap (count_by p) it.answer_is ∙ (count-map p (λ (o : Row × Row). o.1) it.ordered ∙ (moved ∙ (count-map q keyed (filter (in_month month) rows) ∙ count-filter (λ r. p (shown r)) (in_month month) rows)))

-- the bucket of a row that was read is empty
no_bucket : Row → Bool
no_bucket row = equal Binary (column row 0) (Text [])

at_is : (month : List ℕ) (r : Row) → is_at month [] r ≡ (in_month month r && (no_bucket (shown r) && true))
unfolding first_key no_bucket
at_is month r = refl

-- ---- a month that was read

module _ (month : List ℕ) (rows answer : List Row) (it : IsMonth month rows answer) where
  pub absent_read : answer ≡ [] → has_header month rows ≡ false
  absent_read is =
      let none : count_by (λ r. in_month month r && no_bucket (shown r)) rows ≡ 0 = sym (answer_count month rows answer no_bucket it) ∙ ap (count_by no_bucket) is in
      none_any (is_at month []) rows (count_same (is_at month []) (λ r. in_month month r && no_bucket (shown r)) (λ r. at_is month r ∙ tidy (in_month month r) (no_bucket (shown r))) rows ∙ none) where
        tidy : (a b : Bool) → (a && (b && true)) ≡ (a && b)
        tidy true true = refl
        tidy true false = refl
        tidy false b = refl

  module _ (bills : List Bill) (read : AreRead answer bills) where
    header_empty : no_bucket read.header ≡ true
    unfolding no_bucket
    header_empty = ap (λ v. equal Binary v (Text [])) read.headed ∙ equal-Text [] []

    row_named : (r : Row) → NamesBucket r → no_bucket r ≡ false
    unfolding no_bucket
    row_named r name = ap (λ v. equal Binary v (Text [])) name.0 ∙ (equal-Text (text_in (column r 0)) [] ∙ named (text_in (column r 0)) name.1)

    pub there_read : has_header month rows ≡ true
    there_read =
        let counted : count_by no_bucket answer ≡ as_count true + count_by no_bucket read.rest = ap (count_by no_bucket) read.are ∙ (count-cons no_bucket read.header read.rest ∙ ap (λ (b : Bool). as_count b + count_by no_bucket read.rest) header_empty) in
        let same = answer_count month rows answer no_bucket it in
        let alike = count_same (is_at month []) (λ r. in_month month r && no_bucket (shown r)) (λ r. at_is month r ∙ tidy (in_month month r) (no_bucket (shown r))) rows in
        some_any (is_at month []) rows (omega (arith, counted, same, alike)) where
          tidy : (a b : Bool) → (a && (b && true)) ≡ (a && b)
          tidy true true = refl
          tidy true false = refl
          tidy false b = refl

    -- the rows with a bucket are those after the header
    rest_count : (p : Bill → Bool) (rs : List Row) → AllByRecursion NamesBucket rs → count_by (λ r. not (no_bucket r) && p (answer_bill r)) rs ≡ count_by p (map answer_bill rs)
    rest_count p [] all = refl
    rest_count p (r ∷ rs) all =
        let e : (not (no_bucket r) && p (answer_bill r)) ≡ p (answer_bill r) = ap (λ (b : Bool). not b && p (answer_bill r)) (row_named r all.0) in
        count-cons (λ x. not (no_bucket x) && p (answer_bill x)) r rs ∙ ((λ i. as_count (e i) + rest_count p rs all.1 i) ∙ sym (count-cons p (answer_bill r) (map answer_bill rs)))

    bills_count : (p : Bill → Bool) → count_by p (map bill_in (filter (is_bill_of month) rows)) ≡ count_by p bills
    bills_count p =
        let test : Row → Bool = λ a. not (no_bucket a) && p (answer_bill a) in
        let own : count_by p (map bill_in (filter (is_bill_of month) rows)) ≡ count_by (λ r. is_bill_of month r && p (bill_in r)) rows =
        count-map p bill_in (filter (is_bill_of month) rows) ∙ count-filter (λ r. p (bill_in r)) (is_bill_of month) rows in
        let alike : count_by (λ r. is_bill_of month r && p (bill_in r)) rows ≡ count_by (λ r. in_month month r && test (shown r)) rows =
        count_same (λ r. is_bill_of month r && p (bill_in r)) (λ r. in_month month r && test (shown r)) (λ r. ap (λ (b : Bool). (in_month month r && not b) && p (bill_in r)) (at_is month r) ∙ tidy (in_month month r) (no_bucket (shown r)) (p (bill_in r))) rows in
        let read_count = answer_count month rows answer test it in
        let front : count_by test answer ≡ count_by test read.rest = ap (count_by test) read.are ∙ (count-cons test read.header read.rest ∙ (ap (λ (b : Bool). as_count (not b && p (answer_bill read.header)) + count_by test read.rest) header_empty ∙ zero-add (count_by test read.rest))) in
        let rest = rest_count p read.rest read.named in
        own ∙ (alike ∙ (sym read_count ∙ (front ∙ (rest ∙ ap (count_by p) (sym read.bills_are))))) where
          tidy : (a b c : Bool) → ((a && not (a && (b && true))) && c) ≡ (a && (not b && c))
          tidy true true c = refl
          tidy true false c = refl
          tidy false b c = refl

    pub bills_read : bills_in month rows ≡ bills
    bills_read = in_order_is (map bill_in (filter (is_bill_of month) rows)) bills (rise_all bills read.rise) bills_count
