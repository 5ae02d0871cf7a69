-- A month that has no row but the header that was put in.
use Rattle.std.proofs.Common.{◌≡◌, ℕ, pos, ◌+◌, ◌<◌, ◌^◌, List, [], ◌∷◌, length, map, refl, ap, sym, ◌∙◌, Bool, true, false, not, ◌&&◌, cond, arith}
use Rattle.std.specs.Prelude.{filter, count_by}
use Rattle.std.specs.List.{AllByRecursion}
use Rattle.sqlite_value.specs.Order.{Row}
use Rattle.sqlite.specs.Edit.{next_rowid}
use Rattle.bill_book.specs.declared.bill.Bill.{Bill}
use Rattle.bill_book.specs.Bills.{RiseByBucket}
use Rattle.bill_rows.specs.Rows.{stored, in_month, is_at, IsMonth}
use Rattle.bill_rows.specs.Books.{bill_in, bills_in, is_bill_of}
use Rattle.bill_rows.specs.Puts.{PutsRow, PutsMonth}
use Rattle.bill_rows.proofs.Counts.{as_count, count-cons, put_count}
use Rattle.bill_rows.proofs.Order.{in_order_is}
use Rattle.bill_rows.proofs.Texts.{in_month_stored}
use Rattle.bill_rows.proofs.Read.{answer_count, count_same}
use Rattle.bill_rows.proofs.Posted.{bytes_itself, counted, bills_counted, header_counted}

count_all : {X : Type 0} (xs : List X) → count_by (λ (_ : X). true) xs ≡ length xs
count_all [] = refl
count_all (x ∷ xs) = let e = count-cons (λ _. true) x xs in let rest = count_all xs in omega (arith, e, rest)

-- as many rows are read as the month has
pub read_count : (month : List ℕ) (rows answer : List Row) → IsMonth month rows answer → length answer ≡ count_by (in_month month) rows
read_count month rows answer it =
    sym (count_all answer) ∙ (answer_count month rows answer (λ _. true) it ∙ count_same (λ r. in_month month r && true) (in_month month) (λ r. plain (in_month month r)) rows) where
      plain : (b : Bool) → (b && true) ≡ b
      plain true = refl
      plain false = refl

none_filter_at : {X : Type 0} (p : X → Bool) (x : X) (xs : List X) (b : Bool) → p x ≡ b → as_count b + count_by p xs ≡ 0 → (count_by p xs ≡ 0 → filter p xs ≡ []) → filter p (x ∷ xs) ≡ []
none_filter_at p x xs true is none more = absurd (omega (arith, none))
none_filter_at p x xs false is none more = ap (λ (b : Bool). cond b (x ∷ filter p xs) (filter p xs)) is ∙ more (omega (arith, none))

none_filter : {X : Type 0} (p : X → Bool) (xs : List X) → count_by p xs ≡ 0 → filter p xs ≡ []
none_filter p [] none = refl
none_filter p (x ∷ xs) none = none_filter_at p x xs (p x) refl (sym (count-cons p x xs) ∙ none) (none_filter p xs)

-- a month that has one row when its header is put in had none before
pub had_none : (month total : List ℕ) (count : ℕ) (before between answer : List Row) → PutsRow month [] total (pos count) before between → IsMonth month between answer → length answer ≡ 1
    → filter (in_month month) before ≡ []
had_none month total count before between answer puts it single =
    let new = stored (next_rowid before) month [] total (pos count) in
    let its : as_count (in_month month new) ≡ 1 = ap as_count (in_month_stored month (next_rowid before) month [] total (pos count) ∙ bytes_itself month) in
    let all : count_by (in_month month) between ≡ as_count (in_month month new) + count_by (in_month month) before = ap (count_by (in_month month)) puts.put ∙ put_count new (in_month month) before puts.fresh in
    let read = read_count month between answer it in
    none_filter (in_month month) before (omega (arith, its, all, read, single))

-- a month without rows has no bills
none_at : (month : List ℕ) (r : Row) (rs : List Row) (b : Bool) → in_month month r ≡ b → cond b (r ∷ filter (in_month month) rs) (filter (in_month month) rs) ≡ [] → (filter (in_month month) rs ≡ [] → filter (is_bill_of month) rs ≡ [])
    → filter (is_bill_of month) (r ∷ rs) ≡ []
none_at month r rs true is none more = absurd (let e = none in cc)
none_at month r rs false is none more =
    let misses : is_bill_of month r ≡ false = ap (λ (b : Bool). b && not (is_at month [] r)) is in
    ap (λ (b : Bool). cond b (r ∷ filter (is_bill_of month) rs) (filter (is_bill_of month) rs)) misses ∙ more none

none_of : (month : List ℕ) (rows : List Row) → filter (in_month month) rows ≡ [] → filter (is_bill_of month) rows ≡ []
none_of month [] none = refl
none_of month (r ∷ rs) none = none_at month r rs (in_month month r) refl none (none_of month rs)

-- the bills of a month that had no rows are those that were put in
pub bills_alone : (month total : List ℕ) (count : ℕ) (bills : List Bill) (before after : List Row) → PutsMonth month total count bills true before after → filter (in_month month) before ≡ []
    → RiseByBucket bills → AllByRecursion (λ (b : Bill). b.total < 2 ^ 128) bills → bills_in month after ≡ bills
unfolding counted
bills_alone month total count bills before after puts none rise few = in_order_is (map bill_in (filter (is_bill_of month) after)) bills rise (λ p.
    let b = bills_counted month p bills puts.1.0 after few puts.1.2 in
    let h = header_counted month total count p before puts.1.0 puts.1.1 in
    let no : counted month p before ≡ 0 = ap (λ (rs : List Row). count_by p (map bill_in rs)) (none_of month before none) in
    omega (arith, b, h, no))
