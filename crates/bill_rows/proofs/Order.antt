-- Bills in byte order, and lists that hold the same.
use Rattle.std.proofs.Common.{◌≡◌, ◌⊎◌, inl, inr, ℕ, ◌+◌, ◌<◌, List, [], ◌∷◌, refl, ap, sym, ◌∙◌, subst, Bool, true, false, ◌&&◌, cond, Ordering, arith, eqb}
use Rattle.std.specs.Prelude.{count_by, IsTrue}
use Rattle.std.specs.Str.{bytes_eq}
use Rattle.std.specs.declared.cmp.Ordering.TheVariants.{Less, Equal, Greater}
use Rattle.std.specs.Ordering.{is_eq, is_lt, ordering_reverse}
use Rattle.std.specs.List.{AllByRecursion}
use Rattle.std.proofs.lemmas.Bool.{cases_Bool, and_parts, eqb-true, eq-eqb}
use Rattle.std.proofs.lemmas.Cmp.{tied_itself, nat_list_cmp_total}
use Rattle.std.proofs.lemmas.Slice.Eq.{bytes_eq-Decides}
use Rattle.std.proofs.lemmas.Map.Text.{is_eq-slice_cmp}
use Rattle.office_base.specs.Maps.{bytes_cmp}
use Rattle.bill_book.specs.declared.bill.Bill.{Bill}
use Rattle.bill_book.specs.Bills.{RiseByBucket}
use Rattle.bill_rows.specs.Books.{with_bill, in_order}
use Rattle.bill_rows.proofs.Counts.{as_count, count-cons}

-- ---- bills as they stand in order

abbrev IsNotAfter : Bill → Bill → Type 0
IsNotAfter a b = is_lt (bytes_cmp b.bucket a.bucket) ≡ false

-- no bill is before one that stands before it
abbrev Sorted : List Bill → Type 0
Sorted [] = Unit {0}
Sorted (b ∷ bs) = AllByRecursion (IsNotAfter b) bs × Sorted bs

lt_then : (a b c : List ℕ) → is_lt (bytes_cmp a b) ≡ true → is_lt (bytes_cmp c b) ≡ false → is_lt (bytes_cmp c a) ≡ false
lt_then a b c ab cb = go (bytes_cmp c a) refl where
  less : (o : Ordering) → is_lt o ≡ true → o ≡ Less
  less Less h = refl
  less Equal h = absurd cc
  less Greater h = absurd cc

  go : (o : Ordering) → bytes_cmp c a ≡ o → is_lt o ≡ false
  go Less is = absurd (let through = nat_list_cmp_total.trans c a b is (less (bytes_cmp a b) ab) in let misses : is_lt (bytes_cmp c b) ≡ true = ap is_lt through in cc)
  go Equal is = refl
  go Greater is = refl

not_after_later : (bill other : Bill) (bs : List Bill) → is_lt (bytes_cmp other.bucket bill.bucket) ≡ false → AllByRecursion (IsNotAfter other) bs → AllByRecursion (IsNotAfter bill) bs
not_after_later bill other [] h all = tt
not_after_later bill other (b ∷ bs) h all = (chained b all.0, not_after_later bill other bs h all.1) where
  -- bill <= other and other <= b, so bill <= b
  chained : (b : Bill) → IsNotAfter other b → IsNotAfter bill b
  chained b k = elim (cases_Bool (is_lt (bytes_cmp b.bucket bill.bucket))) [
    | inl is ↦ absurd (let e = lt_then b.bucket bill.bucket other.bucket is h in cc_free e k is)
    | inr misses ↦ misses
  ] where
    cc_free : is_lt (bytes_cmp other.bucket b.bucket) ≡ false → is_lt (bytes_cmp b.bucket other.bucket) ≡ false → is_lt (bytes_cmp b.bucket bill.bucket) ≡ true → ⊥
    cc_free p q r = tied (bytes_cmp b.bucket other.bucket) refl where
      tied : (o : Ordering) → bytes_cmp b.bucket other.bucket ≡ o → ⊥
      tied Less is = let e = ap is_lt is in cc
      tied Greater is = let e = ap is_lt (nat_list_cmp_total.antisymm other.bucket b.bucket ∙ ap ordering_reverse is) in cc
      tied Equal is =
          let same : b.bucket ≡ other.bucket = (bytes_eq-Decides b.bucket other.bucket).0 (sym (is_eq-slice_cmp b.bucket other.bucket) ∙ ap is_eq is) in
          let e : is_lt (bytes_cmp other.bucket bill.bucket) ≡ true = ap (λ (n : List ℕ). is_lt (bytes_cmp n bill.bucket)) (sym same) ∙ r in cc

with_all_at : (P : Bill → Type 0) (bill other : Bill) (others : List Bill) (b : Bool) → P bill → P other → AllByRecursion P others → AllByRecursion P (with_bill bill others)
    → AllByRecursion P (cond b (other ∷ with_bill bill others) (bill ∷ other ∷ others))
with_all_at P bill other others true here first all more = (first, more)
with_all_at P bill other others false here first all more = (here, (first, all))

with_all : (P : Bill → Type 0) (bill : Bill) (bills : List Bill) → P bill → AllByRecursion P bills → AllByRecursion P (with_bill bill bills)
with_all P bill [] here all = (here, tt)
with_all P bill (o ∷ os) here all = with_all_at P bill o os (is_lt (bytes_cmp o.bucket bill.bucket)) here all.0 all.1 (with_all P bill os here all.1)

lt_not_back : (a b : List ℕ) → is_lt (bytes_cmp a b) ≡ true → is_lt (bytes_cmp b a) ≡ false
lt_not_back a b h = go (bytes_cmp a b) refl h where
  go : (o : Ordering) → bytes_cmp a b ≡ o → is_lt o ≡ true → is_lt (bytes_cmp b a) ≡ false
  go Less is h = ap is_lt (nat_list_cmp_total.antisymm b a ∙ ap ordering_reverse is)
  go Equal is h = absurd cc
  go Greater is h = absurd cc

sorted_at : (bill other : Bill) (others : List Bill) (b : Bool) → is_lt (bytes_cmp other.bucket bill.bucket) ≡ b → Sorted (other ∷ others) → Sorted (with_bill bill others)
    → Sorted (cond b (other ∷ with_bill bill others) (bill ∷ other ∷ others))
sorted_at bill other others true is sorted more = (with_all (IsNotAfter other) bill others (lt_not_back other.bucket bill.bucket is) sorted.0, more)
sorted_at bill other others false is sorted more = ((is, not_after_later bill other others is sorted.0), sorted)

with_sorted : (bill : Bill) (bills : List Bill) → Sorted bills → Sorted (with_bill bill bills)
with_sorted bill [] sorted = (tt, tt)
with_sorted bill (o ∷ os) sorted = sorted_at bill o os (is_lt (bytes_cmp o.bucket bill.bucket)) refl sorted (with_sorted bill os sorted.1)

pub order_sorted : (bills : List Bill) → Sorted (in_order bills)
order_sorted [] = tt
order_sorted (b ∷ bs) = with_sorted b (in_order bs) (order_sorted bs)

-- ---- the order keeps what is there

with_count_at : (p : Bill → Bool) (bill other : Bill) (others : List Bill) (b : Bool) → count_by p (with_bill bill others) ≡ as_count (p bill) + count_by p others
    → count_by p (cond b (other ∷ with_bill bill others) (bill ∷ other ∷ others)) ≡ as_count (p bill) + count_by p (other ∷ others)
with_count_at p bill other others true h = count-cons p other (with_bill bill others) ∙ omega (arith, h, count-cons p other others)
with_count_at p bill other others false h = count-cons p bill (other ∷ others)

with_count : (p : Bill → Bool) (bill : Bill) (bills : List Bill) → count_by p (with_bill bill bills) ≡ as_count (p bill) + count_by p bills
with_count p bill [] = count-cons p bill []
with_count p bill (o ∷ os) = with_count_at p bill o os (is_lt (bytes_cmp o.bucket bill.bucket)) (with_count p bill os)

pub order_count : (p : Bill → Bool) (bills : List Bill) → count_by p (in_order bills) ≡ count_by p bills
order_count p [] = refl
order_count p (b ∷ bs) = with_count p b (in_order bs) ∙ (ap (λ n. as_count (p b) + n) (order_count p bs) ∙ sym (count-cons p b bs))

-- ---- one list

is_same : Bill → Bill → Bool
is_same a b = bytes_eq a.bucket b.bucket && eqb a.total b.total && eqb a.lines b.lines

same_itself : (b : Bill) → is_same b b ≡ true
unfolding is_same
same_itself b =
    let name : bytes_eq b.bucket b.bucket ≡ true = (bytes_eq-Decides b.bucket b.bucket).1 refl in
    rw (name, itself b.total, itself b.lines) refl where
      itself : (n : ℕ) → eqb n n ≡ true
      itself n = eq-eqb n n refl

same_bill : (a b : Bill) → is_same a b ≡ true → a ≡ b
unfolding is_same
same_bill a b h =
    let outer = and_parts (bytes_eq a.bucket b.bucket && eqb a.total b.total) (eqb a.lines b.lines) h in
    let inner = and_parts (bytes_eq a.bucket b.bucket) (eqb a.total b.total) outer.0 in
    let bucket = (bytes_eq-Decides a.bucket b.bucket).0 inner.0 in
    let total = eqb-true a.total b.total inner.1 in
    let lines = eqb-true a.lines b.lines outer.1 in
    λ i. record { bucket = bucket i; total = total i; lines = lines i }

-- a bill that is counted is there
there_at : (P : Bill → Type 0) (p : Bill → Bool) (b : Bill) (bs : List Bill) (t : Bool) → p b ≡ t → 0 < as_count t + count_by p bs → P b → AllByRecursion P bs
    → (0 < count_by p bs → AllByRecursion P bs → (x : Bill) × (p x ≡ true) × P x) → (x : Bill) × (p x ≡ true) × P x
there_at P p b bs true is some here all more = (b, is, here)
there_at P p b bs false is some here all more = more (omega (arith, some)) all

there : (P : Bill → Type 0) (p : Bill → Bool) (bs : List Bill) → 0 < count_by p bs → AllByRecursion P bs → (x : Bill) × (p x ≡ true) × P x
there P p [] some all = absurd (omega arith)
there P p (b ∷ bs) some all = there_at P p b bs (p b) refl (omega (arith, some, count-cons p b bs)) all.0 all.1 (there P p bs)

-- in a rising list each later bill is above the first
abbrev IsAbove : Bill → Bill → Type 0
IsAbove b other = IsTrue (is_lt (bytes_cmp b.bucket other.bucket))

module _ (x : Bill) (xs : List Bill) (y : Bill) (ys : List Bill) where
  -- lists that begin with x and y hold the same
  abbrev Alike : Type 0
  Alike = (p : Bill → Bool) → count_by p (x ∷ xs) ≡ count_by p (y ∷ ys)

  same_first : AllByRecursion (IsNotAfter x) xs → AllByRecursion (IsAbove y) ys → Alike → x ≡ y
  same_first low above alike =
      let x_there : 0 < count_by (is_same x) (y ∷ ys) = some_of (alike (is_same x)) in
      let found = there (λ b. (b ≡ y) ⊎ IsAbove y b) (is_same x) (y ∷ ys) x_there (inl refl, weaker ys above) in
      let is_x : x ≡ found.0 = same_bill x found.0 found.1 in
      at_found found.0 is_x found.2 where
        some_of : count_by (is_same x) (x ∷ xs) ≡ count_by (is_same x) (y ∷ ys) → 0 < count_by (is_same x) (y ∷ ys)
        some_of e = let first : as_count (is_same x x) ≡ 1 = ap as_count (same_itself x) in omega (arith, e, count-cons (is_same x) x xs, first)

        weaker : (l : List Bill) → AllByRecursion (IsAbove y) l → AllByRecursion (λ b. (b ≡ y) ⊎ IsAbove y b) l
        weaker [] all = tt
        weaker (b ∷ bs) all = (inr all.0, weaker bs all.1)

        -- y is among the others too, and none of them is before x
        y_there : 0 < count_by (is_same y) (x ∷ xs)
        y_there = let e = alike (is_same y) in let first : as_count (is_same y y) ≡ 1 = ap as_count (same_itself y) in omega (arith, e, count-cons (is_same y) y ys, first)

        not_before : is_lt (bytes_cmp y.bucket x.bucket) ≡ false
        not_before =
            let itself : IsNotAfter x x = ap is_lt (tied_itself nat_list_cmp_total x.bucket) in
            let found = there (IsNotAfter x) (is_same y) (x ∷ xs) y_there (itself, low) in
            let is_y : y ≡ found.0 = same_bill y found.0 found.1 in
            subst (λ (b : Bill). is_lt (bytes_cmp b.bucket x.bucket) ≡ false) (sym is_y) found.2

        at_found : (f : Bill) → x ≡ f → (f ≡ y) ⊎ IsAbove y f → x ≡ y
        at_found f is (inl same) = is ∙ same
        at_found f is (inr above_y) = absurd (let e : is_lt (bytes_cmp y.bucket x.bucket) ≡ true = subst (λ (b : Bill). is_lt (bytes_cmp y.bucket b.bucket) ≡ true) (sym is) above_y in let n = not_before in cc)

-- a sorted list that holds what a rising list holds is that list
pub one_order : (xs ys : List Bill) → Sorted xs → RiseByBucket ys → ((p : Bill → Bool) → count_by p xs ≡ count_by p ys) → xs ≡ ys
one_order [] [] sorted rise alike = refl
one_order [] (y ∷ ys) sorted rise alike = absurd (let e = alike (λ _. true) in omega (arith, e, count-cons (λ (_ : Bill). true) y ys))
one_order (x ∷ xs) [] sorted rise alike = absurd (let e = alike (λ _. true) in omega (arith, e, count-cons (λ (_ : Bill). true) x xs))
one_order (x ∷ xs) (y ∷ ys) sorted rise alike =
    let first = same_first x xs y ys sorted.0 rise.0 alike in
    let rest = one_order xs ys sorted.1 rise.1 (λ p. let e = alike p in let f : as_count (p x) ≡ as_count (p y) = ap (λ (b : Bill). as_count (p b)) first in omega (arith, e, f, count-cons p x xs, count-cons p y ys)) in
    λ i. first i ∷ rest i

-- bills that hold what a rising list holds are in order that list
pub in_order_is : (xs ys : List Bill) → RiseByBucket ys → ((p : Bill → Bool) → count_by p xs ≡ count_by p ys) → in_order xs ≡ ys
in_order_is xs ys rise alike = one_order (in_order xs) ys (order_sorted xs) rise (λ p. order_count p xs ∙ alike p)
