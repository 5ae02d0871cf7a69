-- The book that a keeper shows, before and after a call.
use Rattle.std.proofs.Common.{◌≡◌, ◌⊎◌, inl, inr, ℕ, ◌+◌, ◌<◌, ◌≤◌, ◌^◌, List, [], ◌∷◌, length, refl, ap, sym, ◌∙◌, subst, Bool, true, false, ◌&&◌, cond, Option, Some, None, Result, Ok, Err, IfOk, IsTrue, arith}
use Rattle.std.specs.Prelude.{option_map, if◌then◌else◌, IsSome, decimal}
use Rattle.std.specs.Global.{Vec}
use Rattle.std.specs.List.{AllByRecursion}
use Rattle.std.proofs.lemmas.List.Sums.{sum_by-cons}
use Rattle.moments.specs.Months.{months}
use Rattle.sqlite.specs.Order.{Row}
use Rattle.sqlite.specs.View.{doubt}
use Rattle.sqlite.specs.declared.error.Error.{Error}
use Rattle.sqlite.specs.State.{State, HasCleanDisk}
use Rattle.bill_book.specs.declared.bill.Bill.{Bill}
use Rattle.bill_book.specs.Bills.{RiseByBucket, total_of}
use Rattle.bill_book.specs.Books.{Book, IsSameBook, AddsMonth, Told, Posts}
use Rattle.bill_book.specs.declared.keeper.KeeperFault.{KeeperFault}
use Rattle.bill_book.specs.declared.keeper.KeeperFault.TheVariants.{Failed, NoMemory}
use Rattle.bill_rows.specs.Months.{month_text}
use Rattle.bill_rows.specs.Rows.{IsMonth}
use Rattle.bill_rows.specs.Books.{book_of, has_header}
use Rattle.bill_rows.specs.WellMade.{IsWellMade}
use Rattle.bill_rows.specs.Answers.{AreRead}
use Rattle.bill_rows.proofs.Posted.{book_with, book_without, month_added}
use Rattle.bill_rows.proofs.Made.{well_made}
use Rattle.bill_rows.proofs.Read.{there_read, bills_read, absent_read}
use Rattle.bill_keeper.specs.Steps.{IsOurs, LeavesRows, PostsRows, ReadsRows}
use Rattle.bill_keeper.specs.Reading.{ReadsBills}
use Rattle.bill_keeper.specs.Ready.{HasTable, told_book, Leaves}

-- what is told in the end was told before
told_by : (oc oo nc no_ : Bool) (a b : List Row) (P : Book → Book → Type 0) → (IsTrue nc → IsTrue no_ → IsTrue oc × IsTrue oo × P (book_of a) (book_of b))
    → Told (option_map book_of (if oc && oo then Some a else None)) (option_map book_of (if nc && no_ then Some b else None)) P
told_by true true true true a b P h = (h refl refl).2
told_by true false true true a b P h = absurd (let e = (h refl refl).1 in cc)
told_by false oo true true a b P h = absurd (let e = (h refl refl).0 in cc)
told_by true true true false a b P h = tt
told_by true true false no_ a b P h = tt
told_by true false true false a b P h = tt
told_by true false false no_ a b P h = tt
told_by false oo true false a b P h = tt
told_by false oo false no_ a b P h = tt

pub told : (old new : State) (P : Book → Book → Type 0) → (IsTrue new.is_clean → IsTrue new.is_open → IsTrue old.is_clean × IsTrue old.is_open × P (book_of (old.now.trees 0)) (book_of (new.now.trees 0)))
    → Told (told_book old) (told_book new) P
told old new P h = told_by old.is_clean old.is_open new.is_clean new.is_open (old.now.trees 0) (new.now.trees 0) P h

pub clean_disk : (s : State) → IsTrue s.is_clean → HasCleanDisk s
unfolding doubt
clean_disk s h = rw h refl

clean_of : (b : Bool) → doubt b ≡ 0 → IsTrue b
unfolding doubt
clean_of true h = refl
clean_of false h = absurd (omega (arith, h))

pub was_clean : (old new : State) → doubt old.is_clean ≤ doubt new.is_clean → IsTrue new.is_clean → IsTrue old.is_clean
was_clean old new less h = let n = clean_disk new h in clean_of old.is_clean (omega (arith, less, n))

-- ---- posting

pub each_small : (bills : List Bill) → total_of bills < 2 ^ 128 → AllByRecursion (λ (b : Bill). b.total < 2 ^ 128) bills
each_small [] small = tt
each_small (b ∷ bs) small =
    let e = sum_by-cons (λ (b : Bill). b.total) b bs in
    (omega (arith, e, small), each_small bs (omega (arith, e, small)))

leaves : (k : ℕ) (bills : List Bill) (before after : List Row) (r : Result Bool Error) → k < months → RiseByBucket bills → total_of bills < 2 ^ 128
    → IsWellMade before → LeavesRows (month_text k) (decimal (total_of bills)) (length bills) bills before after r → Leaves k bills (book_of before) (book_of after) r × IsWellMade after
leaves k bills before after (Ok true) small rise sum made h =
    let each = each_small bills sum in
    (month_added k small (decimal (total_of bills)) (length bills) bills before after made.headed h.0 rise each, well_made k small bills before after made h.0 rise each sum)
leaves k bills before after (Ok false) small rise sum made h =
    let there : IsSome (book_of before k) = rw (book_with k before small h.0.0) refl in
    ((there, λ q. ap (λ (rows : List Row). book_of rows q) h.0.1), subst IsWellMade (sym h.0.1) made)
leaves k bills before after (Err e) small rise sum made h = ((λ q. ap (λ (rows : List Row). book_of rows q) h), subst IsWellMade (sym h) made)

module _ (old new : State) (k : ℕ) (text : List ℕ) (is : text ≡ month_text k) (total : List ℕ) (count : ℕ) (bills : List Bill)
    (is_total : total ≡ decimal (total_of bills)) (is_count : count ≡ length bills) (r : Result Bool Error) (less : doubt old.is_clean ≤ doubt new.is_clean)
    (posts : HasCleanDisk new → PostsRows text total count bills old new r) (table : HasTable old) (small : k < months) (rise : RiseByBucket bills) (sum : total_of bills < 2 ^ 128) where
  posted : HasCleanDisk new → PostsRows (month_text k) (decimal (total_of bills)) (length bills) bills old new r
  posted clean =
      subst (λ (n : ℕ). PostsRows (month_text k) (decimal (total_of bills)) n bills old new r) is_count
      (subst (λ (t : List ℕ). PostsRows (month_text k) t count bills old new r) is_total
      (subst (λ (t : List ℕ). PostsRows t total count bills old new r) is (posts clean)))

  all_of : IsTrue new.is_clean → IsTrue new.is_open → IsTrue old.is_clean × IsTrue old.is_open × (Leaves k bills (book_of (old.now.trees 0)) (book_of (new.now.trees 0)) r × IsWellMade (new.now.trees 0))
  all_of clean open_now =
      let p = posted (clean_disk new clean) in
      let was = p.was_open open_now in
      let cleared = was_clean old new less clean in
      let has = table cleared was in
      (cleared, was, leaves k bills (old.now.trees 0) (new.now.trees 0) r small rise sum has.1 (p.rows has.0 open_now))

  pub posting_told : Told (told_book old) (told_book new) (λ a b. Leaves k bills a b r)
  posting_told = told old new (λ a b. Leaves k bills a b r) (λ clean open_now. let all = all_of clean open_now in (all.0, all.1, all.2.0))

  pub posting_table : HasTable new
  posting_table = λ clean open_now.
      let p = posted (clean_disk new clean) in
      let all = all_of clean open_now in
      let has = table all.0 all.1 in
      (p.schema has.0 open_now, all.2.1)

-- ---- reading

module _ (old new : State) (text : List ℕ) (r : Result (Vec Row) Error) (less : doubt old.is_clean ≤ doubt new.is_clean)
    (reads : HasCleanDisk new → ReadsRows text old new r) (table : HasTable old) where
  pub reading_table : HasTable new
  reading_table = λ clean open_now.
      let p = reads (clean_disk new clean) in
      let has = table (was_clean old new less clean) (p.was_open open_now) in
      (p.schema has.0 open_now, subst IsWellMade (sym (p.same has.0 open_now)) has.1)

  pub reading_same : Told (told_book old) (told_book new) (λ a b. IsSameBook a b)
  reading_same = told old new (λ a b. IsSameBook a b) (λ clean open_now.
      let p = reads (clean_disk new clean) in
      let was = p.was_open open_now in
      let cleared = was_clean old new less clean in
      let has = table cleared was in
      (cleared, was, λ q. ap (λ (rows : List Row). book_of rows q) (p.same has.0 open_now)))

shows : (k : ℕ) (rows answer : List Row) (bills : Option (Vec Bill)) → k < months → IsMonth (month_text k) rows answer → ReadsBills answer bills → option_map (λ (v : Vec Bill). v.items) bills ≡ book_of rows k
shows k rows answer None small month is = sym (book_without k rows small (absent_read (month_text k) rows answer month is))
shows k rows answer (Some v) small month read =
    sym (book_with k rows small (there_read (month_text k) rows answer month v.items read.0) ∙ ap (λ (l : List Bill). Some l) (bills_read (month_text k) rows answer month v.items read.0))

pub reading_told : (old new : State) (k : ℕ) (text : List ℕ) → text ≡ month_text k → (v : Vec Row) (bills : Option (Vec Bill)) → doubt old.is_clean ≤ doubt new.is_clean
    → (HasCleanDisk new → ReadsRows text old new (Ok v)) → HasTable old → k < months → ReadsBills v.items bills → Told (told_book old) (told_book new) (λ a b. (option_map (λ (v : Vec Bill). v.items) bills ≡ a k) × IsSameBook a b)
reading_told old new k text is v bills less reads table small read = told old new (λ a b. (option_map (λ (v : Vec Bill). v.items) bills ≡ a k) × IsSameBook a b) (λ clean open_now.
    let p = subst (λ (t : List ℕ). ReadsRows t old new (Ok v)) is (reads (clean_disk new clean)) in
    let was = p.was_open open_now in
    let cleared = was_clean old new less clean in
    let has = table cleared was in
    (cleared, was, (shows k (old.now.trees 0) v.items bills small (p.rows has.0) read, λ q. ap (λ (rows : List Row). book_of rows q) (p.same has.0 open_now))))

-- ---- what is told goes on

pub told_weaker : (old new : Option Book) (P Q : Book → Book → Type 0) → ((a b : Book) → P a b → Q a b) → Told old new P → Told old new Q
told_weaker (Some a) (Some b) P Q weaker h = weaker a b h
told_weaker None (Some b) P Q weaker h = absurd h
told_weaker None None P Q weaker h = tt
told_weaker (Some a) None P Q weaker h = tt

pub told_itself : (o : Option Book) (P : Book → Book → Type 0) → ((a : Book) → P a a) → Told o o P
told_itself (Some a) P same = same a
told_itself None P same = tt

pub posts_refused : (month : ℕ) (bills : List Bill) (a b : Book) (fault : KeeperFault) → IsSameBook a b → Posts month bills a b (Err fault)
posts_refused month bills a b Failed same = inl same
posts_refused month bills a b NoMemory same = same

pub reading_all : (old new : State) (k : ℕ) (text : List ℕ) → text ≡ month_text k → (r : Result (Vec Row) Error) → doubt old.is_clean ≤ doubt new.is_clean → (HasCleanDisk new → ReadsRows text old new r) → k < months
    → IfOk r (λ v. HasTable old → (bills : Option (Vec Bill)) → ReadsBills v.items bills → Told (told_book old) (told_book new) (λ a b. (option_map (λ (v : Vec Bill). v.items) bills ≡ a k) × IsSameBook a b))
reading_all old new k text is (Err e) less reads small = tt
reading_all old new k text is (Ok v) less reads small = λ table bills read. reading_told old new k text is v bills less reads table small read
