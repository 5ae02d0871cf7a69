-- A month that is put into well made rows leaves them well made.
use Rattle.std.proofs.Common.{◌≡◌, inl, inr, ℕ, zero, suc, pos, ℤ, ◌<◌, ◌^◌, List, [], ◌∷◌, length, map, refl, ap, sym, ◌∙◌, subst, Bool, true, false, ◌&&◌, ◌||◌, arith}
use Rattle.std.specs.Prelude.{filter, IsTrue, decimal}
use Rattle.std.specs.Str.{bytes_eq}
use Rattle.std.specs.List.{AllByRecursion}
use Rattle.std.proofs.lemmas.Bool.{cases_eq}
use Rattle.office_base.specs.Names.{IsBucketName, is_bucket_name}
use Rattle.moments.specs.Months.{months}
use Rattle.sqlite_value.specs.Order.{Row, column}
use Rattle.sqlite.specs.Edit.{next_rowid}
use Rattle.bill_book.specs.declared.bill.Bill.{Bill}
use Rattle.bill_book.specs.Bills.{RiseByBucket, total_of}
use Rattle.bill_rows.specs.Months.{month_text}
use Rattle.bill_rows.specs.Rows.{stored, is_at}
use Rattle.bill_rows.specs.Books.{text_in, bill_in, bills_in, in_order, has_header, is_bill_of}
use Rattle.bill_rows.specs.Puts.{PutsRow, PutsBills, PutsMonth}
use Rattle.bill_rows.specs.WellMade.{is_month_below, IsBillRow, Agrees, IsWellMade}
use Rattle.bill_rows.proofs.Counts.{put_all}
use Rattle.bill_rows.proofs.Texts.{is_at_stored}
use Rattle.bill_rows.proofs.Posted.{bytes_itself, row_filter, bills_filter, ignores_bills, named, digits_back, apart, bills_there, still_headed}

-- ---- the form of the rows that are put in

month_below : (n k : ℕ) → k < n → is_month_below n (month_text k) ≡ true
unfolding is_month_below
month_below zero k small = absurd (omega (arith, small))
month_below (suc n) k small = elim (cases_eq k n) [
  | inl same ↦
      let here : bytes_eq (month_text k) (month_text n) ≡ true = ap (λ (m : ℕ). bytes_eq (month_text k) (month_text m)) (sym same) ∙ bytes_itself (month_text k) in
      ap (λ (b : Bool). b || is_month_below n (month_text k)) here
  | inr other ↦
      let more : k < n = below k n small other in
      ap (λ (b : Bool). bytes_eq (month_text k) (month_text n) || b) (month_below n k more) ∙ either (bytes_eq (month_text k) (month_text n))
] where
  either : (b : Bool) → (b || true) ≡ true
  either true = refl
  either false = refl

  below : (a b : ℕ) → a < suc b → (a ≡ b → ⊥) → a < b
  below a b small differ = grind arith

row_made : (id : ℤ) (k n l : ℕ) (bucket : List ℕ) → k < months → n < 2 ^ 128 → IsTrue (bytes_eq bucket [] || is_bucket_name bucket)
    → IsBillRow (stored id (month_text k) bucket (decimal n) (pos l))
row_made id k n l bucket month small name =
    let back = digits_back n small in record {
      form = ap (λ (text : List ℕ). stored id (month_text k) bucket text (pos l)) (ap decimal (sym back));
      month = month_below months k month;
      bucket = name;
      small = subst (λ (m : ℕ). m < 2 ^ 128) (sym back) small;
    }

module _ (k : ℕ) (month : k < months) (P : Row → Type 0) where
  row_all : (bucket total : List ℕ) (l : ℕ) (old new : List Row) → PutsRow (month_text k) bucket total (pos l) old new
      → P (stored (next_rowid old) (month_text k) bucket total (pos l)) → AllByRecursion P old → AllByRecursion P new
  row_all bucket total l old new put here all =
      subst (AllByRecursion P) (sym put.put) (put_all (stored (next_rowid old) (month_text k) bucket total (pos l)) P old here all)

  bills_all : ((id : ℤ) (b : Bill) → IsBucketName b.bucket → b.total < 2 ^ 128 → P (stored id (month_text k) b.bucket (decimal b.total) (pos b.lines)))
      → (bs : List Bill) (old new : List Row) → PutsBills (month_text k) bs old new → AllByRecursion (λ (b : Bill). b.total < 2 ^ 128) bs
      → AllByRecursion P old → AllByRecursion P new
  bills_all f [] old new put small all = subst (AllByRecursion P) (sym put) all
  bills_all f (b ∷ bs) old new put small all =
      bills_all f bs put.0 new put.2 small.1
      (row_all b.bucket (decimal b.total) b.lines old put.0 put.1.1 (f (next_rowid old) b put.1.0 small.0) all)

-- ---- a month

module _ (k : ℕ) (month : k < months) (bills : List Bill) (before after : List Row) (made : IsWellMade before)
    (puts : PutsMonth (month_text k) (decimal (total_of bills)) (length bills) bills true before after)
    (rise : RiseByBucket bills) (each : AllByRecursion (λ (b : Bill). b.total < 2 ^ 128) bills) (sum : total_of bills < 2 ^ 128) where
  abbrev text : List ℕ
  text = month_text k

  forms : AllByRecursion IsBillRow after
  forms =
      bills_all k month IsBillRow
      (λ id b name small. row_made id k b.total b.lines b.bucket month small (either (bytes_eq b.bucket []) (is_bucket_name b.bucket) name))
      bills puts.1.0 after puts.1.2 each
      (row_all k month IsBillRow [] (decimal (total_of bills)) (length bills) before puts.1.0 puts.1.1
      (row_made (next_rowid before) k (total_of bills) (length bills) [] month sum refl) made.forms) where
        either : (a b : Bool) → IsTrue b → IsTrue (a || b)
        either true b is = refl
        either false b is = is

  are_bills : bills_in text after ≡ bills
  are_bills = bills_there k month (decimal (total_of bills)) (length bills) bills before after made.headed puts rise each

  -- a header that was there agrees with the rows of its month, which are the same
  old_agrees : (r : Row) → has_header (text_in (column r 1)) before ≡ true → Agrees before r → Agrees after r
  old_agrees r headed agrees = λ is.
      let its = text_in (column r 1) in
      let differ : bytes_eq text its ≡ false = apart text its (λ same. let e : has_header its before ≡ false = ap (λ (t : List ℕ). has_header t before) (sym same) ∙ puts.0 in cc) in
      let ignores = ignores_bills text its differ in
      let rows : filter (is_bill_of its) after ≡ filter (is_bill_of its) before =
      bills_filter text (is_bill_of its) ignores bills puts.1.0 after puts.1.2
      ∙ row_filter text (is_bill_of its) ignores [] (decimal (total_of bills)) (pos (length bills)) before puts.1.0 puts.1.1 in
      let same : bills_in its after ≡ bills_in its before = ap (λ (rs : List Row). in_order (map bill_in rs)) rows in
      let had = agrees is in
      (had.0 ∙ ap total_of (sym same), had.1 ∙ ap (λ (l : List Bill). length l) (sym same))

  old_agree : (rows : List Row) → AllByRecursion (λ (r : Row). has_header (text_in (column r 1)) before ≡ true) rows → AllByRecursion (Agrees before) rows
      → AllByRecursion (Agrees after) rows
  old_agree [] headed agree = tt
  old_agree (r ∷ rs) headed agree = (old_agrees r headed.0 agree.0, old_agree rs headed.1 agree.1)

  -- the new header agrees
  header_agrees : (id : ℤ) → Agrees after (stored id text [] (decimal (total_of bills)) (pos (length bills)))
  header_agrees id = λ _. (digits_back (total_of bills) sum ∙ ap total_of (sym are_bills), ap (λ (l : List Bill). length l) (sym are_bills))

  -- the row of a bucket is no header
  bill_agrees : (id : ℤ) (b : Bill) → IsBucketName b.bucket → b.total < 2 ^ 128 → Agrees after (stored id text b.bucket (decimal b.total) (pos b.lines))
  bill_agrees id b name small = λ is.
      let no : is_at text [] (stored id text b.bucket (decimal b.total) (pos b.lines)) ≡ false =
      is_at_stored text id text b.bucket (decimal b.total) (pos b.lines)
      ∙ (λ i. bytes_itself text i && (named b.bucket name i && true)) in
      absurd cc

  pub well_made : IsWellMade after
  well_made = record {
    forms = forms;
    headed = still_headed k month (decimal (total_of bills)) (length bills) bills before after made.headed puts;
    agree =
        bills_all k month (Agrees after) bill_agrees bills puts.1.0 after puts.1.2 each
        (row_all k month (Agrees after) [] (decimal (total_of bills)) (length bills) before puts.1.0 puts.1.1
        (header_agrees (next_rowid before)) (old_agree before made.headed made.agree));
  }
