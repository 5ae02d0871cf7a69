-- The running counts and the plain office's.
use Rattle.std.proofs.Common.{◌≡◌, ℕ, ◌+◌, ◌*◌, ◌≤◌, List, [], ◌∷◌, length, refl, ap, ap₂, sym, ◌∙◌, arith}
use Rattle.std.specs.Prelude.{Some, sum_by}
use Rattle.std.proofs.lemmas.List.Sums.{sum_by-cons, sum_by-append}
use Rattle.office_base.specs.Maps.{at_name}
use Rattle.tariff.specs.Prices.{Prices}
use Rattle.plain_office.specs.Office.{Office, Account}
use Rattle.plain_office.specs.Counts.{limit_of, count_of, first_full, version_count}
use Rattle.plain_office.specs.Orderly.{IsOrderlyRecords, current_objects}
use Rattle.office_types.specs.declared.refusal.What.{What}
use Rattle.office_types.specs.declared.refusal.What.TheVariants.{Buckets, Versions, Uploads, Parts, Names, Rules, Tariffs}
use Rattle.office_laws.proofs.Lists.{Held, Added, Replaced, added_sum, replaced_sum, sum_most}
use Rattle.office_laws.proofs.Maps.{by_name, found}
use Rattle.bucket_account.specs.declared.counts.Counts.{Counts}
use Rattle.bucket_account.specs.Counting.{amount, in_bucket, AreCountsOver, HaveMoved, first_over}

abbrev pub Entry : Type 0
Entry = List ℕ × Account

-- the counts are those of the plain office
abbrev pub AreCountsOf : Office → Counts → Type 0
AreCountsOf office counts = (what : What) → amount what counts ≡ count_of what office

abbrev pub in_entry : What → Entry → ℕ
in_entry what entry = in_bucket what entry.1.bucket

one_each : (accounts : List Entry) → length accounts ≡ sum_by (in_entry Buckets) accounts
one_each [] = refl
one_each (entry ∷ accounts) =
    let rest = one_each accounts in
    let cons = sum_by-cons (in_entry Buckets) entry accounts in
    omega (arith, rest, cons)

none_each : (accounts : List Entry) → sum_by (in_entry Tariffs) accounts ≡ 0
none_each [] = refl
none_each (entry ∷ accounts) =
    let rest = none_each accounts in
    let cons = sum_by-cons (in_entry Tariffs) entry accounts in
    omega (arith, rest, cons)

-- what is counted beside the buckets
abbrev pub beside : What → List Prices → ℕ
beside Tariffs tariffs = length tariffs
beside other tariffs = 0

none_more : (n : ℕ) → n ≡ 0 + n
none_more n = omega arith

-- a count is that and a sum over the buckets
pub count_is : (what : What) (p : Office) → count_of what p ≡ beside what p.tariffs + sum_by (in_entry what) p.accounts
unfolding count_of
count_is Buckets p = one_each p.accounts ∙ none_more (sum_by (in_entry Buckets) p.accounts)
count_is Versions p = none_more (sum_by (in_entry Versions) p.accounts)
count_is Uploads p = none_more (sum_by (in_entry Uploads) p.accounts)
count_is Parts p = none_more (sum_by (in_entry Parts) p.accounts)
count_is Names p = none_more (sum_by (in_entry Names) p.accounts)
count_is Rules p = none_more (sum_by (in_entry Rules) p.accounts)
count_is Tariffs p = let none = none_each p.accounts in omega (arith, none)

-- it depends only on the accounts and the tariffs
pub same_counts : (what : What) (p q : Office) → p.accounts ≡ q.accounts → p.tariffs ≡ q.tariffs → count_of what p ≡ count_of what q
same_counts what p q same set =
    count_is what p ∙ ap₂ (λ (l : List Prices) (m : List Entry). beside what l + sum_by (in_entry what) m) set same ∙ sym (count_is what q)

-- the first that is full
pub full_is : (whats : List What) (p : Office) (counts : Counts) → AreCountsOf p counts → first_full whats p ≡ first_over whats counts
full_is [] p counts same = refl
full_is (what ∷ whats) p counts same =
    let here = sym (same what) in
    let rest = full_is whats p counts same in
    rw (here, rest) refl

-- ---- a bucket changed

module _ (p q : Office) (name : List ℕ) (before after : Account) (one : Replaced (name, before) (name, after) p.accounts q.accounts) (set : p.tariffs ≡ q.tariffs) (counts moved : Counts) where
  pub moved_is : AreCountsOf p counts → HaveMoved before.bucket after.bucket counts moved → AreCountsOf q moved
  moved_is were follow what =
      let sum = replaced_sum (name, before) (name, after) p.accounts q.accounts one (in_entry what) in
      let was = were what in
      let has = follow what in
      let a = count_is what p in
      let b = count_is what q in
      let others = ap (beside what) set in
      omega (arith, sum, was, has, a, b, others)

-- ---- a bucket more

module _ (p q : Office) (name : List ℕ) (new : Account) (one : Added (name, new) p.accounts q.accounts) (set : p.tariffs ≡ q.tariffs) (counts moved : Counts) where
  pub added_is : AreCountsOf p counts → ((what : What) → amount what moved ≡ amount what counts + in_bucket what new.bucket) → AreCountsOf q moved
  added_is were more what =
      let sum = added_sum (name, new) p.accounts q.accounts one (in_entry what) in
      let was = were what in
      let has = more what in
      let a = count_is what p in
      let b = count_is what q in
      let others = ap (beside what) set in
      omega (arith, sum, was, has, a, b, others)

-- ---- what is known of the counts

part_most : {X : Type 0} (f : X → ℕ) (x : X) (xs : List X) → Held x xs → f x ≤ sum_by f xs
part_most f x xs held =
    let is = ap (λ (l : List _). sum_by f l) held.is ∙ sum_by-append f held.front (x ∷ held.back) in
    let cons = sum_by-cons f x held.back in
    omega (arith, is, cons)

least : (a b : ℕ) → a ≤ a + b
least a b = omega arith

twice : (n limit : ℕ) → n ≤ limit → n ≤ 2 * limit
twice n limit le = omega (arith, le)

pub counts_small : (p : Office) → IsOrderlyRecords p → (what : What) → count_of what p ≤ 2 * limit_of what
unfolding count_of
counts_small p h Buckets = twice _ _ h.counts.0
counts_small p h Versions =
    let most = sum_most (λ (entry : Entry). version_count entry.1.bucket)
    (λ (entry : Entry). version_count entry.1.bucket + current_objects entry.1.bucket)
    (λ entry. least (version_count entry.1.bucket) (current_objects entry.1.bucket)) p.accounts in
    let few = h.versions in
    omega (arith, most, few)
counts_small p h Uploads = twice _ _ h.counts.1.0
counts_small p h Parts = twice _ _ h.counts.1.1.0
counts_small p h Names = twice _ _ h.counts.1.1.1.0
counts_small p h Rules = twice _ _ h.counts.1.1.1.1.0
counts_small p h Tariffs = twice _ _ h.counts.1.1.1.1.1.0

pub counts_over : (p : Office) (counts : Counts) (name : List ℕ) (account : Account) → IsOrderlyRecords p
    → AreCountsOf p counts → at_name name p.accounts ≡ Some account → AreCountsOver account.bucket counts
counts_over p counts name account h same is what = (inside, small) where
  inside : in_bucket what account.bucket ≤ amount what counts
  inside =
      let part = part_most (in_entry what) (name, account) p.accounts (found by_name name account p.accounts is) in
      let sum = count_is what p in
      let was = same what in
      omega (arith, part, sum, was)

  small : amount what counts ≤ 2 * limit_of what
  small =
      let few = counts_small p h what in
      let was = same what in
      omega (arith, few, was)
