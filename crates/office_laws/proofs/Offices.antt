-- What each command keeps of the office.
use Rattle.std.proofs.Common.{◌≡◌, ℕ, ◌+◌, ◌*◌, ◌≤◌, List, [], ◌∷◌, map, length, refl, ap, sym, subst, Bool, true, false, cond, inl, inr, arith}
use Rattle.std.specs.Prelude.{Option, Some, None, is_some, sum_by, unwrap_or, IfSome, MatchOption}
use Rattle.std.specs.List.{AllByRecursion}
use Rattle.std.proofs.lemmas.Bool.{leb-true}
use Rattle.std.proofs.lemmas.List.Sums.{sum_by-cons}
use Rattle.moments.specs.Months.{month_at}
use Rattle.office_base.specs.Maps.{at_name}
use Rattle.stacks.specs.declared.version.Version.{Version}
use Rattle.stacks.specs.Stacks.{StackRecord}
use Rattle.due_core.specs.Buckets.{BucketRecord}
use Rattle.plain_office.specs.Office.{Office, Account, book_of}
use Rattle.plain_office.specs.Counts.{limit_of, count_of, version_count}
use Rattle.accrual.specs.Books.{IsBookedBy}
use Rattle.plain_office.specs.Orderly.{IsOrderlyBucket, HasOpenStays, FollowEachOther, last_end, closed_until, current_is_object, IsBlank, IsOrderlyUntil, IsOrderlyRecords, IsOrderly}
use Rattle.plain_office.specs.Run.{is_not_before}
use Rattle.tariff.specs.Prices.{Prices}
use Rattle.office_types.specs.declared.refusal.What.{What}
use Rattle.office_types.specs.declared.refusal.What.TheVariants.{Buckets, Versions, Uploads, Parts, Names, Rules, Tariffs}
use Rattle.office_laws.proofs.Lists.{every_weaker, sum_most, Replaced, replaced_length, replaced_sum}
use Rattle.office_laws.proofs.Maps.{by_name, found_every}
use Rattle.office_laws.proofs.Booked.{booked_later}
use Rattle.office_laws.proofs.Buckets.{bucket_later, IsTimely}
use Rattle.office_laws.proofs.Changes.{measure, Listed, MayGrow, Grows, IsKept}

-- ---- the office at a moment that is not before the last one

abbrev pub NamedAccount : Type 0
NamedAccount = List ℕ × Account

abbrev pub IsOrderlyBy : ℕ → NamedAccount → Type 0
IsOrderlyBy t entry = IsOrderlyBucket t entry.1.bucket

abbrev pub IsTimelyFrom : ℕ → NamedAccount → Type 0
IsTimelyFrom until entry = IsTimely until entry.1.bucket

abbrev pub IsBookedUntil : ℕ → NamedAccount → Type 0
IsBookedUntil t entry = IsBookedBy t (book_of entry.1.books)

abbrev pub HasStays : NamedAccount → Type 0
HasStays entry = HasOpenStays entry.1

module _ (t : ℕ) (p : Office) (h : IsOrderly p) (later : is_not_before p.last t ≡ true) where
  buckets_by : (last : Option ℕ) → MatchOption last (IsBlank p) (λ moment. IsOrderlyUntil moment p) → is_not_before last t ≡ true → AllByRecursion (IsOrderlyBy t) p.accounts
  buckets_by None blank later = subst (AllByRecursion (IsOrderlyBy t)) (sym blank.accounts) tt
  buckets_by (Some last) until later =
      every_weaker (IsOrderlyBy last) (IsOrderlyBy t) (λ entry is. bucket_later last t (leb-true last t later) entry.1.bucket is) p.accounts until.buckets

  pub buckets_now : AllByRecursion (IsOrderlyBy t) p.accounts
  buckets_now = buckets_by p.last h.records.moments later

  closed_by : (last : Option ℕ) → MatchOption last (IsBlank p) (λ moment. IsOrderlyUntil moment p) → is_not_before last t ≡ true → closed_until p ≤ t
  closed_by None blank later = let none = ap last_end blank.closed in omega (arith, none)
  closed_by (Some last) until later = let before = until.closed in let le = leb-true last t later in omega (arith, before, le)

  pub closed_now : closed_until p ≤ t
  closed_now = closed_by p.last h.records.moments later

  none_first : (last : Option ℕ) → MatchOption last (IsBlank p) (λ moment. IsOrderlyUntil moment p) → p.first_month ≡ None → p.closed ≡ []
  none_first None blank is = blank.closed
  none_first (Some last) until is = let some = until.first_month in absurd (no_month p.first_month is some) where
    no_month : (o : Option ℕ) → o ≡ None → is_some o ≡ true → ⊥
    no_month None a b = absurd cc
    no_month (Some x) a b = absurd cc

  months_by : (first : Option ℕ) → p.first_month ≡ first → IfSome first (λ first. FollowEachOther first (map (λ (month : ℕ × Prices). month.0) p.closed))
      → FollowEachOther (unwrap_or first (month_at t)) (map (λ (month : ℕ × Prices). month.0) p.closed)
  months_by None is months = subst (λ (l : List (ℕ × Prices)). FollowEachOther (month_at t) (map (λ (month : ℕ × Prices). month.0) l)) (sym (none_first p.last h.records.moments is)) tt
  months_by (Some first) is months = months

  pub months_now : FollowEachOther (unwrap_or p.first_month (month_at t)) (map (λ (month : ℕ × Prices). month.0) p.closed)
  months_now = months_by p.first_month refl h.records.months

  booked_from : (last : Option ℕ) → MatchOption last (IsBlank p) (λ moment. IsOrderlyUntil moment p)
      → IfSome last
      (λ last. AllByRecursion (λ (entry : NamedAccount). IsBookedBy last (book_of entry.1.books)) p.accounts)
      → is_not_before last t ≡ true
      → AllByRecursion (IsBookedUntil t) p.accounts
  booked_from None blank booked later = subst (AllByRecursion (IsBookedUntil t)) (sym blank.accounts) tt
  booked_from (Some last) until booked later =
      every_weaker (IsBookedUntil last) (IsBookedUntil t) (λ entry is. booked_later last t (leb-true last t later) entry.1.books is) p.accounts booked

  pub booked_now : AllByRecursion (IsBookedUntil t) p.accounts
  booked_now = booked_from p.last h.records.moments h.booked later

  pub kept_now : (name : List ℕ) (account : Account) → at_name name p.accounts ≡ Some account → IsKept t (closed_until p) account
  kept_now name account is = record {
    bucket = found_every by_name (IsOrderlyBy t) name account p.accounts buckets_now is;
    timely = found_every by_name (IsTimelyFrom (closed_until p)) name account p.accounts h.records.nothing_due_in_closed_months is;
    stays = found_every by_name HasStays name account p.accounts h.stays is;
    booked = found_every by_name (IsBookedUntil t) name account p.accounts booked_now is;
  }

-- ---- counts

abbrev pub in_all : (BucketRecord → ℕ) → List NamedAccount → ℕ
in_all count accounts = sum_by (λ (entry : NamedAccount). count entry.1.bucket) accounts

objects_most : (stack : List ℕ × StackRecord) → cond (current_is_object stack.1.versions) 1 0 ≤ length stack.1.versions
objects_most stack = by stack.1.versions where
  one_most : (b : Bool) → cond b 1 0 ≤ 1
  one_most true = omega arith
  one_most false = omega arith

  by : (versions : List Version) → cond (current_is_object versions) 1 0 ≤ length versions
  by [] = omega arith
  by (v ∷ versions) = let most = one_most (current_is_object (v ∷ versions)) in omega (arith, most)

versions_most : (accounts : List NamedAccount) → in_all (measure Versions) accounts ≤ 2 * in_all version_count accounts
versions_most [] = omega arith
versions_most (e ∷ es) =
    let rest = versions_most es in
    let here = sum_most (λ (stack : List ℕ × StackRecord). cond (current_is_object stack.1.versions) 1 0) (λ (stack : List ℕ × StackRecord). length stack.1.versions) objects_most e.1.bucket.stacks in
    let a = sum_by-cons (λ (entry : NamedAccount). measure Versions entry.1.bucket) e es in
    let b = sum_by-cons (λ (entry : NamedAccount). version_count entry.1.bucket) e es in
    omega (arith, rest, here, a, b)

-- the limits, and for the versions with the current objects twice the limit
pub record HasRoom (accounts : List NamedAccount) : Type 0 where
  pub buckets : length accounts ≤ 1_000
  pub versions : in_all (measure Versions) accounts ≤ 400_000
  pub uploads : in_all (measure Uploads) accounts ≤ 20_000
  pub parts : in_all (measure Parts) accounts ≤ 500_000
  pub names : in_all (measure Names) accounts ≤ 536_870_912
  pub rules : in_all (measure Rules) accounts ≤ 67_108_864

pub room_of : (p : Office) → IsOrderlyRecords p → HasRoom p.accounts
unfolding count_of
room_of p h = record {
  buckets = h.counts.0;
  versions = h.versions;
  uploads = h.counts.1.0;
  parts = h.counts.1.1.0;
  names = h.counts.1.1.1.0;
  rules = h.counts.1.1.1.1.0;
}

pub few_tariffs : (p : Office) → IsOrderlyRecords p → length p.tariffs ≤ 100
unfolding count_of
few_tariffs p h = h.counts.1.1.1.1.1.0

pub counts_of : (p : Office) → HasRoom p.accounts → length p.tariffs ≤ 100
    → AllByRecursion (λ what. count_of what p ≤ limit_of what) (Buckets ∷ Uploads ∷ Parts ∷ Names ∷ Rules ∷ Tariffs ∷ [])
unfolding count_of
counts_of p room few = (room.buckets, (room.uploads, (room.parts, (room.names, (room.rules, (few, tt))))))

-- these counts are within their limits
abbrev pub Within : List What → Office → Type 0
Within whats p = AllByRecursion (λ what. count_of what p ≤ limit_of what) whats

listed_within : (what : What) (whats : List What) (p : Office) → Listed what whats → Within whats p → count_of what p ≤ limit_of what
listed_within what [] p listed h = absurd listed
listed_within what (x ∷ xs) p (inl same) h = subst (λ (w : What). count_of w p ≤ limit_of w) (sym same) h.0
listed_within what (x ∷ xs) p (inr more) h = listed_within what xs p more h.1

module _ (p q : Office) (name : List ℕ) (before after : Account)
    (one : Replaced (name, before) (name, after) p.accounts q.accounts) (whats : List What) (within : Within whats q)
    (room : HasRoom p.accounts) where
  changed_sum : (what : What) → in_all (measure what) q.accounts + measure what before.bucket ≡ in_all (measure what) p.accounts + measure what after.bucket
  changed_sum what = replaced_sum (name, before) (name, after) p.accounts q.accounts one (λ (entry : NamedAccount). measure what entry.1.bucket)

  by_what : (what : What) (limit : ℕ) → in_all (measure what) p.accounts ≤ limit
      → MayGrow whats what before.bucket after.bucket
      → (count_of what q ≤ limit_of what → in_all (measure what) q.accounts ≤ limit)
      → in_all (measure what) q.accounts ≤ limit
  by_what what limit small (inl le) tested = let sum = changed_sum what in omega (arith, sum, small, le)
  by_what what limit small (inr listed) tested = tested (listed_within what whats q listed within)

  versions_tested : count_of Versions q ≤ limit_of Versions → in_all (measure Versions) q.accounts ≤ 400_000
  unfolding count_of
  versions_tested le = let most = versions_most q.accounts in omega (arith, most, le)

  pub room_after : Grows whats before.bucket after.bucket → HasRoom q.accounts
  unfolding count_of
  room_after g = record {
    buckets = let same = replaced_length (name, before) (name, after) p.accounts q.accounts one in let small = room.buckets in omega (arith, same, small);
    versions = by_what Versions 400_000 room.versions g.versions versions_tested;
    uploads = by_what Uploads 20_000 room.uploads g.uploads (λ le. le);
    parts = by_what Parts 500_000 room.parts g.parts (λ le. le);
    names = by_what Names 536_870_912 room.names g.names (λ le. le);
    rules = by_what Rules 67_108_864 room.rules g.rules (λ le. le);
  }
