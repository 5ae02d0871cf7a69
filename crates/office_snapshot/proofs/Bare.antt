-- Whether the records of an office are orderly does not depend on its books.
use Rattle.std.proofs.Common.{◌≡◌, ℕ, ◌+◌, ◌≤◌, List, [], ◌∷◌, map, length, refl, ap, sym, ◌∙◌, arith, subst}
use Rattle.std.specs.Prelude.{Option, Some, None, MatchOption, IfSome, sum_by}
use Rattle.std.specs.Bool.{IsTrue}
use Rattle.std.specs.Ordering.{is_lt}
use Rattle.std.specs.List.{AllByRecursion}
use Rattle.std.proofs.lemmas.List.Sums.{sum_by-cons}
use Rattle.office_base.specs.Maps.{bytes_cmp, Rises}
use Rattle.due_core.specs.Buckets.{BucketRecord}
use Rattle.due_core.specs.Candidates.{eligible}
use Rattle.plain_office.specs.Office.{Office, Account, empty_books}
use Rattle.plain_office.specs.Counts.{count_of, limit_of, version_count}
use Rattle.plain_office.specs.Orderly.{IsOrderlyBucket, IsBlank, IsOrderlyUntil, IsOrderlyRecords, current_objects, closed_until}
use Rattle.office_laws.proofs.Lists.{every_map}
use Rattle.office_laws.proofs.Changes.{measure}
use Rattle.office_types.specs.declared.refusal.What.{What}
use Rattle.office_types.specs.declared.refusal.What.TheVariants.{Versions, Uploads, Parts, Names, Rules}
use Rattle.office_laws.proofs.Offices.{NamedAccount, in_all, HasRoom, room_of, few_tariffs, counts_of}

-- the name and the records, with empty books
abbrev pub bare : NamedAccount → NamedAccount
bare entry = (entry.0, record { bucket = entry.1.bucket; books = empty_books })

abbrev pub bare_office : Office → Office
bare_office p = record p { accounts = map bare p.accounts }

-- ---- of lists of buckets

module _ (P : List ℕ → Type 0) where
  first_to : (es : List NamedAccount) → AllByRecursion (λ e. P e.0) es → AllByRecursion (λ e. P e.0) (map bare es)
  first_to [] all = tt
  first_to (e ∷ es) all = (all.0, first_to es all.1)

  first_back : (es : List NamedAccount) → AllByRecursion (λ (e : NamedAccount). P e.0) (map bare es) → AllByRecursion (λ (e : NamedAccount). P e.0) es
  first_back [] all = tt
  first_back (e ∷ es) all = (all.0, first_back es all.1)

names_to : (es : List NamedAccount) → Rises bytes_cmp es → Rises bytes_cmp (map bare es)
names_to [] rises = tt
names_to (e ∷ es) rises = (first_to (λ name. IsTrue (is_lt (bytes_cmp e.0 name))) es rises.0, names_to es rises.1)

names_back : (es : List NamedAccount) → Rises bytes_cmp (map bare es) → Rises bytes_cmp es
names_back [] rises = tt
names_back (e ∷ es) rises = (first_back (λ name. IsTrue (is_lt (bytes_cmp e.0 name))) es rises.0, names_back es rises.1)

module _ (P : BucketRecord → Type 0) where
  pub buckets_to : (es : List NamedAccount) → AllByRecursion (λ (e : NamedAccount). P e.1.bucket) es → AllByRecursion (λ (e : NamedAccount). P e.1.bucket) (map bare es)
  buckets_to [] all = tt
  buckets_to (e ∷ es) all = (all.0, buckets_to es all.1)

  pub buckets_back : (es : List NamedAccount) → AllByRecursion (λ (e : NamedAccount). P e.1.bucket) (map bare es) → AllByRecursion (λ (e : NamedAccount). P e.1.bucket) es
  buckets_back [] all = tt
  buckets_back (e ∷ es) all = (all.0, buckets_back es all.1)

sums_same : (count : BucketRecord → ℕ) (es : List NamedAccount) → in_all count (map bare es) ≡ in_all count es
sums_same count [] = refl
sums_same count (e ∷ es) =
    let rest = sums_same count es in
    let a = sum_by-cons (λ (entry : NamedAccount). count entry.1.bucket) (bare e) (map bare es) in
    let b = sum_by-cons (λ (entry : NamedAccount). count entry.1.bucket) e es in
    omega (arith, rest, a, b)

as_many : (es : List NamedAccount) → length (map bare es) ≡ length es
as_many [] = refl
as_many (e ∷ es) = let rest = as_many es in omega (arith, rest)

none_back : (es : List NamedAccount) → map bare es ≡ [] → es ≡ []
none_back [] is = refl
none_back (e ∷ es) is = absurd cc

-- ---- room

room_to : (es : List NamedAccount) → HasRoom es → HasRoom (map bare es)
room_to es room =
    let same = λ (what : What). sums_same (measure what) es in
    record {
      buckets = let n = as_many es in let r = room.buckets in omega (arith, n, r);
      versions = let s = same Versions in let r = room.versions in omega (arith, s, r);
      uploads = let s = same Uploads in let r = room.uploads in omega (arith, s, r);
      parts = let s = same Parts in let r = room.parts in omega (arith, s, r);
      names = let s = same Names in let r = room.names in omega (arith, s, r);
      rules = let s = same Rules in let r = room.rules in omega (arith, s, r);
    }

room_back : (es : List NamedAccount) → HasRoom (map bare es) → HasRoom es
room_back es room =
    let same = λ (what : What). sums_same (measure what) es in
    record {
      buckets = let n = as_many es in let r = room.buckets in omega (arith, n, r);
      versions = let s = same Versions in let r = room.versions in omega (arith, s, r);
      uploads = let s = same Uploads in let r = room.uploads in omega (arith, s, r);
      parts = let s = same Parts in let r = room.parts in omega (arith, s, r);
      names = let s = same Names in let r = room.names in omega (arith, s, r);
      rules = let s = same Rules in let r = room.rules in omega (arith, s, r);
    }

-- ---- the moments

abbrev TimelyFrom : ℕ → BucketRecord → Type 0
TimelyFrom until bucket = AllByRecursion (λ candidate. until ≤ candidate.action.since) (eligible bucket)

moments_to : (p : Office) (last : Option ℕ) → MatchOption last (IsBlank p) (λ moment. IsOrderlyUntil moment p)
    → MatchOption last (IsBlank (bare_office p)) (λ moment. IsOrderlyUntil moment (bare_office p))
moments_to p None blank = record {
  accounts = ap (map bare) blank.accounts;
  tariffs = blank.tariffs;
  closed = blank.closed;
  first_month = blank.first_month;
  kept = blank.kept;
}
moments_to p (Some last) until = record {
  first_month = until.first_month;
  buckets = buckets_to (IsOrderlyBucket last) p.accounts until.buckets;
  closed = until.closed;
}

moments_back : (p : Office) (last : Option ℕ) → MatchOption last (IsBlank (bare_office p)) (λ moment. IsOrderlyUntil moment (bare_office p))
    → MatchOption last (IsBlank p) (λ moment. IsOrderlyUntil moment p)
moments_back p None blank = record {
  accounts = none_back p.accounts blank.accounts;
  tariffs = blank.tariffs;
  closed = blank.closed;
  first_month = blank.first_month;
  kept = blank.kept;
}
moments_back p (Some last) until = record {
  first_month = until.first_month;
  buckets = buckets_back (IsOrderlyBucket last) p.accounts until.buckets;
  closed = until.closed;
}

-- ---- all of it

pub records_to : (p : Office) → IsOrderlyRecords p → IsOrderlyRecords (bare_office p)
records_to p h =
    let room = room_to p.accounts (room_of p h) in
    record {
      names = names_to p.accounts h.names;
      moments = moments_to p p.last h.moments;
      tariffs = h.tariffs;
      months = h.months;
      nothing_due_in_closed_months = buckets_to (TimelyFrom (closed_until p)) p.accounts h.nothing_due_in_closed_months;
      versions = room.versions;
      counts = counts_of (bare_office p) room (few_tariffs p h);
    }

pub records_back : (p : Office) → IsOrderlyRecords (bare_office p) → IsOrderlyRecords p
records_back p h =
    let room = room_back p.accounts (room_of (bare_office p) h) in
    record {
      names = names_back p.accounts h.names;
      moments = moments_back p p.last h.moments;
      tariffs = h.tariffs;
      months = h.months;
      nothing_due_in_closed_months = buckets_back (TimelyFrom (closed_until p)) p.accounts h.nothing_due_in_closed_months;
      versions = room.versions;
      counts = counts_of p room (few_tariffs (bare_office p) h);
    }
