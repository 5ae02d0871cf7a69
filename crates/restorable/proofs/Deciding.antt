-- The tests together decide whether an office is restored.
use Rattle.std.proofs.Common.{◌≡◌, ◌∙◌, ℕ, ◌+◌, ◌-◌, ◌≤◌, Bool, leb, List, [], ◌∷◌, length, map, refl, sym, subst, arith}
use Rattle.std.specs.Prelude.{Option, Some, None, sum_by, Result, Ok, Err, IfOk}
use Rattle.std.specs.Bool.{Decides}
use Rattle.std.specs.List.{AllByRecursion}
use Rattle.std.proofs.lemmas.List.Sums.{sum_by-cons}
use Rattle.office_base.specs.Maps.{bytes_cmp, Rises}
use Rattle.tariff.specs.Prices.{Prices}
use Rattle.due_core.specs.Buckets.{BucketRecord}
use Rattle.office_types.specs.declared.kept.Kept.{Kept}
use Rattle.plain_office.specs.Office.{Account}
use Rattle.plain_office.specs.Counts.{count_of, version_count, part_count, name_bytes, rules_bytes}
use Rattle.plain_office.specs.Orderly.{IsOrderlyBucket, FirstMonthsRise, FollowEachOther, current_objects, last_end}
use Rattle.office_snapshot.specs.Snapshots.{SnapshotRecord, BucketPartRecord, replies_of}
use Rattle.office_snapshot.specs.Restorable.{HaveForm, HasBegun, IsSmallPart, IsRestorable}
use Rattle.restorable.specs.Tests.{over_parts, are_within, is_orderly_part, is_blank, is_orderly_at, is_restorable}
use Rattle.restorable.proofs.Lists.{change, both, le, each, every, none}
use Rattle.restorable.proofs.RecordTests.{IsPart, part_decides}
use Rattle.restorable.proofs.NameTests.{account_of, names_decide, tariffs_decide, follow_decides}
use Rattle.restorable.proofs.KeptTests.{AreKeptSo, all_kept_decide}
use Rattle.restorable.proofs.QuietTests.{Quiet, quiet_decides}

abbrev snapshot_of : Option ℕ → Option ℕ → List Prices → List (ℕ × Prices) → List BucketPartRecord → List Kept → SnapshotRecord
snapshot_of last first_open tariffs closed buckets kept =
    record { last = last; first_open = first_open; tariffs = tariffs; closed = closed; buckets = buckets; kept = kept }

-- ---- how much there is

abbrev count_in : (BucketRecord → ℕ) → List (List ℕ × Account) → ℕ
count_in count accounts = sum_by (λ (entry : List ℕ × Account). count entry.1.bucket) accounts

as_much : (count : BucketRecord → ℕ) (parts : List BucketPartRecord) → count_in count (map account_of parts) ≡ over_parts count parts
as_much count [] = refl
as_much count (part ∷ parts) =
    let rest : count_in count (map account_of parts) ≡ over_parts count parts = as_much count parts in
    let a = sum_by-cons (λ (entry : List ℕ × Account). count entry.1.bucket) (account_of part) (map account_of parts) in
    let b = sum_by-cons (λ (part : BucketPartRecord). count part.bucket) part parts in
    omega (arith, rest, a, b)

as_many : (parts : List BucketPartRecord) → length (map account_of parts) ≡ length parts
as_many [] = refl
as_many (part ∷ parts) = let rest : length (map account_of parts) ≡ length parts = as_many parts in omega (arith, rest)

-- as many, and as much
over : (count : BucketRecord → ℕ) (parts : List BucketPartRecord) (n : ℕ) → Decides (leb (over_parts count parts) n) (count_in count (map account_of parts) ≤ n)
over count parts n =
    change (leb (over_parts count parts) n) (subst (λ (m : ℕ). m ≤ n) (sym (as_much count parts))) (subst (λ (m : ℕ). m ≤ n) (as_much count parts))
    (le (over_parts count parts) n)

abbrev both_versions : BucketRecord → ℕ
both_versions bucket = version_count bucket + current_objects bucket

abbrev upload_count : BucketRecord → ℕ
upload_count bucket = length bucket.uploads

abbrev text_bytes : BucketRecord → ℕ
text_bytes bucket = rules_bytes bucket.rules

-- there is no more than an office may have
record AreWithin (rates : List Prices) (accounts : List (List ℕ × Account)) : Type 0 where
  buckets : length accounts ≤ 1_000
  tariffs : length rates ≤ 100
  versions : count_in both_versions accounts ≤ 400_000
  uploads : count_in upload_count accounts ≤ 20_000
  parts : count_in part_count accounts ≤ 500_000
  names : count_in name_bytes accounts ≤ 536_870_912
  rules : count_in text_bytes accounts ≤ 67_108_864

within_decides : (s : SnapshotRecord) → Decides (are_within s) (AreWithin s.tariffs (map account_of s.buckets))
within_decides s =
    change (are_within s)
    (λ p. record { buckets = p.0.0.0.0.0.0; tariffs = p.0.0.0.0.0.1; versions = p.0.0.0.0.1; uploads = p.0.0.0.1; parts = p.0.0.1; names = p.0.1; rules = p.1 })
    (λ h. ((((((h.buckets, h.tariffs), h.versions), h.uploads), h.parts), h.names), h.rules))
    (both _ _ (both _ _ (both _ _ (both _ _ (both _ _ (both _ _
    (change (leb (length s.buckets) 1_000) (subst (λ (m : ℕ). m ≤ 1_000) (sym (as_many s.buckets))) (subst (λ (m : ℕ). m ≤ 1_000) (as_many s.buckets)) (le (length s.buckets) 1_000))
    (le (length s.tariffs) 100)) (over both_versions s.buckets 400_000)) (over upload_count s.buckets 20_000)) (over part_count s.buckets 500_000))
    (over name_bytes s.buckets 536_870_912)) (over text_bytes s.buckets 67_108_864))

-- ---- what is said of a snapshot with a last moment

-- the closed months
abbrev Closed : ℕ → ℕ → List (ℕ × Prices) → Type 0
Closed last first_open closed =
    ((length closed ≤ first_open) × FollowEachOther (first_open - length closed) (map (λ month. month.0) closed)) × (last_end closed ≤ last)

record IsOrderlyAt (last first_open : ℕ) (s : SnapshotRecord) : Type 0 where
  within : AreWithin s.tariffs (map account_of s.buckets)
  names : Rises bytes_cmp (map account_of s.buckets)
  parts : AllByRecursion (IsPart last) s.buckets
  tariffs : FirstMonthsRise s.tariffs
  closed : Closed last first_open s.closed
  kept : AreKeptSo s.kept
  quiet : AllByRecursion (λ (account : List ℕ × Account). Quiet (last_end s.closed) account.1.bucket) (map account_of s.buckets)

orderly_decides : (last first_open : ℕ) (s : SnapshotRecord) → Decides (is_orderly_at last first_open s) (IsOrderlyAt last first_open s)
orderly_decides last first_open s =
    change (is_orderly_at last first_open s)
    (λ p. record { within = p.0.0.0.0.0.0; names = p.0.0.0.0.0.1; parts = p.0.0.0.0.1; tariffs = p.0.0.0.1; closed = p.0.0.1; kept = p.0.1; quiet = p.1 })
    (λ h. ((((((h.within, h.names), h.parts), h.tariffs), h.closed), h.kept), h.quiet))
    (both _ _ (both _ _ (both _ _ (both _ _ (both _ _ (both _ _ (within_decides s) (names_decide s.buckets))
    (each (is_orderly_part last) (IsPart last) (part_decides last) s.buckets)) (tariffs_decide s.tariffs))
    (both _ _ (both _ _ (le (length s.closed) first_open) (follow_decides (first_open - length s.closed) s.closed)) (le (last_end s.closed) last)))
    (all_kept_decide s.kept)) (quiet_decides (last_end s.closed) s.buckets))

-- ---- buckets as an office has them

module _ (P : BucketRecord → Type 0) where
  mapped : (parts : List BucketPartRecord) → AllByRecursion (λ (part : BucketPartRecord). P part.bucket) parts
      → AllByRecursion (λ (account : List ℕ × Account). P account.1.bucket) (map account_of parts)
  mapped [] all = tt
  mapped (part ∷ parts) all = (all.0, mapped parts all.1)

  back_mapped : (parts : List BucketPartRecord) → AllByRecursion (λ (account : List ℕ × Account). P account.1.bucket) (map account_of parts)
      → AllByRecursion (λ (part : BucketPartRecord). P part.bucket) parts
  back_mapped [] all = tt
  back_mapped (part ∷ parts) all = (all.0, back_mapped parts all.1)

parts_from : (last : ℕ) (parts : List BucketPartRecord) → AllByRecursion (λ (part : BucketPartRecord). IsOrderlyBucket last part.bucket) parts → AllByRecursion IsSmallPart parts
    → AllByRecursion (λ (part : BucketPartRecord). HaveForm part.sums) parts → AllByRecursion (λ (part : BucketPartRecord). AllByRecursion (HasBegun last) part.sums) parts
    → AllByRecursion (IsPart last) parts
parts_from last [] a b c d = tt
parts_from last (part ∷ parts) a b c d = (record { orderly = a.0; small = b.0; form = c.0; begun = d.0 }, parts_from last parts a.1 b.1 c.1 d.1)

restorable_from : (last first_open : ℕ) (tariffs : List Prices) (closed : List (ℕ × Prices)) (buckets : List BucketPartRecord) (kept : List Kept)
    → IsOrderlyAt last first_open (snapshot_of (Some last) (Some first_open) tariffs closed buckets kept) → IsRestorable (snapshot_of (Some last) (Some first_open) tariffs closed buckets kept)
unfolding count_of
restorable_from last first_open tariffs closed buckets kept h = record {
  form = record { sums = every (IsPart last) (λ part. HaveForm part.sums) (λ part p. p.form) buckets h.parts; kept = h.kept.form };
  records = record {
    names = h.names;
    moments = record {
      first_month = refl;
      buckets = mapped (IsOrderlyBucket last) buckets (every (IsPart last) (λ part. IsOrderlyBucket last part.bucket) (λ part p. p.orderly) buckets h.parts);
      closed = h.closed.1;
    };
    tariffs = h.tariffs;
    months = h.closed.0.1;
    nothing_due_in_closed_months = h.quiet;
    versions = h.within.versions;
    counts = (h.within.buckets, (h.within.uploads, (h.within.parts, (h.within.names, (h.within.rules, (h.within.tariffs, tt))))));
  };
  kept = h.kept.kept_so;
  months = h.closed.0.0;
  small = every (IsPart last) IsSmallPart (λ part p. p.small) buckets h.parts;
  begun = every (IsPart last) (λ part. AllByRecursion (HasBegun last) part.sums) (λ part p. p.begun) buckets h.parts;
}

orderly_from : (last first_open : ℕ) (tariffs : List Prices) (closed : List (ℕ × Prices)) (buckets : List BucketPartRecord) (kept : List Kept)
    → IsRestorable (snapshot_of (Some last) (Some first_open) tariffs closed buckets kept) → IsOrderlyAt last first_open (snapshot_of (Some last) (Some first_open) tariffs closed buckets kept)
unfolding count_of
orderly_from last first_open tariffs closed buckets kept h =
    let counts = h.records.counts in
    record {
      within = record {
        buckets = counts.0;
        tariffs = counts.1.1.1.1.1.0;
        versions = h.records.versions;
        uploads = counts.1.0;
        parts = counts.1.1.0;
        names = counts.1.1.1.0;
        rules = counts.1.1.1.1.0;
      };
      names = h.records.names;
      parts = parts_from last buckets (back_mapped (IsOrderlyBucket last) buckets h.records.moments.buckets) h.small h.form.sums h.begun;
      tariffs = h.records.tariffs;
      closed = ((h.months, h.records.months), h.records.moments.closed);
      kept = record { form = h.form.kept; kept_so = h.kept };
      quiet = h.records.nothing_due_in_closed_months;
    }

-- ---- and of one without

blank_at : IsRestorable (snapshot_of None None [] [] [] [])
unfolding count_of
blank_at = record {
  form = record { sums = tt; kept = tt };
  records = record {
    names = tt;
    moments = record { accounts = refl; tariffs = refl; closed = refl; first_month = refl; kept = refl };
    tariffs = tt;
    months = tt;
    nothing_due_in_closed_months = tt;
    versions = omega arith;
    counts = (omega arith, (omega arith, (omega arith, (omega arith, (omega arith, (omega arith, tt))))));
  };
  kept = record { few = omega arith; differ = tt };
  months = tt;
  small = tt;
  begun = tt;
}

record IsEmpty (rates : List Prices) (months : List (ℕ × Prices)) (parts : List BucketPartRecord) (all : List Kept) : Type 0 where
  buckets : parts ≡ []
  tariffs : rates ≡ []
  closed : months ≡ []
  kept : all ≡ []

no_accounts : (parts : List BucketPartRecord) → map account_of parts ≡ [] → parts ≡ []
no_accounts [] is = refl
no_accounts (part ∷ parts) is = absurd cc

no_replies : (kept : List Kept) → replies_of kept ≡ [] → kept ≡ []
no_replies [] is = refl
no_replies (k ∷ kept) is = absurd cc

blank_from : (tariffs : List Prices) (closed : List (ℕ × Prices)) (buckets : List BucketPartRecord) (kept : List Kept) → IsEmpty tariffs closed buckets kept
    → IsRestorable (snapshot_of None None tariffs closed buckets kept)
blank_from tariffs closed buckets kept h =
    let a = sym h.tariffs in
    let b = sym h.closed in
    let c = sym h.buckets in
    let d = sym h.kept in
    subst IsRestorable (λ i. snapshot_of None None (a i) (b i) (c i) (d i)) blank_at

empty_from : (tariffs : List Prices) (closed : List (ℕ × Prices)) (buckets : List BucketPartRecord) (kept : List Kept)
    → IsRestorable (snapshot_of None None tariffs closed buckets kept) → IsEmpty tariffs closed buckets kept
empty_from tariffs closed buckets kept h =
    let blank = h.records.moments in
    record { buckets = no_accounts buckets blank.accounts; tariffs = blank.tariffs; closed = blank.closed; kept = no_replies kept blank.kept }

blank_decides : (tariffs : List Prices) (closed : List (ℕ × Prices)) (buckets : List BucketPartRecord) (kept : List Kept)
    → Decides (is_blank (snapshot_of None None tariffs closed buckets kept)) (IsRestorable (snapshot_of None None tariffs closed buckets kept))
blank_decides tariffs closed buckets kept =
    change (is_blank (snapshot_of None None tariffs closed buckets kept))
    (λ p. blank_from tariffs closed buckets kept (record { buckets = p.0.0.0; tariffs = p.0.0.1; closed = p.0.1; kept = p.1 }))
    (λ h. let e = empty_from tariffs closed buckets kept h in (((e.buckets, e.tariffs), e.closed), e.kept))
    (both _ _ (both _ _ (both _ _ (none buckets) (none tariffs)) (none closed)) (none kept))

-- ---- the two together

by_fields : (last first_open : Option ℕ) (tariffs : List Prices) (closed : List (ℕ × Prices)) (buckets : List BucketPartRecord) (kept : List Kept)
    → Decides (is_restorable last first_open (snapshot_of last first_open tariffs closed buckets kept)) (IsRestorable (snapshot_of last first_open tariffs closed buckets kept))
by_fields None None tariffs closed buckets kept = blank_decides tariffs closed buckets kept
by_fields None (Some first_open) tariffs closed buckets kept = (λ e. absurd cc, λ h. let no = h.records.moments.first_month in absurd cc)
by_fields (Some last) None tariffs closed buckets kept = (λ e. absurd cc, λ h. let some = h.records.moments.first_month in absurd cc)
by_fields (Some last) (Some first_open) tariffs closed buckets kept =
    change _ (restorable_from last first_open tariffs closed buckets kept) (orderly_from last first_open tariffs closed buckets kept)
    (orderly_decides last first_open (snapshot_of (Some last) (Some first_open) tariffs closed buckets kept))

pub decides : (s : SnapshotRecord) (r : Bool) → r ≡ is_restorable s.last s.first_open s → Decides r (IsRestorable s)
decides s r is =
    let d = by_fields s.last s.first_open s.tariffs s.closed s.buckets s.kept in (λ e. d.0 (sym is ∙ e), λ h. is ∙ d.1 h)

pub decided : {E : Type 0} (s : SnapshotRecord) (r : Result Bool E) → IfOk r (λ b. b ≡ is_restorable s.last s.first_open s) → IfOk r (λ b. Decides b (IsRestorable s))
decided s (Ok r) is = decides s r is
decided s (Err e) is = tt
