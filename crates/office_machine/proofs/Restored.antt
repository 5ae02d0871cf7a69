-- The office that is made of a snapshot.
use Rattle.std.proofs.Common.{◌≡◌, ℕ, ◌+◌, ◌-◌, ◌*◌, ◌<◌, ◌≤◌, List, [], ◌∷◌, map, length, refl, ap, sym, ◌∙◌, subst, arith, Option, Some, None}
use Rattle.std.specs.Prelude.{sum_by, All, option_map, IfSome, MatchOption}
use Rattle.std.specs.List.{AllByRecursion}
use Rattle.std.proofs.lemmas.List.{length-map}
use Rattle.std.proofs.lemmas.List.Sums.{sum_by-cons}
use Rattle.tariff.specs.Prices.{Prices}
use Rattle.due_core.specs.Buckets.{BucketRecord}
use Rattle.plain_office.specs.Office.{Account, Office, empty_books}
use Rattle.plain_office.specs.Counts.{count_of, limit_of, version_count, part_count, name_bytes}
use Rattle.plain_office.specs.Orderly.{IsOrderly, IsOrderlyRecords, IsOrderlyBucket, IsOrderlyUntil, IsBlank, HasOpenStays, current_objects}
use Rattle.office_types.specs.declared.kept.Kept.{Kept}
use Rattle.office_types.specs.declared.refusal.What.{What}
use Rattle.office_types.specs.declared.refusal.What.TheVariants.{Buckets, Versions, Uploads, Parts, Names, Rules, Tariffs}
use Rattle.office_laws.proofs.Lists.{every_weaker}
use Rattle.bucket_account.specs.declared.counts.Counts.{Counts}
use Rattle.bucket_account.specs.Counting.{AccountRecord, amount, in_bucket}
use Rattle.bucket_account.specs.Restoring.{IsSmallBucket, AreFewIn}
use Rattle.office_snapshot.specs.Restorable.{HaveForm, IsSmallPart, IsRestorable, office_in}
use Rattle.office_snapshot.specs.Snapshots.{BucketPartRecord, SnapshotRecord, ShowBuckets, Shows}
use Rattle.kept_replies.specs.Queue.{ReplyQueue, plain_reply, plain_replies}
use Rattle.office_machine.specs.Once.{StandsFor, IsAnOffice}
use Rattle.office_machine.specs.Parts.{IsMakable, AreMadeOf, in_all, CanBeCounted}
use Rattle.office_machine.specs.Standing.{Records, StandsForOffice, IsOfAnOffice}
use Rattle.office_machine.proofs.Parts.{Entry, made_stand, made_room, made_amounts, same_amounts, in_plain, named}
use Rattle.office_machine.proofs.Sums.{beside, in_entry, count_is, counts_small}

-- ---- each part can be made

part_most : (f : List ℕ × Account → ℕ) (most : ℕ) (parts : List BucketPartRecord) → sum_by f (map named parts) ≤ most → AllByRecursion (λ (part : BucketPartRecord). f (named part) ≤ most) parts
part_most f most [] le = tt
part_most f most (p ∷ parts) le =
    let cons = sum_by-cons f (named p) (map named parts) in
    (omega (arith, cons, le), part_most f most parts (omega (arith, cons, le)))

abbrev IsOrderlyPart : ℕ → BucketPartRecord → Type 0
IsOrderlyPart last part = IsOrderlyBucket last part.bucket

orderly_parts : (last : ℕ) (parts : List BucketPartRecord) → AllByRecursion (λ (account : List ℕ × Account). IsOrderlyBucket last account.1.bucket) (map named parts) → AllByRecursion (IsOrderlyPart last) parts
orderly_parts last [] h = tt
orderly_parts last (p ∷ parts) h = (h.0, orderly_parts last parts h.1)

all_makable : (last : ℕ) (parts : List BucketPartRecord) → AllByRecursion (IsOrderlyPart last) parts
    → AllByRecursion (λ (part : BucketPartRecord). version_count part.bucket + current_objects part.bucket ≤ 400_000) parts
    → AllByRecursion (λ (part : BucketPartRecord). part_count part.bucket ≤ 500_000) parts
    → AllByRecursion IsSmallPart parts → AllByRecursion (λ (part : BucketPartRecord). HaveForm part.sums) parts → AllByRecursion IsMakable parts
all_makable last [] orderly versions pieces small form = tt
all_makable last (p ∷ parts) orderly versions pieces small form =
    let v = versions.0 in
    let q = pieces.0 in
    let a = small.0.next_version in
    let b = small.0.next_upload in (
      record {
        last = last;
        orderly = orderly.0;
        few = record { versions = omega (arith, v); parts = q; next_version = omega (arith, a); next_upload = omega (arith, b) };
        rising = form.0.rising;
        small = small.0.sums;
      },
      all_makable last parts orderly.1 versions.1 pieces.1 small.1 form.1,
    )

no_parts : (parts : List BucketPartRecord) → map named parts ≡ [] → AllByRecursion IsMakable parts
no_parts [] is = tt
no_parts (p ∷ parts) is = absurd (some p parts is) where
  some : (p : BucketPartRecord) (parts : List BucketPartRecord) → named p ∷ map named parts ≡ [] → ⊥
  some p parts e = absurd cc

pub makable : (snapshot : SnapshotRecord) → IsRestorable snapshot → AllByRecursion IsMakable snapshot.buckets
unfolding count_of
makable snapshot is = by snapshot.last is.records.moments where
  by : (last : Option ℕ) → MatchOption last (IsBlank (office_in snapshot)) (λ last. IsOrderlyUntil last (office_in snapshot)) → AllByRecursion IsMakable snapshot.buckets
  by None h = no_parts snapshot.buckets h.accounts
  by (Some last) h =
      all_makable last snapshot.buckets (orderly_parts last snapshot.buckets h.buckets)
      (part_most (λ (entry : List ℕ × Account). version_count entry.1.bucket + current_objects entry.1.bucket) 400_000 snapshot.buckets is.records.versions)
      (part_most (λ (entry : List ℕ × Account). part_count entry.1.bucket) 500_000 snapshot.buckets is.records.counts.1.1.0)
      is.small is.form.sums

-- ---- what there is can be counted

few_each : (entries : List Entry) (parts : List BucketPartRecord) → AreMadeOf entries parts
    → AllByRecursion (λ (part : BucketPartRecord). part_count part.bucket ≤ 500_000) parts → AllByRecursion (λ (part : BucketPartRecord). name_bytes part.bucket ≤ 536_870_912) parts
    → AllByRecursion (λ (entry : Entry). AreFewIn entry.1.bucket) entries
few_each [] parts made pieces names = tt
few_each (e ∷ entries) [] made pieces names = absurd made
few_each (e ∷ entries) (p ∷ parts) made pieces names =
    (subst AreFewIn (sym made.0.bucket) (few_of p.bucket pieces.0 names.0), few_each entries parts made.1 pieces.1 names.1)
  where
    few_of : (bucket : BucketRecord) → part_count bucket ≤ 500_000 → name_bytes bucket ≤ 536_870_912 → AreFewIn bucket
    few_of bucket a b = record { parts = omega (arith, a); names = omega (arith, b) }

pub countable : (snapshot : SnapshotRecord) (entries : List Entry) → IsRestorable snapshot → AreMadeOf entries snapshot.buckets → CanBeCounted entries
unfolding count_of
countable snapshot entries is made = record {
  each = few_each entries snapshot.buckets made
      (part_most (λ (entry : List ℕ × Account). part_count entry.1.bucket) 500_000 snapshot.buckets is.records.counts.1.1.0)
      (part_most (λ (entry : List ℕ × Account). name_bytes entry.1.bucket) 536_870_912 snapshot.buckets is.records.counts.1.1.1.0);
  all = all_small;
} where
  all_small : (what : What) → in_all what entries ≤ 2 * limit_of what
  all_small what =
      let a = made_amounts what entries snapshot.buckets made in
      let b = count_is what (office_in snapshot) in
      let c = counts_small (office_in snapshot) is.records what in
      omega (arith, a, b, c)

-- ---- the office

back : (months : List (ℕ × Prices)) (first : Option ℕ) → option_map (λ month. month - length months) (option_map (λ month. month + length months) first) ≡ first
back months None = refl
back months (Some month) = let same : month + length months - length months ≡ month = omega arith in ap Some same

first_back : (snapshot : SnapshotRecord) (p : Office) → Shows snapshot p → option_map (λ month. month - length snapshot.closed) snapshot.first_open ≡ p.first_month
first_back snapshot p shows =
    (λ i. option_map (λ month. month - length (shows.closed i)) (shows.first_open i)) ∙ back p.closed p.first_month

beside_is : (what : What) (tariffs : List Prices) (start : Counts) → start ≡ record { buckets = 0; versions = 0; uploads = 0; parts = 0; names = 0; rules = 0; tariffs = length tariffs } → amount what start ≡ beside what tariffs
beside_is Buckets tariffs start is = ap (λ (c : Counts). c.buckets) is
beside_is Versions tariffs start is = ap (λ (c : Counts). c.versions) is
beside_is Uploads tariffs start is = ap (λ (c : Counts). c.uploads) is
beside_is Parts tariffs start is = ap (λ (c : Counts). c.parts) is
beside_is Names tariffs start is = ap (λ (c : Counts). c.names) is
beside_is Rules tariffs start is = ap (λ (c : Counts). c.rules) is
beside_is Tariffs tariffs start is = ap (λ (c : Counts). c.tariffs) is

-- the records as they are made
abbrev pub made_records : SnapshotRecord → Option ℕ → List Entry → Counts → Records
made_records snapshot first entries counts = record {
  last = snapshot.last;
  tariffs = snapshot.tariffs;
  first_month = first;
  closed = snapshot.closed;
  accounts = entries;
  counts = counts;
  accepted = 0;
}

module _ (snapshot : SnapshotRecord) (first : Option ℕ) (entries : List Entry) (counts start : Counts)
    (first_is : first ≡ option_map (λ month. month - length snapshot.closed) snapshot.first_open) (made : AreMadeOf entries snapshot.buckets)
    (start_is : start ≡ record { buckets = 0; versions = 0; uploads = 0; parts = 0; names = 0; rules = 0; tariffs = length snapshot.tariffs })
    (counted : (what : What) → amount what counts ≡ amount what start + in_all what entries) where
  pub stands_restored : (p : Office) → Shows snapshot p → StandsForOffice (made_records snapshot first entries counts) p
  stands_restored p shows =
      let accounts = made_stand entries snapshot.buckets p.accounts made shows.buckets shows.orderly.stays in
      record {
        orderly = shows.orderly;
        last = shows.last;
        tariffs = shows.tariffs;
        first_month = first_is ∙ first_back snapshot p shows;
        closed = shows.closed;
        accounts = accounts;
        counts = λ what. counted what
            ∙ (λ i. beside_is what snapshot.tariffs start start_is i + same_amounts what entries p.accounts accounts i)
            ∙ ap (λ (t : List Prices). beside what t + sum_by (in_plain what) p.accounts) shows.tariffs
            ∙ sym (count_is what p);
      }

  pub office_restored : (p : Office) → Shows snapshot p → IsOfAnOffice (made_records snapshot first entries counts)
  office_restored p shows = record { office = p; stands = stands_restored p shows; room = made_room entries snapshot.buckets made }

pub few_beside : (snapshot : SnapshotRecord) (start : Counts) → IsRestorable snapshot
    → start ≡ record { buckets = 0; versions = 0; uploads = 0; parts = 0; names = 0; rules = 0; tariffs = length snapshot.tariffs } → (what : What) → amount what start ≤ 2 * limit_of what
few_beside snapshot start is start_is what =
    let a = beside_is what snapshot.tariffs start start_is in
    let b = count_is what (office_in snapshot) in
    let c = counts_small (office_in snapshot) is.records what in
    omega (arith, a, b, c)

-- ---- with the kept replies

abbrev kept_anew : List Kept → ReplyQueue
kept_anew kept = record { queue = kept; dropped = 0; held = None }

module _ (snapshot : SnapshotRecord) (records : Records) (queue : ReplyQueue) (queue_is : queue ≡ kept_anew snapshot.kept) where
  pub stands_whole : (p : Office) → Shows snapshot p → StandsForOffice records p → StandsFor (record { records = records; kept = queue }) p
  stands_whole p shows stands = record { records = stands; kept = ap (λ (q : ReplyQueue). plain_replies q.queue) queue_is ∙ shows.kept }

  pub office_whole : IsRestorable snapshot → (p : Office) → Shows snapshot p → StandsForOffice records p → IsAnOffice (record { records = records; kept = queue })
  office_whole is p shows stands =
      let few = is.kept.few in
      let long = length-map snapshot.kept plain_reply in
      let number = ap (λ (q : ReplyQueue). q.dropped + length q.queue) queue_is in
      record {
        office = p;
        stands = stands_whole p shows stands;
        free = ap (λ (q : ReplyQueue). q.held) queue_is;
        few = omega (arith, few, long, number);
      }

-- ---- the snapshot as its fields make it

pub restorable_in : {a b : SnapshotRecord} → a ≡ b → IsRestorable b → IsRestorable a
restorable_in {a} {b} same is = subst IsRestorable (sym same) is

pub shows_in : {a b : SnapshotRecord} {p : Office} → a ≡ b → Shows b p → Shows a p
shows_in {a} {b} {p} same shows = subst (λ (s : SnapshotRecord). Shows s p) (sym same) shows
