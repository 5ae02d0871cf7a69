-- A body has one spelling, and is read back as it was written.
use Rattle.std.proofs.Common.{◌≡◌, ℕ, true, List, [], ◌∷◌, length, map, Option, Some, None, refl, sym, ap, subst, ◌∙◌, append-nil}
use Rattle.std.specs.Prelude.{option_map}
use Rattle.std.specs.Int.{w8}
use Rattle.std.proofs.lemmas.Option.{same_Some}
use Rattle.stacks.specs.Stacks.{StackRecord}
use Rattle.uploads.specs.Uploads.{UploadRecord}
use Rattle.accrual.specs.declared.monthly.MonthSums.{MonthSums}
use Rattle.entry_codec.specs.Formats.{number, list}
use Rattle.entry_codec.proofs.Bytes.{IsBytes}
use Rattle.entry_codec.proofs.FormatLaws.{IsFormat, IsCode, number-IsFormat, pair-IsFormat, list-IsFormat, coded-IsFormat, wide8}
use Rattle.office_snapshot.specs.Snapshots.{SnapshotRecord, BucketPartRecord}
use Rattle.checkpoint.specs.Parts.{four, tariff_format, sums_format, Head, head_format, kept_format}
use Rattle.checkpoint.specs.Bodies.{front_format, lists_format, buckets_format, BodyParts, parts_format, head_of, parts_of_snapshot, bucket_of, joined, snapshot_from, snapshot_value, snapshots, body_format, Spells}
use Rattle.checkpoint.proofs.CombiningLaws.{after-IsFormat, exactly-IsFormat}
use Rattle.checkpoint.proofs.PartLaws.{four-IsFormat, last-IsFormat, open-IsFormat, month-IsFormat, tariff-IsFormat, stacks-IsFormat, uploads-IsFormat, sums-IsFormat, bucket_head-IsFormat, kept-IsFormat}

front-IsFormat : IsFormat front_format
unfolding front_format
front-IsFormat = pair-IsFormat _ _ last-IsFormat (pair-IsFormat _ _ open-IsFormat
    (pair-IsFormat _ _ (list-IsFormat (number w8) tariff_format (number-IsFormat w8 wide8) tariff-IsFormat) (list-IsFormat four _ four-IsFormat (pair-IsFormat _ _ month-IsFormat tariff-IsFormat))))

lists-IsFormat : (n : ℕ) → IsFormat (lists_format n)
unfolding lists_format
lists-IsFormat n = pair-IsFormat _ _ (exactly-IsFormat n _ stacks-IsFormat)
    (pair-IsFormat _ _ (exactly-IsFormat n _ uploads-IsFormat) (exactly-IsFormat n _ (list-IsFormat four sums_format four-IsFormat sums-IsFormat)))

buckets-IsFormat : IsFormat buckets_format
unfolding buckets_format
buckets-IsFormat = after-IsFormat (list four head_format) (λ heads. lists_format (length heads)) (list-IsFormat four head_format four-IsFormat bucket_head-IsFormat) (λ heads. lists-IsFormat (length heads))

parts-IsFormat : IsFormat parts_format
unfolding parts_format
parts-IsFormat = pair-IsFormat _ _ front-IsFormat (pair-IsFormat _ _ buckets-IsFormat (list-IsFormat four kept_format four-IsFormat kept-IsFormat))

join_again : (bs : List BucketPartRecord) → joined (map head_of bs) (map (λ p. p.bucket.stacks) bs) (map (λ p. p.bucket.uploads) bs) (map (λ p. p.sums) bs) ≡ Some bs
join_again [] = refl
join_again (b ∷ bs) = ap (option_map (λ others. b ∷ others)) (join_again bs)

-- the parts of the buckets that were joined
record Parts (hs : List Head) (ss : List (List (List ℕ × StackRecord))) (us : List (List (ℕ × UploadRecord))) (ms : List (List MonthSums)) (bs : List BucketPartRecord) : Type 0 where
  heads : map head_of bs ≡ hs
  stacks : map (λ p. p.bucket.stacks) bs ≡ ss
  uploads : map (λ p. p.bucket.uploads) bs ≡ us
  sums : map (λ p. p.sums) bs ≡ ms

mapped : {A B : Type 0} (f : A → B) (o : Option A) (y : B) → option_map f o ≡ Some y → (x : A) × (o ≡ Some x) × (f x ≡ y)
mapped f None y e = absurd cc
mapped f (Some x) y e = (x, refl, same_Some (f x) y e)

join_back : (hs : List Head) (ss : List (List (List ℕ × StackRecord))) (us : List (List (ℕ × UploadRecord))) (ms : List (List MonthSums)) (bs : List BucketPartRecord)
    → joined hs ss us ms ≡ Some bs → Parts hs ss us ms bs
join_back [] [] [] [] bs e = subst (Parts [] [] [] []) (same_Some [] bs e) (record { heads = refl; stacks = refl; uploads = refl; sums = refl })
join_back (h ∷ hs) (s ∷ ss) (u ∷ us) (m ∷ ms) bs e =
    let a = mapped (λ others. bucket_of h s u m ∷ others) (joined hs ss us ms) bs e in
    let more = join_back hs ss us ms a.0 a.1 in
    subst (Parts (h ∷ hs) (s ∷ ss) (u ∷ us) (m ∷ ms)) a.2 (record {
      heads = ap (λ (l : List Head). h ∷ l) more.heads;
      stacks = ap (λ (l : List (List (List ℕ × StackRecord))). s ∷ l) more.stacks;
      uploads = ap (λ (l : List (List (ℕ × UploadRecord))). u ∷ l) more.uploads;
      sums = ap (λ (l : List (List MonthSums)). m ∷ l) more.sums;
    })
join_back hs ss us ms bs e = absurd cc

snapshots-IsCode : IsCode snapshots
snapshots-IsCode = record { again = again; back = back }
  where
    again : (s : SnapshotRecord) → snapshots.has s ≡ true → snapshot_value (parts_of_snapshot s) ≡ Some s
    again s has = ap (option_map (snapshot_from (s.last, (s.first_open, (s.tariffs, s.closed))) s.kept)) (join_again s.buckets)

    back : (x : BodyParts) (s : SnapshotRecord) → snapshot_value x ≡ Some s → (parts_of_snapshot s ≡ x) × (snapshots.has s ≡ true)
    back ((last, (first_open, (tariffs, closed))), ((hs, (ss, (us, ms))), kept)) s e =
        let a = mapped (snapshot_from (last, (first_open, (tariffs, closed))) kept) (joined hs ss us ms) s e in
        let p = join_back hs ss us ms a.0 a.1 in
        let heads = p.heads in
        let stacks = p.stacks in
        let uploads = p.uploads in
        let sums = p.sums in (
          sym (ap parts_of_snapshot a.2)
              ∙ (λ i. ((last, (first_open, (tariffs, closed))), ((heads i, (stacks i, (uploads i, sums i))), kept))),
          refl,
        )

pub body-IsFormat : IsFormat body_format
unfolding body_format
body-IsFormat = coded-IsFormat parts_format snapshots parts-IsFormat snapshots-IsCode

-- ---- what follows

-- what is written for a snapshot is read back as it
pub body_again : (snapshot : SnapshotRecord) → body_format.has snapshot ≡ true → body_format.front (body_format.written snapshot) ≡ Some (snapshot, [])
body_again snapshot has =
    ap (λ (l : List ℕ). body_format.front l) (sym (append-nil (body_format.written snapshot))) ∙ body-IsFormat.again snapshot [] has

-- what is read as a snapshot, with nothing after it, is its one spelling
pub body_takes : (bytes : List ℕ) (snapshot : SnapshotRecord) → IsBytes bytes → body_format.front bytes ≡ Some (snapshot, [])
    → (bytes ≡ body_format.written snapshot) × (body_format.has snapshot ≡ true)
body_takes bytes snapshot fits e =
    let t = body-IsFormat.takes bytes (snapshot, []) fits e in
    (t.0 ∙ append-nil (body_format.written snapshot), t.1)

-- a body is that of one snapshot
pub one_value : (bytes : List ℕ) (a b : SnapshotRecord) → Spells bytes a → Spells bytes b → a ≡ b
one_value bytes a b first second =
    ap (λ (x : SnapshotRecord × List ℕ). x.0)
    (same_Some (a, []) (b, []) (sym (body_again a first.in_range) ∙ ap (λ (l : List ℕ). body_format.front l) (sym first.bytes_are ∙ second.bytes_are) ∙ body_again b second.in_range))
