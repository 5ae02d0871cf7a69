-- A version or a part has exactly one open stay, and only that one ends when it is removed.
use Rattle.std.proofs.Common.{◌≡◌, ℕ, List, [], ◌∷◌, ◌++◌, map, refl, ap, sym, ◌∙◌, Bool, true, false, cond, filter, length, ◌≤◌, length-append, arith}
use Rattle.std.specs.Prelude.{Option, Some, option_map, option_to_list, is_none, None}
use Rattle.std.specs.Str.{bytes_eq}
use Rattle.std.proofs.lemmas.Bool.{and_from}
use Rattle.std.proofs.lemmas.List.Elements.{filter-append}
use Rattle.std.proofs.lemmas.List.{map-append}
use Rattle.office_base.specs.Maps.{at_number}
use Rattle.stacks.specs.Stacks.{version_at}
use Rattle.office_base.specs.declared.version_id.VersionId.{VersionId}
use Rattle.stacks.specs.declared.version.Version.{Version}
use Rattle.uploads.specs.declared.part.Part.{Part}
use Rattle.uploads.specs.Uploads.{UploadRecord}
use Rattle.plain_office.specs.Office.{Item, of_version, of_part, Booked, Account}
use Rattle.plain_office.specs.Books.{is_open_stay}
use Rattle.plain_office.specs.Changes.{versions_of}
use Rattle.plain_office.specs.Orderly.{stay_of_version, stay_of_part, part_stays_expected, HasOpenStays, stays_expected}
use Rattle.due_core.specs.Buckets.{BucketRecord}
use Rattle.office_laws.proofs.Maps.{bytes_itself}
use Rattle.office_laws.proofs.Stays.{open_of, after_end, item_itself}

-- ---- the one element that passes a test

pub record Alone {X : Type 0} (test : X → Bool) (x : X) (xs : List X) : Type 0 where
  pub front : List X
  pub back : List X
  pub is : xs ≡ front ++ x ∷ back
  pub none_before : filter test front ≡ []
  pub none_after : filter test back ≡ []
  pub passes : test x ≡ true

module _ {X : Type 0} (test : X → Bool) (x : X) where
  nil_or_more : (y : X) (ys : List X) → y ∷ ys ≡ [] → ⊥
  nil_or_more y ys h = absurd cc

  alone_at : (y : X) (ys : List X) (b : Bool) → test y ≡ b → cond b (y ∷ filter test ys) (filter test ys) ≡ x ∷ []
      → (filter test ys ≡ x ∷ [] → Alone test x ys) → Alone test x (y ∷ ys)
  alone_at y ys true is h more =
      let same : y ≡ x = cc in
      record { front = []; back = ys; is = ap (λ (z : X). z ∷ ys) same; none_before = refl; none_after = cc; passes = ap (λ (z : X). test z) (sym same) ∙ is }
  alone_at y ys false is h more =
      let m = more h in
      record { front = y ∷ m.front; back = m.back; is = ap (λ (l : List X). y ∷ l) m.is; none_before = rw is m.none_before; none_after = m.none_after; passes = m.passes }

  pub alone : (xs : List X) → filter test xs ≡ x ∷ [] → Alone test x xs
  alone [] h = absurd (nil_or_more x [] (sym h))
  alone (y ∷ ys) h = alone_at y ys (test y) refl h (alone ys)

-- ---- the stays

module _ (key : List ℕ) (item : Item) (at : ℕ) where
  kept_at : (stay : Booked) (stays : List Booked) (b : Bool) → is_open_stay key item stay ≡ b → cond b (stay ∷ open_of key item stays) (open_of key item stays) ≡ []
      → (open_of key item stays ≡ [] → map (after_end key item at) stays ≡ stays) → cond b ((stay.0, record stay.1 { to = Some at })) stay ∷ map (after_end key item at) stays ≡ stay ∷ stays
  kept_at stay stays true is h more = absurd (nil_or_more (is_open_stay key item) stay stay (open_of key item stays) h)
  kept_at stay stays false is h more = ap (λ (l : List Booked). stay ∷ l) (more h)

  -- where none is open none ends
  pub none_open_kept : (stays : List Booked) → open_of key item stays ≡ [] → map (after_end key item at) stays ≡ stays
  none_open_kept [] h = refl
  none_open_kept (stay ∷ stays) h = kept_at stay stays (is_open_stay key item stay) refl h (none_open_kept stays)

  -- one stay stands there, and what becomes of it
  abbrev pub StandsOnce : Booked → List Booked → Type 0
  StandsOnce stay stays = (front : List Booked) × (back : List Booked) × (stays ≡ front ++ stay ∷ back) × (map (after_end key item at) stays ≡ front ++ (stay.0, record stay.1 { to = Some at }) ∷ back)

  pub one_stay : (stay : Booked) (stays : List Booked) → open_of key item stays ≡ stay ∷ [] → StandsOnce stay stays
  one_stay stay stays h =
      let a = alone (is_open_stay key item) stay stays h in
      let before = none_open_kept a.front a.none_before in
      let after = none_open_kept a.back a.none_after in
      let passes = a.passes in
      (a.front, a.back, a.is, ap (map (after_end key item at)) a.is ∙ map-append (after_end key item at) a.front (stay ∷ a.back) ∙ rw (before, after, passes) refl)

-- of a version and of a part that are there
pub version_stands : (key : List ℕ) (account : Account) (id : VersionId) (version : Version) → HasOpenStays account → version_at id (versions_of key account.bucket) ≡ Some version
    → open_of key (of_version id) account.books.stays ≡ stay_of_version key version ∷ []
version_stands key account id version has there =
    has key (of_version id) ∙ ap (λ (o : Option Version). option_to_list (option_map (stay_of_version key) o)) there

pub part_stands : (number : ℕ) (upload : UploadRecord) (place : ℕ) (part : Part) (account : Account) → HasOpenStays account → at_number number account.bucket.uploads ≡ Some upload
    → at_number place upload.parts ≡ Some part → open_of upload.key (of_part number place) account.books.stays ≡ stay_of_part number upload place part ∷ []
part_stands number upload place part account has found there =
    has upload.key (of_part number place) ∙ ap (λ (o : Option UploadRecord). part_stays_expected upload.key number place o) found ∙ rw (bytes_itself upload.key, there) refl

-- ---- and every open stay is one that the records ask for

filtered_all : {X : Type 0} (test : X → Bool) (front : List X) (x : X) (back : List X) → test x ≡ true
    → (expected : List X) → length expected ≤ 1 → filter test (front ++ x ∷ back) ≡ expected → expected ≡ x ∷ []
filtered_all {X = X} test front x back passes expected few is = by expected few (sym split ∙ is) where
  split : filter test (front ++ x ∷ back) ≡ filter test front ++ x ∷ filter test back
  split = filter-append test front (x ∷ back) ∙ rw passes refl

  before_none : (before after : List X) (l : List X) → length l ≤ 1 → before ++ x ∷ after ≡ l → l ≡ x ∷ []
  before_none [] after l small e = after_none after l small e where
    after_none : (after : List X) (l : List X) → length l ≤ 1 → x ∷ after ≡ l → l ≡ x ∷ []
    after_none [] l small e = sym e
    after_none (y ∷ after) l small e = let long = ap (λ (m : List X). length m) e in absurd (omega (arith, long, small))
  before_none (y ∷ before) after l small e =
      let long = ap (λ (m : List X). length m) e in
      let parts = length-append before (x ∷ after) in
      absurd (omega (arith, long, parts, small))

  by : (l : List X) → length l ≤ 1 → filter test front ++ x ∷ filter test back ≡ l → l ≡ x ∷ []
  by l small e = before_none (filter test front) (filter test back) l small e

few_option : {X : Type 0} (o : Option X) → length (option_to_list o) ≤ 1
few_option None = omega arith
few_option (Some x) = omega arith

pub few_expected : (bucket : BucketRecord) (key : List ℕ) (item : Item) → length (stays_expected bucket key item) ≤ 1
few_expected bucket key (of_version id) = few_option (option_map (stay_of_version key) (version_at id (versions_of key bucket)))
few_expected bucket key (of_part number place) = by (at_number number bucket.uploads) where
  either : (b : Bool) (l : List Booked) → length l ≤ 1 → length (cond b l []) ≤ 1
  either true l h = h
  either false l h = omega arith

  by : (o : Option UploadRecord) → length (part_stays_expected key number place o) ≤ 1
  by None = omega arith
  by (Some upload) = either (bytes_eq key upload.key) _ (few_option (option_map (stay_of_part number upload place) (at_number place upload.parts)))

-- an open stay among the stays is the one that the records ask for under its key and item
pub open_expected : (account : Account) (front : List Booked) (stay : Booked) (back : List Booked) → HasOpenStays account → account.books.stays ≡ front ++ stay ∷ back → is_none stay.1.to ≡ true
    → stays_expected account.bucket stay.0.key stay.0.item ≡ stay ∷ []
open_expected account front stay back has is open_yet =
    filtered_all (is_open_stay stay.0.key stay.0.item) front stay back
    (and_from _ _ (and_from (is_none stay.1.to) (bytes_eq stay.0.key stay.0.key) open_yet (bytes_itself stay.0.key)) (item_itself stay.0.item))
    (stays_expected account.bucket stay.0.key stay.0.item) (few_expected account.bucket stay.0.key stay.0.item)
    (ap (λ (l : List Booked). open_of stay.0.key stay.0.item l) (sym is) ∙ has stay.0.key stay.0.item)
