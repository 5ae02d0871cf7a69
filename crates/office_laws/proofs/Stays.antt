-- The open stays of an item after a stay began, and after the stays of an item ended.
use Rattle.std.proofs.Common.{◌≡◌, ℕ, ◌+◌, List, [], ◌∷◌, ◌++◌, map, refl, ap, sym, ◌∙◌, Bool, true, false, ◌&&◌, cond, filter, ◌==◌, arith}
use Rattle.std.specs.Prelude.{Some, is_none, nat_lt}
use Rattle.std.specs.Str.{bytes_eq}
use Rattle.std.proofs.lemmas.Bool.{and_parts, and_from, both_ways}
use Rattle.std.proofs.lemmas.Bool.Decides.{nat_tests}
use Rattle.std.proofs.lemmas.List.{append-nil}
use Rattle.std.proofs.lemmas.List.Elements.{filter-append}
use Rattle.class_rules.specs.Classes.{least_stay}
use Rattle.class_rules.specs.declared.class.Class.{Class}
use Rattle.stacks.specs.declared.version.Kind.{Kind}
use Rattle.stacks.specs.declared.version.Kind.TheVariants.{Object, Marker}
use Rattle.stacks.specs.declared.version.Version.{Version}
use Rattle.stacks.proofs.Sole.{same_id_is}
use Rattle.accrual.specs.Books.{open_stay}
use Rattle.plain_office.specs.Office.{Item, of_version, of_part, Booked, Books}
use Rattle.plain_office.specs.Books.{same_item, is_open_stay, with_end, with_early, without_version}
use Rattle.office_laws.proofs.Ids.{same_itself}
use Rattle.office_laws.proofs.Maps.{bytes_itself, bytes_same}

-- ---- items

pub item_itself : (item : Item) → same_item item item ≡ true
item_itself (of_version id) = same_itself id
item_itself (of_part upload part) =
    let a : (upload == upload) ≡ true = grind (arith, nat_tests) in
    let b : (part == part) ≡ true = grind (arith, nat_tests) in
    and_from (upload == upload) (part == part) a b

pub item_same : (a b : Item) → same_item a b ≡ true → a ≡ b
item_same (of_version a) (of_version b) h = ap of_version (same_id_is a b h)
item_same (of_version a) (of_part upload part) h = absurd cc
item_same (of_part upload part) (of_version b) h = absurd cc
item_same (of_part upload part) (of_part other_upload other_part) h =
    let both = and_parts (upload == other_upload) (part == other_part) h in
    let first : (upload == other_upload) ≡ true = both.0 in
    let second : (part == other_part) ≡ true = both.1 in
    let a : upload ≡ other_upload = grind (arith, nat_tests) in
    let b : part ≡ other_part = grind (arith, nat_tests) in
    λ i. of_part (a i) (b i)

-- the key and the item of a stay
abbrev pub is_of : List ℕ → Item → List ℕ → Item → Bool
is_of k i key item = bytes_eq k key && same_item i item

pub of_itself : (key : List ℕ) (item : Item) → is_of key item key item ≡ true
of_itself key item = and_from (bytes_eq key key) (same_item item item) (bytes_itself key) (item_itself item)

-- the open stays of an item
abbrev pub open_of : List ℕ → Item → List Booked → List Booked
open_of key item stays = filter (is_open_stay key item) stays

-- ---- one begins

abbrev pub begun : List ℕ → Item → List (Class × ℕ) → ℕ → Booked
begun key item lines from = (record { key = key; item = item }, open_stay lines from)

pub open_begun : (key : List ℕ) (item : Item) (lines : List (Class × ℕ)) (from : ℕ) (stays : List Booked)
    → open_of key item (stays ++ begun key item lines from ∷ []) ≡ open_of key item stays ++ begun key item lines from ∷ []
open_begun key item lines from stays =
    filter-append (is_open_stay key item) stays (begun key item lines from ∷ [])
    ∙ rw (bytes_itself key, item_itself item) refl

pub open_other : (k : List ℕ) (i : Item) (key : List ℕ) (item : Item) → is_of k i key item ≡ false → (lines : List (Class × ℕ)) (from : ℕ) (stays : List Booked)
    → open_of k i (stays ++ begun key item lines from ∷ []) ≡ open_of k i stays
open_other k i key item differs lines from stays =
    filter-append (is_open_stay k i) stays (begun key item lines from ∷ [])
    ∙ rw differs (append-nil (open_of k i stays))

-- ---- those of an item end

abbrev pub after_end : List ℕ → Item → ℕ → Booked → Booked
after_end key item at stay = cond (is_open_stay key item stay) ((stay.0, record stay.1 { to = Some at })) stay

pub open_ended : (key : List ℕ) (item : Item) (at : ℕ) (stays : List Booked) → open_of key item (map (after_end key item at) stays) ≡ []
open_ended key item at [] = refl
open_ended key item at (stay ∷ stays) = by (is_open_stay key item stay) refl (open_ended key item at stays) where
  by : (b : Bool) → is_open_stay key item stay ≡ b → open_of key item (map (after_end key item at) stays) ≡ []
      → open_of key item (cond b ((stay.0, record stay.1 { to = Some at })) stay ∷ map (after_end key item at) stays) ≡ []
  by true is h = h
  by false is h = rw is h

-- a stay that is open for one item is open for no other
one_item : (k : List ℕ) (i : Item) (key : List ℕ) (item : Item) (stay : Booked) → is_open_stay key item stay ≡ true → is_open_stay k i stay ≡ true → is_of k i key item ≡ true
one_item k i key item stay h other =
    let a = and_parts (is_none stay.1.to && bytes_eq key stay.0.key) (same_item item stay.0.item) h in
    let b = and_parts (is_none stay.1.to && bytes_eq k stay.0.key) (same_item i stay.0.item) other in
    let a_key = bytes_same key stay.0.key (and_parts (is_none stay.1.to) (bytes_eq key stay.0.key) a.0).1 in
    let b_key = bytes_same k stay.0.key (and_parts (is_none stay.1.to) (bytes_eq k stay.0.key) b.0).1 in
    let a_item = item_same item stay.0.item a.1 in
    let b_item = item_same i stay.0.item b.1 in
    let keys : k ≡ key = b_key ∙ sym a_key in
    let items : i ≡ item = b_item ∙ sym a_item in
    rw (keys, items) (of_itself key item)

open_not : (k : List ℕ) (i : Item) (key : List ℕ) (item : Item) (stay : Booked) → is_of k i key item ≡ false → is_open_stay key item stay ≡ true → is_open_stay k i stay ≡ false
open_not k i key item stay differs h = by (is_open_stay k i stay) refl where
  by : (b : Bool) → is_open_stay k i stay ≡ b → b ≡ false
  by true is = absurd (both_ways (is_of k i key item) differs (one_item k i key item stay h is))
  by false is = refl

pub open_kept : (k : List ℕ) (i : Item) (key : List ℕ) (item : Item) → is_of k i key item ≡ false → (at : ℕ) (stays : List Booked)
    → open_of k i (map (after_end key item at) stays) ≡ open_of k i stays
open_kept k i key item differs at [] = refl
open_kept k i key item differs at (stay ∷ stays) = by (is_open_stay key item stay) refl (open_kept k i key item differs at stays) where
  by : (b : Bool) → is_open_stay key item stay ≡ b → open_of k i (map (after_end key item at) stays) ≡ open_of k i stays
      → open_of k i (cond b ((stay.0, record stay.1 { to = Some at })) stay ∷ map (after_end key item at) stays) ≡ cond (is_open_stay k i stay) (stay ∷ open_of k i stays) (open_of k i stays)
  by true is h = let no = open_not k i key item stay differs is in rw no h
  by false is h = ap (λ (l : List Booked). cond (is_open_stay k i stay) (stay ∷ l) l) h

-- ---- in the books

-- an early quantity is no stay
either_stays : (b : Bool) (a c : Books) → a.stays ≡ c.stays → (cond b a c).stays ≡ c.stays
either_stays true a c h = h
either_stays false a c h = refl

pub early_stays : (kind : Kind) (at : ℕ) (books : Books) → (with_early kind at books).stays ≡ books.stays
early_stays Marker at books = refl
early_stays (Object size class tags entered) at books = either_stays (nat_lt at (entered + least_stay class)) _ books refl

module _ (key : List ℕ) (version : Version) (at : ℕ) (books : Books) where
  pub version_ended : open_of key (of_version version.id) (without_version key version at books).stays ≡ []
  version_ended =
      ap (λ (l : List Booked). open_of key (of_version version.id) l) (early_stays version.kind at (with_end key (of_version version.id) at books))
      ∙ open_ended key (of_version version.id) at books.stays

  pub version_kept : (k : List ℕ) (i : Item) → is_of k i key (of_version version.id) ≡ false → open_of k i (without_version key version at books).stays ≡ open_of k i books.stays
  version_kept k i differs =
      ap (λ (l : List Booked). open_of k i l) (early_stays version.kind at (with_end key (of_version version.id) at books))
      ∙ open_kept k i key (of_version version.id) differs at books.stays
