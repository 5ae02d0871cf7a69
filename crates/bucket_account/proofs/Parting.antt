-- The books while the stays of an upload's parts end one after another.
use Rattle.std.proofs.Common.{◌≡◌, ℕ, ◌≤◌, List, [], ◌∷◌, ◌++◌, map, refl, ap, sym, ◌∙◌, subst, Bool, true, false, ◌&&◌, filter, arith, ◌==◌}
use Rattle.std.specs.Prelude.{nat_le}
use Rattle.std.specs.Str.{bytes_eq}
use Rattle.std.specs.List.{AllByRecursion, list_all}
use Rattle.std.specs.Ordering.{nat_cmp, is_lt}
use Rattle.std.specs.Bool.{IsTrue}
use Rattle.std.proofs.lemmas.Bool.{and_parts, leb-true}
use Rattle.std.proofs.lemmas.Bool.Decides.{nat_tests}
use Rattle.std.proofs.lemmas.List.{map-append}
use Rattle.class_rules.specs.Lines.{part_line}
use Rattle.class_rules.specs.declared.class.Class.{Class}
use Rattle.office_base.specs.Maps.{Rises}
use Rattle.office_base.specs.Sizes.{largest_size}
use Rattle.uploads.specs.Uploads.{UploadRecord, IsUpload, is_part, is_part_until, total_size}
use Rattle.uploads.specs.declared.part.Part.{Part}
use Rattle.accrual.specs.Books.{Book, Stay, open_stay, ended_stay}
use Rattle.accrual.specs.Totals.{Totals, AreTotalsOf, HasRow, HasOpenStay}
use Rattle.plain_office.specs.Office.{Item, of_part, Books, book_of, stay_in}
use Rattle.plain_office.specs.Books.{is_open_stay, with_end}
use Rattle.office_laws.proofs.Lists.{every_true, every_weaker}
use Rattle.office_laws.proofs.Stays.{open_kept, is_of, begun}
use Rattle.office_laws.proofs.OneStay.{StandsOnce, one_stay}
use Rattle.bucket_account.specs.Booking.{HasRowsFrom}
use Rattle.bucket_account.specs.Uploading.{HavePartStays, AreEndableAt, parts_ended}
use Rattle.bucket_account.proofs.Ending.{Ends}

-- ---- an item's open stay ends

module _ (key : List ℕ) (item : Item) (lines : List (Class × ℕ)) (from at : ℕ) (books : Books) (has : filter (is_open_stay key item) books.stays ≡ begun key item lines from ∷ []) where
  once : StandsOnce key item at (begun key item lines from) books.stays
  once = one_stay key item at (begun key item lines from) books.stays has

  stands_there : (book_of books).stays ≡ map stay_in once.0 ++ open_stay lines from ∷ map stay_in once.1
  stands_there = ap (map stay_in) once.2 ∙ map-append stay_in once.0 (begun key item lines from ∷ once.1)

  -- it is an open stay of the book
  pub item_open : HasOpenStay lines from (book_of books)
  item_open = (map stay_in once.0, map stay_in once.1, stands_there)

  abbrev ended : Book
  ended = record { stays = map stay_in once.0 ++ ended_stay lines from at ∷ map stay_in once.1; early = books.early; moves = books.moves }

  ended_is : ended ≡ book_of (with_end key item at books)
  ended_is =
      ap (λ (stays : List Stay). record { stays = stays; early = books.early; moves = books.moves })
      (sym (ap (map stay_in) once.3 ∙ map-append stay_in once.0 ((record { key = key; item = item }, ended_stay lines from at) ∷ once.1)))

  pub item_ended : (old new : Totals) → AreTotalsOf old (book_of books) → Ends old new at lines from → AreTotalsOf new (book_of (with_end key item at books))
  item_ended old new stands ends = subst (AreTotalsOf new) ended_is (ends (book_of books) (map stay_in once.0) (map stay_in once.1) stands stands_there)

-- ---- the parts of an upload

-- another part's stay
other_item : (key : List ℕ) (number place other : ℕ) → IsTrue (is_lt (nat_cmp place other)) → is_of key (of_part number other) key (of_part number place) ≡ false
other_item key number place other less = by (bytes_eq key key) (number == number) where
  differs : (other == place) ≡ false
  differs = grind (arith, nat_tests)

  by : (b c : Bool) → b && (c && (other == place)) ≡ false
  by true true = differs
  by true false = refl
  by false c = refl

-- the sizes are in range
abbrev pub AreSmall : List (ℕ × Part) → Type 0
AreSmall parts = AllByRecursion (λ (part : ℕ × Part). part.1.size ≤ largest_size) parts

pub parts_small : (upload : UploadRecord) → IsUpload upload → AreSmall upload.parts
parts_small upload h =
    every_weaker (λ (part : ℕ × Part). is_part_until upload.changed part ≡ true) (λ (part : ℕ × Part). part.1.size ≤ largest_size) small upload.parts
    (every_true (is_part_until upload.changed) upload.parts
    (and_parts (nat_le upload.started upload.changed) (list_all (is_part_until upload.changed) upload.parts)
    (and_parts (nat_le upload.started upload.changed && list_all (is_part_until upload.changed) upload.parts) (nat_le (total_size upload.parts) largest_size) h).0).1)
  where
    small : (part : ℕ × Part) → is_part_until upload.changed part ≡ true → part.1.size ≤ largest_size
    small part is =
        let range = and_parts (is_part part.0 part.1.size) (nat_le part.1.put upload.changed) is in
        let both = and_parts (nat_le 1 part.0 && nat_le part.0 10_000) (nat_le part.1.size 5_368_709_120) range.0 in
        let size = leb-true part.1.size 5_368_709_120 both.1 in
        omega (arith, size)

-- the stays of some parts have ended, and those of the others are open
pub record IsOnTheWay (upload : UploadRecord) (number at : ℕ) (books : Books) (meters : Totals) (left : List (ℕ × Part)) : Type 0 where
  pub now : Books
  pub stands : AreTotalsOf meters (book_of now)
  pub stays : HavePartStays number upload left now
  pub leads : parts_ended upload.key number at left now ≡ parts_ended upload.key number at upload.parts books

module _ (upload : UploadRecord) (number at : ℕ) (books : Books) where
  pub way_begins : (meters : Totals) → AreTotalsOf meters (book_of books) → HavePartStays number upload upload.parts books → IsOnTheWay upload number at books meters upload.parts
  way_begins meters stands stays = record { now = books; stands = stands; stays = stays; leads = refl }

  pub way_ends : (meters : Totals) → IsOnTheWay upload number at books meters [] → AreTotalsOf meters (book_of (parts_ended upload.key number at upload.parts books))
  way_ends meters way = subst (λ (b : Books). AreTotalsOf meters (book_of b)) way.leads way.stands

  module _ (part : ℕ × Part) (left : List (ℕ × Part)) where
    pub way_opened : (meters : Totals) → IsOnTheWay upload number at books meters (part ∷ left)
        → (book : Book) × AreTotalsOf meters book × HasOpenStay (part_line upload.class part.1.size) part.1.put book
    way_opened meters way = (book_of way.now, way.stands, item_open upload.key (of_part number part.0) (part_line upload.class part.1.size) part.1.put at way.now way.stays.0)

    stays_left : (now : Books) → (others : List (ℕ × Part)) → AllByRecursion (λ (other : ℕ × Part). IsTrue (is_lt (nat_cmp part.0 other.0))) others
        → HavePartStays number upload others now → HavePartStays number upload others (with_end upload.key (of_part number part.0) at now)
    stays_left now [] above h = tt
    stays_left now (other ∷ others) above h = (
      open_kept upload.key (of_part number other.0) upload.key (of_part number part.0) (other_item upload.key number part.0 other.0 above.0) at now.stays ∙ h.0,
      stays_left now others above.1 h.1,
    )

    pub way_goes_on : (old new : Totals) → Rises nat_cmp (part ∷ left) → Ends old new at (part_line upload.class part.1.size) part.1.put
        → IsOnTheWay upload number at books old (part ∷ left) → IsOnTheWay upload number at books new left
    way_goes_on old new rises ends way = record {
      now = with_end upload.key (of_part number part.0) at way.now;
      stands = item_ended upload.key (of_part number part.0) (part_line upload.class part.1.size) part.1.put at way.now way.stays.0 old new way.stands ends;
      stays = stays_left way.now left rises.0 way.stays.1;
      leads = way.leads;
    }

-- the rows stay
pub endable_kept : (at : ℕ) (old new : Totals) → ((month : ℕ) → HasRow old month → HasRow new month) → (parts : List (ℕ × Part)) → AreEndableAt at old parts → AreEndableAt at new parts
endable_kept at old new kept parts h =
    every_weaker (λ (part : ℕ × Part). (part.1.put ≤ at) × HasRowsFrom part.1.put at old) (λ (part : ℕ × Part). (part.1.put ≤ at) × HasRowsFrom part.1.put at new)
    (λ part is. (is.0, λ month from to. kept month (is.1 month from to))) parts h
