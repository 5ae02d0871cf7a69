-- The books after a version's open stay ended, as meters book it.
use Rattle.std.proofs.Common.{◌≡◌, ℕ, ◌+◌, ◌-◌, ◌*◌, List, [], ◌∷◌, ◌++◌, map, refl, ap, sym, ◌∙◌, subst, Bool, true, false, cond}
use Rattle.std.specs.Prelude.{nat_lt}
use Rattle.std.proofs.lemmas.List.{map-append}
use Rattle.office_base.specs.Tags.{Tag}
use Rattle.class_rules.specs.Classes.{least_stay}
use Rattle.class_rules.specs.Lines.{own_bytes, object_lines, lines_of}
use Rattle.class_rules.specs.declared.billing.Lines.{Lines}
use Rattle.class_rules.specs.declared.class.Class.{Class}
use Rattle.stacks.specs.declared.version.Kind.{Kind}
use Rattle.stacks.specs.declared.version.Kind.TheVariants.{Object, Marker}
use Rattle.stacks.specs.declared.version.Version.{Version}
use Rattle.accrual.specs.Books.{Book, Stay, Early, open_stay, ended_stay, book_with_stay, book_with_early}
use Rattle.accrual.specs.Totals.{Totals, AreTotalsOf, HasOpenStay, with_early_of}
use Rattle.plain_office.specs.Office.{Books, of_version, book_of, stay_in}
use Rattle.plain_office.specs.Books as plain
use Rattle.plain_office.specs.Books.{lines_of_kind, with_end}
use Rattle.plain_office.specs.Orderly.{lines_since, stay_of_version}
use Rattle.bucket_account.specs.Booking.{HasStay}
use Rattle.office_laws.proofs.OneStay.{StandsOnce, one_stay}

module _ (key : List ℕ) (version : Version) (at : ℕ) (books : Books) (has : HasStay key version books) where
  abbrev lines : List (Class × ℕ)
  lines = lines_of_kind key version.kind

  abbrev from : ℕ
  from = lines_since version

  once : StandsOnce key (of_version version.id) at (stay_of_version key version) books.stays
  once = one_stay key (of_version version.id) at (stay_of_version key version) books.stays has

  abbrev before : List Stay
  before = map stay_in once.0

  abbrev after : List Stay
  after = map stay_in once.1

  stands_there : (book_of books).stays ≡ before ++ open_stay lines from ∷ after
  stands_there = ap (map stay_in) once.2 ∙ map-append stay_in once.0 (stay_of_version key version ∷ once.1)

  -- it is an open stay of the book
  pub has_open : HasOpenStay lines from (book_of books)
  has_open = (before, after, stands_there)

  abbrev ended : Book
  ended = record { stays = before ++ ended_stay lines from at ∷ after; early = books.early; moves = books.moves }

  ended_is : ended ≡ book_of (with_end key (of_version version.id) at books)
  ended_is =
      ap (λ (stays : List Stay). record { stays = stays; early = books.early; moves = books.moves })
      (sym (ap (map stay_in) once.3 ∙ map-append stay_in once.0 ((record { key = key; item = of_version version.id }, ended_stay lines from at) ∷ once.1)))

  -- what the meters say of the end, said of the books
  pub stay_ended : (old new : Totals) → AreTotalsOf old (book_of books)
      → ((book : Book) (front back : List Stay) → AreTotalsOf old book → book.stays ≡ front ++ open_stay lines from ∷ back
      → AreTotalsOf new (record book { stays = front ++ ended_stay lines from at ∷ back }))
      → AreTotalsOf new (book_of (with_end key (of_version version.id) at books))
  stay_ended old new stands ends = subst (AreTotalsOf new) ended_is (ends (book_of books) before after stands stands_there)

-- what an object owes, as the meters book it
pub early_is : (size : ℕ) (class : Class) (tags : List Tag) (entered at : ℕ) (books : Books)
    → with_early_of class (own_bytes class size) entered at (book_of books) ≡ book_of (plain.with_early (Object size class tags entered) at books)
early_is size class tags entered at books = by (nat_lt at (entered + least_stay class)) where
  entry : Early
  entry = record { class = class; amount = own_bytes class size * (entered + least_stay class - at); moment = at }

  by : (b : Bool) → cond b (book_with_early entry (book_of books)) (book_of books) ≡ book_of (cond b (record books { early = books.early ++ entry ∷ [] }) books)
  by true = refl
  by false = refl

-- a version begins
pub begun_is : (key : List ℕ) (version : Version) (at : ℕ) (books : Books)
    → book_with_stay (open_stay (lines_of_kind key version.kind) at) (book_of books) ≡ book_of (plain.with_version key version at books)
begun_is key version at books =
    ap (λ (stays : List Stay). record { stays = stays; early = books.early; moves = books.moves })
    (sym (map-append stay_in books.stays ((record { key = key; item = of_version version.id }, open_stay (lines_of_kind key version.kind) at) ∷ [])))

-- ---- a version goes, as its kind says

-- what the meters say of the end of a stay
abbrev pub Ends : Totals → Totals → ℕ → List (Class × ℕ) → ℕ → Type 0
Ends old new at lines from = (book : Book) (front back : List Stay) → AreTotalsOf old book → book.stays ≡ front ++ open_stay lines from ∷ back
    → AreTotalsOf new (record book { stays = front ++ ended_stay lines from at ∷ back })

module _ (key : List ℕ) (version : Version) (at : ℕ) (books : Books) (has : HasStay key version books) where
  abbrev of_kind : Kind → Version
  of_kind kind = record version { kind = kind }

  module _ (kind : Kind) (is : version.kind ≡ kind) (lines : List (Class × ℕ)) (same : lines ≡ lines_of_kind key kind) where
    pub opened : HasOpenStay lines (lines_since (of_kind kind)) (book_of books)
    opened =
        subst (λ (l : List (Class × ℕ)). HasOpenStay l (lines_since (of_kind kind)) (book_of books)) (sym same)
        (subst (λ (k : Kind). HasOpenStay (lines_of_kind key k) (lines_since (of_kind k)) (book_of books)) is (has_open key version at books has))

    pub gone : (old new : Totals) → AreTotalsOf old (book_of books) → Ends old new at lines (lines_since (of_kind kind)) → AreTotalsOf new (book_of (with_end key (of_version version.id) at books))
    gone old new stands ends =
        stay_ended key version at books has old new stands
        (subst (λ (k : Kind). Ends old new at (lines_of_kind key k) (lines_since (of_kind k))) (sym is)
        (subst (λ (l : List (Class × ℕ)). Ends old new at l (lines_since (of_kind kind))) same ends))

  pub object_gone : (size : ℕ) (class : Class) (tags : List Tag) (entered : ℕ)
      → version.kind ≡ Object size class tags entered → (lines : Lines) → lines_of lines ≡ object_lines class size
      → lines.class ≡ class → lines.bytes ≡ own_bytes class size
      → (old middle new : Totals) → AreTotalsOf old (book_of books) → Ends old middle at (lines_of lines) entered
      → ((book : Book) → AreTotalsOf middle book
      → AreTotalsOf new (with_early_of lines.class lines.bytes entered at book))
      → AreTotalsOf new (book_of (plain.without_version key version at books))
  object_gone size class tags entered is lines same of_class own old middle new stands ends owes =
      let left : Books = with_end key (of_version version.id) at books in
      let ended : AreTotalsOf middle (book_of left) = gone (Object size class tags entered) is (lines_of lines) same old middle stands ends in
      let owed : AreTotalsOf new (with_early_of lines.class lines.bytes entered at (book_of left)) = owes (book_of left) ended in
      let of_the_class : AreTotalsOf new (with_early_of class lines.bytes entered at (book_of left)) =
      subst (λ (c : Class). AreTotalsOf new (with_early_of c lines.bytes entered at (book_of left))) of_class
      owed in
      let of_bytes : AreTotalsOf new (with_early_of class (own_bytes class size) entered at (book_of left)) =
      subst (λ (n : ℕ). AreTotalsOf new (with_early_of class n entered at (book_of left))) own of_the_class in
      subst (λ (k : Kind). AreTotalsOf new (book_of (plain.with_early k at left))) (sym is)
      (subst (AreTotalsOf new) (early_is size class tags entered at left) of_bytes)

  pub marker_gone : version.kind ≡ Marker → (lines : List (Class × ℕ)) → lines ≡ lines_of_kind key Marker → (old new : Totals) → AreTotalsOf old (book_of books) → Ends old new at lines version.created
      → AreTotalsOf new (book_of (plain.without_version key version at books))
  marker_gone is lines same old new stands ends =
      let left : Books = with_end key (of_version version.id) at books in
      let ended : AreTotalsOf new (book_of left) = gone Marker is lines same old new stands ends in
      subst (λ (k : Kind). AreTotalsOf new (book_of (plain.with_early k at left))) (sym is) ended
