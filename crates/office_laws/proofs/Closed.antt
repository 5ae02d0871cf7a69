-- A booking at a moment changes no reading of a month that is over by then.
use Rattle.std.proofs.Common.{◌≡◌, ℕ, ◌+◌, ◌-◌, ◌*◌, ◌≤◌, List, [], ◌∷◌, ◌++◌, map, length, length-append, refl, ap, ◌∙◌, Bool, true, false, ◌&&◌, cond, filter, arith, sym}
use Rattle.std.specs.Prelude.{Option, Some, None, is_none, unwrap_or, sum_by, fold, min, max, nat_lt, nat_le}
use Rattle.std.specs.Str.{bytes_eq}
use Rattle.std.proofs.lemmas.Bool.{and_parts, and_right, le-ltb}
use Rattle.std.proofs.lemmas.List.Elements.{filter-append}
use Rattle.std.proofs.lemmas.List.Sums.{sum_by-append, sum_by-cons}
use Rattle.moments.specs.Months.{month_start, month_end}
use Rattle.class_rules.specs.Classes.{least_stay}
use Rattle.class_rules.specs.Lines.{own_bytes}
use Rattle.class_rules.specs.declared.class.Class.{Class}
use Rattle.stacks.specs.declared.version.Kind.{Kind}
use Rattle.stacks.specs.declared.version.Kind.TheVariants.{Object, Marker}
use Rattle.stacks.specs.declared.version.Version.{Version}
use Rattle.uploads.specs.declared.part.Part.{Part}
use Rattle.accrual.specs.Books.{Stay, Early, Move, Book, open_stay}
use Rattle.plain_office.specs.Office.{Booked, book_of, stay_in, Item, of_version, of_part, Books}
use Rattle.plain_office.specs.Books.{same_item, is_open_stay, with_stay, with_end, with_early, with_version, without_version, without_option}
use Rattle.accrual.specs.Meters.{same_class, bytes_in_class, overlap, meter, is_in_month, early_quantity, move_count}
use Rattle.office_laws.proofs.Stays.{after_end}

-- ---- a stay, seen once the month is over

-- the bytes of a class times the milliseconds in a window, as seen at a moment
abbrev pub used : ℕ → ℕ → Class → ℕ → Stay → ℕ
used start end class t stay = bytes_in_class class stay.lines * overlap t start end stay

length_seen : (start end from t : ℕ) → end ≤ t → (to : Option ℕ) → min (min (unwrap_or to t) t) end - max from start ≡ min (min (unwrap_or to end) end) end - max from start
length_seen start end from t le None = omega (arith, le)
length_seen start end from t le (Some to) = omega (arith, le)

pub used_seen : (start end : ℕ) (class : Class) (t : ℕ) → end ≤ t → (stay : Stay) → used start end class t stay ≡ used start end class end stay
used_seen start end class t le stay = ap (λ (n : ℕ). bytes_in_class class stay.lines * n) (length_seen start end stay.from t le stay.to)

no_length : (start end from t : ℕ) → end ≤ from → (to : Option ℕ) → min (min (unwrap_or to t) t) end - max from start ≡ 0
no_length start end from t le None = omega (arith, le)
no_length start end from t le (Some to) = omega (arith, le)

times_none : (n : ℕ) → n * 0 ≡ 0
times_none n = omega arith

-- one that begins afterwards
used_none : (start end : ℕ) (class : Class) (t : ℕ) (stay : Stay) → end ≤ stay.from → used start end class t stay ≡ 0
used_none start end class t stay le = ap (λ (n : ℕ). bytes_in_class class stay.lines * n) (no_length start end stay.from t le stay.to) ∙ times_none (bytes_in_class class stay.lines)

length_ended : (start end from at : ℕ) → end ≤ at → (to : Option ℕ) → is_none to ≡ true → min (min at end) end - max from start ≡ min (min (unwrap_or to end) end) end - max from start
length_ended start end from at le None h = omega (arith, le)
length_ended start end from at le (Some to) h = absurd cc

-- one that ends afterwards
used_ended : (start end : ℕ) (class : Class) (at : ℕ) (stay : Stay) → end ≤ at → is_none stay.to ≡ true → used start end class end (record stay { to = Some at }) ≡ used start end class end stay
used_ended start end class at stay le open_yet = ap (λ (n : ℕ). bytes_in_class class stay.lines * n) (length_ended start end stay.from at le stay.to open_yet)

same_sum : {X : Type 0} (f g : X → ℕ) → ((x : X) → f x ≡ g x) → (xs : List X) → sum_by f xs ≡ sum_by g xs
same_sum f g same [] = refl
same_sum f g same (x ∷ xs) =
    let here = same x in
    let rest = same_sum f g same xs in
    let a = sum_by-cons f x xs in
    let b = sum_by-cons g x xs in
    omega (arith, here, rest, a, b)

sum_mapped : {X : Type 0} (f : X → ℕ) (change : X → X) → ((x : X) → f (change x) ≡ f x) → (xs : List X) → sum_by f (map change xs) ≡ sum_by f xs
sum_mapped f change same [] = refl
sum_mapped f change same (x ∷ xs) =
    let here = same x in
    let rest = sum_mapped f change same xs in
    let a = sum_by-cons f (change x) (map change xs) in
    let b = sum_by-cons f x xs in
    omega (arith, here, rest, a, b)

sum_more : {X : Type 0} (f : X → ℕ) (xs : List X) (x : X) → f x ≡ 0 → sum_by f (xs ++ x ∷ []) ≡ sum_by f xs
sum_more f xs x none =
    let a = sum_by-append f xs (x ∷ []) in
    let b = sum_by-cons f x [] in
    omega (arith, a, b, none)

-- ---- the books

-- no reading of a month that is over at this moment changed
pub record KeepsBooks (until : ℕ) (before after : Books) : Type 0 where
  pub meters : (month : ℕ) (class : Class) → month_end month ≤ until → meter month class (month_end month) (book_of after) ≡ meter month class (month_end month) (book_of before)
  pub early : (month : ℕ) (class : Class) → month_end month ≤ until → early_quantity month class (book_of after) ≡ early_quantity month class (book_of before)
  pub moves : (month : ℕ) (class : Class) → month_end month ≤ until → move_count month class (book_of after) ≡ move_count month class (book_of before)

sum_in : (f : Stay → ℕ) (stays : List Booked) → sum_by f (map stay_in stays) ≡ sum_by (λ (stay : Booked). f stay.1) stays
sum_in f [] = refl
sum_in f (stay ∷ stays) =
    let rest = sum_in f stays in
    let a = sum_by-cons f stay.1 (map stay_in stays) in
    let b = sum_by-cons (λ (stay : Booked). f stay.1) stay stays in
    omega (arith, rest, a, b)

pub keeps_same : (until : ℕ) (books : Books) → KeepsBooks until books books
keeps_same until books = record { meters = λ month class le. refl; early = λ month class le. refl; moves = λ month class le. refl }

pub keeps_then : (until : ℕ) (a b c : Books) → KeepsBooks until a b → KeepsBooks until b c → KeepsBooks until a c
keeps_then until a b c h k = record {
  meters = λ month class le. k.meters month class le ∙ h.meters month class le;
  early = λ month class le. k.early month class le ∙ h.early month class le;
  moves = λ month class le. k.moves month class le ∙ h.moves month class le;
}

-- once a month is over its meter is the same at each moment
pub meter_seen : (month : ℕ) (class : Class) (t : ℕ) (books : Book) → month_end month ≤ t → meter month class t books ≡ meter month class (month_end month) books
unfolding meter
meter_seen month class t books le =
    same_sum (used (month_start month) (month_end month) class t) (used (month_start month) (month_end month) class (month_end month))
    (used_seen (month_start month) (month_end month) class t le) books.stays

module _ (until at : ℕ) (later : until ≤ at) where
  pub keeps_begun : (key : List ℕ) (item : Item) (lines : List (Class × ℕ)) (books : Books) → KeepsBooks until books (with_stay key item lines at books)
  unfolding meter early_quantity move_count
  keeps_begun key item lines books = record {
    meters = λ month class le.
        let f = used (month_start month) (month_end month) class (month_end month) in
        let new : Booked = (record { key = key; item = item }, open_stay lines at) in
        sum_in f (books.stays ++ new ∷ [])
        ∙ sum_more (λ (stay : Booked). f stay.1) books.stays new (used_none (month_start month) (month_end month) class (month_end month) (open_stay lines at) (omega (arith, le, later)))
        ∙ sym (sum_in f books.stays);
    early = λ month class le. refl;
    moves = λ month class le. refl;
  }

  used_after : (start end : ℕ) (class : Class) (key : List ℕ) (item : Item) → end ≤ at → (stay : Booked) → used start end class end (after_end key item at stay).1 ≡ used start end class end stay.1
  used_after start end class key item le stay = by (is_open_stay key item stay) refl where
    by : (b : Bool) → is_open_stay key item stay ≡ b → used start end class end (cond {A = Booked} b (stay.0, record stay.1 { to = Some at }) stay).1 ≡ used start end class end stay.1
    by true is =
        let a = and_parts (is_none stay.1.to && bytes_eq key stay.0.key) (same_item item stay.0.item) is in
        used_ended start end class at stay.1 le (and_parts (is_none stay.1.to) (bytes_eq key stay.0.key) a.0).0
    by false is = refl

  pub keeps_ended : (key : List ℕ) (item : Item) (books : Books) → KeepsBooks until books (with_end key item at books)
  unfolding meter early_quantity move_count
  keeps_ended key item books = record {
    meters = λ month class le.
        let f = used (month_start month) (month_end month) class (month_end month) in
        sum_in f (map (after_end key item at) books.stays)
        ∙ sum_mapped (λ (stay : Booked). f stay.1) (after_end key item at) (used_after (month_start month) (month_end month) class key item (omega (arith, le, later))) books.stays
        ∙ sym (sum_in f books.stays);
    early = λ month class le. refl;
    moves = λ month class le. refl;
  }

  not_in_month : (month : ℕ) → month_end month ≤ until → is_in_month month at ≡ false
  not_in_month month le = and_right (nat_le (month_start month) at) (nat_lt at (month_end month)) (le-ltb at (month_end month) (omega (arith, le, later)))

  owes_none : (month : ℕ) (class : Class) → month_end month ≤ until → (early : Early) → early.moment ≡ at → cond (same_class early.class class && is_in_month month early.moment) early.amount 0 ≡ 0
  owes_none month class le early is =
      let no_month : is_in_month month early.moment ≡ false = ap (λ (n : ℕ). is_in_month month n) is ∙ not_in_month month le in
      ap (λ (b : Bool). cond b early.amount 0) (and_right (same_class early.class class) (is_in_month month early.moment) no_month)

  pub keeps_owed : (early : Early) (books : Books) → early.moment ≡ at → KeepsBooks until books (record books { early = books.early ++ early ∷ [] })
  unfolding meter early_quantity move_count
  keeps_owed early books is = record {
    meters = λ month class le. refl;
    early = λ month class le. sum_more (λ (e : Early). cond (same_class e.class class && is_in_month month e.moment) e.amount 0) books.early early (owes_none month class le early is);
    moves = λ month class le. refl;
  }

  either_kept : (b : Bool) (a c books : Books) → KeepsBooks until books a → KeepsBooks until books c → KeepsBooks until books (cond b a c)
  either_kept true a c books h k = h
  either_kept false a c books h k = k

  pub keeps_early : (kind : Kind) (books : Books) → KeepsBooks until books (with_early kind at books)
  keeps_early Marker books = keeps_same until books
  keeps_early (Object size class tags entered) books =
      either_kept (nat_lt at (entered + least_stay class)) _ books books
      (keeps_owed (record { class = class; amount = own_bytes class size * (entered + least_stay class - at); moment = at }) books refl)
      (keeps_same until books)

  no_move : (month : ℕ) (class : Class) → month_end month ≤ until → (to : Class)
      → filter (λ (move : Move). same_class move.class class && is_in_month month move.moment)
      (record { class = to; moment = at } ∷ [])
      ≡ []
  no_move month class le to =
      ap (λ (b : Bool). cond {A = List Move} b (record { class = to; moment = at } ∷ []) []) (and_right (same_class to class) (is_in_month month at) (not_in_month month le))

  pub keeps_move : (to : Class) (books : Books) → KeepsBooks until books (record books { moves = books.moves ++ record { class = to; moment = at } ∷ [] })
  unfolding meter early_quantity move_count
  keeps_move to books = record {
    meters = λ month class le. refl;
    early = λ month class le. refl;
    moves = λ month class le.
        let test : Move → Bool = λ move. same_class move.class class && is_in_month month move.moment in
        let both =
        ap (λ (l : List Move). length l) (filter-append test books.moves (record { class = to; moment = at } ∷ []))
        ∙ length-append (filter test books.moves) (filter test (record { class = to; moment = at } ∷ [])) in
        let none = ap (λ (l : List Move). length l) (no_move month class le to) in
        omega (arith, both, none);
  }

  -- ---- versions and parts

  pub keeps_version : (key : List ℕ) (version : Version) (books : Books) → KeepsBooks until books (with_version key version at books)
  keeps_version key version books = keeps_begun key _ _ books

  pub keeps_gone : (key : List ℕ) (version : Version) (books : Books) → KeepsBooks until books (without_version key version at books)
  keeps_gone key version books =
      keeps_then until books (with_end key (of_version version.id) at books) (without_version key version at books) (keeps_ended key (of_version version.id) books)
      (keeps_early version.kind (with_end key (of_version version.id) at books))

  pub keeps_option : (key : List ℕ) (version : Option Version) (books : Books) → KeepsBooks until books (without_option key version at books)
  keeps_option key None books = keeps_same until books
  keeps_option key (Some version) books = keeps_gone key version books

  pub keeps_parts : (key : List ℕ) (number : ℕ) (parts : List (ℕ × Part)) (books : Books)
      → KeepsBooks until books (fold (λ books part. with_end key (of_part number part.0) at books) books parts)
  keeps_parts key number [] books = keeps_same until books
  keeps_parts key number (e ∷ parts) books =
      keeps_then until books (with_end key (of_part number e.0) at books) _ (keeps_ended key (of_part number e.0) books) (keeps_parts key number parts (with_end key (of_part number e.0) at books))
