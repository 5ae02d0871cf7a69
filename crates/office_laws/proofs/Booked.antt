-- What is booked has happened by the last moment, after each kind of booking.
use Rattle.std.proofs.Common.{ℕ, ◌+◌, ◌-◌, ◌*◌, ◌≤◌, List, [], ◌∷◌, Bool, true, false, cond, arith, map}
use Rattle.std.specs.Prelude.{Option, Some, None, fold, nat_lt}
use Rattle.class_rules.specs.Classes.{least_stay}
use Rattle.class_rules.specs.Lines.{own_bytes}
use Rattle.stacks.specs.Stacks.{with_class}
use Rattle.class_rules.specs.declared.class.Class.{Class}
use Rattle.stacks.specs.declared.version.Kind.{Kind}
use Rattle.stacks.specs.declared.version.Kind.TheVariants.{Object, Marker}
use Rattle.stacks.specs.declared.version.Version.{Version}
use Rattle.uploads.specs.declared.part.Part.{Part}
use Rattle.plain_office.specs.Office.{Item, of_version, of_part, Booked, Books, book_of, stay_in}
use Rattle.plain_office.specs.Books.{is_open_stay, with_stay, with_end, with_early, with_version, without_version, without_option, lines_of_kind}
use Rattle.std.specs.List.{AllByRecursion}
use Rattle.accrual.specs.Books.{Move, Early, open_stay, HasEndedBy, IsStayBy, IsBookedBy}
use Rattle.office_laws.proofs.Lists.{every_append, every_weaker, every_map}
use Rattle.office_laws.proofs.Stays.{after_end}
use Rattle.plain_office.specs.Changes.{books_moved}

ended_later : (a b : ℕ) → a ≤ b → (to : Option ℕ) → HasEndedBy a to → HasEndedBy b to
ended_later a b later None h = tt
ended_later a b later (Some to) h = omega (arith, later, h)

pub booked_later : (a b : ℕ) → a ≤ b → (books : Books) → IsBookedBy a (book_of books) → IsBookedBy b (book_of books)
booked_later a b later books h = record {
  stays = every_weaker (IsStayBy a) (IsStayBy b) (λ stay is. let from = is.0 in (omega (arith, later, from), ended_later a b later stay.to is.1)) (book_of books).stays h.stays;
  early = every_weaker (λ (early : Early). early.moment ≤ a) (λ (early : Early). early.moment ≤ b) (λ early is. omega (arith, later, is)) books.early h.early;
  moves = every_weaker (λ (move : Move). move.moment ≤ a) (λ (move : Move). move.moment ≤ b) (λ move is. omega (arith, later, is)) books.moves h.moves;
}

abbrev IsBooked : ℕ → Booked → Type 0
IsBooked t stay = IsStayBy t stay.1

out : (t : ℕ) (stays : List Booked) → AllByRecursion (IsStayBy t) (map stay_in stays) → AllByRecursion (IsBooked t) stays
out t [] h = tt
out t (stay ∷ stays) h = (h.0, out t stays h.1)

into : (t : ℕ) (stays : List Booked) → AllByRecursion (IsBooked t) stays → AllByRecursion (IsStayBy t) (map stay_in stays)
into t [] h = tt
into t (stay ∷ stays) h = (h.0, into t stays h.1)

module _ (t at : ℕ) (by : at ≤ t) where
  pub booked_begun : (key : List ℕ) (item : Item) (lines : List (Class × ℕ)) (books : Books) → IsBookedBy t (book_of books) → IsBookedBy t (book_of (with_stay key item lines at books))
  booked_begun key item lines books h =
      record {
        stays = into t _ (every_append (IsBooked t) books.stays
            ((record { key = key; item = item }, open_stay lines at) ∷ []) (out t books.stays h.stays)
            ((by, tt), tt));
        early = h.early;
        moves = h.moves;
      }

  stay_ended : (key : List ℕ) (item : Item) (stay : Booked) → IsBooked t stay → IsBooked t (after_end key item at stay)
  stay_ended key item stay h = either (is_open_stay key item stay) where
    either : (b : Bool) → IsBooked t (cond {A = Booked} b (stay.0, record stay.1 { to = Some at }) stay)
    either true = (h.0, by)
    either false = h

  pub booked_ended : (key : List ℕ) (item : Item) (books : Books) → IsBookedBy t (book_of books) → IsBookedBy t (book_of (with_end key item at books))
  booked_ended key item books h = record {
    stays = into t _ (every_map (IsBooked t) (IsBooked t) (after_end key item at) (stay_ended key item) books.stays (out t books.stays h.stays));
    early = h.early;
    moves = h.moves;
  }

  either_booked : (b : Bool) (a c : Books) → IsBookedBy t (book_of a) → IsBookedBy t (book_of c) → IsBookedBy t (book_of (cond b a c))
  either_booked true a c h k = h
  either_booked false a c h k = k

  booked_early : (kind : Kind) (books : Books) → IsBookedBy t (book_of books) → IsBookedBy t (book_of (with_early kind at books))
  booked_early Marker books h = h
  booked_early (Object size class tags entered) books h =
      either_booked (nat_lt at (entered + least_stay class)) _ books
      (record {
        stays = h.stays;
        early = every_append (λ (early : Early). early.moment ≤ t) books.early
            (record { class = class; amount = own_bytes class size * (entered + least_stay class - at); moment = at } ∷ []) h.early (by, tt);
        moves = h.moves;
      })
      h

  pub booked_version : (key : List ℕ) (version : Version) (books : Books) → IsBookedBy t (book_of books) → IsBookedBy t (book_of (with_version key version at books))
  booked_version key version books h = booked_begun key (of_version version.id) (lines_of_kind key version.kind) books h

  pub booked_gone : (key : List ℕ) (version : Version) (books : Books) → IsBookedBy t (book_of books) → IsBookedBy t (book_of (without_version key version at books))
  booked_gone key version books h = booked_early version.kind (with_end key (of_version version.id) at books) (booked_ended key (of_version version.id) books h)

  pub booked_option : (key : List ℕ) (version : Option Version) (books : Books) → IsBookedBy t (book_of books) → IsBookedBy t (book_of (without_option key version at books))
  booked_option key None books h = h
  booked_option key (Some version) books h = booked_gone key version books h

  pub booked_moved : (key : List ℕ) (to : Class) (version : Option Version) (books : Books) → IsBookedBy t (book_of books) → IsBookedBy t (book_of (books_moved key version to at books))
  booked_moved key to None books h = h
  booked_moved key to (Some version) books h =
      let there = booked_version key (with_class to at version) (without_version key version at books) (booked_gone key version books h) in
      record {
        stays = there.stays;
        early = there.early;
        moves = every_append (λ (move : Move). move.moment ≤ t)
            (with_version key (with_class to at version) at (without_version key version at books)).moves
            (record { class = to; moment = at } ∷ []) there.moves (by, tt);
      }

  pub booked_parts : (key : List ℕ) (number : ℕ) (parts : List (ℕ × Part)) (books : Books) → IsBookedBy t (book_of books)
      → IsBookedBy t (book_of (fold (λ books part. with_end key (of_part number part.0) at books) books parts))
  booked_parts key number [] books h = h
  booked_parts key number (e ∷ parts) books h = booked_parts key number parts (with_end key (of_part number e.0) at books) (booked_ended key (of_part number e.0) books h)
