-- The meters while the stays of a bucket's records are opened one after another.
use Rattle.std.proofs.Common.{◌≡◌, List, [], ◌++◌, map, refl, ap, sym, ◌∙◌, subst, append_assoc}
use Rattle.std.proofs.lemmas.List.{append-nil, map-append}
use Rattle.accrual.specs.Books.{Book, Stay}
use Rattle.accrual.specs.Totals.{Totals, AreTotalsOf}
use Rattle.plain_office.specs.Office.{Booked, stay_in}
use Rattle.bucket_account.specs.Restoring.{AddsStays}

-- of all these stays the ones that are left are still to be booked
pub record IsOpening (old new : Totals) (left all : List Booked) : Type 0 where
  pub so_far : (book : Book) → AreTotalsOf old book
      → (done : List Stay) × (done ++ map stay_in left ≡ map stay_in all) × AreTotalsOf new (record book { stays = book.stays ++ done })

abbrev pub with_stays : List Stay → Book → Book
with_stays stays book = record { stays = stays; early = book.early; moves = book.moves }

pub opening_begins : (meters : Totals) (all : List Booked) → IsOpening meters meters all all
opening_begins meters all = record {
  so_far = λ book stands. ([], refl, subst (λ (stays : List Stay). AreTotalsOf meters (with_stays stays book)) (sym (append-nil book.stays)) stands);
}

pub opening_more : (old new newer : Totals) (some left all : List Booked) → AddsStays some new newer → IsOpening old new (some ++ left) all → IsOpening old newer left all
opening_more old new newer some left all adds opening = record {
  so_far = λ book stands.
      let before = opening.so_far book stands in
      let done : List Stay = before.0 in (
        done ++ map stay_in some,
        append_assoc done (map stay_in some) (map stay_in left) ∙ ap (λ (l : List Stay). done ++ l) (sym (map-append stay_in some left)) ∙ before.1,
        subst (λ (stays : List Stay). AreTotalsOf newer (with_stays stays book)) (append_assoc book.stays done (map stay_in some))
            (adds (with_stays (book.stays ++ done) book) before.2),
      );
}

pub opening_ends : (old new : Totals) (all : List Booked) → IsOpening old new [] all → AddsStays all old new
opening_ends old new all opening = λ book stands.
    let after = opening.so_far book stands in
    subst (λ (stays : List Stay). AreTotalsOf new (with_stays (book.stays ++ stays) book)) (sym (append-nil after.0) ∙ after.1) after.2

-- meters with more rows stand for the same books
pub opening_same : (old new newer : Totals) (left all : List Booked) → ((book : Book) → AreTotalsOf new book → AreTotalsOf newer book) → IsOpening old new left all → IsOpening old newer left all
opening_same old new newer left all keeps opening = record {
  so_far = λ book stands. let before = opening.so_far book stands in (before.0, before.1, keeps (with_stays (book.stays ++ before.0) book) before.2);
}
