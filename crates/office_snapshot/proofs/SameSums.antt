-- Two lists of stays in which each item has the same open stays have the same sums over the stays without an end, in
-- whatever order the stays stand.
use Rattle.std.proofs.Common.{◌≡◌, ℕ, ◌+◌, List, [], ◌∷◌, ◌++◌, map, refl, sym, ap, ◌∙◌, Bool, true, false, cond, filter, arith, Option, Some, None}
use Rattle.std.specs.Prelude.{sum_by, is_none, ◌&&◌}
use Rattle.std.specs.Str.{bytes_eq}
use Rattle.std.proofs.lemmas.Bool.{and_parts, and_from}
use Rattle.std.proofs.lemmas.List.{map-append}
use Rattle.std.proofs.lemmas.List.Elements.{filter-append}
use Rattle.std.proofs.lemmas.List.Sums.{sum_by-append, sum_by-cons}
use Rattle.accrual.specs.Books.{Stay}
use Rattle.plain_office.specs.Office.{Item, Booked, stay_in}
use Rattle.plain_office.specs.Books.{same_item, is_open_stay}
use Rattle.office_laws.proofs.Maps.{bytes_itself, bytes_same}
use Rattle.office_laws.proofs.Stays.{open_of, item_itself, item_same}

-- ---- the first element that passes a test

record First {X : Type 0} (test : X → Bool) (x : X) (xs rest : List X) : Type 0 where
  front : List X
  back : List X
  is : xs ≡ front ++ x ∷ back
  none_before : filter test front ≡ []

module _ {X : Type 0} (test : X → Bool) (x : X) (rest : List X) where
  first_at : (y : X) (ys : List X) (b : Bool) → test y ≡ b → cond b (y ∷ filter test ys) (filter test ys) ≡ x ∷ rest
      → (filter test ys ≡ x ∷ rest → First test x ys rest) → First test x (y ∷ ys) rest
  first_at y ys true is h more =
      let same : y ≡ x = cc in
      record { front = []; back = ys; is = ap (λ (z : X). z ∷ ys) same; none_before = refl }
  first_at y ys false is h more =
      let m = more h in
      record { front = y ∷ m.front; back = m.back; is = ap (λ (l : List X). y ∷ l) m.is; none_before = rw is m.none_before }

  nothing_is : [] ≡ x ∷ rest → ⊥
  nothing_is h = absurd cc

  first_of : (xs : List X) → filter test xs ≡ x ∷ rest → First test x xs rest
  first_of [] h = absurd (nothing_is h)
  first_of (y ∷ ys) h = first_at y ys (test y) refl h (first_of ys)

-- ---- open stays

-- the stay is open for its own key and item
own_open : (stay : Booked) → is_none stay.1.to ≡ true → is_open_stay stay.0.key stay.0.item stay ≡ true
own_open stay open_yet = and_from _ _ (and_from (is_none stay.1.to) (bytes_eq stay.0.key stay.0.key) open_yet (bytes_itself stay.0.key)) (item_itself stay.0.item)

-- and for no other one
its_key : (key : List ℕ) (item : Item) (stay : Booked) → is_open_stay key item stay ≡ true → key ≡ stay.0.key
its_key key item stay is =
    let parts = and_parts (is_none stay.1.to && bytes_eq key stay.0.key) (same_item item stay.0.item) is in
    bytes_same key stay.0.key (and_parts (is_none stay.1.to) (bytes_eq key stay.0.key) parts.0).1

its_item : (key : List ℕ) (item : Item) (stay : Booked) → is_open_stay key item stay ≡ true → item ≡ stay.0.item
its_item key item stay is =
    let parts = and_parts (is_none stay.1.to && bytes_eq key stay.0.key) (same_item item stay.0.item) is in
    item_same item stay.0.item parts.1

-- one that has ended is open for none
skipped : (key : List ℕ) (item : Item) (stay : Booked) (stays : List Booked) → is_none stay.1.to ≡ false → open_of key item (stay ∷ stays) ≡ open_of key item stays
skipped key item stay stays ended = rw ended refl

-- the open stays of each item are the same
abbrev pub HaveSameOpen : List Booked → List Booked → Type 0
HaveSameOpen stays others = (key : List ℕ) (item : Item) → open_of key item stays ≡ open_of key item others

-- without the one stay, behind which all stays of its item stand in the second list
module _ (stay : Booked) (stays front back : List Booked) (own : open_of stay.0.key stay.0.item front ≡ [])
    (same : HaveSameOpen (stay ∷ stays) (front ++ stay ∷ back)) (key : List ℕ) (item : Item) where
  split_with : open_of key item (front ++ stay ∷ back) ≡ open_of key item front ++ open_of key item (stay ∷ back)
  split_with = filter-append (is_open_stay key item) front (stay ∷ back)

  split : open_of key item (front ++ back) ≡ open_of key item front ++ open_of key item back
  split = filter-append (is_open_stay key item) front back

  tails : {x : Booked} {xs ys : List Booked} → x ∷ xs ≡ x ∷ ys → xs ≡ ys
  tails h = cc

  without_by : (b : Bool) → is_open_stay key item stay ≡ b → open_of key item stays ≡ open_of key item (front ++ back)
  without_by true is =
      let none : open_of key item front ≡ [] = (λ i. open_of (its_key key item stay is i) (its_item key item stay is i) front) ∙ own in
      let left : open_of key item (stay ∷ stays) ≡ stay ∷ open_of key item stays = rw is refl in
      let right : open_of key item (stay ∷ back) ≡ stay ∷ open_of key item back = rw is refl in
      let both : stay ∷ open_of key item stays ≡ stay ∷ open_of key item back =
      sym left ∙ same key item ∙ split_with ∙ (λ i. none i ++ right i) in
      tails both ∙ sym (split ∙ (λ i. none i ++ open_of key item back))
  without_by false is =
      let left : open_of key item (stay ∷ stays) ≡ open_of key item stays = rw is refl in
      let right : open_of key item (stay ∷ back) ≡ open_of key item back = rw is refl in
      sym left ∙ same key item ∙ split_with ∙ ap (λ (l : List Booked). open_of key item front ++ l) right ∙ sym split

  without : open_of key item stays ≡ open_of key item (front ++ back)
  without = without_by (is_open_stay key item stay) refl

-- ---- sums

module _ (f : Stay → ℕ) (none : (stay : Stay) → is_none stay.to ≡ false → f stay ≡ 0) where
  abbrev total : List Booked → ℕ
  total stays = sum_by f (map stay_in stays)

  total_more : (stay : Booked) (stays : List Booked) → total (stay ∷ stays) ≡ f stay.1 + total stays
  total_more stay stays = sum_by-cons f stay.1 (map stay_in stays)

  total_joined : (stays others : List Booked) → total (stays ++ others) ≡ total stays + total others
  total_joined stays others = ap (sum_by f) (map-append stay_in stays others) ∙ sum_by-append f (map stay_in stays) (map stay_in others)

  -- where no stay is open
  pub none_open : (stays : List Booked) → ((key : List ℕ) (item : Item) → open_of key item stays ≡ []) → total stays ≡ 0
  none_open [] h = refl
  none_open (stay ∷ stays) h = by (is_none stay.1.to) refl (λ k. none_open stays k) where
    by : (b : Bool) → is_none stay.1.to ≡ b → (((key : List ℕ) (item : Item) → open_of key item stays ≡ []) → total stays ≡ 0) → total (stay ∷ stays) ≡ 0
    by true is more =
        let there : open_of stay.0.key stay.0.item (stay ∷ stays) ≡ stay ∷ open_of stay.0.key stay.0.item stays = rw (own_open stay is) refl in
        let not : [] ≡ stay ∷ open_of stay.0.key stay.0.item stays = sym (h stay.0.key stay.0.item) ∙ there in
        absurd cc
    by false is more =
        let rest = more (λ key item. sym (skipped key item stay stays is) ∙ h key item) in
        let here = none stay.1 is in
        let all = total_more stay stays in
        omega (arith, rest, here, all)

  pub same_total : (stays others : List Booked) → HaveSameOpen stays others → total stays ≡ total others
  same_total [] others h = sym (none_open others (λ key item. sym (h key item)))
  same_total (stay ∷ stays) others h = by (is_none stay.1.to) refl (λ rest k. same_total stays rest k) where
    by : (b : Bool) → is_none stay.1.to ≡ b → ((rest : List Booked) → HaveSameOpen stays rest → total stays ≡ total rest) → total (stay ∷ stays) ≡ total others
    by true is more =
        let there : open_of stay.0.key stay.0.item (stay ∷ stays) ≡ stay ∷ open_of stay.0.key stay.0.item stays = rw (own_open stay is) refl in
        let found = first_of (is_open_stay stay.0.key stay.0.item) stay (open_of stay.0.key stay.0.item stays) others (sym (h stay.0.key stay.0.item) ∙ there) in
        let rest = more (found.front ++ found.back)
        (λ key item. without stay stays found.front found.back found.none_before (λ k i. h k i ∙ ap (λ (l : List Booked). open_of k i l) found.is) key item) in
        let all = total_more stay stays in
        let whole = ap total found.is ∙ total_joined found.front (stay ∷ found.back) in
        let after = total_more stay found.back in
        let joined = total_joined found.front found.back in
        omega (arith, rest, all, whole, after, joined)
    by false is more =
        let rest = more others (λ key item. sym (skipped key item stay stays is) ∙ h key item) in
        let here = none stay.1 is in
        let all = total_more stay stays in
        omega (arith, rest, here, all)
