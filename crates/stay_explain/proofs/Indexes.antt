-- Rows and the index of their open stays, after an end and after a beginning.
use Rattle.std.proofs.Common.{◌≡◌, ℕ, suc, zero, List, [], ◌∷◌, ◌++◌, length, map, filter, slice_set, refl, ap, sym, ◌∙◌, subst, Bool, true, false, cond, ◌&&◌, arith, ◌⊎◌, inl, inr}
use Rattle.std.specs.Prelude.{Option, Some, None, is_none, slice_get, slice_index_or, ◌==◌}
use Rattle.std.specs.Str.{bytes_eq}
use Rattle.std.specs.declared.cmp.Ordering.{Ordering}
use Rattle.std.specs.Map.{lookup}
use Rattle.std.specs.BTreeMap.{is_at}
use Rattle.std.proofs.lemmas.Bool.{and_parts, and_from, eqb-true, both_ways}
use Rattle.std.proofs.lemmas.Option.{get_or_from_slice_get}
use Rattle.std.proofs.lemmas.Slice.Eq.{bytes_eq-Decides}
use Rattle.plain_office.specs.Office.{Booked}
use Rattle.plain_office.specs.Books.{is_open_stay, same_item}
use Rattle.office_laws.proofs.Maps.{bytes_itself}
use Rattle.office_laws.proofs.Stays.{item_itself}
use Rattle.stay_explain.specs.declared.row.Item.{Item as Spot}
use Rattle.stay_explain.specs.declared.row.Item.TheVariants as spot
use Rattle.stay_explain.specs.declared.row.Owner.{Owner}
use Rattle.stay_explain.specs.declared.row.Row.{Row}
use Rattle.stay_explain.specs.Rows.{item_of, booked_of, IsOpenAt, IsIndex}
use Rattle.stay_explain.specs.Plans.{end_stay, end_stays}

-- ---- an open row is the open stay of its owner, and of no other

same_spot : (a b : Spot) → same_item (item_of a) (item_of b) ≡ true → b ≡ a
same_spot spot.Null spot.Null h = refl
same_spot spot.Null (spot.Number n) h = absurd cc
same_spot spot.Null (spot.Part u p) h = absurd cc
same_spot (spot.Number m) spot.Null h = absurd cc
same_spot (spot.Number m) (spot.Number n) h = ap spot.Number (sym (eqb-true m n h))
same_spot (spot.Number m) (spot.Part u p) h = absurd cc
same_spot (spot.Part v q) spot.Null h = absurd cc
same_spot (spot.Part v q) (spot.Number n) h = absurd cc
same_spot (spot.Part v q) (spot.Part u p) h =
    let e = and_parts (v == u) (q == p) h in
    λ i. spot.Part (sym (eqb-true v u e.0) i) (sym (eqb-true q p e.1) i)

abbrev opens : Owner → Row → Bool
opens owner row = is_open_stay owner.key (item_of owner.item) (booked_of row)

none_of : (o : Option ℕ) → is_none o ≡ true → o ≡ None
none_of None h = refl
none_of (Some t) h = absurd cc

-- what passes the test of an open stay is open, and the owner's
pub opens_is : (owner : Owner) (row : Row) → opens owner row ≡ true → (row.owner ≡ owner) × (row.to ≡ None)
opens_is owner row h =
    let a = and_parts (is_none row.to && bytes_eq owner.key row.owner.key) (same_item (item_of owner.item) (item_of row.owner.item)) h in
    let b = and_parts (is_none row.to) (bytes_eq owner.key row.owner.key) a.0 in (
      λ i. record { key = sym ((bytes_eq-Decides owner.key row.owner.key).0 b.1) i; item = same_spot owner.item row.owner.item a.1 i },
      none_of row.to b.0,
    )

pub is_opens : (owner : Owner) (row : Row) → row.owner ≡ owner → row.to ≡ None → opens owner row ≡ true
is_opens owner row owns open_yet =
    subst (λ (o : Owner). opens o row ≡ true) owns
    (and_from (is_none row.to && bytes_eq row.owner.key row.owner.key) (same_item (item_of row.owner.item) (item_of row.owner.item))
    (and_from (is_none row.to) (bytes_eq row.owner.key row.owner.key) (ap is_none open_yet) (bytes_itself row.owner.key))
    (item_itself (item_of row.owner.item)))

-- ---- places in a list

module _ {X : Type 0} where
  pub get_set_same : (xs : List X) (i : ℕ) (x y : X) → slice_get xs i ≡ Some x → slice_get (slice_set xs i y) i ≡ Some y
  get_set_same [] i x y h = absurd cc
  get_set_same (z ∷ xs) zero x y h = refl
  get_set_same (z ∷ xs) (suc i) x y h = get_set_same xs i x y h

  pub get_set_other : (xs : List X) (i j : ℕ) (y : X) → (j ≡ i → ⊥) → slice_get (slice_set xs i y) j ≡ slice_get xs j
  get_set_other [] i j y h = refl
  get_set_other (z ∷ xs) zero zero y h = absurd (h refl)
  get_set_other (z ∷ xs) zero (suc j) y h = refl
  get_set_other (z ∷ xs) (suc i) zero y h = refl
  get_set_other (z ∷ xs) (suc i) (suc j) y h = get_set_other xs i j y (λ e. h (ap (λ (n : ℕ). suc n) e))

  pub get_end : (xs : List X) (y : X) → slice_get (xs ++ y ∷ []) (length xs) ≡ Some y
  get_end [] y = refl
  get_end (x ∷ xs) y = get_end xs y

  pub get_front : (xs ys : List X) (i : ℕ) (x : X) → slice_get xs i ≡ Some x → slice_get (xs ++ ys) i ≡ Some x
  get_front [] ys i x h = absurd cc
  get_front (z ∷ xs) ys zero x h = h
  get_front (z ∷ xs) ys (suc i) x h = get_front xs ys i x h

  pub get_or_end : (xs : List X) (y x : X) (i : ℕ) → slice_get (xs ++ y ∷ []) i ≡ Some x → (slice_get xs i ≡ Some x) ⊎ ((i ≡ length xs) × (y ≡ x))
  get_or_end [] y x zero h = inr (refl, let e : y ≡ x = cc in e)
  get_or_end [] y x (suc i) h = absurd cc
  get_or_end (z ∷ xs) y x zero h = inl h
  get_or_end (z ∷ xs) y x (suc i) h = by (get_or_end xs y x i h) where
    by : (slice_get xs i ≡ Some x) ⊎ ((i ≡ length xs) × (y ≡ x)) → (slice_get xs i ≡ Some x) ⊎ ((suc i ≡ suc (length xs)) × (y ≡ x))
    by (inl a) = inl a
    by (inr b) = inr (ap (λ (n : ℕ). suc n) b.0, b.1)

  -- what is there passes no test that nothing passes
  pub none_passes : (test : X → Bool) (xs : List X) (i : ℕ) (x : X) → slice_get xs i ≡ Some x → filter test xs ≡ [] → test x ≡ true → ⊥
  none_passes test [] i x h none passes = absurd cc
  none_passes test (z ∷ xs) zero x h none passes = by (test z) refl none where
    by : (b : Bool) → test z ≡ b → cond b (z ∷ filter test xs) (filter test xs) ≡ [] → ⊥
    by true is n = absurd cc
    by false is n = let same : z ≡ x = cc in let t : test z ≡ true = ap test same ∙ passes in absurd cc
  none_passes test (z ∷ xs) (suc i) x h none passes = by (test z) none (λ n. none_passes test xs i x h n passes) where
    by : (b : Bool) → cond b (z ∷ filter test xs) (filter test xs) ≡ [] → (filter test xs ≡ [] → ⊥) → ⊥
    by true n more = absurd cc
    by false n more = more n

get_mapped : (rows : List Row) (i : ℕ) (row : Row) → slice_get rows i ≡ Some row → slice_get (map booked_of rows) i ≡ Some (booked_of row)
get_mapped [] i row h = absurd cc
get_mapped (r ∷ rows) zero row h = let same : r ≡ row = cc in ap (λ (x : Row). Some (booked_of x)) same
get_mapped (r ∷ rows) (suc i) row h = get_mapped rows i row h

-- ---- an end

abbrev pub ended : ℕ → Row → Row
ended at row = record row { to = Some at }

module _ (owner : Owner) (at : ℕ) where
  abbrev ends : Booked → Booked
  ends = end_stay owner.key (item_of owner.item) at

  -- a row that is not the owner's open one stays
  stays_by : (row : Row) (b : Bool) → opens owner row ≡ b → (b ≡ true → ⊥) → ends (booked_of row) ≡ booked_of row
  stays_by row true is h = absurd (h refl)
  stays_by row false is h = rw is refl

  stays_as : (row : Row) → ((row.owner ≡ owner) → (row.to ≡ None) → ⊥) → ends (booked_of row) ≡ booked_of row
  stays_as row h = stays_by row (opens owner row) refl (λ e. let o = opens_is owner row (opened row e) in h o.0 o.1) where
    opened : (row : Row) → opens owner row ≡ true → opens owner row ≡ true
    opened row e = e

  ends_as : (row : Row) → row.owner ≡ owner → row.to ≡ None → ends (booked_of row) ≡ booked_of (ended at row)
  ends_as row owns open_yet = let is = is_opens owner row owns open_yet in rw is refl

  -- if the owner has no open stay nothing ends
  pub none_end : (rows : List Row) → ((p : ℕ) → IsOpenAt owner p rows → ⊥) → map booked_of rows ≡ end_stays owner.key (item_of owner.item) at (map booked_of rows)
  none_end [] h = refl
  none_end (row ∷ rows) h = λ i.
      sym (stays_as row (λ owns open_yet. h 0 (record { row = row; there = refl; owns = owns; open_yet = open_yet }))) i
      ∷ none_end rows (λ p is. h (suc p) (record { row = is.row; there = is.there; owns = is.owns; open_yet = is.open_yet })) i

  -- else the one that is open ends
  pub one_ends : (rows : List Row) (place : ℕ) (row : Row) → slice_get rows place ≡ Some row → row.owner ≡ owner → row.to ≡ None → ((p : ℕ) → IsOpenAt owner p rows → p ≡ place)
      → map booked_of (slice_set rows place (ended at row)) ≡ end_stays owner.key (item_of owner.item) at (map booked_of rows)
  one_ends [] place row there owns open_yet one = absurd cc
  one_ends (r ∷ rows) zero row there owns open_yet one =
      let same : r ≡ row = cc in
      λ i. (sym (ends_as row owns open_yet) ∙ ap (λ (x : Row). ends (booked_of x)) (sym same)) i
      ∷ none_end rows (λ p is. let no : suc p ≡ 0 = one (suc p) (record { row = is.row; there = is.there; owns = is.owns; open_yet = is.open_yet }) in absurd (omega (arith, no))) i
  one_ends (r ∷ rows) (suc place) row there owns open_yet one = λ i.
      sym (stays_as r (λ o t. let no : 0 ≡ suc place = one 0 (record { row = r; there = refl; owns = o; open_yet = t }) in absurd (omega (arith, no)))) i
      ∷ one_ends rows place row there owns open_yet (λ p is.
      let e : suc p ≡ suc place = one (suc p)
      (record { row = is.row; there = is.there; owns = is.owns; open_yet = is.open_yet }) in
      omega (arith, e)) i

module _ (rows : List Row) (find find_after : Owner → Option ℕ) (owner : Owner) (test : Owner → Bool)
    (same : (other : Owner) → test other ≡ true → other ≡ owner) (itself : test owner ≡ true)
    (index : IsIndex rows find) where
  some_is : (p q : ℕ) → Some p ≡ Some q → p ≡ q
  some_is p q h = cc

  none_is : (o : Option ℕ) (p : ℕ) → o ≡ None → o ≡ Some p → ⊥
  none_is o p h k = absurd cc

  row_is : (a b : Row) → Some a ≡ Some b → a ≡ b
  row_is a b h = cc

  -- the owner's own place is the only one
  only : (place : ℕ) → find owner ≡ Some place → (p : ℕ) → IsOpenAt owner p rows → p ≡ place
  only place is p o = some_is p place (sym (index.kept owner p o) ∙ is)

  module _ (updates : (other : Owner) → find_after other ≡ cond (test other) None (find other)) where
    after_at : (other : Owner) (b : Bool) → test other ≡ b → find_after other ≡ cond b None (find other)
    after_at other b is = updates other ∙ ap (λ (c : Bool). cond c None (find other)) is

    -- nothing was there
    pub index_none : find owner ≡ None → IsIndex rows find_after
    index_none none = record { found = λ other p is. index.found other p (sym (as_before other) ∙ is); kept = λ other p o. as_before other ∙ index.kept other p o } where
      as_by : (other : Owner) (b : Bool) → test other ≡ b → find_after other ≡ find other
      as_by other true is = after_at other true is ∙ sym (ap find (same other is) ∙ none)
      as_by other false is = after_at other false is

      as_before : (other : Owner) → find_after other ≡ find other
      as_before other = as_by other (test other) refl

    pub none_open : find owner ≡ None → (p : ℕ) → IsOpenAt owner p rows → ⊥
    none_open none p o = none_is (find owner) p none (index.kept owner p o)

    module _ (place : ℕ) (is : find owner ≡ Some place) (row : Row) (there : slice_get rows place ≡ Some row) (at : ℕ) where
      abbrev rows_after : List Row
      rows_after = slice_set rows place (ended at row)

      owner_open : IsOpenAt owner place rows
      owner_open = index.found owner place is

      same_row : owner_open.row ≡ row
      same_row = row_is owner_open.row row (sym owner_open.there ∙ there)

      pub owns_row : row.owner ≡ owner
      owns_row = ap (λ (r : Row). r.owner) (sym same_row) ∙ owner_open.owns

      pub open_row : row.to ≡ None
      open_row = ap (λ (r : Row). r.to) (sym same_row) ∙ owner_open.open_yet

      -- another owner's open stay is elsewhere
      elsewhere : (other : Owner) (p : ℕ) → test other ≡ false → IsOpenAt other p rows → p ≡ place → ⊥
      elsewhere other p differs o e =
          let there_too : slice_get rows p ≡ Some row = ap (slice_get rows) e ∙ there in
          let r = row_is o.row row (sym o.there ∙ there_too) in
          let own : other ≡ owner = sym o.owns ∙ ap (λ (x : Row). x.owner) r ∙ owns_row in
          both_ways (test other) differs (ap test own ∙ itself)

      found_by : (other : Owner) (p : ℕ) (b : Bool) → test other ≡ b → cond b None (find other) ≡ Some p → IsOpenAt other p rows_after
      found_by other p true differs h = absurd cc
      found_by other p false differs h =
          let o = index.found other p h in
          record { row = o.row; there = get_set_other rows place p (ended at row) (elsewhere other p differs o) ∙ o.there; owns = o.owns; open_yet = o.open_yet }

      was_open : (other : Owner) (p : ℕ) → IsOpenAt other p rows_after → (p ≡ place → ⊥) → IsOpenAt other p rows
      was_open other p o apart = record { row = o.row; there = sym (get_set_other rows place p (ended at row) apart) ∙ o.there; owns = o.owns; open_yet = o.open_yet }

      not_here : (other : Owner) (p : ℕ) → IsOpenAt other p rows_after → p ≡ place → ⊥
      not_here other p o e =
          let here : slice_get rows_after p ≡ Some (ended at row) = ap (slice_get rows_after) e ∙ get_set_same rows place row (ended at row) there in
          let r = row_is o.row (ended at row) (sym o.there ∙ here) in
          none_is o.row.to at o.open_yet (ap (λ (x : Row). x.to) r)

      kept_by : (other : Owner) (p : ℕ) (b : Bool) → test other ≡ b → IsOpenAt other p rows_after → cond b None (find other) ≡ Some p
      kept_by other p true hits o =
          let w = was_open other p o (not_here other p o) in
          absurd (not_here other p o (only place is p (subst (λ (x : Owner). IsOpenAt x p rows) (same other hits) w)))
      kept_by other p false differs o = index.kept other p (was_open other p o (not_here other p o))

      pub index_ended : IsIndex rows_after find_after
      index_ended = record {
        found = λ other p h. found_by other p (test other) refl (sym (updates other) ∙ h);
        kept = λ other p o. updates other ∙ kept_by other p (test other) refl o;
      }

      pub rows_ended : map booked_of rows_after ≡ end_stays owner.key (item_of owner.item) at (map booked_of rows)
      rows_ended = one_ends owner at rows place row there owns_row open_row (only place is)

    pub rows_same : (at : ℕ) → find owner ≡ None → map booked_of rows ≡ end_stays owner.key (item_of owner.item) at (map booked_of rows)
    rows_same at none = none_end owner at rows (none_open none)

  -- ---- a beginning

  module _ (updates : (other : Owner) → find_after other ≡ cond (test other) (Some (length rows)) (find other))
      (free : filter (is_open_stay owner.key (item_of owner.item)) (map booked_of rows) ≡ []) (row : Row)
      (owns : row.owner ≡ owner) (open_yet : row.to ≡ None) where
    not_open : (p : ℕ) → IsOpenAt owner p rows → ⊥
    not_open p o =
        none_passes (is_open_stay owner.key (item_of owner.item)) (map booked_of rows) p (booked_of o.row) (get_mapped rows p o.row o.there) free
        (is_opens owner o.row o.owns o.open_yet)

    begun_found : (other : Owner) (p : ℕ) (b : Bool) → test other ≡ b → cond b (Some (length rows)) (find other) ≡ Some p → IsOpenAt other p (rows ++ row ∷ [])
    begun_found other p true hits h =
        let place = some_is (length rows) p h in
        record { row = row; there = ap (slice_get (rows ++ row ∷ [])) (sym place) ∙ get_end rows row; owns = owns ∙ sym (same other hits); open_yet = open_yet }
    begun_found other p false differs h =
        let o = index.found other p h in
        record { row = o.row; there = get_front rows (row ∷ []) p o.row o.there; owns = o.owns; open_yet = o.open_yet }

    begun_kept : (other : Owner) (p : ℕ) (b : Bool) (o : IsOpenAt other p (rows ++ row ∷ [])) → test other ≡ b
        → (slice_get rows p ≡ Some o.row) ⊎ ((p ≡ length rows) × (row ≡ o.row))
        → cond b (Some (length rows)) (find other) ≡ Some p
    begun_kept other p true o hits (inl front) =
        absurd (not_open p (subst (λ (x : Owner). IsOpenAt x p rows) (same other hits) (record { row = o.row; there = front; owns = o.owns; open_yet = o.open_yet })))
    begun_kept other p true o hits (inr last) = ap (λ (n : ℕ). Some n) (sym last.0)
    begun_kept other p false o differs (inl front) = index.kept other p (record { row = o.row; there = front; owns = o.owns; open_yet = o.open_yet })
    begun_kept other p false o differs (inr last) =
        let own : other ≡ owner = sym o.owns ∙ ap (λ (x : Row). x.owner) (sym last.1) ∙ owns in
        absurd (both_ways (test other) differs (ap test own ∙ itself))

    pub index_begun : IsIndex (rows ++ row ∷ []) find_after
    index_begun = record {
      found = λ other p h. begun_found other p (test other) refl (sym (updates other) ∙ h);
      kept = λ other p o. updates other ∙ begun_kept other p (test other) o refl (get_or_end rows row o.row p o.there);
    }

-- a row is pushed, and its place entered
module _ (rows pushed : List Row) (find find_after : Owner → Option ℕ) (owner : Owner) (test : Owner → Bool)
    (same : (other : Owner) → test other ≡ true → other ≡ owner) (itself : test owner ≡ true)
    (index : IsIndex rows find) where
  pub index_pushed : (place : ℕ) → place ≡ length rows → ((other : Owner) → find_after other ≡ cond (test other) (Some place) (find other))
      → (stays : List Booked) → map booked_of rows ≡ stays → (key : List ℕ) (item : Spot) → owner ≡ record { key = key; item = item } → filter (is_open_stay key (item_of item)) stays ≡ []
      → (row : Row) → row.owner ≡ owner → row.to ≡ None → pushed ≡ rows ++ row ∷ [] → IsIndex pushed find_after
  index_pushed place place_is updates stays view key item owner_is free row owns open_yet is =
      subst (λ (l : List Row). IsIndex l find_after) (sym is)
      (index_begun rows find find_after owner test same itself index (λ other. updates other ∙ ap (λ (n : ℕ). cond (test other) (Some n) (find other)) place_is)
      (subst (λ (o : Owner). filter (is_open_stay o.key (item_of o.item)) (map booked_of rows) ≡ []) (sym owner_is) (ap (filter (is_open_stay key (item_of item))) view ∙ free))
      row owns open_yet)

-- neither the rows nor the entries changed
pub index_same : (rows rows_new : List Row) (es es_new : List (Owner × ℕ)) (compare : Owner → Owner → Ordering) → rows_new ≡ rows → es_new ≡ es
    → IsIndex rows (λ owner. lookup (is_at (compare owner)) es) → IsIndex rows_new (λ owner. lookup (is_at (compare owner)) es_new)
index_same rows rows_new es es_new compare same same_entries index =
    subst (λ (l : List Row). IsIndex l (λ owner. lookup (is_at (compare owner)) es_new)) (sym same)
    (subst (λ (l : List (Owner × ℕ)). IsIndex rows (λ owner. lookup (is_at (compare owner)) l)) (sym same_entries) index)

pub is_there : (rows : List Row) (place : ℕ) (row found : Row) → slice_get rows place ≡ Some found → row ≡ slice_index_or rows place row → slice_get rows place ≡ Some row
is_there rows place row found h is = h ∙ ap (λ (r : Row). Some r) (sym (get_or_from_slice_get rows place found row h) ∙ sym is)
